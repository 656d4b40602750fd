use Rattle.std.proofs.Common.{ℕ, List, ◌++◌, codes, subst}
use Rattle.complaints.specs.Complaints.{line_by}
use Rattle.lock_io.specs.Whole.{AddsFront}
use Rattle.complaints.proofs.Fronts.{whole, within, behind}
use Rattle.complaints.proofs.saying.write_line.Goals as goal

pub returns-in_err-write_all-2-clause-front : goal.returns-in_err-write_all-2-clause-front
returns-in_err-write_all-2-clause-front g c =
    let who = c.as_bytes.result.now in
    let said = c.args.sentence.now ++ codes "\n" in
    let first = whole _ _ who c.in_ok-write_all.ensures.written c.in_ok-write_all.ensures.front in
    subst (λ (z : List ℕ). AddsFront (g.K.Sink.contents c.args.out.now) (g.K.Sink.contents c.write_all-2.new.sink)
    (line_by z c.args.sentence.now)) c.as_bytes.ensures.value
    (behind _ _ _ who (codes ": " ++ said) first (within _ _ (codes ": ") said c.in_err-write_all-2.ensures.front))

pub returns-in_err-write_all-3-clause-front : goal.returns-in_err-write_all-3-clause-front
returns-in_err-write_all-3-clause-front g c =
    let who = c.as_bytes.result.now in
    let sentence = c.as_bytes-2.result.now in
    let said = sentence ++ codes "\n" in
    let first = whole _ _ who c.in_ok-write_all.ensures.written c.in_ok-write_all.ensures.front in
    let next = whole _ _ (codes ": ") c.in_ok-write_all-2.ensures.written c.in_ok-write_all-2.ensures.front in
    subst (λ (z : List ℕ × List ℕ). AddsFront (g.K.Sink.contents c.args.out.now)
    (g.K.Sink.contents c.write_all-3.new.sink) (line_by z.0 z.1))
    (λ i. (c.as_bytes.ensures.value i, c.as_bytes-2.ensures.value i))
    (behind _ _ _ who (codes ": " ++ said) first
    (behind _ _ _ (codes ": ") said next (within _ _ sentence (codes "\n") c.in_err-write_all-3.ensures.front)))

pub returns-clause-front : goal.returns-clause-front
returns-clause-front g c =
    let who = c.as_bytes.result.now in
    let sentence = c.as_bytes-2.result.now in
    let said = sentence ++ codes "\n" in
    let first = whole _ _ who c.in_ok-write_all.ensures.written c.in_ok-write_all.ensures.front in
    let next = whole _ _ (codes ": ") c.in_ok-write_all-2.ensures.written c.in_ok-write_all-2.ensures.front in
    let last = whole _ _ sentence c.in_ok-write_all-3.ensures.written c.in_ok-write_all-3.ensures.front in
    subst (λ (z : List ℕ × List ℕ). AddsFront (g.K.Sink.contents c.args.out.now)
    (g.K.Sink.contents c.write_all-4.new.sink) (line_by z.0 z.1))
    (λ i. (c.as_bytes.ensures.value i, c.as_bytes-2.ensures.value i))
    (behind _ _ _ who (codes ": " ++ said) first
    (behind _ _ _ (codes ": ") said next (behind _ _ _ sentence (codes "\n") last c.write_all-4.ensures.front)))

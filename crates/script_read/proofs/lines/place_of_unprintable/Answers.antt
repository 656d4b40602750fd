use Rattle.std.proofs.Common.{◌≡◌, ℕ, ◌+◌, ◌<◌, false, not, get_or, inl, inr, sym, ap, arith}
use Rattle.std.proofs.lemmas.Bool.{cases_lt}
use Rattle.lock_model.specs.Script.Lines.{is_printable}
use Rattle.script_read.proofs.Runs.{first_at, first_behind, none_behind}
use Rattle.script_read.proofs.lines.place_of_unprintable.Goals as goal

pub returns-then-run-lt-LANES : goal.returns-then-run-lt-LANES
returns-then-run-lt-LANES c =
    let bytes = c.args.bytes.now in
    let from = c.loop-from.from in
    let run = c.printable_run-run.result in
    let short = c.if-run-lt-LANES.true in
    let is = c.printable_run-run.ensures in
    let before : (k : ℕ) → k < from + run → not (is_printable (get_or bytes k 0)) ≡ false =
    λ k lt. elim (cases_lt k from) [
      | inl l ↦ ap not (c.loop-from.invariant.pass k l)
      | inr l ↦ ap not (is.pass k l lt)
    ] in
    first_at (λ b. not (is_printable b)) bytes (from + run)
    (omega (arith, c.loop-from-test.true, short, c.loop-from.invariant.within)) (ap not (is.stops short)) before

pub loop-from-preserved : goal.loop-from-preserved
loop-from-preserved c =
    let from = c.loop-from.from in
    let is = c.printable_run-run.ensures in
    let whole = c.if-run-lt-LANES.false in
    record {
      within = omega (arith, c.loop-from-test.true, c.loop-from.invariant.within);
      pass = λ k lt. elim (cases_lt k from) [
        | inl l ↦ c.loop-from.invariant.pass k l
        | inr l ↦ is.pass k l (omega (arith, whole))
      ];
    }

-- or none of those that are left
pub returns-in_err-place : goal.returns-in_err-place
returns-in_err-place c =
    rw c.from_residual.ensures (none_behind (λ b. not (is_printable b)) c.args.bytes.now c.loop-from.from
    c.loop-from.invariant.within (λ k l. ap not (c.loop-from.invariant.pass k l)) (sym c.in_err-place.ensures))

pub returns : goal.returns
returns c =
    first_behind (λ b. not (is_printable b)) c.args.bytes.now c.loop-from.from c.loop-from.invariant.within
    (λ k l. ap not (c.loop-from.invariant.pass k l)) c.in_ok-place.place (sym c.in_ok-place.ensures)

use Rattle.std.proofs.Common.{◌≡◌, ◌∙◌, ◌++◌, codes, ap, sym, refl, Some, None}
use Rattle.std.specs.Prelude.{option_map}
use Rattle.lock_model.specs.Script.Lines.{lines_of}
use Rattle.complaints.specs.Complaints.{each_told, found_in, told_then, verb_first, verb_then}
use Rattle.complaints.proofs.Appends.{done, five}
use Rattle.complaints.proofs.sentence.push_each.Goals as goal

pub loop-line-init : goal.loop-line-init
loop-line-init c =
    ap (λ v. c.args.out.now.items ++ each_told c.args.halts c.args.text.now (lines_of c.args.text.now) (codes ": ") v)
    (sym c.verb_first-verb.ensures)

pub loop-line-preserved-in_ok-extend_from_slice-4 :
    goal.loop-line-preserved-in_ok-extend_from_slice-4
loop-line-preserved-in_ok-extend_from_slice-4 c =
    let text = c.args.text.now in
    let halts = c.args.halts in
    let out = c.loop-line.out.items in
    let between = c.loop-line.between.now in
    let verb = c.loop-line.verb.now in
    let line = c.in-Some.line.now in
    let lines = lines_of c.in-Some.behind.now in
    let thread = c.in-Some-found_in.thread.now in
    let queue = c.in-Some-found_in.queue.now in
    let is : found_in halts text line ≡ Some (thread, queue) = sym c.found_in.ensures
    ∙ ap (option_map (λ w. (w.0.now, w.1.now))) c.in-Some-found_in.is in
    c.loop-line.invariant ∙ ap (λ ls. out ++ each_told halts text ls between verb) c.in-Some.ensures.lines
    ∙ ap (λ o. out ++ told_then halts between verb o (each_told halts text lines)) is
    ∙ ap (λ v. out ++ (between ++ (thread ++ (verb ++ (queue ++ each_told halts text lines (codes ", ") v)))))
    (sym c.verb_then-verb.ensures)
    ∙ sym (five out between thread verb queue (each_told halts text lines (codes ", ") c.verb_then-verb.result.now)
    c.in_ok-extend_from_slice.ensures.items c.in_ok-extend_from_slice-2.ensures.items
    c.in_ok-extend_from_slice-3.ensures.items
    c.in_ok-extend_from_slice-4.ensures.items refl)

pub loop-line-preserved : goal.loop-line-preserved
loop-line-preserved c =
    let text = c.args.text.now in
    let halts = c.args.halts in
    let out = c.loop-line.out.items in
    let between = c.loop-line.between.now in
    let verb = c.loop-line.verb.now in
    let line = c.in-Some.line.now in
    let lines = lines_of c.in-Some.behind.now in
    let is : found_in halts text line ≡ None = sym c.found_in.ensures
    ∙ ap (option_map (λ w. (w.0.now, w.1.now))) c.in_default-found_in.is in
    c.loop-line.invariant ∙ ap (λ ls. out ++ each_told halts text ls between verb) c.in-Some.ensures.lines
    ∙ ap (λ o. out ++ told_then halts between verb o (each_told halts text lines)) is

pub returns : goal.returns
returns c =
    let text = c.args.text.now in
    let halts = c.args.halts in
    done c.args.out.now.items (each_told halts text (lines_of text) (codes ": ") (verb_first halts)) c.loop-line.out.items
    (c.loop-line.invariant
    ∙ ap (λ ls. c.loop-line.out.items ++ each_told halts text ls c.loop-line.between.now c.loop-line.verb.now)
    c.in_default.ensures.lines)

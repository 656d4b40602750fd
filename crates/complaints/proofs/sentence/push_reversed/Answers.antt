use Rattle.std.proofs.Common.{rules, ◌≡◌, ◌∙◌, ◌++◌, codes, ap, sym, refl, true, false, cond}
use Rattle.lock_model.specs.Script.Lines.{lines_of}
use Rattle.complaints.specs.Complaints.{is_reversal, reversal_said, reversals_said}
use Rattle.complaints.proofs.Appends.{done, three, two}
use Rattle.complaints.proofs.sentence.push_reversed.Goals as goal

pub loop-line-init : goal.loop-line-init
loop-line-init c =
    sym (two c.args.out.now.items (codes "reversed") (reversals_said (lines_of c.args.text.now) (codes ": "))
    c.in_ok-extend_from_slice.ensures.items refl)

pub loop-line-preserved-in_ok-push_reversal : goal.loop-line-preserved-in_ok-push_reversal
loop-line-preserved-in_ok-push_reversal c =
    let out = c.loop-line.out.items in
    let between = c.loop-line.between.now in
    let line = c.in-Some.line.now in
    let lines = lines_of c.in-Some.behind.now in
    let is : is_reversal line ≡ true = search rules in
    c.loop-line.invariant ∙ ap (λ ls. out ++ reversals_said ls between) c.in-Some.ensures.lines
    ∙ ap (λ b. out ++ cond b (between ++ (reversal_said line ++ reversals_said lines (codes ", ")))
    (reversals_said lines between)) is
    ∙ sym (three out between (reversal_said line) (reversals_said lines (codes ", "))
    c.in_ok-extend_from_slice-2.ensures.items c.in_ok-push_reversal.ensures refl)

pub loop-line-preserved : goal.loop-line-preserved
loop-line-preserved c =
    let out = c.loop-line.out.items in
    let between = c.loop-line.between.now in
    let line = c.in-Some.line.now in
    let lines = lines_of c.in-Some.behind.now in
    let is : is_reversal line ≡ false = search rules in
    c.loop-line.invariant ∙ ap (λ ls. out ++ reversals_said ls between) c.in-Some.ensures.lines
    ∙ ap (λ b. out ++ cond b (between ++ (reversal_said line ++ reversals_said lines (codes ", ")))
    (reversals_said lines between)) is

pub returns : goal.returns
returns c =
    let text = c.args.text.now in
    done c.args.out.now.items (codes "reversed" ++ reversals_said (lines_of text) (codes ": ")) c.loop-line.out.items
    (c.loop-line.invariant
    ∙ ap (λ ls. c.loop-line.out.items ++ reversals_said ls c.loop-line.between.now) c.in_default.ensures.lines)

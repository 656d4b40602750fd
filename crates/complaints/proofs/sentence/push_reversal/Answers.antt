use Rattle.std.proofs.Common.{◌∙◌, ◌++◌, codes}
use Rattle.complaints.proofs.Appends.{five}
use Rattle.complaints.proofs.sentence.push_reversal.Goals as goal

pub returns : goal.returns
returns c =
    five c.args.out.now.items c.word_at.result.now (codes " may not take ") c.word_at-2.result.now
    (codes " under class ") c.word_at-3.result.now
    c.in_ok-extend_from_slice.ensures.items c.in_ok-extend_from_slice-2.ensures.items
    c.in_ok-extend_from_slice-3.ensures.items
    c.in_ok-extend_from_slice-4.ensures.items c.in_ok-extend_from_slice-5.ensures.items
    ∙ (λ i. c.args.out.now.items ++
    (c.word_at.ensures i ++
    (codes " may not take " ++ (c.word_at-2.ensures i ++ (codes " under class " ++ c.word_at-3.ensures i)))))

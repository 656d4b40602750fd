use Rattle.std.proofs.Common.{◌∙◌, ap, sym, cond, find, Some}
use Rattle.std.specs.Prelude.{option_map}
use Rattle.lock_model.specs.Script.Lines.{lines_of}
use Rattle.complaints.specs.Complaints.{halts_in, word_at}
use Rattle.complaints.proofs.text.halted_in.Goals as goal

pub returns-then-halts_in : goal.returns-then-halts_in
returns-then-halts_in c =
    let p = halts_in c.args.thread.now in
    ap (λ w. Some w) c.word_at.ensures
    ∙ sym (ap (option_map (word_at 3)) (c.loop-line.invariant ∙ ap (find p) c.in-Some.ensures.lines
    ∙ ap (λ b. cond b (Some c.in-Some.line.now) (find p (lines_of c.in-Some.behind.now)))
    (sym c.halts_in.ensures ∙ c.if-halts_in.true)))

pub returns : goal.returns
returns c = sym (ap (option_map (word_at 3))
    (c.loop-line.invariant ∙ ap (find (halts_in c.args.thread.now)) c.in_default.ensures.lines))

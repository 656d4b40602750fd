use Rattle.step_machine.proofs.Names.{position, sym, ap, held_there, none_held, none_taken, Hold, holds_lock, mode_left}
use Rattle.std.proofs.Common.{◌∙◌}
use Rattle.step_machine.proofs.thread.Thread.put_down.Goals as goal

pub returns-in-Some-clause-left : goal.returns-in-Some-clause-left
returns-in-Some-clause-left c =
    let there = ap (position (holds_lock c.args.l)) (sym c.deref.ensures.value) ∙ sym c.place_held.ensures
    ∙ c.in-Some.is in
    ap (λ h. h.mode) c.index.ensures ∙ ap (λ (h : Hold). mode_left h c.args.self.now.left)
    (held_there c.args.l c.args.self.now.held.items c.in-Some.i c.index.result.now there)

pub returns-in_default-clause-held : goal.returns-in_default-clause-held
returns-in_default-clause-held c =
    none_taken c.args.l c.args.self.now.held.items
    (ap (position (holds_lock c.args.l)) (sym c.deref.ensures.value) ∙ sym c.place_held.ensures ∙ c.in_default.is)

pub returns-in_default-clause-left : goal.returns-in_default-clause-left
returns-in_default-clause-left c =
    let nowhere = ap (position (holds_lock c.args.l)) (sym c.deref.ensures.value) ∙ sym c.place_held.ensures
    ∙ c.in_default.is in
    ap (λ (h : Hold). mode_left h c.args.self.now.left) (none_held c.args.l c.args.self.now.held.items nowhere)

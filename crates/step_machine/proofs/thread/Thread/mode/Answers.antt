use Rattle.step_machine.proofs.Names.{position, sym, ap, held_there, none_held, Holds, holds_lock}
use Rattle.std.proofs.Common.{◌∙◌}
use Rattle.step_machine.proofs.thread.Thread.mode.Goals as goal

pub returns-in-Some : goal.returns-in-Some
returns-in-Some c =
    let there = ap (position (holds_lock c.args.l)) (sym c.deref.ensures.value) ∙ sym c.place_held.ensures
    ∙ c.in-Some.is in
    ap (λ h. Holds h.mode) c.index.ensures
    ∙ held_there c.args.l c.args.self.now.held.items c.in-Some.i c.index.result.now there

pub returns-in-None : goal.returns-in-None
returns-in-None c =
    none_held c.args.l c.args.self.now.held.items
    (ap (position (holds_lock c.args.l)) (sym c.deref.ensures.value) ∙ sym c.place_held.ensures ∙ c.in-None.is)

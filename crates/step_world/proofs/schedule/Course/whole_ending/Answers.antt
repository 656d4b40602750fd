use Rattle.step_world.proofs.Names.{sym, ap, has_reversal, Machine}
use Rattle.std.proofs.Common.{◌∙◌}
use Rattle.step_world.proofs.Printed.{ended_with}
use Rattle.step_world.proofs.schedule.Course.whole_ending.Goals as goal

pub returns-then-has_reversal : goal.returns-then-has_reversal
returns-then-has_reversal c =
    rw (← c.self.view_is)
    (λ k h. sym (ended_with c.self.inside.world h.shows (ap (λ (m : Machine). has_reversal m.log.entries)
    (sym c.machine.ensures) ∙ sym c.has_reversal.ensures ∙ c.if-has_reversal.true)))

pub returns-else-has_reversal : goal.returns-else-has_reversal
returns-else-has_reversal c =
    rw (← c.self.view_is)
    (λ k h. sym (ended_with c.self.inside.world h.shows (ap (λ (m : Machine). has_reversal m.log.entries)
    (sym c.machine.ensures) ∙ sym c.has_reversal.ensures ∙ c.if-has_reversal.false)))

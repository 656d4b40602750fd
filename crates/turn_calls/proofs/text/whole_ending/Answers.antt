use Rattle.std.proofs.Common.{sym, ap, ◌∙◌}
use Rattle.lock_model.specs.Takes.{has_reversal}
use Rattle.step_world.proofs.Printed.{ended_with}
use Rattle.turn_calls.proofs.text.whole_ending.Goals as goal

pub returns-then-has_reversal : goal.returns-then-has_reversal
returns-then-has_reversal c r h =
    sym (ended_with c.args.world.now h
    (ap has_reversal (h.shows.shows.history ∙ sym (c.history.ensures.history r h)) ∙ sym c.has_reversal.ensures
    ∙ c.if-has_reversal.true))

pub returns-else-has_reversal : goal.returns-else-has_reversal
returns-else-has_reversal c r h =
    sym (ended_with c.args.world.now h
    (ap has_reversal (h.shows.shows.history ∙ sym (c.history.ensures.history r h)) ∙ sym c.has_reversal.ensures
    ∙ c.if-has_reversal.false))

use Rattle.step_world.proofs.Names.{sym}
use Rattle.std.proofs.Common.{◌∙◌}
use Rattle.step_world.proofs.OneTurn.{is_over_answer, is_over_turn, sleeps_answer, sleeps_turn}
use Rattle.step_world.proofs.schedule.Course.turn.Goals as goal

-- whoever isn't one of those who haven't ended has ended
pub returns-then-not-has-clause-answer : goal.returns-then-not-has-clause-answer
returns-then-not-has-clause-answer c =
    let lt = rw (← c.self.view_is) at c.requires in
    rw (← c.self.view_is)
    (λ r h. is_over_answer c.self.invariant c.args.t.0 lt (sym c.has.ensures ∙ c.if-not-has.true) r h)

pub returns-then-not-has-clause-turn : goal.returns-then-not-has-clause-turn
returns-then-not-has-clause-turn c =
    let lt = rw (← c.self.view_is) at c.requires in
    rw (← c.self.view_is)
    (λ r h. is_over_turn c.self.invariant c.args.t.0 lt (sym c.has.ensures ∙ c.if-not-has.true) r h)

-- one of those who sleep is idle
pub returns-then-has-clause-answer : goal.returns-then-has-clause-answer
returns-then-has-clause-answer c =
    rw (← c.self.view_is)
    (λ r h. sleeps_answer c.self.invariant c.args.t.0 (sym c.has-else-not-has.ensures ∙ c.if-has.true) r h)

pub returns-then-has-clause-turn : goal.returns-then-has-clause-turn
returns-then-has-clause-turn c =
    rw (← c.self.view_is)
    (λ r h. sleeps_turn c.self.invariant c.args.t.0 (sym c.has-else-not-has.ensures ∙ c.if-has.true) r h)

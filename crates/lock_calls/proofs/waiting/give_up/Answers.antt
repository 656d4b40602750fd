use Rattle.lock_calls.proofs.Names.{sym, ap, hold_of}
use Rattle.std.proofs.Common.{◌∙◌}
use Rattle.lock_calls.proofs.GivenUp.{is_held}
use Rattle.lock_calls.proofs.waiting.give_up.Goals as goal

pub give_up_held-requires-clause-held : goal.give_up_held-requires-clause-held
give_up_held-requires-clause-held g c = sym (sym (ap hold_of c.in-Some.is) ∙ c.mode.ensures)

pub returns-clause-steps : goal.returns-clause-steps
returns-clause-steps g c = (
  c.in-Some.mode,
  sym (sym (ap hold_of c.in-Some.is) ∙ c.mode.ensures),
  c.give_up_held.ensures.steps.0,
  c.give_up_held.ensures.steps.1,
  c.give_up_held.ensures.steps.2,
)

pub unreachable-requires : goal.unreachable-requires
unreachable-requires g c =
    is_held c.args.floor.now.description c.args.l.0 c.args.pass.now.view c.requires.may
    (sym (sym (ap hold_of c.in-None.is) ∙ c.mode.ensures))

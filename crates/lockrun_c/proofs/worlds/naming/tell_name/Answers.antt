use Rattle.std.proofs.Common.{Some, sym, ap, ◌∙◌}
use Rattle.lock_model.specs.declared.plan.Plan.{Plan}
use Rattle.lockrun_c.specs.Worlds.{name_at}
use Rattle.lockrun_c.proofs.worlds.naming.tell_name.Goals as goal

pub returns-in-Some-clause-told : goal.returns-in-Some-clause-told
returns-in-Some-clause-told c = λ z. (
  c.in-World.world,
  c.in-Some.found,
  ap Some c.in-World.is,
  sym (c.name_at.ensures ∙ ap (λ (p : Plan). name_at p c.args.sort c.args.number) c.plan.ensures) ∙ c.in-Some.is,
  c.padded.ensures,
)

pub returns-in-None-clause-no_such : goal.returns-in-None-clause-no_such
returns-in-None-clause-no_such c = λ z. (
  c.in-World.world,
  ap Some c.in-World.is,
  sym (c.name_at.ensures ∙ ap (λ (p : Plan). name_at p c.args.sort c.args.number) c.plan.ensures) ∙ c.in-None.is,
)

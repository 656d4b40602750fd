use Rattle.std.proofs.Common.{ℕ, sym, subst}
use Rattle.lockrun_c.specs.Worlds.{HasMade}
use Rattle.lockrun_c.proofs.Told.{made}
use Rattle.lockrun_c.proofs.worlds.turn_in.Goals as goal

pub returns-in-Ok-clause-turned : goal.returns-in-Ok-clause-turned
returns-in-Ok-clause-turned c = λ z. (
  c.turn-behind.result.0,
  c.put_in.ensures,
  subst (λ (n : ℕ). HasMade c.args.t c.args.world c.turn-behind.result.0 n) (sym c.turn_number.ensures)
      (made c.turn-behind.result.1 c.in-Ok.made c.args.world c.turn-behind.result.0 c.args.t c.in-Ok.is
      c.turn-behind.ensures.may c.turn-behind.ensures.plan c.turn-behind.ensures.chains c.turn-behind.ensures.answer
      c.turn-behind.ensures.turn),
)

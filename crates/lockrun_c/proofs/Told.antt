-- A turn of a world that was made, as C is told of it.
use Rattle.std.proofs.Common.{◌≡◌, ◌↔◌, ℕ, ◌<◌, length, Result, Ok, IfOk, IsOk, refl, sym, ap, subst}
use Rattle.lock_model.specs.declared.turn.Turn.{Turn}
use Rattle.lock_state.specs.Run.{Run, run_behind, turn_of}
use Rattle.step_world.specs.Worlds.{World, Represents}
use Rattle.lockrun_c.specs.Worlds.{HasMade, turn_number}

pub made : {E : Type 0} (o : Result Turn E) (x : Turn) (w v : World) (t : ℕ) → o ≡ Ok x
    → (IsOk o ↔ t < length w.plan.threads) → v.plan ≡ w.plan → v.chains ≡ w.chains
    → IfOk o (λ a. (r : Run) → Represents w r → a ≡ (turn_of w.plan r t).answer)
    → IfOk o (λ a. (r : Run) → Represents w r → Represents v (run_behind w.plan r t))
    → HasMade t w v (turn_number x)
made {E} o x w v t is may p n answer turn = record {
  thread = may.0 (subst (λ (a : Result Turn E). IsOk a) (sym is) refl);
  plan = p;
  chains = n;
  turn = subst
      (λ (a : Result Turn E). IfOk a (λ b. (r : Run) → Represents w r → Represents v (run_behind w.plan r t))) is turn;
  did_so = λ r h. ap turn_number
      (subst (λ (a : Result Turn E). IfOk a (λ b. (r : Run) → Represents w r → b ≡ (turn_of w.plan r t).answer)) is
      answer r h);
}

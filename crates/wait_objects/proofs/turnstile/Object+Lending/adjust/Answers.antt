use Rattle.std.proofs.Common.{◌≤◌, ℕ, subst, sym}
use Rattle.lock_model.specs.Queues.{stands}
use Rattle.wait_objects.proofs.Moved.{keeps_once, waiting-kept}
use Rattle.wait_objects.proofs.turnstile.Object+Lending.adjust.Goals as goal

pub invariant_of-self : goal.invariant_of-self
invariant_of-self c = record {
  once = subst (λ q. (t : ℕ) → stands t q ≤ 1) (sym c.adjust.ensures)
      (keeps_once c.args.t.0 c.args.prio.0 c.self.inside.lists c.self.invariant.once);
  one_free_less =
      rw (c.adjust.ensures, waiting-kept c.args.t.0 c.args.prio.0 c.self.inside.lists) c.self.invariant.one_free_less;
  free_idle = c.self.invariant.free_idle;
}

use Rattle.std.proofs.Common.{ℕ, ◌≤◌, map, arith, sym, subst}
use Rattle.std.proofs.lemmas.List.{length-map}
use Rattle.lock_model.specs.Queues.{list_of, times_waiting}
use Rattle.lock_model.specs.declared.plan.Side.TheVariants.{X, S}
use Rattle.wait_objects.specs.Inside.{waiting}
use Rattle.wait_objects.proofs.Few.{few}
use Rattle.wait_objects.proofs.lists.Lists.count.Goals as goal

pub count-requires : goal.count-requires
count-requires g c =
    let once : (t : ℕ) → times_waiting t (map waiting c.self.inside.exclusive)
    ≤ 1 = λ t. subst (λ q. times_waiting t (list_of X q) ≤ 1) (sym c.self.view_is) (rw c.in-X.is at c.requires t) in
    omega (
      arith,
      few 256 (map waiting c.self.inside.exclusive) c.self.invariant.exclusive.threads once,
      length-map c.self.inside.exclusive waiting,
    )

pub count-requires-in-S : goal.count-requires-in-S
count-requires-in-S g c =
    let once : (t : ℕ) → times_waiting t (map waiting c.self.inside.shared)
    ≤ 1 = λ t. subst (λ q. times_waiting t (list_of S q) ≤ 1) (sym c.self.view_is) (rw c.in-S.is at c.requires t) in
    omega (
      arith,
      few 256 (map waiting c.self.inside.shared) c.self.invariant.shared.threads once,
      length-map c.self.inside.shared waiting,
    )

-- What callers learn of an object.
use Rattle.std.proofs.Common.{◌∙◌}
use Rattle.std.proofs.lemmas.List.{length-map}
use Rattle.lock_model.specs.Queues.{list_of}
use Rattle.lock_model.specs.declared.plan.Side.{Side}
use Rattle.lock_model.specs.declared.plan.Side.TheVariants.{X, S}
use Rattle.wait_objects.specs.declared.own.Own.{Ghosts}
use Rattle.wait_objects.specs.declared.object.Object.TheInside.{Inside as InObject}
use Rattle.wait_objects.specs.Changes.{InOrder, IsWellFormed}
use Rattle.wait_objects.specs.Inside.{seen_contents, IsSound}

pub well_formed : {E : Type 0} (kind : Ghosts E) (a : InObject E) → IsSound kind a
    → ((side : Side) → InOrder kind.RANKED (list_of side a.lists)) → IsWellFormed kind.RANKED (seen_contents a)
well_formed kind a s order = record {
  exclusive_ascends = order X;
  shared_ascends = order S;
  once = s.once;
  one_free_less = length-map a.free (λ c. c.number) ∙ s.one_free_less;
}

-- How an object at home is seen, and what is true of it.
use Rattle.std.specs.Prelude.{◌≡◌, Option, IfSome, option_map}
use Rattle.wait_objects.specs.Seen.{Kept, IsEmpty, idle_object}
use Rattle.wait_objects.specs.declared.own.Own.{Ghosts}
use Rattle.wait_objects.specs.declared.home.Home.TheInside.{Inside}

abbrev pub seen_home : {E : Type 0} → Inside E → Option Kept
seen_home a =
    option_map (λ h. record { object = h.0.value.contents.number; thread = h.1.value.place.thread })
    a.kept

-- an object at home is idle, and the node with it is empty
pub record AreIdle {E : Type 0} (kind : Ghosts E) (a : Inside E) : Type 0 where
  pub idle : IfSome a.kept (λ h. h.0.value ≡ idle_object kind.home h.0.value.contents.number)
  pub empty : IfSome a.kept (λ h. IsEmpty h.1.value)

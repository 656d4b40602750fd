-- Why a floor isn't closed.
use Rattle.std.specs.Prelude.{Result, Ok, Err}
use Rattle.floor_calls.specs.Openings.{Open}
use Rattle.floor_calls.specs.declared.opening.NotClosed.{NotClosed}
use Rattle.floor_calls.specs.declared.opening.NotClosed.TheVariants.{NotGathered, StillShared}

-- a thread of the floor wasn't taken in
abbrev pub IsNotGathered : {A : Type 0} → Result A NotClosed → Type 0
IsNotGathered (Ok closing) = ⊥
IsNotGathered (Err (NotGathered it)) = Unit {0}
IsNotGathered (Err (StillShared it)) = ⊥

-- the floor that wasn't closed
abbrev pub given_back : NotClosed → Open
given_back (NotGathered it) = it
given_back (StillShared it) = it

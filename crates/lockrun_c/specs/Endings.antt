-- What handing threads out, taking them in and closing a floor do, by the handles of the floor and of a thread.
use Rattle.std.specs.Prelude.{◌≡◌, ◌≢◌, ◌++◌, [], ◌∷◌, Option, Some, length, map, reverse}
use Rattle.floor_calls.specs.Openings.{Open}
use Rattle.floor_calls.specs.Threads.{Thread}
use Rattle.floor_calls.specs.declared.stages.Stage.TheVariants as stages
use Rattle.lock_floor.specs.Closings.{IsClosing}
use Rattle.lockrun_c.specs.declared.content.Content.{Content}
use Rattle.lockrun_c.specs.declared.content.Content.TheVariants as content
use Rattle.lockrun_c.specs.declared.content.House.{House}
use Rattle.lockrun_c.specs.declared.content.Remains.{Remains}

-- the next thread is handed out, and nothing else is changed
pub record HandsOut (before after : House) (x : Thread) : Type 0 where
  pub waiting : before.waiting.items ≡ after.waiting.items ++ x ∷ []
  pub floor : after.floor ≡ before.floor
  pub names : after.names ≡ before.names

-- the handle has a floor that is open, all of whose threads were handed out
abbrev pub HasNoneWaiting : Option Content → Type 0
HasNoneWaiting home =
    (house : House) × (home ≡ Some (content.Open house)) × (house.waiting.items ≡ [])

abbrev pub HasHandedOut : Option Content → Option Content → Option Content → Type 0
HasHandedOut before after thread =
    (house left : House) × (x : Thread) × (before ≡ Some (content.Open house))
    × (after ≡ Some (content.Open left)) × (thread ≡ Some (content.Thread x))
    × HandsOut house left x

-- where the handles have a floor that is open and a thread, it is one of that floor
abbrev pub AreOfOneFloor : Option Content → Option Content → Type 0
AreOfOneFloor floor thread =
    (house : House) (x : Thread) → floor ≡ Some (content.Open house)
    → thread ≡ Some (content.Thread x) → x.floor ≡ house.floor.floor

-- it is a thread that has ended
abbrev pub HasEnded : Content → Type 0
HasEnded it = (x : Thread) × (it ≡ content.Thread x) × (x.stage ≡ stages.Ended)

-- the handle has a thread that hasn't ended
abbrev pub HasUnended : Option Content → Type 0
HasUnended home = (x : Thread) × (home ≡ Some (content.Thread x)) × (x.stage ≢ stages.Ended)

-- a thread that has ended was taken in, and nothing else is changed
pub record TakesIn (before after : Open) (x : Thread) : Type 0 where
  pub ended : x.stage ≡ stages.Ended
  pub gathered : after.keeper.view.gathered
      ≡ before.keeper.view.gathered ++ (x.pass.view.thread, x.pass.view.share) ∷ []
  pub floor : after.floor ≡ before.floor

abbrev pub HasGathered : Option Content → Option Content → Option Content → Type 0
HasGathered before after thread =
    (house left : House) × (x : Thread) × (before ≡ Some (content.Open house))
    × (after ≡ Some (content.Open left)) × (thread ≡ Some (content.Thread x))
    × TakesIn house.floor left.floor x × (left ≡ record house { floor = left.floor })

-- all threads of a floor were taken in
abbrev pub AreAllIn : Open → Type 0
AreAllIn x = length x.keeper.view.gathered ≡ length x.floor.description.threads

-- the handle has a floor that is open, of which a thread wasn't taken in
abbrev pub LacksThread : Option Content → Type 0
LacksThread home =
    (house : House) × (home ≡ Some (content.Open house)) × (AreAllIn house.floor → ⊥)

-- what is left of a floor that was closed, once all its threads were taken in
pub record Leaves (house : House) (left : Remains) : Type 0 where
  pub names : left.names ≡ house.names
  pub all : AreAllIn house.floor
  pub closing : IsClosing house.floor.floor.description
      (map (λ g. g.0) house.floor.keeper.view.gathered) left.closing
  pub logs : map (λ b. b.entries) left.closing.logs.items
      ≡ map (λ g. reverse g.1.log) house.floor.keeper.view.gathered

abbrev pub HasClosed : Option Content → Option Content → Type 0
HasClosed before after =
    (house : House) × (left : Remains) × (before ≡ Some (content.Open house))
    × (after ≡ Some (content.Closed left)) × Leaves house left

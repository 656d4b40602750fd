-- How a thread counts itself among those that have ended, and how another finds out that one hasn't.
use Rattle.std.specs.Prelude.{◌≡◌, ◌↔◌, ◌<◌, Bool, true, [], length}
use Rattle.floor_table.specs.Shares.{Doing}
use Rattle.floor_table.specs.Steps.{Makes}
use Rattle.floor_table.specs.Views.{Knowledge}
use Rattle.floor_table.specs.declared.description.Description.{Description}

-- after the thread has ended
abbrev pub ended : Knowledge → Knowledge
ended v =
    let after : Doing = record v.share.doing { has_ended = true } in
    record v { share = record v.share { doing = after } }

-- The thread found out whether a thread is left that hasn't ended. It made no step; at that moment, in the state to
-- which all steps led that had been made by then, so it was as the answer says, and the seat has seen these steps.
pub record FindsWhetherLeft (floor : Description) (answer : Bool) (old new : Knowledge) : Type 0
  where
    pub moment : Makes floor [] old new
    pub left : (answer ≡ true) ↔ (moment.state.ended < length floor.threads)

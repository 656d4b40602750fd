-- What asking a thread by its handle does.
use Rattle.std.specs.Prelude.{◌≡◌, ℕ, Option, Some, None, Result}
use Rattle.floor_calls.specs.Calls.{Answers}
use Rattle.floor_calls.specs.Threads.{Thread}
use Rattle.floor_calls.specs.declared.requests.Cause.{Cause}
use Rattle.floor_calls.specs.declared.requests.Request.{Request}
use Rattle.floor_calls.specs.declared.stages.Next.{Next}
use Rattle.lockrun_c.specs.Codes.{code_of, no_request, not_open, told_behind}
use Rattle.lockrun_c.specs.declared.codes.Told.{Told}
use Rattle.lockrun_c.specs.declared.content.Content.{Content}
use Rattle.lockrun_c.specs.declared.content.Content.TheVariants as content

-- the call was made as `floor_calls` promises it, and its answer is told
pub record IsMade (request : Request) (x y : Thread) (before after : Told) (number : ℕ) : Type 0
  where
    pub answer : Result Next Cause
    pub answers : Answers request answer x y
    pub code : number ≡ code_of answer
    pub told : after ≡ told_behind answer before

-- that number was answered, and nothing is changed
pub record IsRefused {A : Type 0} (x y : A) (before after : Told) (number cause : ℕ) : Type 0
  where
    pub code : number ≡ cause
    pub unchanged : y ≡ x
    pub told : after ≡ before

-- of a thread: where nothing that there is was asked, nothing is changed
abbrev pub IsMadeOrNone : Option Request → Thread → Thread → Told → Told → ℕ → Type 0
IsMadeOrNone None x y before after code = IsRefused x y before after code no_request
IsMadeOrNone (Some request) x y before after code = IsMade request x y before after code

-- of what a box holds: what is no thread isn't changed
abbrev pub IsAskedOf : Option Request → Content → Content → Told → Told → ℕ → Type 0
IsAskedOf request (content.Thread x) d before after code =
    (y : Thread) × (d ≡ content.Thread y) × IsMadeOrNone request x y before after code
IsAskedOf request content.Empty d before after code =
    IsRefused content.Empty d before after code not_open
IsAskedOf request (content.Open house) d before after code =
    IsRefused (content.Open house) d before after code not_open
IsAskedOf request (content.Closed remains) d before after code =
    IsRefused (content.Closed remains) d before after code not_open
IsAskedOf request (content.World world) d before after code =
    IsRefused (content.World world) d before after code not_open

-- of a handle: one that has nothing isn't changed
abbrev pub IsAsked : Option Request → Option Content → Option Content → Told → Told → ℕ → Type 0
IsAsked request None after told told' code = IsRefused None after told told' code not_open
IsAsked request (Some c) after told told' code =
    (d : Content) × (after ≡ Some d) × IsAskedOf request c d told told' code

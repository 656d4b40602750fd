-- What the handle of a floor, of a thread or of a world has.
use Rattle.std.specs.Prelude.{Bool, true, false, Option, Some, None}
use Rattle.lockrun_c.specs.declared.content.Content.{Content}
use Rattle.lockrun_c.specs.declared.content.Content.TheVariants as content

-- a floor that is open
abbrev pub has_floor : Option Content → Bool
has_floor None = false
has_floor (Some content.Empty) = false
has_floor (Some (content.Open house)) = true
has_floor (Some (content.Closed remains)) = false
has_floor (Some (content.Thread x)) = false
has_floor (Some (content.World world)) = false

-- what a closed floor left
abbrev pub has_remains : Option Content → Bool
has_remains None = false
has_remains (Some content.Empty) = false
has_remains (Some (content.Open house)) = false
has_remains (Some (content.Closed remains)) = true
has_remains (Some (content.Thread x)) = false
has_remains (Some (content.World world)) = false

-- a thread
abbrev pub has_thread : Option Content → Bool
has_thread None = false
has_thread (Some content.Empty) = false
has_thread (Some (content.Open house)) = false
has_thread (Some (content.Closed remains)) = false
has_thread (Some (content.Thread x)) = true
has_thread (Some (content.World world)) = false

-- the world of a script
abbrev pub has_world : Option Content → Bool
has_world None = false
has_world (Some content.Empty) = false
has_world (Some (content.Open house)) = false
has_world (Some (content.Closed remains)) = false
has_world (Some (content.Thread x)) = false
has_world (Some (content.World world)) = true

-- The text of what a floor left.
use Rattle.std.specs.Prelude.{◌≡◌, ℕ, ◌<◌, List, ◌++◌, Option, Some, drop, length, reverse}
use Rattle.std.specs.FinMap.{entries}
use Rattle.floor_ends.specs.Outcomes.{IsMerged, outcome_left}
use Rattle.lock_model.specs.History.{tables_of}
use Rattle.lock_model.specs.Text.{text_of}
use Rattle.lock_model.specs.declared.event.Entry.{Entry}
use Rattle.lockrun_c.specs.declared.content.Content.{Content}
use Rattle.lockrun_c.specs.declared.content.Content.TheVariants as content
use Rattle.lockrun_c.specs.declared.content.Remains.{Remains}

-- it is that of the floor's logs, merged by their tickets; the tables that it tells are those that this history leaves
pub record IsTextOf (left : Remains) (text : List ℕ) : Type 0 where
  pub history : List Entry
  pub merged : IsMerged left.closing.logs.items history
  pub text_is : text ≡ text_of left.names (outcome_left left.closing history)
  pub tables : entries left.closing.tables.present ≡ entries (tables_of (reverse history))

-- the text is longer than the room for it, and its length was told
abbrev pub IsLonger : Option Content → List ℕ → ℕ → Type 0
IsLonger home room written =
    (left : Remains) × (text : List ℕ) × (home ≡ Some (content.Closed left))
    × IsTextOf left text × (length room < length text) × (written ≡ length text)

-- the text was written in front, and its length told
abbrev pub HasPrinted : Option Content → List ℕ → List ℕ → ℕ → Type 0
HasPrinted home before after written =
    (left : Remains) × (text : List ℕ) × (home ≡ Some (content.Closed left))
    × IsTextOf left text × (after ≡ text ++ drop (length text) before)
    × (written ≡ length text)

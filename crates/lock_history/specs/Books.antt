-- A log and tables, as contracts see them.
use Rattle.std.specs.Prelude.{◌≡◌, ◌==◌, ◌&&◌, Bool, cond, ℕ, List, [], ◌∷◌, Option, Some, None, IfSome, refl}
use Rattle.std.specs.Coded.{Coded, code_by, coded×, coded_list, coded_ℕ}
use Rattle.std.specs.FinMap.{FinMap, code, from_sorted}
use Rattle.std.specs.List.{Contains}
use Rattle.std.specs.Option.{option_flatten}
use Rattle.indexmap.specs.IndexMap.{IndexMap, get}
use Rattle.lock_model.specs.Events.{facets}
use Rattle.lock_model.specs.History.{added, place_cmp}
use Rattle.lock_model.specs.declared.event.Entry.{Entry}
use Rattle.lock_model.specs.declared.event.Event.{Event}
use Rattle.lock_model.specs.declared.event.OfTable.{OfTable}
use Rattle.lock_model.specs.declared.event.OfTable.TheVariants.{NoTable, SetsTo, AddsTo, Reads}
use Rattle.lock_model.specs.declared.numbers.LockNo.{LockNo}

-- the entries of a log, and how many more it has room for
pub record Book : Type 0 where
  pub entries : List Entry
  pub spare : ℕ

-- the keys that tables have room for, by lock and then by key, and the value at each that is present
pub record Slots : Type 0 where
  pub places : List (ℕ × ℕ)
  pub present : FinMap place_cmp ℕ

abbrev pub slots_code : Coded Slots
slots_code =
    code_by (List (ℕ × ℕ) × FinMap place_cmp ℕ)
    (coded× (coded_list (coded× coded_ℕ coded_ℕ)) (code (coded× coded_ℕ coded_ℕ) coded_ℕ))
    (λ s. (s.places, s.present)) (λ p. record { places = p.0; present = p.1 }) (λ _. refl)

-- an entry, where it has a value, and the entries behind it
abbrev pub filled_on : ℕ × ℕ → Option ℕ → List ((ℕ × ℕ) × ℕ) → List ((ℕ × ℕ) × ℕ)
filled_on place None rows = rows
filled_on place (Some value) rows = (place, value) ∷ rows

-- the entries that have a value
abbrev pub filled : List ((ℕ × ℕ) × Option ℕ) → List ((ℕ × ℕ) × ℕ)
filled [] = []
filled (slot ∷ slots) = filled_on slot.0 slot.1 (filled slots)

-- the map of the entries that have a value
abbrev pub present_of : List ((ℕ × ℕ) × Option ℕ) → FinMap place_cmp ℕ
present_of slots = from_sorted (filled slots)

-- whether two places are the same
abbrev pub place_eq : ℕ × ℕ → ℕ × ℕ → Bool
place_eq p q = (p.0 == q.0) && (p.1 == q.1)

-- a map that has no value at any place
abbrev pub HasNoValue : {S : Type 0} → IndexMap (ℕ × ℕ) (Option ℕ) S → Type 0
HasNoValue m = (p : ℕ × ℕ) → option_flatten (get place_eq m p) ≡ None

-- what a key is set to: a number, or its sum with the value before
abbrev pub changed : Bool → Option ℕ → ℕ → ℕ
changed adds before n = cond adds (added before n) n

-- a lock, a key and a value, as a map has them
abbrev pub row_seen : LockNo × ℕ × ℕ → (ℕ × ℕ) × ℕ
row_seen r = ((r.0.0, r.1), r.2)

-- the lock and the key of its table that an event changes
abbrev pub place_edited : OfTable → Option (ℕ × ℕ)
place_edited NoTable = None
place_edited (SetsTo l key value) = Some (l.0, key)
place_edited (AddsTo l key amount) = Some (l.0, key)
place_edited (Reads l key found) = None

abbrev pub place_changed : Event → Option (ℕ × ℕ)
place_changed e = place_edited (facets e).table

-- tables have room for the key that an event changes
abbrev pub HasRoom : List (ℕ × ℕ) → Event → Type 0
HasRoom places event = IfSome (place_changed event) (Contains places)

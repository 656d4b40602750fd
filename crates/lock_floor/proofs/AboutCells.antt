-- Entries about a cell of a lock that is held: a thread at rest may take the cell, make the entry, and give it back.
use Rattle.lock_floor.proofs.Names
use Names.{ℕ, false, Option, Some, None, [], length, refl, sym, ap, rest, Config, open_in, Hold, NotHeld, Holds}
use Names.{hold_in, Got, LockNo, Excl, State, TakesItem, Stamps, Item, CellOf, item_with, changes_sections, config_in}
use Names.{Description, Slot, Record, Cell, Turnstiles, SleepQueues, Graph, slot_of, IsOf, objects_in, Fits, MayMake}
use Names.{Knowledge, Change, Set, Add, IsChangeOf, event_of, IsAtRest, IsOfKind, Takes, arith}
use Rattle.std.proofs.Common.{◌≡◌, ◌≢◌, ◌<◌, ◌∷◌, ◌∙◌}
use Rattle.lock_floor.proofs.May.{may_take, says_its, its_lock, own_log}
use Rattle.lock_floor.proofs.Resting.{may_note, rest_with, taken_out}

-- what a change says is of the cell, and of no section
pub change_of : (t : ℕ) (l : LockNo) (key : ℕ) (change : Change) → IsChangeOf t (event_of l key change) (CellOf l.0 key)
change_of t l key e = grind arith

pub change_is_quiet : (l : LockNo) (key : ℕ) (change : Change) → changes_sections (event_of l key change) ≡ false
change_is_quiet l key e = grind arith

module _ (floor : Description) (v : Knowledge) (calm : IsAtRest floor v) (l : LockNo) (key j : ℕ)
    (place : slot_of floor (CellOf l.0 key) ≡ Some j) where
  abbrev c : Config
  c = config_in floor

  abbrev cell : Item
  cell = CellOf l.0 key

  -- a lock that is held is one of the floor's
  is_lock : (x : Hold) → hold_in v.share.held l.0 ≡ x → hold_in v.share.held l.0 ≢ NotHeld → (s : State)
      → Fits floor v s → l.0 < length floor.locks
  is_lock NotHeld e held s f = absurd (held e)
  is_lock (Holds mode) e held s f = its_lock floor v s f l.0 mode e

  pub may_take_cell : hold_in v.share.held l.0 ≢ NotHeld
      → MayMake floor v (λ s. item_with s cell ≡ None) (TakesItem v.thread cell ∷ [])
  may_take_cell held = may_take floor v cell calm.runs calm.nothing_out calm.no_round calm.going
      (is_lock (hold_in v.share.held l.0) refl held)

  -- once it has the cell
  module _ (a : Knowledge) (taken : Takes floor cell j v a) where
    calm_with : IsAtRest floor (record a { out = [] })
    calm_with = rest_with floor v a cell j refl calm taken

    has_cell : (s : State) (f : Fits floor a s) (x : Slot) → a.out ≡ (j, x) ∷ rest a.out
        → (item_with s cell ≡ Some a.thread) × IsOf floor (objects_in s) cell x
    has_cell s f x last = says_its floor a cell j x place last s f

    section : (s : State) → Fits floor a s → open_in c s.history a.thread l.0 ≡ hold_in v.share.held l.0
    section s f = own_log floor a s f l.0 ∙ calm_with.sections l.0
        ∙ ap (λ (w : Knowledge). hold_in w.share.held l.0) taken.view

    pub may_change : (change : Change) → hold_in v.share.held l.0 ≡ Holds Excl
        → MayMake floor a (λ s. Unit {0}) (Stamps a.thread (event_of l key change) ∷ [])
    may_change (Set value) held =
        may_note floor a calm_with (event_of l key (Set value))
        (λ s f. (section s f ∙ held, (has_cell s f taken.value (taken_out floor v a cell j taken)).0))
    may_change (Add amount) held =
        may_note floor a calm_with (event_of l key (Add amount))
        (λ s f. (section s f ∙ held, (has_cell s f taken.value (taken_out floor v a cell j taken)).0))

    pub cell_out : (x : Option ℕ) × (a.out ≡ (j, Cell x) ∷ rest a.out)
    cell_out = go taken.value taken.kind (taken_out floor v a cell j taken)
      where
        go : (y : Slot) → IsOfKind cell y → a.out ≡ (j, y) ∷ rest a.out → (x : Option ℕ)
            × (a.out ≡ (j, Cell x) ∷ rest a.out)
        go (Cell x) its last = (x, last)
        go (Record b) its last = absurd its
        go (Turnstiles chain) its last = absurd its
        go (SleepQueues chain) its last = absurd its
        go (Graph b) its last = absurd its

    pub may_tell : (found : Option ℕ) → a.out ≡ (j, Cell found) ∷ rest a.out → hold_in v.share.held l.0 ≢ NotHeld
        → MayMake floor a (λ s. Unit {0}) (Stamps a.thread (Got l key found) ∷ [])
    may_tell found last held =
        may_note floor a calm_with (Got l key found)
        (λ s f. let its = has_cell s f (Cell found) last in
        ((λ unheld. held (sym (section s f) ∙ unheld), its.1), its.0))

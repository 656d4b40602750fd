-- An entry that changes the value that was taken last: the value is changed first, and the step of the ticket word
-- commits it together with the entry.
use Rattle.lock_floor.proofs.Names
use Names.{ℕ, suc, Option, Some, None, List, [], refl, sym, ap, subst, inl, inr, cases_eq, same_Some, Me, rest, Allows}
use Names.{put_same, put_other, put_at_same, put_at_other, put_at_beside, Config, Event, Added, Base, Prio}
use Names.{with_other_base, none_beyond, RecordColumns, RepresentsRecord, record_in, Lawful, State, put, put_at, Stamps}
use Names.{Item, TurnstileChain, SleepChain, RecordOf, CellOf, ClassGraph, after_stamp, effective_of, config_in}
use Names.{Description, Slot, Record, Cell, Turnstiles, SleepQueues, Graph, spot, ticket_line, word_at, latch_word}
use Names.{slots_for, slot_of, home_at, Board, Objects, IsOf, RepresentsObjects, objects_in, thread_in, FloorHolds}
use Names.{found, Shelves, MayMake, Knowledge, OfThread, nothing, one_place, at_or, Finds, Steps, allows, SaySame}
use Names.{still_of, found_first, shelf_changed, IsChangeOf, changed, last_changed, arith}
use Rattle.std.proofs.Common.{◌≡◌, ◌≢◌, ◌+◌, ◌%◌, ◌≤◌, ◌∷◌, ◌∙◌}
use Rattle.lock_model.specs.History.{added}
use Rattle.lock_model.specs.declared.event.Event.TheVariants.{Set}
use Rattle.lock_floor.proofs.Stamping.{StampedWith, stamps}

-- 1. One object changes

-- what the columns say of the other items stays
pub record OnlyChanges (floor : Description) (x y : Objects) (i : Item) : Type 0 where
  pub others : (k : Item) → k ≢ i → SaySame floor x y k
  pub tables : (l key : ℕ) → CellOf l key ≢ i → y.table l key ≡ x.table l key

pub object_changed : (floor : Description) (content : ℕ → Slot) (x y : Objects) (i : Item) (j : ℕ) (z : Slot)
    → slot_of floor i ≡ Some j → OnlyChanges floor x y i → IsOf floor y i z → RepresentsObjects floor content x
    → RepresentsObjects floor (put content j z) y
object_changed floor content x y i j z place only is h = record {
  each = λ k m at.
      elim (cases_eq j m) [
        | inl e ↦
            let same : i ≡ k = one_place floor i k j place (at ∙ ap Some (sym e)) in
            subst (λ n. IsOf floor y k (put content j z n)) e
            (subst (λ w. IsOf floor y k w) (sym (put_same content j z)) (subst (λ q. IsOf floor y q z) same is))
        | inr ne ↦
            let other : k ≢ i = λ q. ne (same_Some j m (sym place ∙ ap (slot_of floor) (sym q) ∙ at)) in
            subst (λ w. IsOf floor y k w) (sym (put_other content j z m ne))
            (still_of floor x y k (content m) (only.others k other) (h.each k m at))
      ];
  unnamed = λ l key none.
      only.tables l key (λ q. absurd (let e : None ≡ Some j = sym none ∙ ap (slot_of floor) q ∙ place in cc))
      ∙ h.unnamed l key none;
}

-- a key of a lock's table gets a value
module _ (floor : Description) (x : Objects) (a b : ℕ) (v : Option ℕ) where
  abbrev y : Objects
  y = record x { table = put_at x.table a b v }

  beside : (l key : ℕ) → CellOf l key ≢ CellOf a b → put_at x.table a b v l key ≡ x.table l key
  beside l key ne =
      elim (cases_eq a l) [
        | inl p ↦ elim (cases_eq b key)
            [ inl q ↦ absurd (ne (λ i. CellOf (sym p i) (sym q i))) | inr q ↦ put_at_beside x.table a b v l key q ]
        | inr p ↦ put_at_other x.table a b v l key p
      ]

  key_changes : OnlyChanges floor x y (CellOf a b)
  key_changes = record { others = go; tables = beside }
    where
      go : (k : Item) → k ≢ CellOf a b → SaySame floor x y k
      go (RecordOf u) ne = refl
      go (CellOf l key) ne = beside l key ne
      go (TurnstileChain k) ne = λ q there. record { queue = refl; loan_home = λ n e. refl }
      go (SleepChain k) ne = λ q there. refl
      go ClassGraph ne = refl

-- a thread's record changes
pub record_changes : (floor : Description) (x : Objects) (f : ℕ → RecordColumns) (t : ℕ)
    → ((u : ℕ) → t ≢ u → f u ≡ x.record_of u) → OnlyChanges floor x (record x { record_of = f }) (RecordOf t)
record_changes floor x f t same = grind arith

-- 2. The object that an event is about

module _ (floor : Description) (s : State) (t : ℕ) (lawful : Lawful (config_in floor) s) where
  abbrev c : Config
  c = config_in floor

  abbrev ItsObject : Event → Item → Slot → Type 0
  ItsObject e i x = OnlyChanges floor (objects_in s) (objects_in (after_stamp c s t e)) i
      × IsOf floor (objects_in (after_stamp c s t e)) i (changed e x)

  cell_is : (l key : ℕ) (x : Slot) (e : Event) (v : Option ℕ) → IsOf floor (objects_in s) (CellOf l key) x
      → ((before : Option ℕ) → x ≡ Cell before → before ≡ s.table l key → changed e x ≡ Cell v)
      → IsOf floor (record (objects_in s) { table = put_at s.table l key v }) (CellOf l key) (changed e x)
  cell_is l key (Cell before) e v h is =
      subst (IsOf floor (record (objects_in s) { table = put_at s.table l key v }) (CellOf l key))
      (sym (is before refl h)) (sym (put_at_same s.table l key v))
  cell_is l key (Record b) e v h is = absurd h
  cell_is l key (Turnstiles chain) e v h is = absurd h
  cell_is l key (SleepQueues chain) e v h is = absurd h
  cell_is l key (Graph b) e v h is = absurd h

  base_is : (p : Prio) (x : Slot) → IsOf floor (objects_in s) (RecordOf t) x
      → IsOf floor (objects_in (after_stamp c s t (Base p))) (RecordOf t) (changed (Base p) x)
  unfolding after_stamp
  base_is p (Record b) h =
      subst (RepresentsRecord _)
      (sym (λ i. record (record_in s t) {
        base = put_same s.base t p.0 i;
        effective = put_same s.effective t (effective_of c (s.loan t) p.0) i;
      }))
      (with_other_base c p.0 (none_beyond c s t lawful) h)
  base_is p (Cell v) h = absurd h
  base_is p (Turnstiles chain) h = absurd h
  base_is p (SleepQueues chain) h = absurd h
  base_is p (Graph b) h = absurd h

  the_one : (i k : Item) → ◌≡◌ {A = List Item} (k ∷ []) (i ∷ []) → k ≡ i
  the_one i k e = cc

  its_object : (e : Event) (i : Item) (x : Slot) → IsChangeOf t e i → IsOf floor (objects_in s) i x → ItsObject e i x
  unfolding after_stamp
  its_object (Set l key v) i x is h =
      subst (λ q. ItsObject (Set l key v) q x) (the_one i _ is) (
        key_changes floor (objects_in s) l.0 key (Some v),
        cell_is l.0 key x (Set l key v) (Some v)
            (subst (λ q. IsOf floor (objects_in s) q x) (sym (the_one i _ is)) h)
            (λ before e same. ap (changed (Set l key v)) e),
      )
  its_object (Added l key n) i x is h =
      subst (λ q. ItsObject (Added l key n) q x) (the_one i _ is) (
        key_changes floor (objects_in s) l.0 key (Some (added (s.table l.0 key) n)),
        cell_is l.0 key x (Added l key n) (Some (added (s.table l.0 key) n))
            (subst (λ q. IsOf floor (objects_in s) q x) (sym (the_one i _ is)) h)
            (λ before e same. ap (changed (Added l key n)) e ∙ ap (λ o. Cell (Some (added o n))) same),
      )
  its_object (Base p) i x is h =
      subst (λ q. ItsObject (Base p) q x) (the_one i _ is) (
        record_changes floor (objects_in s) (record_in (after_stamp c s t (Base p))) t
            (λ u ne k. record (record_in s u) {
              base = put_other s.base t p.0 u ne k;
              effective = put_other s.effective t (effective_of c (s.loan t) p.0) u ne k;
            }),
        base_is p x (subst (λ q. IsOf floor (objects_in s) q x) (sym (the_one i _ is)) h),
      )
  its_object other i x is h = absurd cc

-- 3. So it is stamped with the value changed

pub change_allowed : (floor : Description) (me : Me Slot Knowledge) (event : Event) (slots id : ℕ) (i : Item) (j : ℕ)
    (x : Slot) → me.0.role ≡ OfThread → 1 ≤ me.0.spare → IsChangeOf me.0.thread event i → slot_of floor i ≡ Some j
    → me.0.out ≡ (j, x) ∷ rest me.0.out → me.1 ≡ last_changed event me.0.out
    → MayMake floor me.0 (λ s. Unit {0}) (Stamps me.0.thread event ∷ [])
    → Allows (FloorHolds floor) slots id me (spot ticket_line) (λ n. (n + 1) % 18446744073709551616)
    (StampedWith floor event (λ me. me.1) me)
change_allowed floor me event slots id i j x was room about place last changes may =
    allows floor slots id me (spot ticket_line) (λ n. (n + 1) % 18446744073709551616)
    (StampedWith floor event (λ me. me.1) me) was (λ b h small. step b h)
  where
    step : (b : Board) (h : Finds floor me.0 b)
        → Steps floor me (spot ticket_line) (word_at b.words ticket_line)
        ((word_at b.words ticket_line + 1) % 18446744073709551616) (StampedWith floor event (λ me. me.1) me) b
    step b h =
        let r = h.represents in
        let t : ℕ = me.0.thread in
        let outs : ℕ → List (ℕ × Slot) = λ u. (thread_in b.views u).out in
        let mine : outs t ≡ (j, x) ∷ rest me.0.out =
        ap (λ (k : Knowledge). k.out) (at_or b.views (suc t) me.0 nothing h.there) ∙ last in
        let y : Slot = changed event x in
        let now : me.1 ≡ (j, y) ∷ rest me.0.out = changes ∙ ap (last_changed event) last in
        let is_its = (h.fits.out.each i j x place (ap (found j) last ∙ found_first j x (rest me.0.out))).1 in
        let its = its_object floor h.state t h.sound.facts.lawful event i x about is_its in
        stamps floor me was room event (λ me. me.1) b h (put r.content j y) (may h.state h.fits tt)
        (subst (λ o. Shelves (slots_for floor) (latch_word b.words) (home_at b.homes) (put outs t o)
        (put r.content j y)) (sym now)
        (shelf_changed (slots_for floor) (latch_word b.words) (home_at b.homes) outs r.content r.shelves j t x y
        (rest me.0.out) mine))
        (object_changed floor r.content (objects_in h.state)
        (objects_in (after_stamp (config_in floor) h.state t event)) i j y place its.0 its.1 r.objects)

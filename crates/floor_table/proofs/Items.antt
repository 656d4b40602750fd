-- Items and their places: no two items have one place, and a change of one latch takes its item out or home.
use Rattle.std.proofs.Common.{◌≡◌, ◌⊎◌, ℕ, zero, suc, ◌+◌, ◌<◌, ◌≤◌, Bool, true, false, ◌&&◌, nat_lt, List, length, get_or, Option, Some, None, refl, sym, ap, ◌∙◌, subst, inl, inr, arith}
use Rattle.std.specs.Prelude.{◌==◌, option_map}
use Rattle.std.specs.List.{position}
use Rattle.std.proofs.lemmas.Bool.{cases_eq, ltb-true, eqb-true}
use Rattle.std.proofs.lemmas.Option.{cond_some, same_Some}
use Rattle.std.proofs.lemmas.List.Quantifiers.{position-Some}
use mathlib.Core.Option as slots
use mathlib.Core.Option.{some}
use Rattle.lock_state.specs.State.{State, put}
use Rattle.lock_state.specs.Steps.Items.{Item, TurnstileChain, SleepChain, RecordOf, CellOf, ClassGraph, item_with}
use Rattle.lock_laws.proofs.Kit.{put_same, put_other}
use Rattle.lock_laws.proofs.Items.{with_then, at_itself, beside}
use Rattle.floor_table.specs.declared.description.Description.{Description}
use Rattle.floor_table.specs.declared.slot.Slot.{Slot}
use Rattle.floor_table.specs.Places.{first_cell, first_turnstile_chain, first_sleep_chain, graph_place, slots_for, is_cell, slot_of, taker}
use Rattle.floor_table.specs.Shelves.{found, Shelves}
use Rattle.floor_table.specs.Represents.{taken_from, RepresentsLatches, RepresentsObjects, IsOf, objects_in}
use Rattle.floor_table.specs.Steps.{HasJust}

-- 1. Places

both_true : (x y : Bool) → (x && y) ≡ true → (x ≡ true) × (y ≡ true)
both_true true y e = (refl, e)
both_true false y e = absurd cc

pub its_cell : (l key : ℕ) (cell : ℕ × ℕ) → is_cell l key cell ≡ true → cell ≡ (l, key)
its_cell l key cell e =
    let both = both_true (cell.0 == l) (cell.1 == key) e in
    λ i. (eqb-true cell.0 l both.0 i, eqb-true cell.1 key both.1 i)

mapped : (f : ℕ → ℕ) (o : Option ℕ) (j : ℕ) → option_map f o ≡ Some j → (i : ℕ) × (o ≡ Some i) × (f i ≡ j)
mapped f None j e = absurd cc
mapped f (Some i) j e = (i, refl, same_Some (f i) j e)

pub record_place : (floor : Description) (t j : ℕ) → slot_of floor (RecordOf t) ≡ Some j
    → (t < length floor.threads) × (t ≡ j)
record_place floor t j e = let f = cond_some (nat_lt t (length floor.threads)) t j e in
    (ltb-true t (length floor.threads) f.0, f.1)

pub cell_place : (floor : Description) (l key j : ℕ) (d : ℕ × ℕ) → slot_of floor (CellOf l key) ≡ Some j → (i : ℕ)
    × (i < length floor.keys) × (first_cell floor + i ≡ j) × (get_or floor.keys i d ≡ (l, key))
cell_place floor l key j d e =
    let m = mapped (λ i. first_cell floor + i) (position (is_cell l key) floor.keys) j e in
    let p = position-Some (is_cell l key) floor.keys m.0 d m.1 in
    (m.0, p.0, m.2, its_cell l key (get_or floor.keys m.0 d) p.1)

pub turnstile_chain_place : (floor : Description) (k j : ℕ) → slot_of floor (TurnstileChain k) ≡ Some j
    → (k < floor.chains) × (first_turnstile_chain floor + k ≡ j)
turnstile_chain_place floor k j e = let f = cond_some (nat_lt k floor.chains) (first_turnstile_chain floor + k) j e in
    (ltb-true k floor.chains f.0, f.1)

pub sleep_chain_place : (floor : Description) (k j : ℕ) → slot_of floor (SleepChain k) ≡ Some j → (k < floor.chains)
    × (first_sleep_chain floor + k ≡ j)
sleep_chain_place floor k j e = let f = cond_some (nat_lt k floor.chains) (first_sleep_chain floor + k) j e in
    (ltb-true k floor.chains f.0, f.1)

-- each sort of item has its part of the places
abbrev first_of : Description → Item → ℕ
first_of floor (TurnstileChain k) = first_turnstile_chain floor
first_of floor (SleepChain k) = first_sleep_chain floor
first_of floor (RecordOf t) = 0
first_of floor (CellOf l key) = first_cell floor
first_of floor ClassGraph = graph_place floor

abbrev end_of : Description → Item → ℕ
end_of floor (TurnstileChain k) = first_sleep_chain floor
end_of floor (SleepChain k) = graph_place floor
end_of floor (RecordOf t) = first_cell floor
end_of floor (CellOf l key) = first_turnstile_chain floor
end_of floor ClassGraph = slots_for floor

pub its_part : (floor : Description) (i : Item) (j : ℕ) → slot_of floor i ≡ Some j → (first_of floor i ≤ j)
    × (j < end_of floor i)
its_part floor (TurnstileChain k) j e = let p = turnstile_chain_place floor k j e in
    (omega (arith, p.0, p.1), omega (arith, p.0, p.1))
its_part floor (SleepChain k) j e = let p = sleep_chain_place floor k j e in
    (omega (arith, p.0, p.1), omega (arith, p.0, p.1))
its_part floor (RecordOf t) j e = let p = record_place floor t j e in (omega (arith, p.0, p.1), omega (arith, p.0, p.1))
its_part floor (CellOf l key) j e = let p = cell_place floor l key j (0, 0) e in
    (omega (arith, p.1, p.2), omega (arith, p.1, p.2))
its_part floor ClassGraph j e = let p = same_Some (graph_place floor) j e in (omega (arith, p), omega (arith, p))

-- a place is one of the table's
pub place_low : (floor : Description) (i : Item) (j : ℕ) → slot_of floor i ≡ Some j → j < slots_for floor
place_low floor (TurnstileChain k) j e = let p = its_part floor (TurnstileChain k) j e in omega (arith, p.1)
place_low floor (SleepChain k) j e = let p = its_part floor (SleepChain k) j e in omega (arith, p.1)
place_low floor (RecordOf t) j e = let p = its_part floor (RecordOf t) j e in omega (arith, p.1)
place_low floor (CellOf l key) j e = let p = its_part floor (CellOf l key) j e in omega (arith, p.1)
place_low floor ClassGraph j e = let p = its_part floor ClassGraph j e in omega (arith, p.1)

-- two sorts have no place in common
apart : (floor : Description) (i k : Item) (j : ℕ) → slot_of floor i ≡ Some j → slot_of floor k ≡ Some j
    → (end_of floor i ≤ first_of floor k) ⊎ (end_of floor k ≤ first_of floor i) → ⊥
apart floor i k j e f (inl h) = let p = its_part floor i j e in let q = its_part floor k j f in
    omega (arith, p.1, q.0, h)
apart floor i k j e f (inr h) = let p = its_part floor i j e in let q = its_part floor k j f in
    omega (arith, p.0, q.1, h)

-- and of one item alone
pub one_place : (floor : Description) (i k : Item) (j : ℕ) → slot_of floor i ≡ Some j → slot_of floor k ≡ Some j → i ≡ k
one_place floor (RecordOf t) (RecordOf u) j e f =
    ap RecordOf ((record_place floor t j e).1 ∙ sym (record_place floor u j f).1)
one_place floor (CellOf l key) (CellOf m other) j e f =
    let p = cell_place floor l key j (0, 0) e in
    let q = cell_place floor m other j (0, 0) f in
    let same : p.0 ≡ q.0 = omega (arith, p.2, q.2) in
    let cell : (l, key) ≡ (m, other) = sym p.3 ∙ ap (λ i. get_or floor.keys i (0, 0)) same ∙ q.3 in
    λ i. CellOf (cell i).0 (cell i).1
one_place floor (TurnstileChain a) (TurnstileChain b) j e f =
    ap TurnstileChain (let p = turnstile_chain_place floor a j e in let q = turnstile_chain_place floor b j f in
    omega (arith, p.1, q.1))
one_place floor (SleepChain a) (SleepChain b) j e f =
    ap SleepChain (let p = sleep_chain_place floor a j e in let q = sleep_chain_place floor b j f in
    omega (arith, p.1, q.1))
one_place floor ClassGraph ClassGraph j e f = refl
one_place floor (RecordOf t) (CellOf l1 key1) j e f =
    absurd (apart floor (RecordOf t) (CellOf l1 key1) j e f (inl (omega arith)))
one_place floor (RecordOf t) (TurnstileChain a1) j e f =
    absurd (apart floor (RecordOf t) (TurnstileChain a1) j e f (inl (omega arith)))
one_place floor (RecordOf t) (SleepChain b1) j e f =
    absurd (apart floor (RecordOf t) (SleepChain b1) j e f (inl (omega arith)))
one_place floor (RecordOf t) ClassGraph j e f = absurd (apart floor (RecordOf t) ClassGraph j e f (inl (omega arith)))
one_place floor (CellOf l key) (RecordOf t1) j e f =
    absurd (apart floor (CellOf l key) (RecordOf t1) j e f (inr (omega arith)))
one_place floor (CellOf l key) (TurnstileChain a1) j e f =
    absurd (apart floor (CellOf l key) (TurnstileChain a1) j e f (inl (omega arith)))
one_place floor (CellOf l key) (SleepChain b1) j e f =
    absurd (apart floor (CellOf l key) (SleepChain b1) j e f (inl (omega arith)))
one_place floor (CellOf l key) ClassGraph j e f =
    absurd (apart floor (CellOf l key) ClassGraph j e f (inl (omega arith)))
one_place floor (TurnstileChain a) (RecordOf t1) j e f =
    absurd (apart floor (TurnstileChain a) (RecordOf t1) j e f (inr (omega arith)))
one_place floor (TurnstileChain a) (CellOf l1 key1) j e f =
    absurd (apart floor (TurnstileChain a) (CellOf l1 key1) j e f (inr (omega arith)))
one_place floor (TurnstileChain a) (SleepChain b1) j e f =
    absurd (apart floor (TurnstileChain a) (SleepChain b1) j e f (inl (omega arith)))
one_place floor (TurnstileChain a) ClassGraph j e f =
    absurd (apart floor (TurnstileChain a) ClassGraph j e f (inl (omega arith)))
one_place floor (SleepChain b) (RecordOf t1) j e f =
    absurd (apart floor (SleepChain b) (RecordOf t1) j e f (inr (omega arith)))
one_place floor (SleepChain b) (CellOf l1 key1) j e f =
    absurd (apart floor (SleepChain b) (CellOf l1 key1) j e f (inr (omega arith)))
one_place floor (SleepChain b) (TurnstileChain a1) j e f =
    absurd (apart floor (SleepChain b) (TurnstileChain a1) j e f (inr (omega arith)))
one_place floor (SleepChain b) ClassGraph j e f =
    absurd (apart floor (SleepChain b) ClassGraph j e f (inl (omega arith)))
one_place floor ClassGraph (RecordOf t1) j e f = absurd (apart floor ClassGraph (RecordOf t1) j e f (inr (omega arith)))
one_place floor ClassGraph (CellOf l1 key1) j e f =
    absurd (apart floor ClassGraph (CellOf l1 key1) j e f (inr (omega arith)))
one_place floor ClassGraph (TurnstileChain a1) j e f =
    absurd (apart floor ClassGraph (TurnstileChain a1) j e f (inr (omega arith)))
one_place floor ClassGraph (SleepChain b1) j e f =
    absurd (apart floor ClassGraph (SleepChain b1) j e f (inr (omega arith)))

-- 2. Latches

pub taker_is : (n t : ℕ) → taker n ≡ Some t → n ≡ suc t
taker_is zero t e = absurd cc
taker_is (suc u) t e = ap suc (same_Some u t e)

-- where one latch changes, its item goes to the thread that it names, or home
pub latches_changed : (floor : Description) (s : State) (latch : ℕ → ℕ) (i : Item) (j x : ℕ) (o : Option ℕ)
    → slot_of floor i ≡ Some j → taker x ≡ o → RepresentsLatches floor latch (item_with s)
    → RepresentsLatches floor (put latch j x) (with_then s i o)
unfolding RepresentsLatches
latches_changed floor s latch i j x o place is h k = go (slot_of floor k) refl
  where
    go : (p : Option ℕ) → slot_of floor k ≡ p → with_then s i o k ≡ taken_from (put latch j x) p
    go None e = elim (beside s i o k) [
      | inl q ↦ absurd (let z : Some j ≡ None = sym place ∙ ap (slot_of floor) q ∙ e in cc)
      | inr q ↦ q ∙ h k ∙ ap (taken_from latch) e
    ]
    go (Some m) e = elim (cases_eq j m) [
      | inl q ↦
          let same : i ≡ k = one_place floor i k j place (e ∙ ap Some (sym q)) in
          subst (λ n. with_then s i o k ≡ taker (put latch j x n)) q
          (ap (with_then s i o) (sym same) ∙ at_itself s i o ∙ sym is ∙ ap taker (sym (put_same latch j x)))
      | inr ne ↦ elim (beside s i o k) [
        | inl q ↦ absurd (ne (same_Some j m (sym place ∙ ap (slot_of floor) q ∙ e)))
        | inr q ↦ q ∙ h k ∙ ap (taken_from latch) e ∙ ap taker (sym (put_other latch j x m ne))
      ]
    ]

-- 3. What a thread has out

pub has_just : (floor : Description) (s : State) (latch : ℕ → ℕ) (home : ℕ → slots.Option Slot)
    (out : ℕ → List (ℕ × Slot)) (content : ℕ → Slot) (t : ℕ)
    → RepresentsLatches floor latch (item_with s) → Shelves (slots_for floor) latch home out content
    → RepresentsObjects floor content (objects_in s) → HasJust floor (out t) s t
unfolding RepresentsLatches
has_just floor s latch home out content t latches shelves objects = record {
  each = λ i j x place there.
      let q = shelves.taken j t x there in (
        latches i ∙ ap (taken_from latch) place
            ∙ ap taker q.1,
        subst (λ y. IsOf floor (objects_in s) i y) (sym q.2) (objects.each i j place),
      );
  no_other = λ i e. go i (slot_of floor i) refl (sym (latches i) ∙ e);
}
  where
    go : (i : Item) (p : Option ℕ) → slot_of floor i ≡ p → taken_from latch (slot_of floor i) ≡ Some t → (j : ℕ)
        × (slot_of floor i ≡ Some j) × ((x : Slot) × (found j (out t) ≡ some x))
    go i None e f = absurd (let z : None ≡ Some t = ap (taken_from latch) (sym e) ∙ f in cc)
    go i (Some j) e f = (
      j,
      e,
      (
        content j,
        shelves.away j t (place_low floor i j e)
            (taker_is (latch j) t (ap (taken_from latch) (sym e) ∙ f)),
      ),
    )

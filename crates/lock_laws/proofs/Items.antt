-- Taking something out of its home, and giving it back, keep each fact.
use Rattle.lock_laws.proofs.Names
use Names.{ℕ, true, Option, Some, None, ap, refl, sym, inl, inr, subst, cases_eq, State, put, put_at, Config, Item}
use Names.{TurnstileChain, SleepChain, RecordOf, CellOf, ClassGraph, MayTake, MayGive, after_take, after_give}
use Names.{item_with, out_with, go_together, turnstile_chains_after, sleep_chains_after, records_after, cells_after}
use Names.{graph_after, Lawful, OutIsNarrow, arith}
use Rattle.std.proofs.Common.{◌≡◌, ◌⊎◌, ◌∙◌}
use Rattle.lock_laws.proofs.Kit.{put_same, put_other, put_at_same, put_at_other, put_at_beside}

by_place : (f : ℕ → Option ℕ) (i : ℕ) (o : Option ℕ) (j : ℕ) → (i ≡ j) ⊎ (put f i o j ≡ f j)
by_place f i o j = elim (cases_eq i j) [ inl x ↦ inl x | inr x ↦ inr (put_other f i o j x) ]

by_cell : (f : ℕ → ℕ → Option ℕ) (i k : ℕ) (o : Option ℕ) (j l : ℕ) → ((i ≡ j) × (k ≡ l)) ⊎ (put_at f i k o j l ≡ f j l)
by_cell f i k o j l =
    elim (cases_eq i j) [
      | inl x ↦ elim (cases_eq k l) [ inl y ↦ inl (x, y) | inr y ↦ inr (put_at_beside f i k o j l y) ]
      | inr x ↦ inr (put_at_other f i k o j l x)
    ]

-- who has an item out, once the item i goes to a thread, or home
abbrev pub with_then : State → Item → Option ℕ → Item → Option ℕ
with_then s i o =
    out_with (turnstile_chains_after i o s.turnstile_chain_with) (sleep_chains_after i o s.sleep_chain_with)
    (records_after i o s.record_with) (cells_after i o s.cell_with) (graph_after i o s.graph_with)

-- the item is where it went,
pub at_itself : (s : State) (i : Item) (o : Option ℕ) → with_then s i o i ≡ o
at_itself s (TurnstileChain a) o = put_same s.turnstile_chain_with a o
at_itself s (SleepChain a) o = put_same s.sleep_chain_with a o
at_itself s (RecordOf a) o = put_same s.record_with a o
at_itself s (CellOf a k) o = put_at_same s.cell_with a k o
at_itself s ClassGraph o = refl

-- and another where it was
pub beside : (s : State) (i : Item) (o : Option ℕ) (j : Item) → (i ≡ j) ⊎ (with_then s i o j ≡ item_with s j)
beside s (TurnstileChain a) o (TurnstileChain b) =
    elim (by_place s.turnstile_chain_with a o b) [ inl x ↦ inl (ap TurnstileChain x) | inr x ↦ inr x ]
beside s (SleepChain a) o (SleepChain b) =
    elim (by_place s.sleep_chain_with a o b) [ inl x ↦ inl (ap SleepChain x) | inr x ↦ inr x ]
beside s (RecordOf a) o (RecordOf b) =
    elim (by_place s.record_with a o b) [ inl x ↦ inl (ap RecordOf x) | inr x ↦ inr x ]
beside s (CellOf a k) o (CellOf b l) =
    elim (by_cell s.cell_with a k o b l) [ inl x ↦ inl (λ i. CellOf (x.0 i) (x.1 i)) | inr x ↦ inr x ]
beside s ClassGraph o ClassGraph = inl refl
beside s (TurnstileChain a) o (SleepChain b) = inr refl
beside s (TurnstileChain a) o (RecordOf b) = inr refl
beside s (TurnstileChain a) o (CellOf b l) = inr refl
beside s (TurnstileChain a) o ClassGraph = inr refl
beside s (SleepChain a) o (TurnstileChain b) = inr refl
beside s (SleepChain a) o (RecordOf b) = inr refl
beside s (SleepChain a) o (CellOf b l) = inr refl
beside s (SleepChain a) o ClassGraph = inr refl
beside s (RecordOf a) o (TurnstileChain b) = inr refl
beside s (RecordOf a) o (SleepChain b) = inr refl
beside s (RecordOf a) o (CellOf b l) = inr refl
beside s (RecordOf a) o ClassGraph = inr refl
beside s (CellOf a k) o (TurnstileChain b) = inr refl
beside s (CellOf a k) o (SleepChain b) = inr refl
beside s (CellOf a k) o (RecordOf b) = inr refl
beside s (CellOf a k) o ClassGraph = inr refl
beside s ClassGraph o (TurnstileChain b) = inr refl
beside s ClassGraph o (SleepChain b) = inr refl
beside s ClassGraph o (RecordOf b) = inr refl
beside s ClassGraph o (CellOf b l) = inr refl

-- what a thread has out then is that item, or was out before
pub changed : (s : State) (i : Item) (o : Option ℕ) (j : Item) (t : ℕ) → with_then s i o j ≡ Some t
    → ((i ≡ j) × (o ≡ Some t)) ⊎ (item_with s j ≡ Some t)
changed s i o j t e = elim (beside s i o
    j) [ inl x ↦ inl (x, sym (at_itself s i o) ∙ ap (with_then s i o) x ∙ e) | inr x ↦ inr (sym x ∙ e) ]

with_itself : (i : Item) → go_together i i ≡ true
with_itself i = grind arith

abbrev Narrow : State → Item → Option ℕ → Type 0
Narrow s i o =
    OutIsNarrow (turnstile_chains_after i o s.turnstile_chain_with) (sleep_chains_after i o s.sleep_chain_with)
    (records_after i o s.record_with) (cells_after i o s.cell_with) (graph_after i o s.graph_with)

taken_narrow : (c : Config) (s : State) (t : ℕ) (i : Item) → MayTake c s t i → Lawful c s → Narrow s i (Some t)
unfolding OutIsNarrow
taken_narrow c s t i g h u j k p q =
    elim (changed s i (Some t) j u p) [
      | inl x ↦ elim (changed s i (Some t) k u q) [
        | inl y ↦ subst (λ a. go_together a k ≡ true) x.0 (subst (λ a. go_together i a ≡ true) y.0 (with_itself i))
        | inr y ↦ subst (λ a. go_together a k ≡ true) x.0 ((g.together k (y ∙ sym x.1)).0)
      ]
      | inr x ↦ elim (changed s i (Some t) k u q) [
        | inl y ↦ subst (λ a. go_together j a ≡ true) y.0 ((g.together j (x ∙ sym y.1)).1)
        | inr y ↦ h.items.out_is_narrow u j k x y
      ]
    ]

given_narrow : (c : Config) (s : State) (i : Item) → Lawful c s → Narrow s i None
unfolding OutIsNarrow
given_narrow c s i h u j k p q =
    elim (changed s i None j u p) [
      | inl x ↦ absurd (let e = x.1 in cc)
      | inr x ↦
          elim (changed s i None k u q) [ inl y ↦ absurd (let e = y.1 in cc) | inr y ↦ h.items.out_is_narrow u j k x y ]
    ]

pub take_lawful : (c : Config) (s : State) (t : ℕ) (i : Item) → MayTake c s t i → Lawful c s
    → Lawful c (after_take s t i)
unfolding after_take
take_lawful c s t i g h = assumption (h, taken_narrow c s t i g h)

pub give_lawful : (c : Config) (s : State) (t : ℕ) (i : Item) → MayGive c s t i → Lawful c s
    → Lawful c (after_give s t i)
unfolding after_give
give_lawful c s t i g h = assumption (h, given_narrow c s i h)

-- The sections behind a history are those behind the thread's own entries, and an event changes only what its class
-- says.
use Rattle.lock_laws.proofs.Names
use Names.{ℕ, Bool, true, false, cond, eqb, Option, List, [], refl, ap, ne_eqb, Config, sections_in, sections_by}
use Names.{entries_of, open_in, Event, Set, Added, Base, Entry, State, Loan, after_stamp, base_after, effective_after}
use Names.{table_after, changes_base, changes_table, changes_sections, arith}
use Rattle.std.proofs.Common.{◌≡◌, ◌∷◌}

-- 1. Own entries

pub own_sections : (c : Config) (es : List Entry) (t l : ℕ) → sections_in c es t l ≡ sections_in c (entries_of es t) t l
unfolding sections_in
own_sections c [] t l = refl
own_sections c (e ∷ es) t l = go (own_sections c es t l) (eqb e.thread.0 t) refl
  where
    go : sections_in c es t l ≡ sections_in c (entries_of es t) t l → (b : Bool) → eqb e.thread.0 t ≡ b
        → cond b (sections_by c e.event l (sections_in c es t l)) (sections_in c es t l)
        ≡ sections_in c (cond b (e ∷ entries_of es t) (entries_of es t)) t l
    go h true x = rw x (ap (sections_by c e.event l) h)
    go h false x = h

pub own_section : (c : Config) (es : List Entry) (t l : ℕ) → open_in c es t l ≡ open_in c (entries_of es t) t l
own_section c es t l = ap (λ x. x.now) (own_sections c es t l)

-- 2. Classes of events

same_base : (e : Event) (t : ℕ) (base : ℕ → ℕ) → changes_base e ≡ false → base_after e t base ≡ base
same_base e t base x = grind arith

same_effective : (c : Config) (e : Event) (t : ℕ) (loan : ℕ → ℕ → Option Loan) (effective : ℕ → ℕ)
    → changes_base e ≡ false → effective_after c e t loan effective ≡ effective
same_effective c (Base p) t loan effective x = absurd cc
same_effective c other t loan effective x = refl

same_table : (e : Event) (table : ℕ → ℕ → Option ℕ) → changes_table e ≡ false → table_after e table ≡ table
same_table (Set l k v) table x = absurd cc
same_table (Added l k n) table x = absurd cc
same_table other table x = refl

module _ (c : Config) (s : State) (t : ℕ) (e : Event) where
  pub bases_stay : changes_base e ≡ false → (after_stamp c s t e).base ≡ s.base
  unfolding after_stamp
  bases_stay x = same_base e t s.base x

  pub effective_stays : changes_base e ≡ false → (after_stamp c s t e).effective ≡ s.effective
  unfolding after_stamp
  effective_stays x = same_effective c e t s.loan s.effective x

  pub tables_stay : changes_table e ≡ false → (after_stamp c s t e).table ≡ s.table
  unfolding after_stamp
  tables_stay x = same_table e s.table x

  pub sections_stay : (u l : ℕ) → changes_sections e ≡ false
      → sections_in c (after_stamp c s t e).history u l ≡ sections_in c s.history u l
  unfolding after_stamp sections_in
  sections_stay u l x = grind arith

-- 3. Sections of others

-- an entry leaves the sections of each other thread
pub other_sections : (c : Config) (s : State) (t : ℕ) (e : Event) (u l : ℕ) → (t ≡ u → ⊥)
    → sections_in c (after_stamp c s t e).history u l ≡ sections_in c s.history u l
unfolding after_stamp sections_in
other_sections c s t e u l n =
    ap (λ b. cond b (sections_by c e l (sections_in c s.history u l)) (sections_in c s.history u l)) (ne_eqb t u n)

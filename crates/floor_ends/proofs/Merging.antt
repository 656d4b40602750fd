-- The logs of a floor, put together by the tickets of their entries, are its history.
use Rattle.std.proofs.Common.{◌≡◌, ◌≢◌, ℕ, ◌<◌, Bool, true, false, cond, eqb, eq-eqb, List, [], ◌∷◌, ◌++◌, length, map, flat_map, reverse, Some, refl, sym, ap, subst, ◌∙◌, arith, append_assoc, inl, inr, All, IsPermutation, slice_get}
use Rattle.std.specs.Prelude.{⊤}
use Rattle.std.proofs.lemmas.Bool.{cases_eq, ne_eqb, eqb-false}
use Rattle.std.proofs.lemmas.List.{reverse-append}
use Rattle.std.proofs.lemmas.List.Sorted.{IsPermutation-refl, IsPermutation-sym, IsPermutation-trans, IsPermutation-cons, IsPermutation-middle, IsPermutation-append_right, IsPermutation-reverse, length_permutation, All-permutation}
use Rattle.std.proofs.lemmas.Map.Keys.{IsDistinct-IsPermutation, IsDistinct-from_apart, apart_from_distinct}
use Rattle.lock_model.specs.Counts.{one, times}
use Rattle.lock_model.specs.History.{entries_of, TicketsRun}
use Rattle.lock_model.specs.declared.event.Entry.{Entry}
use Rattle.lock_history.specs.Books.{Book}
use Rattle.lock_history.specs.Tickets.{entries_in, TicketsOnce}
use Rattle.lock_history.proofs.Merged.{TicketsOnce-in_order, InOrder-reverse, entries_in_one, merged_one}
use Rattle.lock_floor.specs.Closings.{AreLogsOf}

-- 1. The parts of threads, in order of the threads, have just the entries of the history

abbrev parts_of : List ℕ → List Entry → List Entry
parts_of threads history = flat_map (λ t. reverse (entries_of history t)) threads

-- the thread of each entry stands among them, once
abbrev AreBy : List ℕ → List Entry → Type 0
AreBy threads [] = ⊤
AreBy threads (e ∷ es) = (times e.thread.0 threads ≡ 1) × AreBy threads es

are_by : (threads : List ℕ) (history : List Entry) → ((t : ℕ) → entries_of history t ≢ [] → times t threads ≡ 1)
    → AreBy threads history
are_by threads [] h = tt
are_by threads (e ∷ es) h =
    (h e.thread.0 first, are_by threads es (λ t some. h t (λ z. some (behind t (eqb e.thread.0 t) z))))
  where
    first : entries_of (e ∷ es) e.thread.0 ≢ []
    first = rw (eq-eqb e.thread.0 e.thread.0 refl) (λ z. absurd cc)

    behind : (t : ℕ) (b : Bool) → cond b (e ∷ entries_of es t) (entries_of es t) ≡ [] → entries_of es t ≡ []
    behind t true z = absurd cc
    behind t false z = z

-- an entry of another thread changes no part
parts_absent : (threads : List ℕ) (e : Entry) (es : List Entry) → times e.thread.0 threads ≡ 0
    → parts_of threads (e ∷ es) ≡ parts_of threads es
parts_absent [] e es h = refl
parts_absent (t ∷ ts) e es h = elim (cases_eq e.thread.0 t) [
  | inl i ↦ absurd (let z : one (eqb e.thread.0 t) ≡ 1 = ap one (eq-eqb e.thread.0 t i) in omega (arith, h, z))
  | inr i ↦
      rw (ne_eqb e.thread.0 t i) (ap (λ xs. reverse (entries_of es t) ++ xs) (parts_absent ts e es (omega (arith, h))))
]

-- one of theirs is one more
parts_more : (threads : List ℕ) (e : Entry) (es : List Entry) → times e.thread.0 threads ≡ 1
    → IsPermutation (e ∷ parts_of threads es) (parts_of threads (e ∷ es))
parts_more [] e es h = absurd (omega (arith, h))
parts_more (t ∷ ts) e es h =
    let own : List Entry = reverse (entries_of es t) in
    let rest : List Entry = parts_of ts es in
    elim (cases_eq e.thread.0 t) [
      | inl i ↦
          let z : one (eqb e.thread.0 t) ≡ 1 = ap one (eq-eqb e.thread.0 t i) in
          let same : reverse (e ∷ entries_of es t) ++ rest ≡ own ++ e
          ∷ rest = ap (λ xs. xs ++ rest) (reverse-append (e ∷ []) (entries_of es t)) ∙ append_assoc own (e ∷ []) rest in
          rw (eq-eqb e.thread.0 t i, parts_absent ts e es (omega (arith, h, z))) (subst
          (IsPermutation (e ∷ (own ++ rest))) (sym same) (IsPermutation-sym _ _ (IsPermutation-middle own e rest)))
      | inr i ↦
          let z : one (eqb e.thread.0 t) ≡ 0 = ap one (ne_eqb e.thread.0 t i) in
          rw (ne_eqb e.thread.0 t i)
          (IsPermutation-trans _ _ _ (IsPermutation-sym _ _ (IsPermutation-middle own e rest))
          (IsPermutation-append_right own (e ∷ rest) (parts_of ts (e ∷ es)) (parts_more ts e es (omega (arith, h, z)))))
    ]

none_of_none : (threads : List ℕ) → parts_of threads [] ≡ []
none_of_none [] = refl
none_of_none (t ∷ ts) = none_of_none ts

all_parts : (threads : List ℕ) (history : List Entry) → AreBy threads history
    → IsPermutation history (parts_of threads history)
all_parts threads [] h = subst (IsPermutation []) (sym (none_of_none threads)) (IsPermutation-refl [])
all_parts threads (e ∷ es) h =
    IsPermutation-trans _ _ _ (IsPermutation-cons e es _ (all_parts threads es h.1)) (parts_more threads e es h.0)

-- 2. The logs

joined : {A B : Type 0} (f : A → List B) (xs : List A) → flat_map f xs ≡ flat_map (λ ys. ys) (map f xs)
joined f [] = refl
joined f (x ∷ xs) = ap (λ ys. f x ++ ys) (joined f xs)

logs_permuted : (threads : List ℕ) (logs : List Book) (history : List Entry)
    → AreLogsOf threads (map (λ b. b.entries) logs) history → IsPermutation (reverse history) (entries_in logs)
logs_permuted threads logs history h =
    let same : entries_in logs ≡ parts_of threads history = joined (λ (b : Book). b.entries) logs
    ∙ ap (flat_map (λ (es : List Entry). es)) h.parts ∙ sym (joined (λ t. reverse (entries_of history t)) threads) in
    IsPermutation-trans _ _ _ (IsPermutation-sym _ _ (IsPermutation-reverse history))
    (subst (IsPermutation history) (sym same) (all_parts threads history (are_by threads history h.no_other)))

-- whether two entries have one ticket
abbrev same_ticket : Entry → Entry → Bool
same_ticket e f = eqb e.ticket f.ticket

flips : (e f : Entry) → same_ticket e f ≡ same_ticket f e
flips e f = elim (cases_eq e.ticket f.ticket) [
  | inl i ↦ eq-eqb e.ticket f.ticket i ∙ sym (eq-eqb f.ticket e.ticket (sym i))
  | inr i ↦ ne_eqb e.ticket f.ticket i ∙ sym (ne_eqb f.ticket e.ticket (λ z. i (sym z)))
]

-- tickets that are once each stay so in another order
once_permuted : (xs ys : List Entry) → IsPermutation xs ys → TicketsOnce xs → TicketsOnce ys
once_permuted xs ys s h =
    let apart = IsDistinct-IsPermutation same_ticket flips xs ys s
    (IsDistinct-from_apart same_ticket xs (λ i j d lt within. ne_eqb _ _ (h.once i j d lt within))) in
    record {
      below = All-permutation (λ (e : Entry). e.ticket < length ys) xs ys s
          (λ k d lt. omega (arith, h.below k d lt, length_permutation xs ys s));
      once = λ i j d lt within. eqb-false _ _ (apart_from_distinct same_ticket ys i j d apart lt within);
    }

module _ (threads : List ℕ) (logs : List Book) (history : List Entry)
    (h : AreLogsOf threads (map (λ b. b.entries) logs) history) (run : TicketsRun history) where
  pub logs_once : TicketsOnce (entries_in logs)
  logs_once = once_permuted (reverse history) (entries_in logs) (logs_permuted threads logs history h)
      (TicketsOnce-in_order (reverse history) (InOrder-reverse history run))

  pub logs_long : length (entries_in logs) ≡ length (reverse history)
  logs_long = length_permutation (reverse history) (entries_in logs) (logs_permuted threads logs history h)

  pub logs_merged : (es : List Entry) → length es ≡ length (entries_in logs)
      → All (λ e. slice_get es e.ticket ≡ Some e) (entries_in logs) → es ≡ reverse history
  logs_merged es long placed =
      let whole : Book = record { entries = reverse history; spare = 0 } in
      let one = sym (entries_in_one whole) in
      merged_one whole es (InOrder-reverse history run) (long ∙ logs_long ∙ ap length one)
      (subst (All (λ (e : Entry). slice_get es e.ticket ≡ Some e)) one
      (All-permutation (λ (e : Entry). slice_get es e.ticket ≡ Some e) (entries_in logs) (reverse history)
      (IsPermutation-sym _ _ (logs_permuted threads logs history h)) placed))

-- A list in which each entry was put at the place of its ticket.
use Rattle.std.proofs.Common.{◌≡◌, ◌≢◌, ℕ, suc, ◌+◌, ◌<◌, Bool, true, false, List, [], ◌∷◌, ◌++◌, map, length, take, drop, get_or, set, eqb, Some, refl, sym, ap, subst, ◌∙◌, arith, length-append, length-set}
use Rattle.std.specs.Cmp.{nat_eq_equiv}
use Rattle.std.specs.List.{All, AllPairs, AllByRecursion, IsDistinct, list_any, slice_get, range_with_len}
use Rattle.std.proofs.lemmas.Bool.{eqb-true, eq-eqb, ne_eqb}
use Rattle.std.proofs.lemmas.List.{take_at, get_or-set_same, get_or-set_other, get_or-map, length-map}
use Rattle.std.proofs.lemmas.List.Concat.{get_or-flat_map}
use Rattle.std.proofs.lemmas.List.Elements.{All-head, All-tail, All-cons, All-push, All-map}
use Rattle.std.proofs.lemmas.List.Folds.{length-flat_map-take, list_any_at, Any-from_list_any}
use Rattle.std.proofs.lemmas.List.FromFn.{get_or-range_with_len, length-range_with_len}
use Rattle.std.proofs.lemmas.Map.Keys.{IsDistinct-cons, IsDistinct-push, IsDistinct-from_apart}
use Rattle.std.proofs.lemmas.Map.Made.{length-le_from_is_member}
use Rattle.std.proofs.lemmas.Option.{slice_get-get_or, get_or_from_slice_get}
use Rattle.lock_model.specs.declared.event.Entry.{Entry}
use Rattle.lock_history.specs.Books.{Book}
use Rattle.lock_history.specs.Tickets.{entries_in, TicketsOnce, InOrder, placed_by}

-- 1. Putting

pub placed_by-append : (places xs ys : List Entry) → placed_by places (xs ++ ys) ≡ placed_by (placed_by places xs) ys
placed_by-append places [] ys = refl
placed_by-append places (x ∷ xs) ys = placed_by-append (set places x.ticket x) xs ys

pub length-placed_by : (places es : List Entry) → length (placed_by places es) ≡ length places
length-placed_by places [] = refl
length-placed_by places (e ∷ es) = length-placed_by (set places e.ticket e) es ∙ length-set places e.ticket e

-- what holds of all entries holds of those of a log
pub All-of_log : (P : Entry → Type 0) (logs : List Book) (i : ℕ) (g : Book) → i < length logs → All P (entries_in logs)
    → All P (get_or logs i g).entries
All-of_log P logs i g lt all k d below =
    let within = length-flat_map-take (λ (h : Book). h.entries) logs i g lt in
    let at = get_or-flat_map (λ (h : Book). h.entries) logs i k g d lt below in
    subst P at (all (length (entries_in (take i logs)) + k) d (omega arith))

-- 2. What stands where

-- no entry comes to a place that is none's ticket
kept_place : (k : ℕ) (places es : List Entry) (d : Entry) → All (λ e. k ≢ e.ticket) es
    → get_or (placed_by places es) k d ≡ get_or places k d
kept_place k places [] d apart = refl
kept_place k places (e ∷ es) d apart =
    kept_place k (set places e.ticket e) es d (All-tail (λ f. k ≢ f.ticket) e es apart)
    ∙ get_or-set_other places e.ticket k e d (All-head (λ f. k ≢ f.ticket) e es apart)

apart_head : (e : Entry) (es : List Entry) → AllPairs (λ x y. x.ticket ≢ y.ticket) (e ∷ es)
    → All (λ f. e.ticket ≢ f.ticket) es
apart_head e es once k d lt = once 0 (suc k) d (omega arith) (omega arith)

apart_tail : (e : Entry) (es : List Entry) → AllPairs (λ x y. x.ticket ≢ y.ticket) (e ∷ es)
    → AllPairs (λ x y. x.ticket ≢ y.ticket) es
apart_tail e es once i j d lt within = once (suc i) (suc j) d (omega arith) (omega arith)

pub placed_at : (places es : List Entry) → All (λ e. e.ticket < length places) es
    → AllPairs (λ x y. x.ticket ≢ y.ticket) es → All (λ e. slice_get (placed_by places es) e.ticket ≡ Some e) es
placed_at places [] below once = λ k d lt. absurd (omega arith)
placed_at places (e ∷ es) below once =
    let next = set places e.ticket e in
    let long : length next ≡ length places = length-set places e.ticket e in
    let lt : e.ticket < length places = All-head (λ f. f.ticket < length places) e es below in
    let there : get_or (placed_by next es) e.ticket e ≡ e =
    kept_place e.ticket next es e (apart_head e es once) ∙ get_or-set_same places e.ticket e e lt in
    let within : e.ticket < length (placed_by next es) = omega (arith, length-placed_by next es) in
    All-cons (λ f. slice_get (placed_by next es) f.ticket ≡ Some f) e es
    (slice_get-get_or (placed_by next es) e.ticket e within ∙ ap Some there)
    (placed_at next es
    (subst (λ n. All (λ f. f.ticket < n) es) (sym long) (All-tail (λ f. f.ticket < length places) e es below))
    (apart_tail e es once))

-- 3. Each place is some entry's ticket

abbrev pub tickets_of : List Entry → List ℕ
tickets_of es = map (λ e. e.ticket) es

each_apart : (k : ℕ) (es : List Entry) → All (λ f. k ≢ f.ticket) es
    → AllByRecursion (λ y. eqb k y ≡ false) (tickets_of es)
each_apart k [] h = tt
each_apart k (e ∷ es) h =
    (ne_eqb k e.ticket (All-head (λ f. k ≢ f.ticket) e es h), each_apart k es (All-tail (λ f. k ≢ f.ticket) e es h))

distinct_tickets : (es : List Entry) → AllPairs (λ x y. x.ticket ≢ y.ticket) es → IsDistinct eqb (tickets_of es)
distinct_tickets [] once = IsDistinct-from_apart eqb [] (λ i j d lt within. absurd (omega arith))
distinct_tickets (e ∷ es) once =
    IsDistinct-cons eqb e.ticket (tickets_of es) (each_apart e.ticket es (apart_head e es once))
    (distinct_tickets es (apart_tail e es once))

-- a number below n is among 0 to n - 1
in_range : (n q : ℕ) → q < n → list_any (eqb q) (range_with_len 0 n) ≡ true
in_range n q lt =
    let at = get_or-range_with_len 0 n q 0 lt in
    list_any_at (eqb q) (range_with_len 0 n) q 0 (omega (arith, length-range_with_len 0 n))
    (eq-eqb q _ (omega (arith, at)))

below_member : (n q : ℕ) (xs : List ℕ) → All (λ x. x < n) xs → list_any (eqb q) xs ≡ true → q < n
below_member n q xs below h =
    let a = Any-from_list_any (eqb q) xs h in
    let same : q ≡ a.1 = eqb-true q a.1 a.4 in
    let lt : get_or xs a.0 a.1 < n = below a.0 a.1 a.2 in
    omega (arith, lt, a.3, same)

-- each number below the number of the entries is a ticket
pub covered : (es : List Entry) → TicketsOnce es → (k : ℕ) → k < length es → list_any (eqb k) (tickets_of es) ≡ true
covered es h k lt = go (list_any (eqb k) (tickets_of es)) refl
  where
    go : (b : Bool) → list_any (eqb k) (tickets_of es) ≡ b → b ≡ true
    go true e = refl
    go false e =
        let below : All (λ x. x < length es) (tickets_of es ++ k ∷ []) =
        All-push (λ x. x < length es) (tickets_of es) k
        (All-map (λ x. x < length es) (λ (f : Entry). f.ticket) es h.below) lt in
        let apart = IsDistinct-push nat_eq_equiv (tickets_of es) k (distinct_tickets es h.once) e in
        let few = length-le_from_is_member nat_eq_equiv (tickets_of es ++ k ∷ []) (range_with_len 0 (length es)) apart
        (λ q m. in_range (length es) q (below_member (length es) q _ below m)) in
        absurd (omega (
          arith,
          few,
          length-append (tickets_of es) (k ∷ []),
          length-map es (λ (f : Entry). f.ticket),
          length-range_with_len 0 (length es),
        ))

-- where each entry stands at the place of its ticket, the entry at each place has the place as its ticket
pub InOrder-placed : (es h : List Entry) → TicketsOnce es → length h ≡ length es
    → All (λ e. slice_get h e.ticket ≡ Some e) es → InOrder h
InOrder-placed es h once len placed k d lt =
    let a = Any-from_list_any (eqb k) (tickets_of es) (covered es once k (omega (arith, len))) in
    let i : ℕ = a.0 in
    let e : Entry = get_or es i d in
    let within : i < length es = omega (arith, a.2, length-map es (λ (f : Entry). f.ticket)) in
    let ticket : e.ticket ≡ k = sym (get_or-map (λ (f : Entry). f.ticket) es i d a.1 within) ∙ a.3
    ∙ sym (eqb-true k a.1 a.4) in
    let there : get_or h e.ticket d ≡ e = get_or_from_slice_get h e.ticket e d (placed i d within) in
    ap (λ (n : ℕ). (get_or h n d).ticket) (sym ticket) ∙ ap (λ (f : Entry). f.ticket) there ∙ ticket

-- entries that were put among as many places
pub placed_all : (places es h : List Entry) → TicketsOnce es → length places ≡ length es → h ≡ placed_by places es
    → All (λ e. slice_get h e.ticket ≡ Some e) es
placed_all places es h once len is =
    subst (λ l. All (λ e. slice_get l e.ticket ≡ Some e) es) (sym is)
    (placed_at places es (subst (λ n. All (λ e. e.ticket < n) es) (sym len) once.below) once.once)

-- a `Vec` whose slice was written
pub written : (n : ℕ) (new old : List Entry) → length new ≡ n → take n (new ++ drop (length new) old) ≡ new
written n new old e = take_at new (drop (length new) old) n e

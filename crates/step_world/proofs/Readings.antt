-- Lists that are made place by place, and what is read for them.
use Rattle.step_world.proofs.Names
use Names.{ℕ, zero, suc, true, false, List, [], length, map, flat_map, take, slice_get, get_or, option_map, Option}
use Names.{Some, None, refl, ap, sym, arith, range_with_len, append_assoc, map-append, map-id, flat_map_more, take_more}
use Names.{take_all, length_push, map-range_with_len_more, slice_get_within, slice_get_read, slice_get-map}
use Names.{get_or_from_slice_get, lock_kind, lock_queue, is_turnstile, Kind, Mtx, LockDecl, Plan, head_of, Machine}
use Names.{line_at, line_of_lock}
use Rattle.std.proofs.Common.{◌≡◌, ◌≤◌, ◌<◌, ◌%◌, ◌∷◌, ◌++◌, ◌+◌, ◌∙◌, unwrap_or}

-- 1. A list that is read until a place is past its end

-- nothing stands at a place past the end
past : {B : Type 0} (ys : List B) (n : ℕ) → slice_get ys n ≡ None → length ys ≤ n
past [] n e = omega arith
past (y ∷ ys) zero e = absurd cc
past (y ∷ ys) (suc n) e = omega (arith, past ys n e)

module _ {A B : Type 0} (f : A → B) (ys : List B) (xs : List A) (read : map f xs ≡ take (length xs) ys) where
  -- one place more
  pub one_more : (x : A) → slice_get ys (length xs) ≡ Some (f x)
      → map f (xs ++ x ∷ []) ≡ take (length (xs ++ x ∷ [])) ys
  one_more x e =
      map-append f xs (x ∷ [])
      ∙ ap (λ (zs : List B). zs ++ f x ∷ []) read
      ∙ ap (λ (y : B). take (length xs) ys ++ y ∷ []) (sym (get_or_from_slice_get ys (length xs) (f x) (f x) e))
      ∙ sym (take_more ys (length xs) (f x) (slice_get_within ys (length xs) (f x) e))
      ∙ ap (λ (n : ℕ). take n ys) (sym (length_push xs x))

  -- the end
  pub all_read : slice_get ys (length xs) ≡ None → map f xs ≡ ys
  all_read e = read ∙ take_all (length xs) ys (past ys (length xs) e)

-- 2. Parts by number

-- the numbers below n + 1
range_more : (n : ℕ) → range_with_len 0 (n + 1) ≡ range_with_len 0 n ++ n ∷ []
range_more n =
    sym (map-id (range_with_len 0 (n + 1)))
    ∙ map-range_with_len_more (λ (k : ℕ). k) 0 n n (omega arith)
    ∙ ap (λ (ks : List ℕ). ks ++ n ∷ []) (map-id (range_with_len 0 n))

-- the part of one number more
pub flat_map_range_more : {A : Type 0} (f : ℕ → List A) (n : ℕ)
    → flat_map f (range_with_len 0 (n + 1)) ≡ flat_map f (range_with_len 0 n) ++ f n
flat_map_range_more f n = ap (flat_map f) (range_more n) ∙ sym (flat_map_more f [] (range_with_len 0 n) n)

-- and where that is what a list got more
pub part_more : {A : Type 0} (f : ℕ → List A) (n : ℕ) (xs ys part : List A) → xs ≡ flat_map f (range_with_len 0 n)
    → ys ≡ xs ++ part → part ≡ f n → ys ≡ flat_map f (range_with_len 0 (n + 1))
part_more f n xs ys part before more is = more ∙ ap (λ zs. zs ++ part) before
    ∙ ap (λ zs. flat_map f (range_with_len 0 n) ++ zs) is ∙ sym (flat_map_range_more f n)

-- the same behind other parts
pub part_more_behind : {A : Type 0} (f : ℕ → List A) (n : ℕ) (front xs ys part : List A) → xs ≡ front ++ flat_map f
    (range_with_len 0 n) → ys ≡ xs ++ part → part ≡ f n → ys ≡ front ++ flat_map f (range_with_len 0 (n + 1))
part_more_behind f n front xs ys part before more is =
    more ∙ ap (λ zs. zs ++ part) before ∙ append_assoc front (flat_map f (range_with_len 0 n)) part
    ∙ ap (λ zs. front ++ zs)
    (part_more f n (flat_map f (range_with_len 0 n)) (flat_map f (range_with_len 0 n) ++ part) part refl refl is)

-- 3. Locks

-- the kind of a lock that was read
pub kind_read : (plan : Plan) (l : ℕ) (d : LockDecl) → l < length plan.locks → d ≡ get_or plan.locks l d
    → lock_kind plan l ≡ d.kind
kind_read plan l d lt is = ap (λ (o : Option Kind). unwrap_or o Mtx)
    (slice_get-map (λ (x : LockDecl). x.kind) plan.locks l
    ∙ ap (option_map (λ (x : LockDecl). x.kind)) (slice_get_read plan.locks (length plan.locks) l d refl lt is))

-- the line of one that stands in the one chain, or in the other
pub turnstile_line : (chains : ℕ) (m : Machine) (kind : Kind) (l : ℕ) → is_turnstile kind ≡ true
    → line_of_lock chains m kind l ≡ line_at (lock_queue l) (l % chains) (head_of (lock_queue l) m.chain)
turnstile_line chains m kind l e = rw e refl

pub sleepers_line : (chains : ℕ) (m : Machine) (kind : Kind) (l : ℕ) → is_turnstile kind ≡ false
    → line_of_lock chains m kind l ≡ line_at (lock_queue l) (l % chains) (head_of (lock_queue l) m.sleepers)
sleepers_line chains m kind l e = rw e refl

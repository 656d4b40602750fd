-- Lists and options as the judging of a script's lines uses them, and what one operation more does to what operations
-- lead to.
use Rattle.script_laws.proofs.Names
use Names.{ℕ, zero, suc, Bool, true, false, List, [], length, slice_get, slice_set, Option, Some, None, refl, sym, ap}
use Names.{arith, is_none, unwrap_or, map, sum, All, pointwise, and_parts, eqb-true, false≢true, none-some, map-append}
use Names.{sum_by-append, All-head, All-tail, is_empty, held_behind, held_through, Test, Passes, first_fault}
use Names.{is_same_mode, is_same_held, Mode, Op, Held}
use Rattle.std.proofs.Common.{◌≡◌, ◌≢◌, ◌+◌, ◌∷◌, ◌++◌}
use Rattle.std.specs.Prelude.{if◌then◌else◌, not}

-- 1. Tests and lists

pub none_is : {A : Type 0} (o : Option A) → is_none o ≡ true → o ≡ None
none_is o e = grind arith

pub empty_is : {A : Type 0} (xs : List A) → is_empty xs ≡ true → xs ≡ []
empty_is xs e = grind arith

-- where no stage has a fault, the first has none, and no later one
pub stages_pass : (stage : List Test) (stages : List (List Test)) → first_fault (stage ∷ stages) ≡ None
    → Passes stage × (first_fault stages ≡ None)
stages_pass stage stages e = grind arith

pub sum_push : {A : Type 0} (f : A → ℕ) (xs : List A) (x : A) → sum (map f (xs ++ x ∷ [])) ≡ sum (map f xs) + f x
sum_push f xs x = rw map-append (omega (arith, sum_by-append (λ n. n) (map f xs) (f x ∷ [])))

-- a fact of each element's part and of the default is one of what is read at any place
pub read_all : {A B : Type 0} (P : B → Type 0) (f : A → B) (d : B) (xs : List A) → All (λ x. P (f x)) xs → P d → (i : ℕ)
    → P (unwrap_or (slice_get (map f xs) i) d)
read_all P f d [] h p i = p
read_all P f d (x ∷ xs) h p zero = All-head (λ y. P (f y)) x xs h
read_all P f d (x ∷ xs) h p (suc i) = read_all P f d xs (All-tail (λ y. P (f y)) x xs h) p i

-- 2. Lists with one element more, or one set

pub get_push : {A : Type 0} (xs : List A) (x : A) → slice_get (xs ++ x ∷ []) (length xs) ≡ Some x
get_push [] x = refl
get_push (y ∷ xs) x = get_push xs x

pub get_push_other : {A : Type 0} (xs : List A) (x : A) (n : ℕ) → n ≢ length xs
    → slice_get (xs ++ x ∷ []) n ≡ slice_get xs n
get_push_other [] x zero h = absurd (h refl)
get_push_other [] x (suc n) h = refl
get_push_other (y ∷ xs) x zero h = refl
get_push_other (y ∷ xs) x (suc n) h = get_push_other xs x n (λ e. h (ap suc e))

pub get_set : {A : Type 0} (xs : List A) (i : ℕ) (x y : A) → slice_get xs i ≡ Some y
    → slice_get (slice_set xs i x) i ≡ Some x
get_set [] i x y e = absurd (none-some y e)
get_set (z ∷ xs) zero x y e = refl
get_set (z ∷ xs) (suc i) x y e = get_set xs i x y e

pub get_set_other : {A : Type 0} (xs : List A) (i : ℕ) (x : A) (n : ℕ) → n ≢ i
    → slice_get (slice_set xs i x) n ≡ slice_get xs n
get_set_other [] i x n h = refl
get_set_other (y ∷ xs) zero x zero h = absurd (h refl)
get_set_other (y ∷ xs) zero x (suc n) h = refl
get_set_other (y ∷ xs) (suc i) x zero h = refl
get_set_other (y ∷ xs) (suc i) x (suc n) h = get_set_other xs i x n (λ e. h (ap suc e))

-- 3. Lists of held locks

-- what is held in the same way is the same
same_mode : (g h : Mode) → is_same_mode g h ≡ true → g ≡ h
same_mode g h e = grind arith

same_way : (g h : Bool) → (if g then h else not h) ≡ true → g ≡ h
same_way true h e = sym e
same_way false true e = e
same_way false false e = refl

same_held : (g h : Held) → is_same_held g h ≡ true → g ≡ h
same_held g h e =
    let p = and_parts _ _ e in
    let q = and_parts _ _ p.0 in
    let l = eqb-true g.l.0 h.l.0 q.0 in
    let mode = same_mode g.mode h.mode q.1 in
    let way = same_way g.by_try h.by_try p.1 in
    let parts : (g.l.0, g.mode, g.by_try) ≡ (h.l.0, h.mode, h.by_try) = cc (l, mode, way) in
    ap (λ (x : ℕ × Mode × Bool). record { l = record { 0 = x.0 }; mode = x.1; by_try = x.2 }) parts

pub same_list : (gs hs : List Held) → pointwise is_same_held gs hs ≡ true → gs ≡ hs
same_list [] [] e = refl
same_list [] (h ∷ hs) e = absurd (false≢true e)
same_list (g ∷ gs) [] e = absurd (false≢true e)
same_list (g ∷ gs) (h ∷ hs) e =
    let p = and_parts (is_same_held g h) _ e in
    let first = same_held g h p.0 in
    let rest = same_list gs hs p.1 in
    cc (first, rest)

pub held_through-push : (ops : List Op) (op : Op) (hs : List Held)
    → held_through (ops ++ op ∷ []) hs ≡ held_behind op (held_through ops hs)
held_through-push [] op hs = refl
held_through-push (o ∷ ops) op hs = held_through-push ops op (held_behind o hs)

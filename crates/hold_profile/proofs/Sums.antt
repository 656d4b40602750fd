-- Sums, greatest numbers, counts and filters of lists that are made of others.
use Rattle.std.proofs.Common.{◌≡◌, ℕ, zero, suc, ◌+◌, ◌<◌, ◌≤◌, Bool, true, false, cond, max, List, [], ◌∷◌, ◌++◌, length, map, refl, sym, ap, ◌∙◌, arith, add-zero, append_assoc}
use Rattle.std.specs.List.{filter, sum_by, count_by, flat_map, range_with_len, All}
use Rattle.std.proofs.lemmas.List.Sums.{sum_by-cons}
use Rattle.std.proofs.lemmas.List.Elements.{All-head, All-tail, All-cons, All-nil}
use Rattle.std.proofs.lemmas.List.{append-nil}
use Rattle.std.proofs.lemmas.List.FromFn.{filter_of_map_range_with_len_more}
use Rattle.hold_profile.specs.Profiles.{greatest_by}

-- 1. Sums

pub sum_by-map : {X Y : Type 0} (f : Y → ℕ) (g : X → Y) (xs : List X) → sum_by f (map g xs) ≡ sum_by (λ x. f (g x)) xs
sum_by-map f g [] = refl
sum_by-map f g (x ∷ xs) =
    sum_by-cons f (g x) (map g xs) ∙ ap (λ n. f (g x) + n) (sum_by-map f g xs) ∙ sym (sum_by-cons (λ y. f (g y)) x xs)

pub sum_by-same : {X : Type 0} (f g : X → ℕ) (xs : List X) → All (λ x. f x ≡ g x) xs → sum_by f xs ≡ sum_by g xs
sum_by-same f g [] h = refl
sum_by-same f g (x ∷ xs) h =
    let here : f x ≡ g x = All-head (λ y. f y ≡ g y) x xs h in
    let rest = sum_by-same f g xs (All-tail (λ y. f y ≡ g y) x xs h) in
    omega (arith, sum_by-cons f x xs, sum_by-cons g x xs, here, rest)

-- a sum of sums
pub sum_by-both : {X : Type 0} (f g h : X → ℕ) (xs : List X) → ((x : X) → f x ≡ g x + h x)
    → sum_by f xs ≡ sum_by g xs + sum_by h xs
sum_by-both f g h [] e = refl
sum_by-both f g h (x ∷ xs) e =
    omega (arith, sum_by-cons f x xs, sum_by-cons g x xs, sum_by-cons h x xs, e x, sum_by-both f g h xs e)

pub sum_by-filter : {X : Type 0} (f : X → ℕ) (p : X → Bool) (xs : List X)
    → sum_by f (filter p xs) ≡ sum_by (λ x. cond (p x) (f x) 0) xs
sum_by-filter f p [] = refl
sum_by-filter {X} f p (x ∷ xs) = go (p x) (sum_by-filter f p xs) ∙ sym (sum_by-cons (λ y. cond (p y) (f y) 0) x xs)
  where
    go : (b : Bool) → sum_by f (filter p xs) ≡ sum_by (λ y. cond (p y) (f y) 0) xs
        → sum_by f (cond b (x ∷ filter p xs) (filter p xs)) ≡ cond b (f x) 0 + sum_by (λ y. cond (p y) (f y) 0) xs
    go true h = sum_by-cons f x (filter p xs) ∙ ap (λ n. f x + n) h
    go false h = omega (arith, h)

pub sum_by-none : {X : Type 0} (xs : List X) → sum_by (λ x. 0) xs ≡ 0
sum_by-none [] = refl
sum_by-none {X} (x ∷ xs) = omega (arith, sum_by-cons {X = X} (λ y. 0) x xs, sum_by-none xs)

-- 2. Greatest numbers

pub greatest_by-append : {X : Type 0} (f : X → ℕ) (xs ys : List X)
    → greatest_by f (xs ++ ys) ≡ max (greatest_by f xs) (greatest_by f ys)
greatest_by-append f [] ys = omega arith
greatest_by-append f (x ∷ xs) ys = omega (arith, greatest_by-append f xs ys)

pub greatest_by-map : {X Y : Type 0} (f : Y → ℕ) (g : X → Y) (xs : List X)
    → greatest_by f (map g xs) ≡ greatest_by (λ x. f (g x)) xs
greatest_by-map f g [] = refl
greatest_by-map f g (x ∷ xs) = ap (max (f (g x))) (greatest_by-map f g xs)

pub greatest_by-same : {X : Type 0} (f g : X → ℕ) (xs : List X) → All (λ x. f x ≡ g x) xs
    → greatest_by f xs ≡ greatest_by g xs
greatest_by-same f g [] h = refl
greatest_by-same f g (x ∷ xs) h =
    let here : f x ≡ g x = All-head (λ y. f y ≡ g y) x xs h in
    let rest = greatest_by-same f g xs (All-tail (λ y. f y ≡ g y) x xs h) in
    omega (arith, here, rest)

pub greatest_by-both : {X : Type 0} (f g h : X → ℕ) (xs : List X) → ((x : X) → f x ≡ max (g x) (h x))
    → greatest_by f xs ≡ max (greatest_by g xs) (greatest_by h xs)
greatest_by-both f g h [] e = refl
greatest_by-both f g h (x ∷ xs) e = omega (arith, e x, greatest_by-both f g h xs e)

pub greatest_by-filter : {X : Type 0} (f : X → ℕ) (p : X → Bool) (xs : List X)
    → greatest_by f (filter p xs) ≡ greatest_by (λ x. cond (p x) (f x) 0) xs
greatest_by-filter f p [] = refl
greatest_by-filter {X} f p (x ∷ xs) = go (p x) (greatest_by-filter f p xs)
  where
    go : (b : Bool) → greatest_by f (filter p xs) ≡ greatest_by (λ y. cond (p y) (f y) 0) xs
        → greatest_by f (cond b (x ∷ filter p xs) (filter p xs)) ≡ max (cond b (f x) 0)
        (greatest_by (λ y. cond (p y) (f y) 0) xs)
    go true h = ap (max (f x)) h
    go false h = omega (arith, h)

pub greatest_by-none : {X : Type 0} (xs : List X) → greatest_by (λ x. 0) xs ≡ 0
greatest_by-none [] = refl
greatest_by-none {X} (x ∷ xs) = omega (arith, greatest_by-none xs)

-- 3. Filters and maps

pub map-same : {X Y : Type 0} (f g : X → Y) (xs : List X) → All (λ x. f x ≡ g x) xs → map f xs ≡ map g xs
map-same f g [] h = refl
map-same f g (x ∷ xs) h =
    let here : f x ≡ g x = All-head (λ y. f y ≡ g y) x xs h in
    let rest = map-same f g xs (All-tail (λ y. f y ≡ g y) x xs h) in
    ap (λ y. y ∷ map f xs) here ∙ ap (λ ys. g x ∷ ys) rest

pub filter-same : {X : Type 0} (p q : X → Bool) (xs : List X) → All (λ x. p x ≡ q x) xs → filter p xs ≡ filter q xs
filter-same p q [] h = refl
filter-same {X} p q (x ∷ xs) h =
    ap (λ b. cond b (x ∷ filter p xs) (filter p xs)) (All-head (λ y. p y ≡ q y) x xs h)
    ∙ ap (λ ys. cond (q x) (x ∷ ys) ys) (filter-same p q xs (All-tail (λ y. p y ≡ q y) x xs h))

pub filter-map : {X Y : Type 0} (p : Y → Bool) (g : X → Y) (xs : List X)
    → filter p (map g xs) ≡ map g (filter (λ x. p (g x)) xs)
filter-map p g [] = refl
filter-map {X} {Y} p g (x ∷ xs) = go (p (g x)) (filter-map p g xs)
  where
    go : (b : Bool) → filter p (map g xs) ≡ map g (filter (λ y. p (g y)) xs)
        → cond b (g x ∷ filter p (map g xs)) (filter p (map g xs)) ≡ map g
        (cond b (x ∷ filter (λ y. p (g y)) xs) (filter (λ y. p (g y)) xs))
    go true h = ap (λ ys. g x ∷ ys) h
    go false h = h

pub filter_all : {X : Type 0} (xs : List X) → filter (λ x. true) xs ≡ xs
filter_all [] = refl
filter_all (x ∷ xs) = ap (λ ys. x ∷ ys) (filter_all xs)

pub All-filtered : {X : Type 0} (P : X → Type 0) (p : X → Bool) (xs : List X) → All P xs → All P (filter p xs)
All-filtered P p [] h = h
All-filtered {X} P p (x ∷ xs) h = go (p x) (All-filtered P p xs (All-tail P x xs h))
  where
    go : (b : Bool) → All P (filter p xs) → All P (cond b (x ∷ filter p xs) (filter p xs))
    go true k = All-cons P x (filter p xs) (All-head P x xs h) k
    go false k = k

pub length-filter_most : {X : Type 0} (p : X → Bool) (xs : List X) → length (filter p xs) ≤ length xs
length-filter_most p [] = omega arith
length-filter_most {X} p (x ∷ xs) = go (p x) (length-filter_most p xs)
  where
    go : (b : Bool) → length (filter p xs) ≤ length xs
        → length (cond b (x ∷ filter p xs) (filter p xs)) ≤ suc (length xs)
    go true h = omega arith
    go false h = omega arith

-- all elements have what each element has
pub All-each : {X : Type 0} (P : X → Type 0) → ((x : X) → P x) → (xs : List X) → All P xs
All-each P h [] = All-nil P
All-each P h (x ∷ xs) = All-cons P x xs (h x) (All-each P h xs)

pub All-both : {X : Type 0} (P Q R : X → Type 0) → ((x : X) → P x → Q x → R x) → (xs : List X) → All P xs → All Q xs
    → All R xs
All-both P Q R h [] p q = All-nil R
All-both P Q R h (x ∷ xs) p q =
    All-cons R x xs (h x (All-head P x xs p) (All-head Q x xs q))
    (All-both P Q R h xs (All-tail P x xs p) (All-tail Q x xs q))

-- a filter that is filtered, counted
pub count_by-filter : {X : Type 0} (q p : X → Bool) (xs : List X)
    → count_by q (filter p xs) ≡ sum_by (λ x. cond (p x) (cond (q x) 1 0) 0) xs
count_by-filter q p xs = sum_by-filter (λ x. cond (q x) 1 0) p xs

-- 4. Ranges

pub flat_map-range : {A : Type 0} (f g : ℕ → List A) (a n : ℕ) → ((k : ℕ) → k < a + n → f k ≡ g k)
    → flat_map f (range_with_len a n) ≡ flat_map g (range_with_len a n)
flat_map-range f g a zero h = refl
flat_map-range f g a (suc n) h =
    let rest = flat_map-range f g (a + 1) n (λ k l. h k (omega arith)) in
    ap (λ ys. ys ++ flat_map f (range_with_len (a + 1) n)) (h a (omega arith)) ∙ ap (λ ys. g a ++ ys) rest

pub map-range : {A : Type 0} (f g : ℕ → A) (a n : ℕ) → ((k : ℕ) → k < a + n → f k ≡ g k)
    → map f (range_with_len a n) ≡ map g (range_with_len a n)
map-range f g a zero h = refl
map-range f g a (suc n) h =
    let rest = map-range f g (a + 1) n (λ k l. h k (omega arith)) in
    ap (λ y. y ∷ map f (range_with_len (a + 1) n)) (h a (omega arith)) ∙ ap (λ ys. g a ∷ ys) rest

-- a row with one item more
pub row_more : {A : Type 0} (p : A → Bool) (f : ℕ → A) (n : ℕ) (o o1 o2 : List A)
    → o1 ≡ o ++ filter p (map f (range_with_len 0 n)) → o2 ≡ o1 ++ filter p (f n ∷ [])
    → o2 ≡ o ++ filter p (map f (range_with_len 0 (n + 1)))
row_more p f n o o1 o2 before more =
    more ∙ ap (λ ys. ys ++ filter p (f n ∷ [])) before
    ∙ append_assoc o (filter p (map f (range_with_len 0 n))) (filter p (f n ∷ []))
    ∙ ap (λ ys. o ++ ys) (sym (filter_of_map_range_with_len_more p f 0 n n (omega arith)))

flat_map-range_more : {A : Type 0} (f : ℕ → List A) (a n : ℕ)
    → flat_map f (range_with_len a (suc n)) ≡ flat_map f (range_with_len a n) ++ f (a + n)
flat_map-range_more f a zero = append-nil (f a) ∙ ap f (sym (add-zero a))
flat_map-range_more f a (suc n) =
    let same : a + 1 + n ≡ a + suc n = omega arith in
    ap (λ ys. f a ++ ys) (flat_map-range_more f (a + 1) n)
    ∙ sym (append_assoc (f a) (flat_map f (range_with_len (a + 1) n)) (f (a + 1 + n)))
    ∙ ap (λ k. (f a ++ flat_map f (range_with_len (a + 1) n)) ++ f k) same

-- and with one row more
pub rows_more : {A : Type 0} (f : ℕ → List A) (n : ℕ) (o1 o2 : List A) → o1 ≡ flat_map f (range_with_len 0 n)
    → o2 ≡ o1 ++ f n → o2 ≡ flat_map f (range_with_len 0 (n + 1))
rows_more f n o1 o2 before more =
    let next : n ≡ 0 + n = omega arith in
    let long : suc n ≡ n + 1 = omega arith in
    more ∙ ap (λ ys. ys ++ f n) before
    ∙ ap (λ k. flat_map f (range_with_len 0 n) ++ f k) next
    ∙ sym (flat_map-range_more f 0 n)
    ∙ ap (λ k. flat_map f (range_with_len 0 k)) long

-- Lists: what is found in them, and a list with one more.
use Rattle.std.proofs.Common.{◌≡◌, ℕ, zero, suc, Bool, true, false, ◌&&◌, cond, List, [], ◌∷◌, ◌++◌, map, take, slice_get, All, Option, Some, None, option_map, IfSome, refl, ap, subst, ◌∙◌}
use Rattle.std.specs.List.{find, list_all}
use Rattle.std.specs.Option.{option_or}
use Rattle.std.proofs.lemmas.List.Elements.{All-cons, All-head, All-nil, All-tail}
use Rattle.std.proofs.lemmas.Option.{same_Some}

-- 1. What is found

module _ {A : Type 0} where
  -- tests that agree on a list find the same,
  pub find_agree : (p q : A → Bool) (xs : List A) → All (λ x. p x ≡ q x) xs → find p xs ≡ find q xs
  find_agree p q [] a = refl
  find_agree p q (x ∷ xs) a =
      ap (λ (b : Bool). cond b (Some x) (find p xs)) (All-head (λ y. p y ≡ q y) x xs a)
      ∙ ap (λ (o : Option A). cond (q x) (Some x) o) (find_agree p q xs (All-tail (λ y. p y ≡ q y) x xs a))

  -- and pass for all or not
  pub all_agree : (p q : A → Bool) (xs : List A) → All (λ x. p x ≡ q x) xs → list_all p xs ≡ list_all q xs
  all_agree p q [] a = refl
  all_agree p q (x ∷ xs) a =
      ap (λ (b : Bool). b && list_all p xs) (All-head (λ y. p y ≡ q y) x xs a)
      ∙ ap (λ (b : Bool). q x && b) (all_agree p q xs (All-tail (λ y. p y ≡ q y) x xs a))

  -- what is found passes, and is one of the list
  pub found_passes : (p : A → Bool) (xs : List A) (x : A) → find p xs ≡ Some x → p x ≡ true
  found_passes p [] x e = absurd cc
  found_passes p (y ∷ ys) x e = go (p y) refl (found_passes p ys x) e
    where
      go : (b : Bool) → p y ≡ b → (find p ys ≡ Some x → p x ≡ true) → cond b (Some y) (find p ys) ≡ Some x → p x ≡ true
      go true same others i = subst (λ z. p z ≡ true) (same_Some y x i) same
      go false same others i = others i

  pub all_found : (P : A → Type 0) (p : A → Bool) (xs : List A) → All P xs → IfSome (find p xs) P
  all_found P p [] a = tt
  all_found P p (x ∷ xs) a = go (p x) (all_found P p xs (All-tail P x xs a))
    where
      go : (b : Bool) → IfSome (find p xs) P → IfSome (cond b (Some x) (find p xs)) P
      go true others = All-head P x xs a
      go false others = others

  -- of two that were looked for
  pub either_so : (P : A → Type 0) (a b : Option A) → IfSome a P → IfSome b P → IfSome (option_or a b) P
  either_so P None b h g = g
  either_so P (Some x) b h g = h

  pub found_so : (P : A → Type 0) (o : Option A) (x : A) → IfSome o P → o ≡ Some x → P x
  found_so P None x h e = absurd cc
  found_so P (Some y) x h e = subst P (same_Some y x e) h

  -- what holds of each holds of each by another name
  pub all_so : (P Q : A → Type 0) → ((x : A) → P x → Q x) → (xs : List A) → All P xs → All Q xs
  all_so P Q f [] a = All-nil Q
  all_so P Q f (x ∷ xs) a = All-cons Q x xs (f x (All-head P x xs a)) (all_so P Q f xs (All-tail P x xs a))

module _ {A B : Type 0} (f : A → B) where
  pub find_in_map : (q : B → Bool) (xs : List A) → option_map f (find (λ x. q (f x)) xs) ≡ find q (map f xs)
  find_in_map q [] = refl
  find_in_map q (x ∷ xs) = go (q (f x)) (find_in_map q xs)
    where
      go : (b : Bool) → option_map f (find (λ y. q (f y)) xs) ≡ find q (map f xs)
          → option_map f (cond b (Some x) (find (λ y. q (f y)) xs)) ≡ cond b (Some (f x)) (find q (map f xs))
      go true others = refl
      go false others = others

  pub either_mapped : (a b : Option A) → option_map f (option_or a b) ≡ option_or (option_map f a) (option_map f b)
  either_mapped None b = refl
  either_mapped (Some x) b = refl

-- 2. One more

-- what is so of each front and what stands behind it is so with one more
pub pushed : {A : Type 0} (P : List A → A → Type 0) (xs : List A) (x : A)
    → ((n : ℕ) (y : A) → slice_get xs n ≡ Some y → P (take n xs) y) → P xs x
    → (n : ℕ) (y : A) → slice_get (xs ++ x ∷ []) n ≡ Some y → P (take n (xs ++ x ∷ [])) y
pushed P [] x each here zero y e = subst (λ z. P [] z) (same_Some x y e) here
pushed P [] x each here (suc n) y e = absurd cc
pushed P (z ∷ zs) x each here zero y e = each zero y e
pushed P (z ∷ zs) x each here (suc n) y e = pushed (λ ws u. P (z ∷ ws) u) zs x (λ k u g. each (suc k) u g) here n y e

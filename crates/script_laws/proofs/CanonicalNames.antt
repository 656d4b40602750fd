-- What each name stands for, and which name each lock, channel and thread has: the one list is the other, turned round.
use Rattle.script_laws.proofs.Names
use Names.{inl, inr, ℕ, zero, suc, Bool, true, false, cond, List, [], length, slice_get, Option, Some, None, refl, sym}
use Names.{ap, subst, lookup, nat_eq, and_parts, and_from, false≢true, eqb-true, eq-eqb, none-some, same_Some, is_name}
use Names.{is_same, Declared, Lock, Chan, Thread}
use Rattle.std.proofs.Common.{◌≡◌, ◌⊎◌, ◌∷◌, ◌++◌, ◌∙◌}

-- 1. Same words

pub same_word : (n m : List ℕ) → is_same n m ≡ true → n ≡ m
same_word [] [] e = refl
same_word [] (c ∷ cs) e = absurd (false≢true e)
same_word (b ∷ bs) [] e = absurd (false≢true e)
same_word (b ∷ bs) (c ∷ cs) e =
    let s = and_parts (nat_eq b c) _ e in
    let first : b ≡ c = eqb-true b c s.0 in
    let rest = same_word bs cs s.1 in
    cc (first, rest)

pub is_itself : (n : List ℕ) → is_same n n ≡ true
is_itself [] = refl
is_itself (b ∷ bs) = and_from _ _ (eq-eqb b b refl) (is_itself bs)

-- 2. Lists with one item more

pub get_more : {A : Type 0} (xs : List A) (x : A) (i : ℕ) (y : A) → slice_get (xs ++ x ∷ []) i ≡ Some y
    → (slice_get xs i ≡ Some y) ⊎ ((i ≡ length xs) × (x ≡ y))
get_more [] x zero y e = inr (refl, same_Some x y e)
get_more [] x (suc i) y e = absurd (none-some y e)
get_more (z ∷ xs) x zero y e = inl e
get_more (z ∷ xs) x (suc i) y e = elim (get_more xs x i y e) [ inl q ↦ inl q | inr q ↦ inr (ap suc q.0, q.1) ]

pub get_still : {A : Type 0} (xs ys : List A) (i : ℕ) (y : A) → slice_get xs i ≡ Some y
    → slice_get (xs ++ ys) i ≡ Some y
get_still [] ys i y e = absurd (none-some y e)
get_still (x ∷ xs) ys zero y e = e
get_still (x ∷ xs) ys (suc i) y e = get_still xs ys i y e

pub get_here : {A : Type 0} (xs : List A) (x : A) (ys : List A) → slice_get (xs ++ x ∷ ys) (length xs) ≡ Some x
get_here [] x ys = refl
get_here (y ∷ xs) x ys = get_here xs x ys

-- 3. Names

-- the name of a lock, a channel or a thread, out of their lists
abbrev pub name_in : List (List ℕ) → List (List ℕ) → List (List ℕ) → Declared → Option (List ℕ)
name_in locks chans threads (Lock l) = slice_get locks l.0
name_in locks chans threads (Chan c) = slice_get chans c.0
name_in locks chans threads (Thread t) = slice_get threads t.0

abbrev pub stands_for : List (List ℕ × Declared) → List ℕ → Option Declared
stands_for names n = lookup (is_same n) names

pub record AreNamed (names : List (List ℕ × Declared)) (at : Declared → Option (List ℕ)) : Type 0 where
  pub spelled : (x : Declared) (n : List ℕ) → at x ≡ Some n → is_name n ≡ true
  pub stands : (x : Declared) (n : List ℕ) → at x ≡ Some n → stands_for names n ≡ Some x
  pub named : (x : Declared) (n : List ℕ) → stands_for names n ≡ Some x → at x ≡ Some n

-- with one declaration more
pub record IsMore (at new : Declared → Option (List ℕ)) (x : Declared) (n : List ℕ) : Type 0 where
  pub here : new x ≡ Some n
  pub still : (y : Declared) (m : List ℕ) → at y ≡ Some m → new y ≡ Some m
  pub only : (y : Declared) (m : List ℕ) → new y ≡ Some m → (at y ≡ Some m) ⊎ ((y ≡ x) × (n ≡ m))

lookup_still : (p : List ℕ → Bool) (es : List (List ℕ × Declared)) (e : List ℕ × Declared) (x : Declared)
    → lookup p es ≡ Some x → lookup p (es ++ e ∷ []) ≡ Some x
lookup_still p [] e x q = absurd (none-some x q)
lookup_still p (f ∷ es) e x q = go (p f.0) (lookup_still p es e x) q
  where
    go : (b : Bool) → (lookup p es ≡ Some x → lookup p (es ++ e ∷ []) ≡ Some x)
        → cond b (Some f.1) (lookup p es) ≡ Some x → cond b (Some f.1) (lookup p (es ++ e ∷ [])) ≡ Some x
    go true more q = q
    go false more q = more q

lookup_last : (p : List ℕ → Bool) (es : List (List ℕ × Declared)) (e : List ℕ × Declared) → lookup p es ≡ None
    → lookup p (es ++ e ∷ []) ≡ cond (p e.0) (Some e.1) None
lookup_last p [] e q = refl
lookup_last p (f ∷ es) e q = go (p f.0) (lookup_last p es e) q
  where
    go : (b : Bool) → (lookup p es ≡ None → lookup p (es ++ e ∷ []) ≡ cond (p e.0) (Some e.1) None) → cond b (Some f.1)
        (lookup p es) ≡ None → cond b (Some f.1) (lookup p (es ++ e ∷ [])) ≡ cond (p e.0) (Some e.1) None
    go true more q = absurd (none-some f.1 (sym q))
    go false more q = more q

pub named_more : (names : List (List ℕ × Declared)) (at new : Declared → Option (List ℕ)) (x : Declared) (n : List ℕ)
    → AreNamed names at → stands_for names n ≡ None → is_name n ≡ true → IsMore at new x n
    → AreNamed (names ++ (n, x) ∷ []) new
named_more names at new x n h free name more = record {
  spelled = λ y m e.
      elim (more.only y m e) [ inl q ↦ h.spelled y m q | inr q ↦ subst (λ (z : List ℕ). is_name z ≡ true) q.1 name ];
  stands = λ y m e. elim (more.only y m e) [
    | inl q ↦ lookup_still (is_same m) names (n, x) y (h.stands y m q)
    | inr q ↦ subst (λ (z : List ℕ). stands_for (names ++ (n, x) ∷ []) z ≡ Some y) q.1
        (lookup_last (is_same n) names (n, x) free ∙ rw (is_itself n, q.0) refl)
  ];
  named = λ y m e. go y m (stands_for names m) refl e;
}
  where
    last : (y : Declared) (m : List ℕ) (b : Bool) → is_same m n ≡ b → cond b (Some x) None ≡ Some y → new y ≡ Some m
    last y m true s e = rw (← same_Some x y e, same_word m n s) more.here
    last y m false s e = absurd (none-some y e)

    go : (y : Declared) (m : List ℕ) (o : Option Declared) → stands_for names m ≡ o
        → stands_for (names ++ (n, x) ∷ []) m ≡ Some y → new y ≡ Some m
    go y m None q e = last y m (is_same m n) refl (sym (lookup_last (is_same m) names (n, x) q) ∙ e)
    go y m (Some z) q e =
        let same : z ≡ y = same_Some z y (sym (lookup_still (is_same m) names (n, x) z q) ∙ e) in
        more.still y m (h.named y m (q ∙ ap (λ (d : Declared). Some d) same))

-- where other names are those of a part, what isn't among them is undeclared there
pub undeclared_there : (names part : List (List ℕ × Declared)) (at in_part : Declared → Option (List ℕ))
    → AreNamed names at → AreNamed part in_part
    → ((x : Declared) (n : List ℕ) → in_part x ≡ Some n → at x ≡ Some n) → (x : Declared) (n : List ℕ) → at x ≡ Some n
    → in_part x ≡ None → stands_for part n ≡ None
undeclared_there names part at in_part h g within x n e none = go (stands_for part n) refl
  where
    go : (o : Option Declared) → stands_for part n ≡ o → o ≡ None
    go None q = refl
    go (Some y) q =
        let its : in_part y ≡ Some n = g.named y n q in
        let same : x ≡ y = same_Some x y (sym (h.stands x n e) ∙ h.stands y n (within y n its)) in
        absurd (none-some n (sym none ∙ (rw same its)))

-- a lock, a channel or a thread more
pub more_locks : (ls cs ts : List (List ℕ)) (n : List ℕ)
    → IsMore (name_in ls cs ts) (name_in (ls ++ n ∷ []) cs ts) (Lock (record { 0 = length ls })) n
more_locks ls cs ts n = record { here = get_here ls n []; still = still; only = only }
  where
    still : (y : Declared) (m : List ℕ) → name_in ls cs ts y ≡ Some m → name_in (ls ++ n ∷ []) cs ts y ≡ Some m
    still (Lock l) m e = get_still ls (n ∷ []) l.0 m e
    still (Chan c) m e = e
    still (Thread t) m e = e

    only : (y : Declared) (m : List ℕ) → name_in (ls ++ n ∷ []) cs ts y ≡ Some m
        → (name_in ls cs ts y ≡ Some m) ⊎ ((y ≡ Lock (record { 0 = length ls })) × (n ≡ m))
    only (Lock l) m e =
        elim (get_more ls n l.0 m e) [ inl q ↦ inl q | inr q ↦ inr (ap (λ i. Lock (record { 0 = i })) q.0, q.1) ]
    only (Chan c) m e = inl e
    only (Thread t) m e = inl e

pub more_chans : (ls cs ts : List (List ℕ)) (n : List ℕ)
    → IsMore (name_in ls cs ts) (name_in ls (cs ++ n ∷ []) ts) (Chan (record { 0 = length cs })) n
more_chans ls cs ts n = record { here = get_here cs n []; still = still; only = only }
  where
    still : (y : Declared) (m : List ℕ) → name_in ls cs ts y ≡ Some m → name_in ls (cs ++ n ∷ []) ts y ≡ Some m
    still (Lock l) m e = e
    still (Chan c) m e = get_still cs (n ∷ []) c.0 m e
    still (Thread t) m e = e

    only : (y : Declared) (m : List ℕ) → name_in ls (cs ++ n ∷ []) ts y ≡ Some m
        → (name_in ls cs ts y ≡ Some m) ⊎ ((y ≡ Chan (record { 0 = length cs })) × (n ≡ m))
    only (Lock l) m e = inl e
    only (Chan c) m e =
        elim (get_more cs n c.0 m e) [ inl q ↦ inl q | inr q ↦ inr (ap (λ i. Chan (record { 0 = i })) q.0, q.1) ]
    only (Thread t) m e = inl e

pub more_threads : (ls cs ts : List (List ℕ)) (n : List ℕ)
    → IsMore (name_in ls cs ts) (name_in ls cs (ts ++ n ∷ [])) (Thread (record { 0 = length ts })) n
more_threads ls cs ts n = record { here = get_here ts n []; still = still; only = only }
  where
    still : (y : Declared) (m : List ℕ) → name_in ls cs ts y ≡ Some m → name_in ls cs (ts ++ n ∷ []) y ≡ Some m
    still (Lock l) m e = e
    still (Chan c) m e = e
    still (Thread t) m e = get_still ts (n ∷ []) t.0 m e

    only : (y : Declared) (m : List ℕ) → name_in ls cs (ts ++ n ∷ []) y ≡ Some m
        → (name_in ls cs ts y ≡ Some m) ⊎ ((y ≡ Thread (record { 0 = length ts })) × (n ≡ m))
    only (Lock l) m e = inl e
    only (Chan c) m e = inl e
    only (Thread t) m e =
        elim (get_more ts n t.0 m e) [ inl q ↦ inl q | inr q ↦ inr (ap (λ i. Thread (record { 0 = i })) q.0, q.1) ]

-- The first of the locks that a thread holds: those that a cut thread has left. It gives back the one that it gained
-- last.
use Rattle.run_laws.proofs.Names
use Names.{ℕ, zero, suc, Bool, true, false, cond, eqb, List, [], length, map, take, refl, sym, ap, inl, inr, eq-eqb}
use Names.{subst, ne_eqb, cases_eq, reverse-append, reverse-reverse, length-reverse, length-map, NotHeld, Holds}
use Names.{hold_in, without_lock, Held, HeldLock, gained_order, without_held, Apart, hold_in-push, gained_order-push}
use Names.{gained_order-without}
use Rattle.std.proofs.Common.{◌≡◌, ◌∷◌, ◌++◌, ◌∙◌}
use Rattle.std.specs.Prelude.{reverse}

-- 1. The first of a list

hold_in-take : (n : ℕ) (hs : List Held) (l : ℕ) → hold_in hs l ≡ NotHeld → hold_in (take n hs) l ≡ NotHeld
hold_in-take zero hs l e = refl
hold_in-take (suc n) [] l e = refl
hold_in-take (suc n) (h ∷ hs) l e = go (eqb h.l.0 l) e (hold_in-take n hs l)
  where
    go : (b : Bool) → cond b (Holds h.mode) (hold_in hs l) ≡ NotHeld
        → (hold_in hs l ≡ NotHeld → hold_in (take n hs) l ≡ NotHeld)
        → cond b (Holds h.mode) (hold_in (take n hs) l) ≡ NotHeld
    go true i f = absurd cc
    go false i f = f i

-- no lock stands twice there
pub apart-take : (n : ℕ) (hs : List Held) → Apart hs → Apart (take n hs)
apart-take zero hs a = tt
apart-take (suc n) [] a = tt
apart-take (suc n) (h ∷ hs) a = (hold_in-take n hs h.l.0 a.0, apart-take n hs a.1)

-- what it begins with, the list does
take_prefix : (n : ℕ) (hs xs ys : List Held) → take n hs ≡ xs ++ ys → take (length xs) hs ≡ xs
take_prefix n hs [] ys e = refl
take_prefix zero hs (x ∷ xs) ys e = absurd cc
take_prefix (suc n) [] (x ∷ xs) ys e = absurd cc
take_prefix (suc n) (h ∷ hs) (x ∷ xs) ys e =
    let first : h ≡ x = cc in
    let rest : take n hs ≡ xs ++ ys = cc in
    ap (λ y. y ∷ take (length xs) hs) first ∙ ap (λ zs. x ∷ zs) (take_prefix n hs xs ys rest)

-- as many as are listed
pub length-gained : (hs : List Held) → length (gained_order hs) ≡ length hs
length-gained hs = length-reverse (map (λ (h : Held). record { lock = h.l.0; by_try = h.by_try }) hs)
    ∙ length-map hs (λ (h : Held). record { lock = h.l.0; by_try = h.by_try })

-- 2. The last of a list

-- what a list that ends with h in order of gaining consists of
record EndsWith (hs : List Held) (h : HeldLock) : Type 0 where
  others : List Held
  last : Held
  is : hs ≡ others ++ last ∷ []
  lock : last.l.0 ≡ h.lock

ends_with : (hs : List Held) (h : HeldLock) (rest : List HeldLock) → gained_order hs ≡ h ∷ rest → EndsWith hs h
ends_with hs h rest e = go (reverse hs) (sym (reverse-reverse hs))
  where
    go : (xs : List Held) → hs ≡ reverse xs → EndsWith hs h
    go [] i = absurd (let z : [] ≡ h ∷ rest = ap gained_order (sym i) ∙ e in cc)
    go (x ∷ xs) i =
        let is : hs ≡ reverse xs ++ x ∷ [] = i ∙ reverse-append (x ∷ []) xs in
        let listed = sym (gained_order-push (reverse xs) x) ∙ ap gained_order (sym is) ∙ e in
        record { others = reverse xs; last = x; is = is; lock = cc }

push_held : (hs : List Held) (x : Held) (l : ℕ) → x.l.0 ≡ l → hold_in (hs ++ x ∷ []) l ≡ NotHeld → ⊥
push_held [] x l e n = let z : Holds x.mode ≡ NotHeld = rw (eq-eqb x.l.0 l e) at n in cc
push_held (h ∷ hs) x l e n = go (eqb h.l.0 l) n (push_held hs x l e)
  where
    go : (b : Bool) → cond b (Holds h.mode) (hold_in (hs ++ x ∷ []) l) ≡ NotHeld
        → (hold_in (hs ++ x ∷ []) l ≡ NotHeld → ⊥) → ⊥
    go true i f = cc
    go false i f = f i

apart-last : (hs : List Held) (x : Held) → Apart (hs ++ x ∷ []) → hold_in hs x.l.0 ≡ NotHeld
apart-last [] x a = refl
apart-last (h ∷ hs) x a = elim (cases_eq h.l.0 x.l.0) [
  | inl e ↦ absurd (push_held hs x h.l.0 (sym e) a.0)
  | inr e ↦ rw (ne_eqb h.l.0 x.l.0 e) (apart-last hs x a.1)
]

without-push : (hs : List Held) (x : Held) → hold_in hs x.l.0 ≡ NotHeld → without_lock x.l.0 (hs ++ x ∷ []) ≡ hs
without-push [] x e = rw (eq-eqb x.l.0 x.l.0 refl) refl
without-push (h ∷ hs) x e = go (eqb h.l.0 x.l.0) e (without-push hs x)
  where
    go : (b : Bool) → cond b (Holds h.mode) (hold_in hs x.l.0) ≡ NotHeld
        → (hold_in hs x.l.0 ≡ NotHeld → without_lock x.l.0 (hs ++ x ∷ []) ≡ hs)
        → cond b (hs ++ x ∷ []) (h ∷ without_lock x.l.0 (hs ++ x ∷ [])) ≡ h ∷ hs
    go true i f = absurd cc
    go false i f = ap (λ ys. h ∷ ys) (f i)

-- 3. A thread that has the first n locks left, and gained h last

pub record GivesLast (hs : List Held) (n : ℕ) (h : HeldLock) : Type 0 where
  -- what it has left then, and the lock
  pub others : List Held
  pub last : Held
  pub is : take n hs ≡ others ++ last ∷ []
  pub lock : last.l.0 ≡ h.lock
  pub held : hold_in (take n hs) h.lock ≡ Holds last.mode
  pub without : without_lock h.lock (take n hs) ≡ others
  -- these are the first, as many as are still listed
  pub left : take (length (without_held h.lock (gained_order (take n hs)))) hs ≡ others

pub gives_last : (hs : List Held) (n : ℕ) (h : HeldLock) (rest : List HeldLock) → Apart hs
    → gained_order (take n hs) ≡ h ∷ rest → GivesLast hs n h
gives_last hs n h rest a e = record {
  others = xs;
  last = x;
  is = w.is;
  lock = w.lock;
  held = ap (hold_in (take n hs)) (sym w.lock) ∙ ap (λ (ys : List Held). hold_in ys x.l.0) w.is
      ∙ hold_in-push xs x x.l.0 unheld ∙ ap (λ b. cond b (Holds x.mode) (hold_in xs x.l.0)) (eq-eqb x.l.0 x.l.0 refl);
  without = without;
  left = ap (λ m. take m hs) (ap length (gained_order-without h.lock (take n hs) (apart-take n hs a))
      ∙ length-gained (without_lock h.lock (take n hs)) ∙ ap length without) ∙ take_prefix n hs xs (x ∷ []) w.is;
}
  where
    w : EndsWith (take n hs) h
    w = ends_with (take n hs) h rest e

    xs : List Held
    xs = w.others

    x : Held
    x = w.last

    unheld : hold_in xs x.l.0 ≡ NotHeld
    unheld = apart-last xs x (subst Apart w.is (apart-take n hs a))

    without : without_lock h.lock (take n hs) ≡ xs
    without = ap (λ l. without_lock l (take n hs)) (sym w.lock) ∙ ap (without_lock x.l.0) w.is
        ∙ without-push xs x unheld

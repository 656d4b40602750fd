-- Lists of sleepers in the order of their sleeps, and the best of them.
use Rattle.sleep_laws.proofs.Names
use Names.{ℕ, Bool, true, false, cond, eqb, nat_lt, List, [], map, refl, sym, inl, inr, arith, subst, cases_eq}
use Names.{nat_tests, Config, base_in, entries_up_to, goes_before, Waiter, Lists, chan_queue, times_waiting, without}
use Names.{with_last, better, best_of, taken_off, left_on, QueueName, Entry, put_queue, Each, InOrder}
use Names.{LeavesNobodyBefore, put_chan_same, put_chan_other, each-map}
use Rattle.std.proofs.Common.{◌≡◌, ◌⊎◌, ◌<◌, ◌≤◌, ◌∷◌}

-- a fact of each channel and its queue, where one changes
pub at_put_chan : (P : ℕ → Lists → Type 0) (f : QueueName → Lists) (k : ℕ) (v : Lists) → P k v
    → ((d : ℕ) → P d (f (chan_queue d))) → (d : ℕ) → P d (put_queue f (chan_queue k) v (chan_queue d))
at_put_chan P f k v here there d = elim (cases_eq k d) [
  | inl e ↦ subst (λ j. P j (put_queue f (chan_queue k) v (chan_queue j))) e (rw (put_chan_same f k v) here)
  | inr e ↦ rw (put_chan_other f k v d e) (there d)
]

-- a waiter has slept longer than a thread
abbrev pub SleptLonger : List Entry → ℕ → Waiter → Type 0
SleptLonger es t w = entries_up_to es w.thread < entries_up_to es t

-- a waiter is kept by its base priority
abbrev pub KeepsBase : (ℕ → ℕ) → Waiter → Type 0
KeepsBase base w = w.kept ≡ base w.thread

-- 1. Each of a list

pub each_at : (P : ℕ → Type 0) (u : ℕ) (ws : List Waiter) → Each (λ w. P w.thread) ws
    → 1 ≤ times_waiting u ws → P u
each_at P u [] e l = absurd (omega arith)
each_at P u (w ∷ ws) e l = elim (cases_eq u w.thread) [
  | inl x ↦ subst P (sym x) e.0
  | inr x ↦ each_at P u ws e.1 (grind (arith, nat_tests))
]

pub each_all : (P : Waiter → Type 0) (ws : List Waiter)
    → ((w : Waiter) → 1 ≤ times_waiting w.thread ws → P w) → Each P ws
each_all P ws f = each-map (λ w. Unit {0}) P ws (λ w i u. f w i) (units ws)
  where
    units : (ws : List Waiter) → Each (λ w. Unit {0}) ws
    units [] = tt
    units (w ∷ ws) = (tt, units ws)

each_two : (P Q R : Waiter → Type 0) (ws : List Waiter) → ((w : Waiter) → P w → Q w → R w)
    → Each P ws → Each Q ws → Each R ws
each_two P Q R [] f p q = tt
each_two P Q R (w ∷ ws) f p q = (f w p.0 q.0, each_two P Q R ws f p.1 q.1)

pub each-last : (P : Waiter → Type 0) (w : Waiter) (ws : List Waiter) → P w → Each P ws
    → Each P (with_last w ws)
each-last P w [] p e = (p, tt)
each-last P w (v ∷ vs) p e = (e.0, each-last P w vs p e.1)

pub each-without : (P : Waiter → Type 0) (t : ℕ) (ws : List Waiter) → Each P ws → Each P (without t ws)
each-without P t [] e = tt
each-without P t (w ∷ ws) e = elim (eqb t w.thread) as (λ b. Each P (cond b ws (w ∷ without t ws))) [
  | true ↦ e.1
  | false ↦ (e.0, each-without P t ws e.1)
]

pub each-left : (P : Waiter → Type 0) (all : Bool) (ws : List Waiter) → Each P ws → Each P (left_on all ws)
each-left P true ws e = tt
each-left P false [] e = tt
each-left P false (w ∷ ws) e = each-without P (better w (best_of ws)).thread (w ∷ ws) e

-- 2. Order

module _ (es : List Entry) where
  pub in_order-last : (w : Waiter) (ws : List Waiter) → Each (SleptLonger es w.thread) ws → InOrder es ws
      → InOrder es (with_last w ws)
  in_order-last w [] e o = (tt, tt)
  in_order-last w (v ∷ vs) e o =
      (each-last (λ x. SleptLonger es x.thread v) w vs e.0 o.0, in_order-last w vs e.1 o.1)

  pub in_order-without : (t : ℕ) (ws : List Waiter) → InOrder es ws → InOrder es (without t ws)
  in_order-without t [] o = tt
  in_order-without t (w ∷ ws) o = elim (eqb t w.thread) as (λ b. InOrder es (cond b ws (w ∷ without t ws))) [
    | true ↦ o.1
    | false ↦ (each-without (λ v. SleptLonger es v.thread w) t ws o.0, in_order-without t ws o.1)
  ]

  pub in_order-left : (all : Bool) (ws : List Waiter) → InOrder es ws → InOrder es (left_on all ws)
  in_order-left true ws o = tt
  in_order-left false [] o = tt
  in_order-left false (w ∷ ws) o = in_order-without (better w (best_of ws)).thread (w ∷ ws) o

  -- histories in which the waiters have their entries at the same places give the same order
  pub in_order-map : (fs : List Entry) (ws : List Waiter)
      → Each (λ w. entries_up_to fs w.thread ≡ entries_up_to es w.thread) ws → InOrder es ws → InOrder fs ws
  in_order-map fs [] e o = tt
  in_order-map fs (w ∷ ws) e o =
      let a = e.0 in (
        each_two (λ v. entries_up_to fs v.thread ≡ entries_up_to es v.thread) (λ v. SleptLonger es v.thread w)
            (λ v. SleptLonger fs v.thread w) ws (λ v x y. omega arith) e.1 o.0,
        in_order-map fs ws e.1 o.1,
      )

-- 3. The best

-- w does not go before v
abbrev NotBefore : List Entry → Waiter → Waiter → Type 0
NotBefore es v w =
    (v.kept < w.kept) ⊎ ((v.kept ≡ w.kept) × (entries_up_to es v.thread ≤ entries_up_to es w.thread))

best_first : (es : List Entry) (w : Waiter) (ws : List Waiter) → InOrder es (w ∷ ws)
    → Each (NotBefore es (better w (best_of ws))) (w ∷ ws)
best_first es w [] o = (grind arith, tt)
best_first es w (v ∷ vs) o = go (better v (best_of vs)) _ refl (best_first es v vs o.1)
  where
    go : (b : Waiter) (l : Bool) → nat_lt b.kept w.kept ≡ l → Each (NotBefore es b) (v ∷ vs)
        → Each (NotBefore es (cond l b w)) (w ∷ v ∷ vs)
    go b true e rest = (grind (arith, nat_tests), rest)
    go b false e rest =
        let Longer : Waiter → Type 0 = (λ x. SleptLonger es x.thread w) in (
          grind arith,
          each_two (NotBefore es b) Longer (NotBefore es w) (v ∷ vs) (λ x p q. grind (arith, nat_tests)) rest o.0,
        )

best_has : (P : Waiter → Type 0) (w : Waiter) (ws : List Waiter) → Each P (w ∷ ws) → P (better w (best_of ws))
best_has P w [] p = p.0
best_has P w (v ∷ vs) p =
    let b : Waiter = better v (best_of vs) in
    elim (nat_lt b.kept w.kept) as (λ l. P (cond l b w)) [ true ↦ best_has P v vs p.1 | false ↦ p.0 ]

pub wake_fair : (c : Config) (es : List Entry) (all : Bool) (ws : List Waiter) → InOrder es ws
    → Each (KeepsBase (base_in c es)) ws
    → LeavesNobodyBefore c es all (map (λ w. w.thread) (taken_off all ws)) (left_on all ws)
wake_fair c es true ws o k = refl
wake_fair c es false [] o k = refl
wake_fair c es false (w ∷ ws) o k =
    let b : Waiter = better w (best_of ws) in
    let kept = best_has (KeepsBase (base_in c es)) w ws k in
    let After : Waiter → Type 0 = (λ v. goes_before c es v.thread b.thread ≡ false) in (
      refl,
      each-without After b.thread (w ∷ ws) (each_two (KeepsBase (base_in c es)) (NotBefore es b) After (w ∷ ws)
          (λ v p n. grind (arith, nat_tests)) k (best_first es w ws o)),
    )

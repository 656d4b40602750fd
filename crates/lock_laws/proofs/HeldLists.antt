-- Laws of lists of held locks, and of what a thread's operations in order lead to.
use Rattle.lock_laws.proofs.Names
use Names.{ℕ, zero, suc, Bool, true, false, not, cond, eqb, arith, List, [], length, length-append, map, take}
use Names.{slice_get, Option, Some, None, option_map, refl, sym, ap, inl, inr, eq-eqb, subst, ⊤, unwrap_or, ne_eqb}
use Names.{cases_eq, not-true, eqb-true, eqb-false, ltb-true, and_parts, take_all, append-nil, reverse-append}
use Names.{none-some, same_Some, slice_get-map, slice_get_within, Hold, NotHeld, Holds, is_unheld, most_held, of_locks}
use Names.{wait_tests, channel_test, hold_in, without_lock, is_last, held_after, held_behind, held_through, held_of}
use Names.{is_kind, may_be_held, acquiring_tests, tests_of, operation_tests, IsBlock, next_at, IsProper, lock_kind}
use Names.{chan_lock, operations_of, Test, Passes, where_some, passed, Kind, Mtx, Rw, Sx, LockDecl, ChanDecl, ChanNo}
use Names.{Mode, Excl, Shared, Op, Try, EndTry, Release, Sleep, OfLocks, NoLock, Acquires, ClosesBlock, Releases}
use Names.{EditsAt, ReadsAt, SleepsOn, WakesOn, Plan, Held, LockNo, HeldLock, gained_order, without_held}
use Rattle.std.proofs.Common.{◌≡◌, ◌≢◌, ◌<◌, ◌≤◌, ◌||◌, ◌∷◌, ◌++◌, ◌∙◌}
use Rattle.lock_laws.proofs.Endtries.{at_next}

-- 1. Lists

pub unheld_is : (x : Hold) → is_unheld x ≡ true → x ≡ NotHeld
unheld_is x e = grind arith

pub held_is : (x : Hold) → is_unheld x ≡ false → x ≢ NotHeld
held_is x e n = grind arith

-- a hold that isn't one still isn't, where a lock is released
pub still_unheld : (b : Bool) (x : Hold) → x ≡ NotHeld → cond b NotHeld x ≡ NotHeld
still_unheld true x e = refl
still_unheld false x e = e

-- the first of a list is not the lock
not_first : (b : Bool) (m : Mode) (x : Hold) → cond b (Holds m) x ≡ NotHeld → (b ≡ false) × (x ≡ NotHeld)
not_first true m x e = absurd cc
not_first false m x e = (refl, e)

-- no lock stands twice
abbrev pub Apart : List Held → Type 0
Apart [] = ⊤
Apart (h ∷ hs) = (hold_in hs h.l.0 ≡ NotHeld) × Apart hs

-- the lock that was gained last is held
last_held : (l : ℕ) (hs : List Held) → is_last l hs ≡ true → hold_in hs l ≢ NotHeld
last_held l [] e n = absurd cc
last_held l (h ∷ []) e n =
    let at = (and_parts (eqb h.l.0 l) (not h.by_try) e).0 in
    let z : Holds h.mode ≡ NotHeld = rw at at n in
    cc
last_held l (h ∷ g ∷ hs) e n = last_held l (g ∷ hs) e (not_first (eqb h.l.0 l) h.mode (hold_in (g ∷ hs) l) n).1

-- with one lock more at the end
pub hold_in-push : (hs : List Held) (x : Held) (k : ℕ) → hold_in hs x.l.0 ≡ NotHeld
    → hold_in (hs ++ x ∷ []) k ≡ cond (eqb x.l.0 k) (Holds x.mode) (hold_in hs k)
hold_in-push [] x k e = refl
hold_in-push (h ∷ hs) x k e =
    let f = not_first (eqb h.l.0 x.l.0) h.mode (hold_in hs x.l.0) e in
    elim (cases_eq h.l.0 k) [
      | inl i ↦ rw (eq-eqb h.l.0 k i, ne_eqb x.l.0 k (λ j. eqb-false h.l.0 x.l.0 f.0 (i ∙ sym j))) refl
      | inr i ↦ rw (ne_eqb h.l.0 k i) (hold_in-push hs x k f.1)
    ]

pub apart-push : (hs : List Held) (x : Held) → hold_in hs x.l.0 ≡ NotHeld → Apart hs → Apart (hs ++ x ∷ [])
apart-push [] x e a = (refl, tt)
apart-push (h ∷ hs) x e a =
    let f = not_first (eqb h.l.0 x.l.0) h.mode (hold_in hs x.l.0) e in
    let other : eqb x.l.0 h.l.0 ≡ false = ne_eqb x.l.0 h.l.0 (λ j. eqb-false h.l.0 x.l.0 f.0 (sym j)) in
    (hold_in-push hs x h.l.0 f.1 ∙ rw other a.0, apart-push hs x f.1 a.1)

-- without a lock
pub hold_in-without : (l : ℕ) (hs : List Held) (k : ℕ) → Apart hs
    → hold_in (without_lock l hs) k ≡ cond (eqb l k) NotHeld (hold_in hs k)
hold_in-without l [] k a = same (eqb l k)
  where
    same : (b : Bool) → NotHeld ≡ cond b NotHeld NotHeld
    same true = refl
    same false = refl
hold_in-without l (h ∷ hs) k a =
    elim (cases_eq h.l.0 l) [
      | inl e ↦ rw (eq-eqb h.l.0 l e) (elim (cases_eq l k) [
        | inl i ↦ rw (eq-eqb l k i) (subst (λ j. hold_in hs j ≡ NotHeld) (e ∙ i) a.0)
        | inr i ↦ rw (ne_eqb l k i, ne_eqb h.l.0 k (λ j. i (sym e ∙ j))) refl
      ])
      | inr e ↦ rw (ne_eqb h.l.0 l e) (elim (cases_eq h.l.0 k) [
        | inl i ↦ rw (eq-eqb h.l.0 k i, ne_eqb l k (λ j. e (i ∙ sym j))) refl
        | inr i ↦ rw (ne_eqb h.l.0 k i) (hold_in-without l hs k a.1)
      ])
    ]

pub apart-without : (l : ℕ) (hs : List Held) → Apart hs → Apart (without_lock l hs)
apart-without l [] a = tt
apart-without l (h ∷ hs) a =
    elim (cases_eq h.l.0 l) [
      | inl e ↦ rw (eq-eqb h.l.0 l e) a.1
      | inr e ↦ rw (ne_eqb h.l.0 l e)
          (hold_in-without l hs h.l.0 a.1 ∙ rw (ne_eqb l h.l.0 (λ j. e (sym j))) a.0, apart-without l hs a.1)
    ]

pub fewer_without : (l : ℕ) (hs : List Held) → length (without_lock l hs) ≤ length hs
fewer_without l [] = omega arith
fewer_without l (h ∷ hs) = go (eqb h.l.0 l) (fewer_without l hs)
  where
    go : (b : Bool) → length (without_lock l hs) ≤ length hs
        → length (cond b hs (h ∷ without_lock l hs)) ≤ suc (length hs)
    go true e = omega arith
    go false e = omega (arith, e)

-- the lock that was gained last, and not by a try, stands at the end
pub last_is : (l : LockNo) (mode : Mode) (hs : List Held) → is_last l.0 hs ≡ true → Apart hs
    → hold_in hs l.0 ≡ Holds mode
    → without_lock l.0 hs ++ (record { l = l; mode = mode; by_try = false }) ∷ [] ≡ hs
last_is l mode [] e a i = absurd cc
last_is l mode (h ∷ []) e a i =
    let parts = and_parts (eqb h.l.0 l.0) (not h.by_try) e in
    rw parts.0 (one h (eqb-true h.l.0 l.0 parts.0) (not-true h.by_try parts.1) (rw parts.0 at i))
  where
    one : (x : Held) → x.l.0 ≡ l.0 → x.by_try ≡ false → Holds x.mode ≡ Holds mode
        → (record { l = l; mode = mode; by_try = false }) ∷ [] ≡ x ∷ []
    one x f g m =
        let at : l.0 ≡ x.l.0 = sym f in
        let same : mode ≡ x.mode = cc in
        let by : false ≡ x.by_try = sym g in
        λ i. (record { l = record { 0 = at i }; mode = same i; by_try = by i }) ∷ []
last_is l mode (h ∷ g ∷ hs) e a i =
    let before : hold_in (g ∷ hs) h.l.0 ≡ NotHeld = a.0 in
    let other : eqb h.l.0 l.0
    ≡ false = ne_eqb h.l.0 l.0 (λ j. last_held l.0 (g ∷ hs) e (subst (λ k. hold_in (g ∷ hs) k ≡ NotHeld) j before)) in
    rw other (ap (λ (xs : List Held). h ∷ xs) (last_is l mode (g ∷ hs) e a.1 (rw other at i)))

-- the locks in order of gaining, with one more, and without one

abbrev listed : Held → HeldLock
listed h = record { lock = h.l.0; by_try = h.by_try }

gained_first : (h : Held) (hs : List Held) → gained_order (h ∷ hs) ≡ gained_order hs ++ listed h ∷ []
gained_first h hs = reverse-append (listed h ∷ []) (map listed hs)

pub gained_order-push : (hs : List Held) (x : Held) → gained_order (hs ++ x ∷ []) ≡ listed x ∷ gained_order hs
gained_order-push [] x = refl
gained_order-push (h ∷ hs) x = gained_first h (hs ++ x ∷ []) ∙ ap (λ ys. ys ++ listed h ∷ []) (gained_order-push hs x)
    ∙ ap (λ ys. listed x ∷ ys) (sym (gained_first h hs))

without_held-append : (l : ℕ) (xs ys : List HeldLock)
    → without_held l (xs ++ ys) ≡ without_held l xs ++ without_held l ys
without_held-append l [] ys = refl
without_held-append l (x ∷ xs) ys = go (eqb l x.lock) (without_held-append l xs ys)
  where
    go : (b : Bool) → without_held l (xs ++ ys) ≡ without_held l xs ++ without_held l ys
        → cond b (without_held l (xs ++ ys)) (x ∷ without_held l (xs ++ ys))
        ≡ cond b (without_held l xs) (x ∷ without_held l xs) ++ without_held l ys
    go true e = e
    go false e = ap (λ zs. x ∷ zs) e

without_none : (l : ℕ) (hs : List Held) → hold_in hs l ≡ NotHeld → without_lock l hs ≡ hs
without_none l [] e = refl
without_none l (h ∷ hs) e =
    let f = not_first (eqb h.l.0 l) h.mode (hold_in hs l) e in
    rw f.0 (ap (λ ys. h ∷ ys) (without_none l hs f.1))

pub gained_order-without : (l : ℕ) (hs : List Held) → Apart hs
    → without_held l (gained_order hs) ≡ gained_order (without_lock l hs)
gained_order-without l [] a = refl
gained_order-without l (h ∷ hs) a =
    ap (without_held l) (gained_first h hs) ∙ without_held-append l (gained_order hs) (listed h ∷ [])
    ∙ ap (λ ys. ys ++ without_held l (listed h ∷ [])) (gained_order-without l hs a.1)
    ∙ elim (cases_eq h.l.0 l) [
      | inl e ↦ rw (eq-eqb h.l.0 l e, eq-eqb l h.l.0 (sym e)) (append-nil (gained_order (without_lock l hs))
          ∙ ap gained_order (without_none l hs (subst (λ k. hold_in hs k ≡ NotHeld) e a.0)))
      | inr e ↦ rw (ne_eqb h.l.0 l e, ne_eqb l h.l.0 (λ j. e (sym j))) (sym (gained_first h (without_lock l hs)))
    ]

-- 2. Lists of locks

-- a list of locks of the plan, each once, and a mutex exclusively
pub record AreLocks (plan : Plan) (hs : List Held) : Type 0 where
  pub apart : Apart hs
  pub within : (l : ℕ) → hold_in hs l ≢ NotHeld → l < length plan.locks
  pub mutexes : (l : ℕ) (mode : Mode) → hold_in hs l ≡ Holds mode → lock_kind plan l ≡ Mtx → mode ≡ Excl

none_held : (plan : Plan) → AreLocks plan []
none_held plan = record { apart = tt; within = λ l e. absurd (e refl); mutexes = λ l mode e k. absurd cc }

one_gained : (plan : Plan) (x : Held) (hs : List Held) → x.l.0 < length plan.locks
    → (lock_kind plan x.l.0 ≡ Mtx → x.mode ≡ Excl) → hold_in hs x.l.0 ≡ NotHeld → AreLocks plan hs
    → AreLocks plan (hs ++ x ∷ [])
one_gained plan x hs lock mutex unheld a = record {
  apart = apart-push hs x unheld a.apart;
  within = λ k i. elim (cases_eq x.l.0 k) [
    | inl j ↦ subst (λ m. m < length plan.locks) j lock
    | inr j ↦ a.within k (λ z. i (hold_in-push hs x k unheld ∙ rw (ne_eqb x.l.0 k j) z))
  ];
  mutexes = λ k mode e kind. elim (cases_eq x.l.0 k) [
    | inl j ↦
        let f : Holds x.mode ≡ Holds mode = sym
        (hold_in-push hs x k unheld ∙ ap (λ b. cond b (Holds x.mode) (hold_in hs k)) (eq-eqb x.l.0 k j)) ∙ e in
        let m : x.mode ≡ mode = cc in
        sym m ∙ mutex (ap (lock_kind plan) j ∙ kind)
    | inr j ↦ a.mutexes k mode
        (sym (hold_in-push hs x k unheld ∙ ap (λ b. cond b (Holds x.mode) (hold_in hs k)) (ne_eqb x.l.0 k j)) ∙ e) kind
  ];
}

one_released : (plan : Plan) (l : ℕ) (hs : List Held) → AreLocks plan hs → AreLocks plan (without_lock l hs)
one_released plan l hs a = record {
  apart = apart-without l hs a.apart;
  within = λ k i. a.within k (λ z. i (hold_in-without l hs k a.apart ∙ still_unheld (eqb l k) (hold_in hs k) z));
  mutexes = λ k mode e kind. a.mutexes k mode
      (still (eqb l k) (hold_in hs k) mode (sym (hold_in-without l hs k a.apart) ∙ e)) kind;
}
  where
    still : (b : Bool) (x : Hold) (mode : Mode) → cond b NotHeld x ≡ Holds mode → x ≡ Holds mode
    still true x mode e = absurd cc
    still false x mode e = e

-- 3. What an operation that fits finds and leaves

-- the operation passes its tests on the one list, and leads to the other
pub record Leads (plan : Plan) (op : Op) (hs xs : List Held) : Type 0 where
  pub passes : Passes (operation_tests plan.locks plan.chans op hs)
  pub behind : held_behind op hs ≡ xs

-- What a take or a try of a lock finds. Its lock is one of the plan's and not held, there is room for it, and it is
-- held behind the others. A mutex is gained exclusively.
pub record GainFits (plan : Plan) (l : LockNo) (mode : Mode) (by_try : Bool) (hs xs : List Held) : Type 0 where
  pub lock : l.0 < length plan.locks
  pub mutex : lock_kind plan l.0 ≡ Mtx → mode ≡ Excl
  pub unheld : hold_in hs l.0 ≡ NotHeld
  pub few : length hs < most_held
  pub behind : hs ++ (record { l = l; mode = mode; by_try = by_try }) ∷ [] ≡ xs

-- what a wait on a channel finds
pub record WaitFits (plan : Plan) (d : ℕ) (hs xs : List Held) : Type 0 where
  pub chan : d < length plan.chans
  pub held : hold_in hs (chan_lock plan d) ≢ NotHeld
  pub last : is_last (chan_lock plan d) hs ≡ true
  pub same : hs ≡ xs

slice_get_none : {A : Type 0} (xs : List A) (i : ℕ) → slice_get xs i ≡ None → i < length xs → ⊥
slice_get_none [] i e l = absurd (omega arith)
slice_get_none (x ∷ xs) zero e l = absurd (none-some x (sym e))
slice_get_none (x ∷ xs) (suc i) e l = slice_get_none xs i e (omega arith)

abbrev kind_in : Option LockDecl → Option Kind
kind_in o = option_map (λ d. d.kind) o

module _ (plan : Plan) where
  -- a lock that may be held shared is one of the plan's, and no mutex
  may_be_held_so : (l : LockNo) (mode : Mode) → may_be_held plan.locks mode l ≡ true
      → (l.0 < length plan.locks) × (lock_kind plan l.0 ≡ Mtx → mode ≡ Excl)
  may_be_held_so l Excl e = (ltb-true l.0 (length plan.locks) e, λ k. refl)
  may_be_held_so l Shared e = go (slice_get plan.locks l.0) refl e
    where
      go : (o : Option LockDecl) → slice_get plan.locks l.0 ≡ o → (is_kind Rw (kind_in o) || is_kind Sx (kind_in o))
          ≡ true → (l.0 < length plan.locks) × (lock_kind plan l.0 ≡ Mtx → Shared ≡ Excl)
      go None i f = absurd cc
      go (Some d) i f = (
        slice_get_within plan.locks l.0 d i,
        λ m.
            let k : d.kind ≡ Mtx = sym (ap (λ (o : Option Kind). unwrap_or o Mtx)
            (slice_get-map (λ (x : LockDecl). x.kind) plan.locks l.0 ∙ ap kind_in i)) ∙ m in
            absurd (let z : (false || false) ≡ true = rw k at f in cc),
      )

  pub gain_passes : (l : LockNo) (mode : Mode) (by_try : Bool) (hs xs : List Held)
      → Passes (acquiring_tests plan.locks l mode hs) → hs ++ (record { l = l; mode = mode; by_try = by_try }) ∷ [] ≡ xs
      → GainFits plan l mode by_try hs xs
  gain_passes l mode by_try hs xs e behind =
      let room = passed _ _ e in
      let kind = passed _ _ room.1 in
      let free = passed _ _ kind.1 in
      let so = may_be_held_so l mode kind.0 in
      record {
        lock = so.0;
        mutex = so.1;
        unheld = unheld_is (hold_in hs l.0) free.0;
        few = ltb-true (length hs) most_held room.0;
        behind = behind;
      }

  pub release_fits : (l : LockNo) (hs xs : List Held) → Leads plan (Release l) hs xs
      → (hold_in hs l.0 ≢ NotHeld) × (without_lock l.0 hs ≡ xs)
  release_fits l hs xs f =
      (λ z. let t = (passed _ _ f.passes).0 in let u = ap (λ (x : Hold). not (is_unheld x)) z in cc, f.behind)

  -- A wait's channel is one of the plan's. Its lock is held, and was gained last and not by a try; the wait leaves what
  -- is held.
  pub wait_fits : (d : ChanNo) (hs xs : List Held) → Leads plan (Sleep d) hs xs → WaitFits plan d.0 hs xs
  wait_fits d hs xs f = go (slice_get plan.chans d.0) refl (passed _ _ f.passes).1
    where
      go : (o : Option ChanDecl) → slice_get plan.chans d.0 ≡ o
          → Passes (where_some (λ (x : ChanDecl). wait_tests plan.locks x.lock hs) o) → WaitFits plan d.0 hs xs
      go None i q =
          let lt = ltb-true d.0 (length plan.chans) (passed _ _ f.passes).0 in
          absurd (slice_get_none plan.chans d.0 i lt)
      go (Some x) i q =
          let lock : x.lock.0 ≡ chan_lock plan d.0 = sym (ap (λ (o : Option ℕ). unwrap_or o 0) (slice_get-map
          (λ (x : ChanDecl). x.lock.0) plan.chans d.0 ∙ ap (option_map (λ (x : ChanDecl). x.lock.0)) i)) in
          let held = passed _ _ q in
          let last = passed _ _ (passed _ _ held.1).1 in
          record {
            chan = ltb-true d.0 (length plan.chans) (passed _ _ f.passes).0;
            held = λ z. held_is (hold_in hs x.lock.0) (not-true _ held.0) (ap (hold_in hs) lock ∙ z);
            last = ap (λ l. is_last l hs) (sym lock) ∙ last.0;
            same = f.behind;
          }

  -- a wake's channel is one of the plan's
  pub wake_fits : (d : ChanNo) (tests : List Test) → Passes (channel_test plan.chans d ∷ tests)
      → d.0 < length plan.chans
  wake_fits d tests e = ltb-true d.0 (length plan.chans) (passed _ _ e).0

  leads_locks : (op : Op) (hs xs : List Held) → Leads plan op hs xs → AreLocks plan hs → AreLocks plan xs
  leads_locks op hs xs f a = subst (AreLocks plan) f.behind (go (of_locks op) f.passes)
    where
      go : (o : OfLocks) → Passes (tests_of plan.locks plan.chans o hs) → AreLocks plan (held_after o hs)
      go NoLock e = a
      go (Acquires h) e =
          let g = gain_passes h.l h.mode h.by_try hs _ e refl in
          one_gained plan h hs g.lock g.mutex g.unheld a
      go ClosesBlock e = a
      go (Releases l) e = one_released plan l.0 hs a
      go (EditsAt l key) e = a
      go (ReadsAt l key) e = a
      go (SleepsOn c) e = a
      go (WakesOn c) e = a

  leads_few : (op : Op) (hs xs : List Held) → Leads plan op hs xs → length hs ≤ most_held → length xs ≤ most_held
  leads_few op hs xs f few = subst (λ (ys : List Held). length ys ≤ most_held) f.behind (go (of_locks op) f.passes)
    where
      go : (o : OfLocks) → Passes (tests_of plan.locks plan.chans o hs) → length (held_after o hs) ≤ most_held
      go NoLock e = few
      go (Acquires h) e =
          omega (arith, ltb-true (length hs) most_held (passed _ _ e).0, length-append hs (h ∷ []))
      go ClosesBlock e = few
      go (Releases l) e = omega (arith, fewer_without l.0 hs, few)
      go (EditsAt l key) e = few
      go (ReadsAt l key) e = few
      go (SleepsOn c) e = few
      go (WakesOn c) e = few

-- 4. What a thread's first operations lead to

-- one operation more
held_through-next : (ops : List Op) (hs : List Held) (n : ℕ) (op : Op) → slice_get ops n ≡ Some op
    → held_through (take (suc n) ops) hs ≡ held_behind op (held_through (take n ops) hs)
held_through-next [] hs n op e = absurd (none-some op e)
held_through-next (o ∷ ops) hs zero op e = ap (λ (x : Op). held_behind x hs) (same_Some o op e)
held_through-next (o ∷ ops) hs (suc n) op e = held_through-next ops (held_behind o hs) n op e

-- and none
held_through-past : (ops : List Op) (hs : List Held) (n : ℕ) → slice_get ops n ≡ None
    → held_through (take (suc n) ops) hs ≡ held_through (take n ops) hs
held_through-past [] hs zero e = refl
held_through-past [] hs (suc n) e = refl
held_through-past (o ∷ ops) hs zero e = absurd (none-some o (sym e))
held_through-past (o ∷ ops) hs (suc n) e = held_through-past ops (held_behind o hs) n e

-- where a thread goes on behind endtrys it holds what it held before them,
pub next_holds : (ops : List Op) (n : ℕ) → held_of ops (next_at ops n) ≡ held_of ops n
next_holds ops n =
    at_next (λ m. held_of ops m ≡ held_of ops n) ops n (λ m e i. held_through-next ops [] m EndTry e ∙ i) refl

-- and has no more operations behind it than it has
pub next_within : (ops : List Op) (n : ℕ) → n ≤ length ops → next_at ops n ≤ length ops
next_within ops n l = at_next (λ m. m ≤ length ops) ops n (λ m e i. omega (arith, slice_get_within ops m EndTry e)) l

-- A busy try goes on behind its block: further on, and the thread holds what it held before the try.
pub record PassesBlock (ops : List Op) (n past : ℕ) : Type 0 where
  pub further : n < past
  pub within : past ≤ length ops
  pub leaves : held_of ops past ≡ held_of ops n

passes_block : (ops : List Op) (n past : ℕ) → IsBlock ops n past → PassesBlock ops n past
passes_block ops n past b = record {
  further = omega (arith, b.behind, b.goes_on);
  within = omega (arith, slice_get_within ops b.end EndTry b.endtry, b.goes_on);
  leaves = ap (held_of ops) b.goes_on ∙ held_through-next ops [] b.end EndTry b.endtry ∙ b.leaves;
}

module _ (plan : Plan) (p : IsProper plan) (t : ℕ) where
  abbrev ops : List Op
  ops = operations_of plan t

  abbrev held : ℕ → List Held
  held n = held_of ops n

  -- a thread's next operation passes its tests, and leads on
  pub next_leads : (n : ℕ) (op : Op) → slice_get ops n ≡ Some op → Leads plan op (held n) (held (suc n))
  next_leads n op e = record { passes = (p.fits t).each n op e; behind = sym (held_through-next ops [] n op e) }

  pub held_are_locks : (n : ℕ) → AreLocks plan (held n)
  held_are_locks zero = none_held plan
  held_are_locks (suc n) = go (slice_get ops n) refl (held_are_locks n)
    where
      go : (o : Option Op) → slice_get ops n ≡ o → AreLocks plan (held n) → AreLocks plan (held (suc n))
      go (Some op) e a = leads_locks plan op (held n) (held (suc n)) (next_leads n op e) a
      go None e a = subst (AreLocks plan) (sym (held_through-past ops [] n e)) a

  -- a busy try goes on behind its block
  pub try_passes : (n : ℕ) (l : LockNo) (mode : Mode) (past : ℕ) → slice_get ops n ≡ Some (Try l mode past)
      → PassesBlock ops n past
  try_passes n l mode past e = passes_block ops n past ((p.fits t).blocks n l mode past e)

  -- behind all of them nothing is held
  pub held_none : (n : ℕ) → length ops ≤ n → held n ≡ []
  held_none n l = ap (λ (os : List Op). held_through os [])
      (take_all n ops l ∙ sym (take_all (length ops) ops (omega arith))) ∙ (p.fits t).released

  -- and they are few
  pub held_few : (n : ℕ) → length (held n) ≤ most_held
  held_few zero = omega arith
  held_few (suc n) = go (slice_get ops n) refl (held_few n)
    where
      go : (o : Option Op) → slice_get ops n ≡ o → length (held n) ≤ most_held → length (held (suc n)) ≤ most_held
      go (Some op) e few = leads_few plan op (held n) (held (suc n)) (next_leads n op e) few
      go None e few = subst (λ (hs : List Held). length hs ≤ most_held) (sym (held_through-past ops [] n e)) few

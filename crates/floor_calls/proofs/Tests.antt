-- Nothing stands against a call exactly where it may be made.
use Rattle.floor_calls.proofs.Names
use Names.{ℕ, Bool, true, false, List, [], length, Option, Some, None, refl, sym, subst, arith, lock_of, config_in}
use Names.{Hold, NotHeld, Holds, most_held, hold_in, is_turnstile, HeldLock, LockNo, Kind, Mtx, Mode, Excl, Says}
use Names.{causes, held_by, MayCall, IsFirst, none, here, later, KeepsRoom, IsInCall, Thread, InCall, HoldsUnsleepable}
use Names.{HoldsMost, Request, Take, Try, Release, Edit, Read, SetBase, Show, WakeUp, Wait, End, GoOn, Stage}
use Rattle.std.proofs.Common.{◌≡◌, ◌≢◌, ◌≤◌, ◌∷◌, ◌++◌, ◌∙◌}
use Rattle.lock_model.specs.declared.plan.Mode.TheVariants.{Shared}
use Rattle.floor_calls.proofs.Numbers.{at_most, below, is_there}
use Rattle.floor_calls.proofs.Room.{room_to_release}
use Rattle.floor_calls.proofs.Sleepable.{none_by_lock, none_of}
use Rattle.floor_calls.specs.declared.requests.Cause.TheVariants.{Ended, Held}
use Rattle.floor_calls.specs.declared.stages.Stage.TheVariants as stages

-- 1. The first cause that is so is one

pub first_is_one : {A : Type 0} {So : A → Type 0} {xs : List A} {a b : Option A} → IsFirst So xs a → IsFirst So xs b
    → a ≡ b
first_is_one none none = refl
first_is_one (here s) (here t) = refl
first_is_one (here s) (later n rest) = absurd (n s)
first_is_one (later n rest) (here s) = absurd (n s)
first_is_one (later m more) (later n rest) = first_is_one more rest

-- 2. What is so where a cause isn't

at_rest : (s : Stage) → (s ≡ stages.Ended → ⊥) → (IsInCall s → ⊥) → s ≡ stages.AtRest
at_rest stages.AtRest e c = refl
at_rest stages.Takes e c = absurd (c tt)
at_rest stages.Tries e c = absurd (c tt)
at_rest stages.Releases e c = absurd (c tt)
at_rest (stages.ComesToWake d all) e c = absurd (c tt)
at_rest stages.Wakes e c = absurd (c tt)
at_rest (stages.Waits on at) e c = absurd (c tt)
at_rest (stages.ComesToGiveUp on) e c = absurd (c tt)
at_rest (stages.GivesUp on at) e c = absurd (c tt)
at_rest (stages.TakesBack on aborted at) e c = absurd (c tt)
at_rest (stages.Ends at) e c = absurd (c tt)
at_rest stages.Ended e c = absurd (e refl)

in_call : (s : Stage) → (s ≡ stages.Ended → ⊥) → (s ≡ stages.AtRest → ⊥) → IsInCall s
in_call stages.AtRest e r = r refl
in_call stages.Takes e r = tt
in_call stages.Tries e r = tt
in_call stages.Releases e r = tt
in_call (stages.ComesToWake d all) e r = tt
in_call stages.Wakes e r = tt
in_call (stages.Waits on at) e r = tt
in_call (stages.ComesToGiveUp on) e r = tt
in_call (stages.GivesUp on at) e r = tt
in_call (stages.TakesBack on aborted at) e r = tt
in_call (stages.Ends at) e r = tt
in_call stages.Ended e r = absurd (e refl)

has_mode : (kind : Kind) (mode : Mode) → ((kind ≡ Mtx) × (mode ≡ Shared) → ⊥) → kind ≡ Mtx → mode ≡ Excl
has_mode kind Excl n is = refl
has_mode kind Shared n is = absurd (n (is, refl))

is_unheld : (h : Hold) → ((mode : Mode) × (h ≡ Holds mode) → ⊥) → h ≡ NotHeld
is_unheld NotHeld n = refl
is_unheld (Holds mode) n = absurd (n (mode, refl))

is_held : (h : Hold) (mode : Mode) → (h ≢ Holds mode → ⊥) → h ≡ Holds mode
is_held NotHeld mode n = absurd (n (λ e. cc))
is_held (Holds Excl) Excl n = refl
is_held (Holds Excl) Shared n = absurd (n (λ e. cc))
is_held (Holds Shared) Excl n = absurd (n (λ e. cc))
is_held (Holds Shared) Shared n = refl

is_bare : (hs : List HeldLock) → (hs ≢ [] → ⊥) → hs ≡ []
is_bare [] n = refl
is_bare (h ∷ hs) n = absurd (n (λ e. cc))

is_true : (b : Bool) → (b ≡ false → ⊥) → b ≡ true
is_true true n = refl
is_true false n = absurd (n refl)

-- the lock is a mutex or a reader-writer lock
abbrev is_mutex_or_rw : Thread → ℕ → Type 0
is_mutex_or_rw x k = is_turnstile ((config_in x.floor.description).kind k) ≡ true

-- and another than that one
abbrev is_another : Thread → ℕ → ℕ → Type 0
is_another x l k = is_mutex_or_rw x k × (k ≢ l)

-- 3. And what isn't, where the call may be made

module _ (x : Thread) (rest : x.stage ≡ stages.AtRest) where
  unended : x.stage ≡ stages.Ended → ⊥
  unended is = let z : stages.AtRest ≡ stages.Ended = sym rest ∙ is in cc

  idle : IsInCall x.stage → ⊥
  idle is = subst IsInCall rest is

-- 4. Both

-- a take, and a try likewise
gain_may : (l : LockNo) (mode : Mode) (x : Thread) → IsFirst (λ c. Says c x) (causes (Take l mode)) None
    → MayCall (Take l mode) x
gain_may l mode x (later e (later c (later nl (later m (later h (later u (later f (later s none)))))))) = (
  at_rest x.stage e c,
  record {
    covered = record { lock = below _ _ nl; mutex = has_mode _ mode (λ s. m (below _ _ nl, s.0, s.1)) };
    unheld = is_unheld _ h;
    few = below _ _ f;
    room = omega (arith, s);
  },
  λ sx k is. none_of (is_mutex_or_rw x) (held_by x) k (λ one. u (sx, one)) is,
  omega (arith, s),
)

gain_none : (l : LockNo) (mode : Mode) (x : Thread) → MayCall (Take l mode) x
    → IsFirst (λ c. Says c x) (causes (Take l mode)) None
gain_none l mode x m =
    later (unended x m.0) (later (idle x m.0)
    (later (λ nl. omega (arith, nl, m.1.covered.lock))
    (later (λ s. let e : Excl ≡ Shared = sym (m.1.covered.mutex s.1) ∙ s.2 in cc)
    (later (λ h. let e : NotHeld ≡ Holds h.0 = sym m.1.unheld ∙ h.1 in cc)
    (later (λ u. none_by_lock (is_mutex_or_rw x) (held_by x) (m.2 u.0) u.1)
    (later (λ f. omega (arith, f, m.1.few))
    (later (λ s. omega (arith, s, m.3)) none)))))))

pub none_may : (request : Request) (x : Thread) → KeepsRoom x.stage x.pass
    → IsFirst (λ c. Says c x) (causes request) None → MayCall request x
none_may (Take l mode) x r first = gain_may l mode x first
none_may (Try l mode) x r first = gain_may l mode x first
none_may (Release l mode) x r (later e (later c (later nl (later m (later h none))))) = (
  at_rest x.stage e c,
  record {
    covered = record { lock = below _ _ nl; mutex = has_mode _ mode (λ s. m (below _ _ nl, s.0, s.1)) };
    held = is_held _ mode h;
    room = room_to_release x.pass.view l.0 mode (is_held _ mode h)
        (subst (λ s. KeepsRoom s x.pass) (at_rest x.stage e c) r);
  },
)
none_may (Edit cell change) x r (later e (later c (later nc (later h (later s none))))) =
    (at_rest x.stage e c, record { of_floor = is_there _ _ nc; held = is_held _ Excl h; room = omega (arith, s) })
none_may (Read cell) x r (later e (later c (later nc (later u (later s none))))) =
    (at_rest x.stage e c, record { of_floor = is_there _ _ nc; held = u; room = omega (arith, s) })
none_may (SetBase prio) x r (later e (later c (later s none))) = (at_rest x.stage e c, omega (arith, s))
none_may Show x r (later e (later c (later s none))) = (at_rest x.stage e c, omega (arith, s))
none_may (WakeUp d all) x r (later e (later c (later nc (later s none)))) =
    (at_rest x.stage e c, record { chan = below _ _ nc; room = omega (arith, s) }, omega (arith, s))
none_may (Wait d) x r (later e (later c (later nc (later nl (later o (later h (later s none))))))) = (
  at_rest x.stage e c,
  record {
    chan = below _ _ nc;
    last = is_true _ nl;
    sleepable = λ k other is. none_of (is_another x (lock_of x.floor.description d.0)) (held_by x) k o (is, other);
    few = at_most _ _ h;
    room = omega (arith, s);
  },
  omega (arith, s),
)
none_may End x r (later e (later c (later h none))) = (at_rest x.stage e c, is_bare (held_by x) h)
none_may GoOn x r (later e (later n none)) = in_call x.stage e n

pub may_none : (request : Request) (x : Thread) → MayCall request x → IsFirst (λ c. Says c x) (causes request) None
may_none (Take l mode) x m = gain_none l mode x m
may_none (Try l mode) x m = gain_none l mode x m
may_none (Release l mode) x m =
    later (unended x m.0) (later (idle x m.0)
    (later (λ nl. omega (arith, nl, m.1.covered.lock))
    (later (λ s. let e : Excl ≡ Shared = sym (m.1.covered.mutex s.1) ∙ s.2 in cc)
    (later (λ h. h m.1.held) none))))
may_none (Edit cell change) x m =
    later (unended x m.0) (later (idle x m.0)
    (later (λ nc. nc m.1.of_floor)
    (later (λ h. h m.1.held)
    (later (λ s. omega (arith, s, m.1.room)) none))))
may_none (Read cell) x m =
    later (unended x m.0) (later (idle x m.0)
    (later (λ nc. nc m.1.of_floor)
    (later m.1.held
    (later (λ s. omega (arith, s, m.1.room)) none))))
may_none (SetBase prio) x m =
    later (unended x m.0) (later (idle x m.0) (later (λ s. omega (arith, s, m.1)) none))
may_none Show x m =
    later (unended x m.0) (later (idle x m.0) (later (λ s. omega (arith, s, m.1)) none))
may_none (WakeUp d all) x m =
    later (unended x m.0) (later (idle x m.0)
    (later (λ nc. omega (arith, nc, m.1.chan))
    (later (λ s. omega (arith, s, m.2)) none)))
may_none (Wait d) x m =
    later (unended x m.0) (later (idle x m.0)
    (later (λ nc. omega (arith, nc, m.1.chan))
    (later (λ nl. let z : true ≡ false = sym m.1.last ∙ nl in cc)
    (later (λ o. none_by_lock (is_another x (lock_of x.floor.description d.0)) (held_by x)
    (λ k is. m.1.sleepable k is.1 is.0) o)
    (later (λ h. omega (arith, h, m.1.few))
    (later (λ s. omega (arith, s, m.2)) none))))))
may_none End x m = later (unended x m.0) (later (idle x m.0) (later (λ h. h m.1) none))
may_none GoOn x m = later (λ e. subst IsInCall e m) (later (λ r. subst IsInCall r m) none)

-- what wasn't found isn't so

pub unsaid : {So : Type 0} {b : Bool} → (b ≡ true → So) × (So → b ≡ true) → b ≡ false → So → ⊥
unsaid tested untrue so = let z : true ≡ false = sym (tested.1 so) ∙ untrue in cc

-- a cause that was tested: where it is so it is the first of all, and else what is found behind it is

pub at_first : {A : Type 0} {So : A → Type 0} {x : A} {xs : List A} {b : Bool} → (b ≡ true → So x) × (So x → b ≡ true)
    → b ≡ true → IsFirst So (x ∷ xs) (Some x)
at_first tested said = here (tested.0 said)

pub behind : {A : Type 0} {So : A → Type 0} {x : A} {xs : List A} {found : Option A} {b : Bool}
    → (b ≡ true → So x) × (So x → b ≡ true) → b ≡ false → IsFirst So xs found → IsFirst So (x ∷ xs) found
behind tested untrue rest = later (unsaid tested untrue) rest

-- causes that were tested together: where one of them is so the first of these is the first of all, and else what is
-- found behind them is

pub within : {A : Type 0} {So : A → Type 0} {xs : List A} {x : A} (ys : List A) → IsFirst So xs (Some x)
    → IsFirst So (xs ++ ys) (Some x)
within ys (here so) = here so
within ys (later not_so rest) = later not_so (within ys rest)

pub past : {A : Type 0} {So : A → Type 0} {xs ys : List A} {found : Option A} → IsFirst So xs None → IsFirst So ys found
    → IsFirst So (xs ++ ys) found
past none rest = rest
past (later not_so more) rest = later not_so (past more rest)

-- what a thread that is at rest, or that holds nothing, needn't be tested for

pub at_ease : (x : Thread) → x.stage ≡ stages.AtRest → IsFirst (λ c. Says c x) (Ended ∷ InCall ∷ []) None
at_ease x rest = later (unended x rest) (later (idle x rest) none)

pub busy : (x : Thread) → (x.stage ≡ stages.AtRest → ⊥) → (x.stage ≡ stages.Ended → ⊥)
    → IsFirst (λ c. Says c x) (Ended ∷ InCall ∷ []) (Some InCall)
busy x rest e = later e (here (in_call x.stage e rest))

pub empty_handed : (x : Thread) (l : LockNo) → (held_by x ≢ [] → ⊥)
    → IsFirst (λ c. Says c x) (Held l ∷ HoldsUnsleepable l ∷ HoldsMost ∷ []) None
empty_handed x l n =
    let bare = is_bare (held_by x) n in
    later (λ h. let e : NotHeld ≡ Holds h.0 = subst (λ hs. hold_in hs l.0 ≡ Holds h.0) bare h.1 in cc)
    (later (λ u. none_by_lock (is_mutex_or_rw x) (held_by x)
    (λ k is. subst (λ hs. hold_in hs k ≡ NotHeld) (sym bare) refl) u.1)
    (later (λ f. let e : most_held ≤ 0 = subst (λ hs. most_held ≤ length hs) bare f in omega (arith, e)) none))

-- A turn is idle exactly where its thread sleeps, and ended exactly where the thread has ended; both change nothing.
-- So a round that was idle throughout leaves each thread that hasn't ended on a queue.
use Rattle.run_laws.proofs.Names
use Names.{ℕ, zero, suc, Bool, true, false, not, cond, nat_le, List, [], length, filter, slice_get, Option, Some, None}
use Names.{refl, sym, ap, inl, inr, arith, subst, range_with_len, cases_eq, and_parts, or_left, or_right, le-leb}
use Names.{none-some, slice_get_cases, slice_get_within, any_below, is_empty, one, Config, config_of, operations_of}
use Names.{IsProper, hold_in, Hold, NotHeld, is_unheld, Mark, stands, State, Queued, gained_order, LawfulTurn}
use Names.{QueuedStands, StandsOnce, times_marked, at_queue, Run, Action, Course, nothing, turn_of, run_behind}
use Names.{run_after, has_ended, was_cut, owes, waits_on, lock_of_wait, is_walking, holds_none, round_of, threads_of}
use Names.{with_turn, after_turn, go_on, is_over, is_stuck, is_idle, course_after, without_unheld, held_now, Plan}
use Names.{QueueName, StepKind, Turn, Did, Idle, Ended, Held, IsOnTrack, OwesNothing, IsCutShort, IsAtOperation}
use Names.{IsSleeping, admitted, sum_below-zero, is_queue_same, held_none}
use Rattle.std.proofs.Common.{◌≡◌, ◌⊎◌, ◌↔◌, ◌+◌, ◌<◌, ◌≤◌, ◌&&◌, ◌||◌, ◌∷◌, ◌∙◌}
use Rattle.run_laws.proofs.LastHeld.{length-gained}
use Rattle.run_laws.proofs.Turning.{behind_course}
use Rattle.run_laws.proofs.Actions as actions

-- 1. A turn

nowhere-any_below : (n : ℕ) (f : ℕ → Bool) → ((j : ℕ) → f j ≡ false) → any_below n f ≡ false
unfolding any_below
nowhere-any_below zero f h = refl
nowhere-any_below (suc n) f h = rw (h n) (nowhere-any_below n f h)

-- a thread that owes and holds nothing has ended, where it has no operation left or was cut
empty_ended : (plan : Plan) (r : Run) (t : ℕ) → IsOnTrack plan r → OwesNothing plan r t
    → (nat_le (length (operations_of plan t)) (r.next_op t) || was_cut r.state t) ≡ true
    → held_now plan r t ≡ [] → has_ended plan r t ≡ true
unfolding has_ended
empty_ended plan r t k f over e =
    let unheld : (l : ℕ) → r.state.held t l ≡ NotHeld = λ l. k.holds t l ∙ ap (λ (hs : List Held). hold_in hs l) e in
    let none = nowhere-any_below (length plan.locks) (λ l. not (is_unheld (r.state.held t l)))
    (λ l. ap (λ (x : Hold). not (is_unheld x)) (unheld l)) in
    rw (over, f.no_walk, f.unmarked, f.released, none) refl

-- a thread of a proper plan that has no operation left holds nothing,
none_left : (plan : Plan) (r : Run) (t : ℕ) → slice_get (operations_of plan t) (r.next_op t) ≡ None
    → length (operations_of plan t) ≤ r.next_op t
none_left plan r t e = elim (slice_get_cases (operations_of plan t)
    (r.next_op t)).1 [ inl z ↦ absurd (none-some z.0 (sym e ∙ z.2)) | inr z ↦ z.0 ]

without_none : (held : ℕ → Hold) (o : Option ℕ) → without_unheld held o [] ≡ []
without_none held o = grind arith

no_operation_left : (plan : Plan) (r : Run) (t : ℕ) → IsProper plan → IsOnTrack plan r → IsAtOperation plan r t None
    → has_ended plan r t ≡ true
no_operation_left plan r t p k i =
    let left = none_left plan r t i.next in
    empty_ended plan r t k i.free (or_left _ _ (le-leb (length (operations_of plan t)) (r.next_op t) left))
    (rw (i.uncut, held_none plan p t (r.next_op t) left)
    (without_none (r.state.held t) (lock_of_wait (config_of plan) r.state t)))

-- and so does one whose list of held locks is empty
none_listed : (hs : List Held) → gained_order hs ≡ [] → hs ≡ []
none_listed [] e = refl
none_listed (h ∷ hs) e = absurd (omega (arith, ap length e, length-gained (h ∷ hs)))

nothing_left : (plan : Plan) (r : Run) (t : ℕ) → IsOnTrack plan r → IsCutShort plan r t → r.state.held_locks t ≡ []
    → has_ended plan r t ≡ true
nothing_left plan r t k i e =
    empty_ended plan r t k i.free (or_right _ _ i.cut) (none_listed (held_now plan r t) (sym (k.listed t) ∙ e))

-- a thread that has ended has no marked list
pub ended_unmarked : (plan : Plan) (r : Run) (t : ℕ) → has_ended plan r t ≡ true → r.state.marked t ≡ []
unfolding has_ended
ended_unmarked plan r t e =
    let free = not (owes (config_of plan) r.state t) in
    let over = nat_le (length (operations_of plan t)) (r.next_op t) || was_cut r.state t in
    let first = (and_parts (over && free) (holds_none (config_of plan) r.state t) e).0 in
    go (r.state.marked t) (is_walking (r.state.walk t)) _ (and_parts over free first).1
  where
    go : (ms : List Mark) (w owed : Bool) → not (w || not (is_empty ms) || owed) ≡ true → ms ≡ []
    go ms w owed i = grind arith

-- what an action answers: that the thread has ended; that it is idle, and then it sleeps in a proper plan's run on
-- track; or what it did
data Answers (plan : Plan) (r : Run) (t : ℕ) (action : Action) : Type 0 where
  ended : action ≡ nothing Ended → has_ended plan r t ≡ true → Answers plan r t action
  idles : action ≡ nothing Idle → (IsProper plan → IsOnTrack plan r → IsSleeping plan r t) → Answers plan r t action
  acts : (kind : StepKind) → action.answer ≡ Did kind → Answers plan r t action

-- a thread that gains a lock, or blocks, does something
acquiring : (plan : Plan) (r : Run) (t : ℕ) (action : Action) → actions.Acquires plan r t action → (kind : StepKind)
    × (action.answer ≡ Did kind)
acquiring plan r t _ (actions.gains by i a f) = (_, refl)
acquiring plan r t _ (actions.claims by i a f) = (_, refl)
acquiring plan r t _ (actions.enters by i a stands) = (_, refl)

module _ (plan : Plan) (r : Run) (t : ℕ) where
  answered : (action : Action) → actions.Fits plan r t action → Answers plan r t action
  answered _ (actions.is_over e) = ended refl e
  answered _ (actions.lends l o h w e f) = acts _ refl
  answered _ (actions.ends_at_lock l w e) = acts _ refl
  answered _ (actions.shifts o l w e f) = acts _ refl
  answered _ (actions.ends_at_thread o w f) = acts _ refl
  answered _ (actions.marks m ms w e) = acts _ refl
  answered _ (actions.gives_up w e f back) = acts _ refl
  answered _ (actions.is_queued e f q) = idles refl (λ p k. record { going = e; queued = q; free = f })
  answered _ (actions.resumes q cause f e) = acts _ refl
  answered action (actions.acquires a) = let z = acquiring plan r t action a in acts z.0 z.1
  answered _ (actions.is_admitted {l} {action = action} b e a) = let z =
      acquiring plan (admitted plan r t l) t action a in acts z.0 z.1
  answered _ (actions.is_refused k b e) = acts _ refl
  answered _ (actions.finds_busy l mode past i e) = acts _ refl
  answered _ (actions.releases l i back) = acts _ refl
  answered _ (actions.sleeps d i e) = acts _ refl
  answered _ (actions.wakes d by i) = acts _ refl
  answered _ (actions.makes_entry op e i n) = acts _ refl
  answered _ (actions.gives_last_back h hs i e back) = acts _ refl
  answered _ (actions.has_nothing_left e i f) =
      idles refl (λ p k. absurd (let z = sym e ∙ nothing_left plan r t k i f in cc))
  answered _ (actions.has_no_operation e i) =
      idles refl (λ p k. absurd (let z = sym e ∙ no_operation_left plan r t p k i in cc))
  answered _ (actions.is_at_endtry i) = idles refl (λ p k. absurd (k.no_endtry t i.next))

  answer : Answers plan r t (turn_of plan r t)
  answer = answered (turn_of plan r t) (actions.fits plan r t)

  where_idle : (action : Action) → Answers plan r t action → IsProper plan → IsOnTrack plan r → action.answer ≡ Idle
      → IsSleeping plan r t
  where_idle action e p k i = grind arith

  sleeping : IsSleeping plan r t → (turn_of plan r t).answer ≡ Idle
  unfolding turn_of
  sleeping z = rw (z.going, z.free.no_walk, z.free.unmarked, z.free.released, z.queued) refl

  over : (action : Action) → Answers plan r t action → action.answer ≡ Ended → has_ended plan r t ≡ true
  over action e i = grind arith

  over_answer : has_ended plan r t ≡ true → (turn_of plan r t).answer ≡ Ended
  unfolding turn_of
  over_answer e = rw e refl

  same_run : (action : Action) → Answers plan r t action → (action.answer ≡ Idle) ⊎ (action.answer ≡ Ended)
      → run_after plan r t action ≡ r
  same_run action e i = grind arith

pub idle_exactly : (plan : Plan) (r : Run) (t : ℕ) → IsProper plan → IsOnTrack plan r
    → (turn_of plan r t).answer ≡ Idle ↔ IsSleeping plan r t
idle_exactly plan r t p k = (where_idle plan r t (turn_of plan r t) (answer plan r t) p k, sleeping plan r t)

pub ended_exactly : (plan : Plan) (r : Run) (t : ℕ) → (turn_of plan r t).answer ≡ Ended ↔ has_ended plan r t ≡ true
ended_exactly plan r t = (over plan r t (turn_of plan r t) (answer plan r t), over_answer plan r t)

pub changes_nothing : (plan : Plan) (r : Run) (t : ℕ)
    → ((turn_of plan r t).answer ≡ Idle) ⊎ ((turn_of plan r t).answer ≡ Ended) → run_behind plan r t ≡ r
unfolding run_behind
changes_nothing plan r t e = same_run plan r t (turn_of plan r t) (answer plan r t) e

-- 2. A round

-- whether a thread is among those that come
abbrev Comes : List ℕ → ℕ → Type 0
Comes [] t = ⊥
Comes (u ∷ us) t = (u ≡ t) ⊎ Comes us t

in_range : (a n t : ℕ) → a ≤ t → t < a + n → Comes (range_with_len a n) t
in_range a zero t i l = absurd (omega arith)
in_range a (suc n) t i l =
    elim (cases_eq a t) [ inl e ↦ inl e | inr e ↦ inr (in_range (a + 1) n t (omega (arith, e)) (omega arith)) ]

passes : (test : ℕ → Bool) (xs : List ℕ) (t : ℕ) → test t ≡ true → Comes xs t → Comes (filter test xs) t
passes test [] t e i = i
passes test (x ∷ xs) t e i = go (test x) refl i (passes test xs t e)
  where
    go : (b : Bool) → test x ≡ b → (x ≡ t) ⊎ Comes xs t → (Comes xs t → Comes (filter test xs) t)
        → Comes (cond b (x ∷ filter test xs) (filter test xs)) t
    go true j (inl k) rest = inl k
    go true j (inr k) rest = inr (rest k)
    go false j (inl k) rest = absurd (let z = sym j ∙ ap test k ∙ e in cc)
    go false j (inr k) rest = rest k

-- each thread that hasn't ended still comes, or it sleeps
abbrev SleepsOrComes : Plan → Run → List ℕ → Type 0
SleepsOrComes plan r ts = (t : ℕ) → t < length plan.threads → has_ended plan r t ≡ false
    → Comes ts t ⊎ IsSleeping plan r t

-- so it is in a round whose turns were all idle so far
abbrev IsIdleSoFar : Plan → Course → Type 0
IsIdleSoFar plan k = k.idle ≡ true → SleepsOrComes plan k.run k.coming

pub idle_is : (a : Turn) → is_idle a ≡ true → a ≡ Idle
idle_is a e = grind arith

with_turn_idle : (plan : Plan) (r : Run) (ts : List ℕ) (idle : Bool) → IsProper plan → IsOnTrack plan r
    → (idle ≡ true → SleepsOrComes plan r ts) → IsIdleSoFar plan (with_turn plan r ts idle)
with_turn_idle plan r [] idle p k h e = h e
with_turn_idle plan r (t ∷ ts) idle p k h e =
    let parts = and_parts idle (is_idle (turn_of plan r t).answer) e in
    let answer = idle_is (turn_of plan r t).answer parts.1 in
    let asleep = (idle_exactly plan r t p k).0 answer in
    subst (λ n. SleepsOrComes plan n ts) (sym (changes_nothing plan r t (inl answer)))
    (λ u l going. elim (h parts.0 u l going) [
      | inl c ↦ elim c [ inl i ↦ inr (subst (IsSleeping plan r) i asleep) | inr i ↦ inl i ]
      | inr i ↦ inr i
    ])

after_turn_idle : (plan : Plan) (k : Course) (ts : List ℕ) → IsProper plan → IsOnTrack plan k.run
    → (k.idle ≡ true → SleepsOrComes plan k.run ts) → IsIdleSoFar plan (after_turn plan k ts)
after_turn_idle plan k [] p o h = with_turn_idle plan k.run (round_of plan k.run) true p o
    (λ e t l going. inl (passes (λ u. not (has_ended plan k.run u)) (threads_of plan) t (ap not going)
    (in_range 0 (length plan.threads) t (omega arith) (omega (arith, l)))))
after_turn_idle plan k (t ∷ ts) p o h = with_turn_idle plan k.run (t ∷ ts) k.idle p o h

go_on_idle : (plan : Plan) (k : Course) → IsProper plan → IsOnTrack plan k.run → IsIdleSoFar plan k
    → IsIdleSoFar plan (go_on plan k)
go_on_idle plan k p o h = go (is_over plan k)
  where
    go : (b : Bool) → IsIdleSoFar plan (cond b k (after_turn plan k k.coming))
    go true = h
    go false = after_turn_idle plan k k.coming p o h

idle_so_far : (plan : Plan) (n : ℕ) → IsProper plan → IsIdleSoFar plan (course_after plan n)
unfolding course_after
idle_so_far plan zero p = λ e. absurd cc
idle_so_far plan (suc n) p = go_on_idle plan (course_after plan n) p (behind_course plan n p) (idle_so_far plan n p)

-- 3. Where a run is stuck

-- a Queued thread stands on the queue that its record names, where nobody has a marked list
stands_there : (c : Config) (s : State) (t : ℕ) → LawfulTurn c s → ((u : ℕ) → u < c.threads → s.marked u ≡ [])
    → s.wait t ≡ Queued → (q : QueueName) × (stands t (s.lists q) ≡ 1)
unfolding QueuedStands StandsOnce
stands_there c s t h unmarked e = go (s.blocked_on t) refl
  where
    go : (o : Option QueueName) → s.blocked_on t ≡ o → (q : QueueName) × (stands t (s.lists q) ≡ 1)
    go None f = absurd (h.queued_stands t e f)
    go (Some q) f =
        let none = sum_below-zero c.threads (λ u. times_marked t q (s.marked u))
        (λ u l. ap (times_marked t q) (unmarked u l)) in
        let named : at_queue q (s.blocked_on t) ≡ 1 = ap (at_queue q) f ∙ ap one (is_queue_same q) in
        (q, omega (arith, none, named, h.lawful.waits.stands_once t q))

pub stuck_sleeps : (plan : Plan) (n t : ℕ) → IsProper plan → is_stuck (course_after plan n) ≡ true
    → t < length plan.threads → has_ended plan (course_after plan n).run t ≡ false
    → IsSleeping plan (course_after plan n).run t
    × ((q : QueueName) × (stands t ((course_after plan n).run.state.lists q) ≡ 1))
stuck_sleeps plan n t p stuck lt going = (
  asleep t lt going,
  stands_there (config_of plan) r.state t (behind_course plan n p).lawful unmarked (asleep t lt going).queued,
)
  where
    k : Course
    k = course_after plan n

    r : Run
    r = k.run

    parts : (is_empty k.coming ≡ true) × (k.idle ≡ true)
    parts = and_parts (is_empty k.coming) k.idle stuck

    none : (ts : List ℕ) (u : ℕ) → is_empty ts ≡ true → Comes ts u → ⊥
    none ts u e i = grind arith

    asleep : (u : ℕ) → u < length plan.threads → has_ended plan r u ≡ false → IsSleeping plan r u
    asleep u l e = elim (idle_so_far plan n p parts.1 u l e) [ inl i ↦ absurd (none k.coming u parts.0 i) | inr i ↦ i ]

    unmarked : (u : ℕ) → u < length plan.threads → r.state.marked u ≡ []
    unmarked u l = go (has_ended plan r u) refl
      where
        go : (b : Bool) → has_ended plan r u ≡ b → r.state.marked u ≡ []
        go true e = ended_unmarked plan r u e
        go false e = (asleep u l e).free.unmarked

-- 3. The end

-- a thread whose operations are done doesn't wait, as a wait that it is in is an operation that is left
pub done_awake : (plan : Plan) (r : Run) (t : ℕ) → IsOnTrack plan r → length (operations_of plan t) ≤ r.next_op t
    → waits_on (r.state.log t) ≡ None
done_awake plan r t k l = go (waits_on (r.state.log t)) refl
  where
    go : (w : Option ℕ) → waits_on (r.state.log t) ≡ w → w ≡ None
    go None e = refl
    go (Some d) e = absurd (omega (arith, l, slice_get_within (operations_of plan t) (r.next_op t) _ (k.waiting t d e)))

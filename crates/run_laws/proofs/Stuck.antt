-- A run is never stuck on locks alone. A lock on whose queue a thread stands is held, by a thread that sleeps on too:
-- on the queue of a lock to whose class an edge leads from that of the first, or on a channel's. Edges come to an
-- end.
use Rattle.run_laws.proofs.Names
use Names.{ℕ, zero, suc, Bool, true, false, nat_le, [], length, slice_get, Option, Some, None, refl, sym, ap, inl, inr}
use Names.{arith, eq-eqb, subst, not, cases_Bool, and_parts, or_cases, leb-true, not-true, none-some, slice_get_past}
use Names.{Config, sum_below, one, at_option, Hold, Holds, is_unheld, is_exclusive, IsProper, IsEdge, config_of}
use Names.{operations_of, lock_queue, chan_queue, stands, Holder, Free, HeldBy, SharedBy, sharers, Mode, Excl, Shared}
use Names.{Plan, QueueName, Lock, Chan, State, Wait, Running, Queued, Woken, Lawful, OnlyThreadsHold, WordsMatchHolders}
use Names.{owns, shares, FreeWordHasCalled, CalledWants, WokenWants, StandingIsUncalled, QueuedStands, WantsAreOrdered}
use Names.{OnlyLocksAreHeld, WokenBySignal, callers, calls_marked, calls_woken, busy, Run, has_ended, was_cut, owes}
use Names.{holds_none, waits_on, is_stuck, course_after, IsOnTrack, IsSleeping, TakesLock, sum_below-zero}
use Names.{true-any_below, exclusive_is, sum_below-some, shown}
use Rattle.std.proofs.Common.{◌≡◌, ◌≢◌, ◌<◌, ◌≤◌, ◌||◌, ◌&&◌, ◌∙◌}
use Rattle.run_laws.proofs.Reaching.{by_edges}
use Rattle.run_laws.proofs.Turning.{behind_course}
use Rattle.run_laws.proofs.Idle.{ended_unmarked, stuck_sleeps}

-- 1. Who holds a lock

-- one that shares
sharing : (x : Hold) → 1 ≤ shares x → x ≡ Holds Shared
sharing x l = grind arith

-- a lock whose word has a holder is held by a thread
holder_found : (c : Config) (s : State) (l : ℕ) → Lawful c s → 1 ≤ busy (s.word l).holder
    → (u : ℕ) × (mode : Mode) × (s.held u l ≡ Holds mode)
unfolding WordsMatchHolders
holder_found c s l h b = go (s.word l).holder (h.words.words_match_holders l).owner
    (h.words.words_match_holders l).sharers_are_counted (h.words.words_match_holders l).some_sharer b
  where
    go : (x : Holder) → ((t : ℕ) → is_exclusive (s.held t l) ≡ owns t x)
        → sum_below c.threads (λ t. shares (s.held t l)) ≡ sharers x → x ≢ SharedBy 0 → 1 ≤ busy x
        → (u : ℕ) × (mode : Mode) × (s.held u l ≡ Holds mode)
    go Free own count some b = absurd (omega arith)
    go (HeldBy u) own count some b = (u, Excl, exclusive_is (s.held u l) (own u ∙ eq-eqb u u refl))
    go (SharedBy zero) own count some b = absurd (some refl)
    go (SharedBy (suc n)) own count some b =
        let found = sum_below-some c.threads (λ t. shares (s.held t l)) (omega (arith, count)) in
        (found.0, Shared, sharing (s.held found.0 l) found.2)

-- 2. A run in which all threads that haven't ended sleep

-- each thread has no marked list, and is Queued and stands on a queue where it hasn't ended
pub record AllSleep (plan : Plan) (r : Run) : Type 0 where
  pub unmarked : (t : ℕ) → t < length plan.threads → r.state.marked t ≡ []
  pub queued : (t : ℕ) → t < length plan.threads → has_ended plan r t ≡ false → r.state.wait t ≡ Queued
  pub stand : (t : ℕ) → t < length plan.threads → has_ended plan r t ≡ false
      → (q : QueueName) × (stands t (r.state.lists q) ≡ 1)

-- some thread stands on a channel's queue
abbrev pub SleepsOnChannel : Plan → Run → Type 0
SleepsOnChannel plan r =
    (u : ℕ) × ((d : ℕ) × ((u < length plan.threads) × (0 < stands u (r.state.lists (chan_queue d)))))

module _ (plan : Plan) (r : Run) (k : IsOnTrack plan r) where
  abbrev c : Config
  c = config_of plan

  abbrev s : State
  s = r.state

  -- a thread that wants a lock hasn't ended,
  wanting : (t l : ℕ) → s.wanted t ≡ Some l → has_ended plan r t ≡ true → ⊥
  unfolding has_ended
  wanting t l w e =
      let made = nat_le (length (operations_of plan t)) (r.next_op t) in
      let first = and_parts ((made || was_cut s t) && not (owes c s t)) (holds_none c s t) e in
      elim (or_cases made (was_cut s t) (and_parts (made || was_cut s t) (not (owes c s t)) first.0).0) [
        | inl x ↦
            let none = slice_get_past (operations_of plan t) (r.next_op t)
            (leb-true (length (operations_of plan t)) (r.next_op t) x) in
            go (waits_on (s.log t)) refl none (k.wants t l w)
        | inr x ↦ none-some l (sym (k.cut_wants_nothing t x) ∙ w)
      ]
    where
      go : (o : Option ℕ) → waits_on (s.log t) ≡ o → slice_get (operations_of plan t) (r.next_op t) ≡ None
          → TakesLock c l (waits_on (s.log t)) (slice_get (operations_of plan t) (r.next_op t)) → ⊥
      go o i none takes = grind arith

  -- nor has one that holds one
  holding : (t l : ℕ) (mode : Mode) → s.held t l ≡ Holds mode → has_ended plan r t ≡ true → ⊥
  unfolding has_ended OnlyLocksAreHeld
  holding t l mode h e =
      let made = nat_le (length (operations_of plan t)) (r.next_op t) || was_cut s t in
      let none = not-true _ (and_parts (made && not (owes c s t)) (holds_none c s t) e).1 in
      let some = true-any_below c.locks (λ j. not (is_unheld (s.held t j))) l (k.taken.only_locks_are_held t l mode h)
      (ap (λ (x : Hold). not (is_unheld x)) h) in
      let z : true ≡ false = sym some ∙ none in
      cc

  -- 3. Who stands on queues

  module _ (all : AllSleep plan r) where
    going : (t : ℕ) → (has_ended plan r t ≡ true → ⊥) → has_ended plan r t ≡ false
    going t n = elim (cases_Bool (has_ended plan r t)) [ inl x ↦ absurd (n x) | inr x ↦ x ]

    -- who wants a lock is Queued,
    wants_queued : (t l : ℕ) → t < c.threads → s.wanted t ≡ Some l → s.wait t ≡ Queued
    wants_queued t l lt w = all.queued t lt (going t (wanting t l w))

    -- so nobody is called for one
    not_woken : (t l : ℕ) → t < c.threads → (w : Wait) → s.wait t ≡ w → calls_woken l w ≡ 0
    unfolding WokenBySignal WokenWants
    not_woken t l lt Running e = refl
    not_woken t l lt Queued e = refl
    not_woken t l lt (Woken (Chan d) cause) e = refl
    not_woken t l lt (Woken (Lock j) cause) e =
        let by = k.sleepers.woken_by_signal k.halted t (Lock j) cause e in
        let wants = k.lawful.lawful.waits.woken_wants t j.0 (e ∙ ap (Woken (Lock j)) by) in
        let z : Woken (Lock j) cause ≡ Queued = sym e ∙ wants_queued t j.0 lt wants in
        cc

    not_called : (t l : ℕ) → t < c.threads → (o : Option ℕ) → s.called t ≡ o → at_option l o ≡ 0
    unfolding CalledWants StandingIsUncalled QueuedStands
    not_called t l lt None e = refl
    not_called t l lt (Some j) e = go (s.blocked_on t) refl
      where
        go : (q : Option QueueName) → s.blocked_on t ≡ q → at_option l (Some j) ≡ 0
        go None f = absurd (k.lawful.queued_stands t (wants_queued t j lt (k.lawful.lawful.waits.called_wants t j e)) f)
        go (Some q) f = absurd (none-some j (sym (k.lawful.lawful.waits.standing_is_uncalled t q f) ∙ e))

    uncalled : (l : ℕ) → callers c s.marked s.wait s.called l ≡ 0
    unfolding callers
    uncalled l =
        let a = sum_below-zero c.threads (λ t. calls_marked l (s.marked t))
        (λ t lt. ap (calls_marked l) (all.unmarked t lt)) in
        let b = sum_below-zero c.threads (λ t. calls_woken l (s.wait t)) (λ t lt. not_woken t l lt (s.wait t) refl) in
        let d = sum_below-zero c.threads (λ t. at_option l (s.called t))
        (λ t lt. not_called t l lt (s.called t) refl) in
        omega (arith, a, b, d)

    -- a lock on whose queue a thread stands is held,
    found : (t l : ℕ) → 1 ≤ stands t (s.lists (lock_queue l)) → (u : ℕ) × (mode : Mode) × (s.held u l ≡ Holds mode)
    unfolding FreeWordHasCalled
    found t l i =
        let shows = ap one (shown c s t l k.lawful.lawful i).2 in
        holder_found c s l k.lawful.lawful
        (omega (arith, shows, uncalled l, k.lawful.lawful.waits.free_word_has_called l))

    abbrev Goal : Type 0
    Goal = SleepsOnChannel plan r

    -- and its holder stands on a queue too:
    on_from : (t : ℕ) → t < c.threads → has_ended plan r t ≡ false
        → ((l : ℕ) → 1 ≤ stands t (s.lists (lock_queue l)) → Goal) → Goal
    on_from t lt e by_lock = let z = all.stand t lt e in go z.0 z.1
      where
        go : (q : QueueName) → stands t (s.lists q) ≡ 1 → Goal
        go (Lock l) i = by_lock l.0 (omega (arith, i))
        go (Chan d) i = (t, (d.0, (lt, omega (arith, i))))

    -- of a lock to whose class an edge leads, or of a channel;
    goes_on : (t l : ℕ) → 1 ≤ stands t (s.lists (lock_queue l))
        → ((u j : ℕ) → IsEdge s.edges (c.class l) (c.class j) → 1 ≤ stands u (s.lists (lock_queue j)) → Goal) → Goal
    unfolding OnlyThreadsHold WantsAreOrdered
    goes_on t l i by_edge =
        let h = found t l i in
        let u = h.0 in
        on_from u (k.lawful.lawful.words.only_threads_hold u l h.1 h.2) (going u (holding u l h.1 h.2))
        (λ j x. by_edge u j (k.ordered.wants_are_ordered u j (shown c s u j k.lawful.lawful x).1 l h.1 h.2) x)

    -- so it comes to a channel
    from_class : (a t l : ℕ) → c.class l ≡ a → 1 ≤ stands t (s.lists (lock_queue l)) → Goal
    from_class = by_edges s.edges k.ordered.no_cycle
        (λ a. (t l : ℕ) → c.class l ≡ a → 1 ≤ stands t (s.lists (lock_queue l)) → Goal)
        (λ a rest t l e i. goes_on t l i
        (λ u j x y. rest (c.class j) (subst (λ b. IsEdge s.edges b (c.class j)) e x) u j refl y))

    pub sleeps_on_channel : (t : ℕ) → t < c.threads → has_ended plan r t ≡ false → Goal
    sleeps_on_channel t lt e = on_from t lt e (λ l i. from_class (c.class l) t l refl i)

-- 4. The scheduled run

pub stuck_on_channels : (plan : Plan) (n t : ℕ) → IsProper plan → is_stuck (course_after plan n) ≡ true
    → t < length plan.threads → has_ended plan (course_after plan n).run t ≡ false
    → SleepsOnChannel plan (course_after plan n).run
stuck_on_channels plan n t p stuck lt going = sleeps_on_channel plan r (behind_course plan n p)
    (record { unmarked = unmarked; queued = λ u l e. (slept u l e).0.queued; stand = λ u l e. (slept u l e).1 }) t lt
    going
  where
    r : Run
    r = (course_after plan n).run

    slept : (u : ℕ) → u < length plan.threads → has_ended plan r u ≡ false
        → IsSleeping plan r u × ((q : QueueName) × (stands u (r.state.lists q) ≡ 1))
    slept u l e = stuck_sleeps plan n u p stuck l e

    unmarked : (u : ℕ) → u < length plan.threads → r.state.marked u ≡ []
    unmarked u l = go (has_ended plan r u) refl
      where
        go : (b : Bool) → has_ended plan r u ≡ b → r.state.marked u ≡ []
        go true e = ended_unmarked plan r u e
        go false e = (slept u l e).0.free.unmarked

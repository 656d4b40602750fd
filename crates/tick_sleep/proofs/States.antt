-- What calls make of a tick queue's state.
use Rattle.std.proofs.Common.{◌≡◌, ℕ, ◌+◌, ◌<◌, Bool, true, false, ◌&&◌, cond, List, [], ◌∷◌, ◌++◌, set, filter, find, option_map, Option, None, Some, IfSome, MatchOption, refl, sym, ap, subst, ◌∙◌, inl, inr}
use Rattle.lock_model.specs.declared.numbers.Prio.{Prio}
use Rattle.lock_model.specs.declared.numbers.ThreadNo.{ThreadNo}
use Rattle.tick_sleep.specs.Ticks.{TickState, is_of, sleeps, is_posted, prio_of, sleep_answer, behind_sleep, woken_one, behind_wake_one, behind_wake_all, is_interruptible, behind_post, without, without_some, is_reached, is_due, expired, unexpired, NoneIsDue, TimesOut}
use Rattle.tick_sleep.specs.Rolls.{is_tick, first_at, IsOnce}
use Rattle.tick_sleep.specs.declared.plan.TickSleeper.{TickSleeper}
use Rattle.tick_sleep.specs.declared.plan.Slept.TheVariants.{Queued}
use Rattle.tick_sleep.proofs.Once.{found_cases, found_counts, other_before, once_rest, is_of-same, is_of-other}
use Rattle.tick_sleep.proofs.Expiry.{none_due_without, none_due_filter, next_expired, unexpired-without, reached_tick}
use Rattle.tick_sleep.proofs.Taking.{found_sleeper}

some_or : {X : Type 0} → X → Option X → X
some_or d None = d
some_or d (Some z) = z

pub if_some : {X : Type 0} (o : Option X) (x : X) (P : X → Type 0) → o ≡ Some x → IfSome o P → P x
unfolding some_or
if_some None x P e h = absurd cc
if_some (Some y) x P e h = subst P (ap (some_or y) e) h

pub match_some : {X : Type 0} (o : Option X) (x : X) (P : Type 0) (Q : X → Type 0) → o ≡ Some x → MatchOption o P Q
    → Q x
unfolding some_or
match_some None x P Q e h = absurd cc
match_some (Some y) x P Q e h = subst Q (ap (some_or y) e) h

-- 1. Sleeping

pub is_queued : (s : TickState) (t : ℕ) (sig : Bool) → sleeps t s.sleepers ≡ false → (sig && is_posted s t) ≡ false
    → sleep_answer s t sig ≡ Queued
is_queued s t sig e f = rw (e, f) refl

pub queued_state : (s : TickState) (t : ThreadNo) (key : ℕ) (ticks : Option ℕ) (sig : Bool) (rs : List TickSleeper)
    (prio : Prio) (due : Option ℕ) → sleep_answer s t.0 sig ≡ Queued → prio ≡ prio_of s t.0
    → due ≡ option_map (λ n. s.tick + n) ticks
    → rs ≡ s.sleepers ++ (record { t = t; prio = prio; key = key; due = due; sig = sig }) ∷ []
    → record s { sleepers = rs } ≡ behind_sleep s t key ticks sig
queued_state s t key ticks sig rs prio due answer p d r = rw (answer, r, p, d) refl

-- 2. Timing out

-- who is found by any test is found by its thread
pub found_by_thread : (p : TickSleeper → Bool) (ss : List TickSleeper) (s : TickSleeper) → IsOnce ss
    → find p ss ≡ Some s → find (is_of s.t.0) ss ≡ Some s
found_by_thread p [] s once f = absurd cc
found_by_thread p (r ∷ ss) s once f = elim (found_cases p r ss s f) [
  | inl g ↦ rw (g.1, is_of-same s.t.0 s refl) refl
  | inr g ↦ rw (is_of-other s.t.0 r (other_before r ss s.t.0 once (found_counts p ss s g.1)))
      (found_by_thread p ss s (once_rest r ss once) g.1)
]

pub timed_out : (old : TickState) (rs : List TickSleeper) (n : ℕ) (t : ThreadNo) → IsOnce old.sleepers → n < old.tick
    → filter (is_due n) old.sleepers ≡ [] → first_at (n + 1) old.sleepers ≡ Some t → rs ≡ without t.0 old.sleepers
    → TimesOut old (record old { sleepers = rs }) t (n + 1)
timed_out old rs n t once l none found r =
    let s = found_sleeper (find (λ (x : TickSleeper). is_tick (n + 1) x.due) old.sleepers) t found in
    let e = next_expired n old.tick old.sleepers s.0 l once none s.1 in
    let same : without s.0.t.0 old.sleepers ≡ rs = ap (λ (u : ThreadNo). without u.0 old.sleepers) s.2 ∙ sym r in
    let due : is_due old.tick s.0 ≡ true = ap (is_reached old.tick) e.0 ∙ reached_tick n old.tick l in
    record {
      sleeper = s.0;
      of = s.2;
      at = e.0;
      next = e.1 ∙ ap (λ (qs : List TickSleeper). s.0 ∷ expired old.tick qs) same;
      left = ap (λ (qs : List TickSleeper). record old { sleepers = qs }) r;
      others = ap (unexpired old.tick) (sym same)
          ∙ unexpired-without old.tick old.sleepers s.0
          (found_by_thread (λ (x : TickSleeper). is_tick (n + 1) x.due) old.sleepers s.0 once s.1) due;
    }

-- 3. Nobody is due still

pub none_wake_one : (s : TickState) (key : ℕ) → NoneIsDue s → NoneIsDue (behind_wake_one s key)
none_wake_one s key h = go (woken_one s key)
  where
    go : (o : Option ℕ) → filter (is_due s.tick) (without_some o s.sleepers) ≡ []
    go None = h
    go (Some t) = none_due_without s.tick t s.sleepers h

pub none_wake_all : (s : TickState) (key : ℕ) → NoneIsDue s → NoneIsDue (behind_wake_all s key)
none_wake_all s key h = none_due_filter s.tick _ s.sleepers h

pub none_post : (s : TickState) (t : ℕ) → NoneIsDue s → NoneIsDue (behind_post s t)
none_post s t h = elim (is_interruptible t s.sleepers) as
    (λ b. NoneIsDue (cond b (record s { sleepers = without t s.sleepers })
    (record s { posted = set s.posted t true }))) [
      | true ↦ none_due_without s.tick t s.sleepers h
      | false ↦ h
    ]

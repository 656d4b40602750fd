-- What a thread's seat knows allows the steps by which it runs again, and by which it wakes others.
use Rattle.lock_floor.proofs.Names
use Names.{ℕ, true, false, Option, Some, None, List, [], map, length, refl, sym, ap, subst, inl, inr, All, All-head}
use Names.{All-map, same_Some, marked_named, rest, Config, open_in, NotHeld, Holds, hold_in, Mark, lock_queue}
use Names.{chan_queue, Word, is_free, is_turnstile, shows_waiters, without_one, Mode, QueueName, Lock, Chan, mark_of}
use Names.{Lawful, StandingIsQueued, State, Round, Running, Queued, Woken, NoWalk, Phase, Awake, Asleep, Last, Halting}
use Names.{Aborting, SelfAborted, is_parked, Marks, CountsIn, CountsOut, TakesItem, IsOfRound, IsBackFrom, IsAtResume}
use Names.{IsCountedIn, GoesOnOrHalts, is_halting, RecordOf, is_taking_back, HasReleased, IsLastHolder, Place}
use Names.{config_in, Description, Fits, MayMake, Knowledge, Runs, StandsOn, Slot, Record, Turnstiles, SleepQueues}
use Names.{found_first, IsPosed, is_among, found, CanMark, HasFirstOut, MayWakeOthers, HasBothOut, MayOpenUp, IsGoing}
use Names.{IsOffTheWay, MayGiveUp, MayRunAgain, MayOpenSleepers, HasSleeperOut, arith}
use Rattle.std.proofs.Common.{◌≡◌, ◌≢◌, ◌⊎◌, ◌<◌, ◌∷◌, ◌∙◌}
use Rattle.lock_state.specs.Steps.Counting.{IsFirst}
use Rattle.lock_floor.proofs.BothOut.{own_there, chain_there}
use Rattle.lock_floor.proofs.May.{column, doing_it, holds_it, own_log, is_acting, goes_on_settled, nothing_with, awake_now, not_away_settled, owes_settled}
use Rattle.lock_floor.proofs.MarkStep.{standing_pose}
use Rattle.lock_floor.proofs.Taking.{record_at}

-- a thread that stands on a channel's queue is in a wait, and has released the lock of its wait
abbrev pub HasLeft : Config → Knowledge → QueueName → Type 0
HasLeft c v (Lock l) = Unit {0}
HasLeft c v (Chan d) =
    (hold_in v.share.held (c.chan_lock d.0) ≡ NotHeld) × (is_taking_back v.share.log ≡ true)

pub has_released : (floor : Description) (v : Knowledge) (s : State) → Fits floor v s → (q : QueueName)
    → HasLeft (config_in floor) v q → HasReleased (config_in floor) s v.thread q
has_released floor v s f e left = grind arith

is_back : (floor : Description) (v : Knowledge) (s : State) → Fits floor v s → (q : QueueName)
    → HasLeft (config_in floor) v q → IsBackFrom s v.thread q
is_back floor v s f e left = grind arith

-- whose record names a queue is Queued
pub standing_queued : (s : State) (c : Config) → Lawful c s → (u : ℕ) (q : QueueName) → s.blocked_on u ≡ Some q
    → s.wait u ≡ Queued
unfolding StandingIsQueued
standing_queued s c lawful u q named = lawful.waits.standing_is_queued u q named

-- a thread that is parked, or has aborted itself, and has nothing out, no walk and no wake to note may run again
pub may_run_again : (floor : Description) (v : Knowledge) (q : QueueName) → v.pose ≡ StandsOn q → v.out ≡ []
    → v.share.doing.walk ≡ NoWalk
    → v.share.doing.unstamped ≡ None → IsAtResume v.share.doing.phase → HasLeft (config_in floor) v q
    → MayRunAgain floor v
may_run_again floor v q stands empty no_walk stamped at left = grind arith

-- a thread that isn't on its way to a queue, goes on and has nothing out may take a record
pub may_take_record : (floor : Description) (v : Knowledge) (u : ℕ) → IsOffTheWay v.pose → v.out ≡ [] → IsGoing v
    → u < length floor.threads
    → MayMake floor v (λ s. s.record_with u ≡ None) (TakesItem v.thread (RecordOf u) ∷ [])
may_take_record floor v u there empty going low s f home = grind arith

-- a thread that runs, or stands on a channel's queue, isn't on its way to a queue, and stands on no lock's
off_the_way : (v : Knowledge) → MayGiveUp v → IsOffTheWay v.pose
off_the_way v e = grind arith

off_locks : (floor : Description) (v : Knowledge) (s : State) → Fits floor v s → MayGiveUp v → (k : ℕ)
    → s.blocked_on v.thread ≡ Some (lock_queue k) → ⊥
unfolding StandingIsQueued
off_locks floor v s f (inl runs) k e =
    let z : None ≡ Some (lock_queue k) = sym (is_acting floor v s f runs).unnamed ∙ e in cc
off_locks floor v s f (inr (d, stands)) k e =
    go (subst (λ p. IsPosed p (s.wait v.thread) (s.blocked_on v.thread)) stands f.pose)
  where
    queued : s.wait v.thread ≡ Queued
    queued = f.sound.facts.lawful.waits.standing_is_queued v.thread (lock_queue k) e

    go : IsPosed (StandsOn (chan_queue d)) (s.wait v.thread) (s.blocked_on v.thread) → ⊥
    go (inl there) = let z : Some (chan_queue d) ≡ Some (lock_queue k) = sym there.1 ∙ e in cc
    go (inr woken) = let z : Woken (chan_queue d) woken.0 ≡ Queued = sym woken.1 ∙ queued in cc

-- the first of the marked list is another thread, where it stood on another queue
pub is_another : (floor : Description) (v : Knowledge) (first : HasFirstOut v) (s : State) → Fits floor v s
    → ((q : QueueName) → v.pose ≡ StandsOn q → All (λ (m : Mark). m.queue ≢ q) v.share.doing.marked)
    → v.thread ≢ first.mark.thread
is_another floor v first s f elsewhere e =
    let c : Config = config_in floor in
    let t : ℕ = v.thread in
    let m : Mark = first.mark in
    let ms : List Mark = first.others in
    let lawful = f.sound.facts.lawful in
    let marked : s.marked t ≡ m ∷ ms = doing_it floor v s f (λ d. d.marked) ∙ first.marked in
    let named : s.blocked_on m.thread ≡ Some m.queue = marked_named c s t m ms lawful f.thread marked in
    let queued : s.wait m.thread ≡ Queued = standing_queued s c lawful m.thread m.queue named in
    let stands : v.pose ≡ StandsOn m.queue =
    standing_pose m.queue v.pose (s.wait t) (s.blocked_on t) (ap s.wait e ∙ queued) (ap s.blocked_on e ∙ named) f.pose
    in
    All-head (λ (k : Mark). k.queue ≢ m.queue) m ms
    (subst (All (λ (k : Mark). k.queue ≢ m.queue)) first.marked (elsewhere m.queue stands)) refl

-- a thread that goes on, or is at halting others, and isn't on its way to a queue counts others in and wakes them
pub halting_unparked : (p : Phase) → is_halting p ≡ true → is_parked p ≡ false
halting_unparked f e = grind arith

unparked_waking : (floor : Description) (v : Knowledge) (s : State) → Fits floor v s → MayWakeOthers v
    → is_parked (s.phase v.thread) ≡ false
unparked_waking floor v s f (inl going) = ap is_parked (doing_it floor v s f (λ d. d.phase) ∙ going.awake)
unparked_waking floor v s f (inr h) =
    halting_unparked (s.phase v.thread) (ap is_halting (doing_it floor v s f (λ d. d.phase)) ∙ h.0)

goes_on_waking : (floor : Description) (v : Knowledge) (s : State) → Fits floor v s → IsOffTheWay v.pose
    → MayWakeOthers v → GoesOnOrHalts s v.thread
goes_on_waking floor v s f there (inl going) =
    record { runs = inl (awake_now floor v s f going); owes = owes_settled floor v s f there going }
goes_on_waking floor v s f there (inr h) = record {
  runs = inr (ap is_halting (doing_it floor v s f (λ d. d.phase)) ∙ h.0);
  owes = record {
    added = not_away_settled floor v s f there;
    stamped = doing_it floor v s f (λ d. d.unstamped) ∙ h.1;
  };
}

unstamped_waking : (v : Knowledge) → MayWakeOthers v → v.share.doing.unstamped ≡ None
unstamped_waking v e = grind arith

-- it counts the first of its marked list in, another thread, whose record it took last, where it counted in nobody yet
pub may_count_in : (floor : Description) (v : Knowledge) (first : HasFirstOut v) → IsOffTheWay v.pose → MayWakeOthers v
    → ((s : State) → Fits floor v s → v.thread ≢ first.mark.thread) → v.share.doing.counting ≡ None
    → first.mark.thread < length floor.threads
    → MayMake floor v (λ s. Unit {0}) (CountsIn v.thread first.mark.thread ∷ [])
may_count_in floor v first there going other uncounted low s f _ =
    let u : ℕ = first.mark.thread in (
      record {
        fits = record {
          may = record {
            thread = f.thread;
            unparked = unparked_waking floor v s f going;
            first = subst (IsFirst u) (sym (doing_it floor v s f (λ d. d.marked) ∙ first.marked)) refl;
            other = other s f;
            once = doing_it floor v s f (λ d. d.counting) ∙ uncounted;
          };
          has_out = (f.out.each (RecordOf u) u (Record first.box) (record_at floor u low)
              (ap (found u) first.last ∙ found_first u (Record first.box) (rest v.out))).0;
          has_seen = tt;
          asks_of_thread = goes_on_waking floor v s f there going;
        };
        keeps_order = tt;
        keeps_count = tt;
      },
      tt,
    )

-- and wakes the first of its marked list, whose record it took last, and which it has counted in, or itself
pub may_mark : (floor : Description) (v : Knowledge) (first : HasFirstOut v) → IsOffTheWay v.pose → MayWakeOthers v
    → (v.share.doing.counting ≡ Some first.mark.thread) ⊎ (v.thread ≡ first.mark.thread)
    → first.mark.thread < length floor.threads
    → MayMake floor v (λ s. Unit {0}) (Marks v.thread first.mark first.others ∷ [])
may_mark floor v first there going counted low s f _ =
    let u : ℕ = first.mark.thread in (
      record {
        fits = record {
          may = record {
            thread = f.thread;
            marked = doing_it floor v s f (λ d. d.marked) ∙ first.marked;
            stamped = doing_it floor v s f (λ d. d.unstamped) ∙ unstamped_waking v going;
          };
          has_out = (f.out.each (RecordOf u) u (Record first.box) (record_at floor u low)
              (ap (found u) first.last ∙ found_first u (Record first.box) (rest v.out))).0;
          has_seen = tt;
          asks_of_thread = goes_on_waking floor v s f there going;
        };
        keeps_order = tt;
        keeps_count = is_counted counted;
      },
      tt,
    )
  where
    is_counted : (v.share.doing.counting ≡ Some first.mark.thread) ⊎ (v.thread ≡ first.mark.thread)
        → IsCountedIn s v.thread first.mark.thread
    is_counted (inl e) = inl (doing_it floor v s f (λ d. d.counting) ∙ e)
    is_counted (inr e) = inr e

-- a thread that runs wakes others
pub runners_mark : (v : Knowledge) → v.pose ≡ Runs → v.out ≡ [] → IsGoing v → v.share.doing.counting ≡ None → CanMark v
runners_mark v runs empty going uncounted = grind arith

-- and so does one that stands on a channel's queue, where those whom it is to wake stood on a lock's
pub sleepers_mark : (v : Knowledge) (d l : ℕ) (ps : List Place) → v.pose ≡ StandsOn (chan_queue d)
    → v.share.doing.marked ≡ map (mark_of (lock_queue l)) ps → v.out ≡ [] → IsGoing v → v.share.doing.counting ≡ None
    → CanMark v
sleepers_mark v d l ps stands are empty going uncounted = record {
  settled = inr (chan_queue d, stands);
  elsewhere = λ q there.
      let same : StandsOn (chan_queue d) ≡ StandsOn q = sym stands ∙ there in
      let others : lock_queue l ≢ q = λ e. cc in
      subst (All (λ (m : Mark). m.queue ≢ q)) (sym are)
      (All-map (λ (m : Mark). m.queue ≢ q) (mark_of (lock_queue l)) ps (λ k p at. others));
  nothing_out = empty;
  going = going;
  uncounted = uncounted;
}

-- The last holder of a lock, of which waiters are shown, and whose section has ended, may release it
module _ (floor : Description) (v : Knowledge) (l : ℕ) (mode : Mode) (word : Word) (low : l < length floor.locks)
    (held : hold_in v.share.held l ≡ Holds mode) (last : is_free (without_one word.holder) ≡ true)
    (shown : shows_waiters word ≡ true) (unmarked : v.share.doing.marked ≡ [])
    (closed : open_in (config_in floor) v.share.log v.thread l ≡ NotHeld) (begun : is_among l v.share.begun ≡ true)
  where
    last_holder : (s : State) → Fits floor v s → s.word l ≡ word → IsLastHolder (config_in floor) s v.thread l mode
    last_holder s f its = record {
      thread = f.thread;
      lock = low;
      held = holds_it floor v s f l ∙ held;
      last = ap (λ (w : Word). is_free (without_one w.holder)) its ∙ last;
      shown = ap (λ (w : Word). shows_waiters w) its ∙ shown;
      unmarked = doing_it floor v s f (λ d. d.marked) ∙ unmarked;
      closed = own_log floor v s f l ∙ closed;
      begun = sym (column floor v s f (λ x. x.has_begun l)) ∙ begun;
    }

    -- with the chain and its record out; it runs, or stands on a channel's queue
    pub may_open_up_settled : is_turnstile ((config_in floor).kind l) ≡ true → v.share.doing.taking ≡ None → MayGiveUp v
        → IsGoing v → HasBothOut floor l v → MayOpenUp floor l word v
    may_open_up_settled turnstile takes there going both = record {
      mode = mode;
      may = λ s f its.
          let y : Slot = Record both.box in
          let x : Slot = Turnstiles both.chain in (
            record {
              fits = record {
                may = record {
                  releases = last_holder s f its;
                  turnstile = turnstile;
                  off_turnstiles = λ k e. absurd (off_locks floor v s f there k e);
                };
                has_out = (
                  (chain_there floor v (lock_queue l) y x both.out s f).0,
                  (own_there floor v (lock_queue l) y x both.out s f).0,
                );
                has_seen = tt;
                asks_of_thread = goes_on_settled floor v s f (off_the_way v there) going;
              };
              keeps_order = doing_it floor v s f (λ d. d.taking) ∙ takes;
              keeps_count = tt;
            },
            tt,
          );
    }

    -- of an sx lock, with the chain of sleep queues out; it runs, or stands on a queue
    pub may_open_sleepers : is_turnstile ((config_in floor).kind l) ≡ false → v.share.doing.taking ≡ None
        → IsOffTheWay v.pose → IsGoing v → HasSleeperOut floor (lock_queue l) v → MayOpenSleepers floor l word v
    may_open_sleepers sleeps takes there going both = record {
      both = both;
      mode = mode;
      may = λ s f its.
          let y : Slot = Record both.box in
          let x : Slot = SleepQueues both.chain in (
            record {
              fits = record {
                may = record { releases = last_holder s f its; sleeps = sleeps };
                has_out = (
                  (chain_there floor v (lock_queue l) y x both.out s f).0,
                  (own_there floor v (lock_queue l) y x both.out s f).0,
                );
                has_seen = tt;
                asks_of_thread = goes_on_settled floor v s f there going;
              };
              keeps_order = doing_it floor v s f (λ d. d.taking) ∙ takes;
              keeps_count = tt;
            },
            tt,
          );
    }

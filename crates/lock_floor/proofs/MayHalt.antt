-- What a thread's seat knows allows its steps where it ends, and where its counting out left nobody awake: it counts
-- itself in, sets the halt word, takes the sleepers off their queues and wakes them, and counts itself out again.
use Rattle.lock_floor.proofs.Names
use Names.{ℕ, true, false, Option, Some, None, List, [], length, refl, sym, ap, subst, inl, inr, append_assoc, Global}
use Names.{Box, same_Some, ThreadRec, rest, Config, hold_in, is_turnstile_queue, lock_queue, QueueName, Side, State}
use Names.{Round, Running, Queued, Woken, NoWalk, Last, Halting, SelfAborted, is_parked, is_finder, Step, TakesItem}
use Names.{GivesItem, CountsOut, CountsSelfIn, CountsEnd, Halts, HasItem, IsItem, IsOfRound, IsHalting, OwesNoStep}
use Names.{is_halting, SleepChain, RecordOf, item_with, go_together, is_bound, HasReleased, config_in, past_with}
use Names.{IsPosed, found, Fits, FitAll, MayMake, Makes, Pose, Runs, StandsOn, Knowledge, Description, Slot, Record}
use Names.{found_first, HasSeenLeft, left_now, HasSeenHalt, IsHaltingOthers, IsLastAsleep, MayAbortLast, IsGoing}
use Names.{IsOffTheWay, HasSleepersOut, its_chain, chain_place}
use Rattle.std.proofs.Common.{◌≡◌, ◌≢◌, ◌⊎◌, ◌<◌, ◌++◌, ◌∷◌, ◌∙◌}
use Rattle.lock_floor.proofs.AbortStep.{sleep_chain_of}
use Rattle.lock_floor.proofs.May.{doing_it, holds_it, goes_on, is_acting, nothing_with, not_away_settled, settled_now, keeps_out, no_wanted_round}
use Rattle.lock_floor.proofs.MayAbort.{may_abort}
use Rattle.lock_floor.proofs.MayWait.{each_chain, its_only, its_chain_out}
use Rattle.lock_floor.proofs.MayWake.{HasLeft, halting_unparked, has_released, standing_queued}
use Rattle.lock_floor.proofs.Taking.{record_at}

-- 1. An end

-- a thread that runs, goes on, holds and wants nothing, and took its own record last, may end
pub may_end : (floor : Description) (v : Knowledge) (b : Box ThreadRec Global) → v.pose ≡ Runs → IsGoing v
    → v.share.held ≡ [] → v.share.doing.wanted ≡ None → v.out ≡ (v.thread, Record b) ∷ rest v.out
    → MayMake floor v (λ s. Unit {0}) (CountsEnd v.thread ∷ [])
may_end floor v b runs going bare wants out s f _ = (
  record {
    fits = record {
      may = record {
        thread = f.thread;
        alive = doing_it floor v s f (λ d. d.has_ended) ∙ going.unended;
        running = subst (λ p. IsPosed p (s.wait v.thread) (s.blocked_on v.thread)) runs f.pose;
        bare = λ l. holds_it floor v s f l ∙ ap (λ hs. hold_in hs l) bare;
        wants = doing_it floor v s f (λ d. d.wanted) ∙ wants;
      };
      has_out = (f.out.each (RecordOf v.thread) v.thread (Record b) (record_at floor v.thread f.thread)
          (ap (found v.thread) out ∙ found_first v.thread (Record b) (rest v.out))).0;
      has_seen = tt;
      asks_of_thread = goes_on floor v s f runs going;
    };
    keeps_order = tt;
    keeps_count = tt;
  },
  tt,
)

-- 2. A finder

-- Last and Halting are a finder's
abbrev pub IsFinder : Knowledge → Type 0
IsFinder v = is_finder v.share.doing.phase ≡ true

module _ (floor : Description) (v : Knowledge) (there : IsOffTheWay v.pose) (stamped : v.share.doing.unstamped ≡ None)
  where
    abbrev c : Config
    c = config_in floor

    abbrev t : ℕ
    t = v.thread

    owes_now : (s : State) (f : Fits floor v s) → OwesNoStep s t
    owes_now s f = record {
      added = not_away_settled floor v s f there;
      stamped = doing_it floor v s f (λ d. d.unstamped) ∙ stamped;
    }

    -- the last counts itself in, where it has seen that a thread hasn't ended,
    pub may_count_self_in : v.share.doing.phase ≡ Last → HasSeenLeft floor v
        → MayMake floor v (λ s. Unit {0}) (CountsSelfIn t ∷ [])
    may_count_self_in last left s f _ = (
      record {
        fits = record {
          may = record {
            thread = f.thread;
            last = doing_it floor v s f (λ d. d.phase) ∙ last;
            alive = left_now floor v s f (ap is_finder last) left;
          };
          has_out = tt;
          has_seen = tt;
          asks_of_thread = owes_now s f;
        };
        keeps_order = tt;
        keeps_count = tt;
      },
      tt,
    )

    -- and sets the halt word then
    pub may_halt : v.share.doing.phase ≡ Halting → HasSeenLeft floor v
        → MayMake floor v (λ s. Unit {0}) (Halts t ∷ [])
    may_halt halting left s f _ =
        let phase : s.phase t ≡ Halting = doing_it floor v s f (λ d. d.phase) ∙ halting in (
          record {
            fits = record {
              may = record {
                thread = f.thread;
                finder = phase;
                alive = left_now floor v s f (ap is_finder halting) left;
              };
              has_out = tt;
              has_seen = tt;
              asks_of_thread = record { halting = ap is_halting phase; owes = owes_now s f };
            };
            keeps_order = tt;
            keeps_count = tt;
          },
          tt,
        )

    -- 3. A thread at halting others takes the chain of a sleep queue, and then the record of one that it took off

    module _ (halting : is_halting v.share.doing.phase ≡ true) where
      halts_now : (s : State) (f : Fits floor v s) → IsHalting s t
      halts_now s f = ap is_halting (doing_it floor v s f (λ d. d.phase)) ∙ halting

      pub may_take_sleepers : (q : QueueName) → is_turnstile_queue c q ≡ false → v.out ≡ []
          → v.share.doing.round ≡ None
          → MayMake floor v (λ s. item_with s (its_chain floor q) ≡ None) (TakesItem t (its_chain floor q) ∷ [])
      may_take_sleepers q sleeps empty no_round s f home =
          let which = sleep_chain_of floor q sleeps in
          let low : which.0 < floor.chains = subst (IsItem floor.chains c) which.1
          (each_chain floor (IsItem floor.chains c) (λ k low. low) (λ k low. low) f.sized.some_chains q) in
          let home_there : item_with s (SleepChain which.0) ≡ None = subst (λ i. item_with s i ≡ None) which.1 home in
          subst (λ i. FitAll floor s (TakesItem t i ∷ [])) (sym which.1) (
            record {
              fits = record {
                may = record {
                  thread = f.thread;
                  home = home_there;
                  together = λ k has. absurd (nothing_with floor v s f empty k has);
                  orders = tt;
                };
                has_out = (
                  low,
                  subst (λ r. IsOfRound floor.chains c r (SleepChain which.0))
                      (sym (doing_it floor v s f (λ d. d.round) ∙ no_round)) tt,
                );
                has_seen = tt;
                asks_of_thread = record { runs = inr (halts_now s f, refl); owes = owes_now s f };
              };
              keeps_order = λ _. no_wanted_round floor v s f no_round;
              keeps_count = tt;
            },
            tt,
          )

      module _ (q : QueueName) (x : Slot) (out : v.out ≡ (chain_place floor q, x) ∷ []) where
        pub may_take_sleeper : (u : ℕ) → u < length floor.threads
            → MayMake floor v (λ s. s.record_with u ≡ None) (TakesItem t (RecordOf u) ∷ [])
        may_take_sleeper u low s f home = (
          record {
            fits = record {
              may = record {
                thread = f.thread;
                home = home;
                together = λ k has. subst
                    (λ i. (go_together (RecordOf u) i ≡ true) × (go_together i (RecordOf u) ≡ true))
                    (sym (its_only floor v q x out s f k has))
                    (each_chain floor (λ i. (go_together (RecordOf u) i ≡ true) × (go_together i (RecordOf u) ≡ true))
                    (λ k low. (refl, refl)) (λ k low. (refl, refl)) f.sized.some_chains q);
                orders = tt;
              };
              has_out = (low, no_chain (s.round t));
              has_seen = tt;
              asks_of_thread = record { runs = inr (halts_now s f, refl); owes = owes_now s f };
            };
            keeps_order = λ is. absurd (let z : false ≡ true = is in cc);
            keeps_count = tt;
          },
          tt,
        )
          where
            no_chain : (r : Option Round) → IsOfRound floor.chains c r (RecordOf u)
            no_chain None = tt
            no_chain (Some r) = λ is. absurd cc

        -- and gives the chain back
        pub may_give_sleepers : is_turnstile_queue c q ≡ false → v.share.doing.round ≡ None
            → MayMake floor v (λ s. Unit {0}) (GivesItem t (its_chain floor q) ∷ [])
        may_give_sleepers sleeps no_round s f _ =
            let which = sleep_chain_of floor q sleeps in
            let has : HasItem s t (SleepChain which.0) =
            subst (HasItem s t) which.1 (its_chain_out floor v q x out s f) in
            subst (λ i. FitAll floor s (GivesItem t i ∷ [])) (sym which.1) (
              record {
                fits = record {
                  may = record {
                    thread = f.thread;
                    out = has;
                    done = (
                      ap is_bound (doing_it floor v s f (λ d. d.round) ∙ no_round),
                      doing_it floor v s f (λ d. d.unstamped) ∙ stamped,
                      settled_now floor v s f there,
                    );
                  };
                  has_out = has;
                  has_seen = tt;
                  asks_of_thread = record {
                    unparked = halting_unparked (s.phase t) (halts_now s f);
                    owes = owes_now s f;
                  };
                };
                keeps_order = tt;
                keeps_count = λ u is _. let z : SleepChain which.0 ≡ RecordOf u = is in cc;
              },
              tt,
            )

      -- the record goes home once its thread was woken
      pub may_give_sleeper : (u : ℕ) (y : Slot) → u < length floor.threads → v.out ≡ (u, y) ∷ rest v.out
          → v.share.doing.counting ≡ None → MayMake floor v (λ s. Unit {0}) (GivesItem t (RecordOf u) ∷ [])
      may_give_sleeper u y low out uncounted s f _ =
          let has : HasItem s t (RecordOf u) = (f.out.each (RecordOf u) u y (record_at floor u low)
          (ap (found u) out ∙ found_first u y (rest v.out))).0 in (
            record {
              fits = record {
                may = record { thread = f.thread; out = has; done = λ own. settled_now floor v s f there };
                has_out = has;
                has_seen = tt;
                asks_of_thread = record {
                  unparked = halting_unparked (s.phase t) (halts_now s f);
                  owes = owes_now s f;
                };
              };
              keeps_order = tt;
              keeps_count = keeps_out floor v s f uncounted (RecordOf u);
            },
            tt,
          )

-- 4. An abort of the last of a side

-- a thread at halting others may take off the last of a side of an sx lock's queue, in a chain that it took last
pub may_abort_last : (floor : Description) (v : Knowledge) (l : ℕ) (side : Side) (u : ℕ)
    (sleepers : HasSleepersOut floor (lock_queue l) v) → IsLastAsleep (lock_queue l) side u sleepers.chain
    → is_turnstile_queue (config_in floor) (lock_queue l) ≡ false → l < length floor.locks → IsHaltingOthers v
    → MayAbortLast floor l side u v
may_abort_last floor v l side u sleepers sleeps kind low h = record {
  sleepers = sleepers;
  sleeps = sleeps;
  may = may_abort floor v (lock_queue l) side u sleepers sleeps.head sleeps.there sleeps.stands kind low h;
}

-- 5. What was seen

-- a halt that a seat has seen it has seen behind steps of its own, too
pub halt_seen : (floor : Description) (steps : List Step) (v w : Knowledge) → HasSeenHalt v → Makes floor steps v w
    → HasSeenHalt w
halt_seen floor steps v w h m =
    let p = go steps m.past (m.since.later ++ h.later)
    (m.since.is ∙ ap (λ xs. m.since.later ++ xs) h.is
    ∙ sym (append_assoc m.since.later h.later (Halts h.by ∷ h.earlier))) in
    record { later = p.0; earlier = h.earlier; by = h.by; is = m.seen ∙ p.1 }
  where
    go : (steps past later : List Step) → past ≡ later ++ Halts h.by ∷ h.earlier
        → (more : List Step) × (past_with past steps ≡ more ++ Halts h.by ∷ h.earlier)
    go [] past later e = (later, e)
    go (step ∷ steps) past later e = go steps (step ∷ past) (step ∷ later) (ap (λ xs. step ∷ xs) e)

-- and so it has seen the halt that it made
pub halt_made_seen : (floor : Description) (v w : Knowledge) → Makes floor (Halts v.thread ∷ []) v w → HasSeenHalt w
halt_made_seen floor v w m = record { later = []; earlier = m.past; by = v.thread; is = m.seen }

-- 6. Counting out again

-- Where the thread counts itself out: it isn't parked, and didn't abort itself. It stands on a queue, or has ended
abbrev pub StandsOrEnded : Config → Knowledge → Type 0
StandsOrEnded c v =
    ((q : QueueName) × (v.pose ≡ StandsOn q) × HasLeft c v q)
    ⊎ ((v.pose ≡ Runs) × (v.share.doing.has_ended ≡ true))

pub may_count_out_again : (floor : Description) (v : Knowledge) → StandsOrEnded (config_in floor) v
    → v.out ≡ [] → v.share.doing.walk ≡ NoWalk → v.share.doing.marked ≡ [] → v.share.doing.unstamped ≡ None
    → is_parked v.share.doing.phase ≡ false → v.share.doing.phase ≢ SelfAborted
    → MayMake floor v (λ s. Unit {0}) (CountsOut v.thread ∷ [])
may_count_out_again floor v where_is empty no_walk unmarked stamped unparked unaborted s f _ =
    let parked : is_parked (s.phase v.thread) ≡ false =
    ap is_parked (doing_it floor v s f (λ d. d.phase)) ∙ unparked in (
      record {
        fits = record {
          may = record {
            thread = f.thread;
            unparked = parked;
            unaborted = λ e. unaborted (sym (doing_it floor v s f (λ d. d.phase)) ∙ e);
            waits = λ alive. not_running alive where_is;
            no_walk = doing_it floor v s f (λ d. d.walk) ∙ no_walk;
            unmarked = doing_it floor v s f (λ d. d.marked) ∙ unmarked;
            released = λ r on. released r on where_is;
          };
          has_out = nothing_with floor v s f empty;
          has_seen = tt;
          asks_of_thread = record {
            unparked = parked;
            owes = record {
              added = not_away_settled floor v s f (off where_is);
              stamped = doing_it floor v s f (λ d. d.unstamped) ∙ stamped;
            };
          };
        };
        keeps_order = tt;
        keeps_count = tt;
      },
      tt,
    )
  where
    off : StandsOrEnded (config_in floor) v → IsOffTheWay v.pose
    off (inl (q, stands, left)) = inr (q, stands)
    off (inr (runs, ended)) = inl runs

    posed : (p : Pose) → v.pose ≡ p → IsPosed p (s.wait v.thread) (s.blocked_on v.thread)
    posed p e = subst (λ k. IsPosed k (s.wait v.thread) (s.blocked_on v.thread)) e f.pose

    not_running : s.has_ended v.thread ≡ false → StandsOrEnded (config_in floor) v → s.wait v.thread ≡ Running → ⊥
    not_running alive (inl (q, stands, left)) runs = elim (posed (StandsOn q) stands) [
      | inl z ↦ let y : Queued ≡ Running = sym z.0 ∙ runs in cc
      | inr z ↦ let y : Woken q z.0 ≡ Running = sym z.1 ∙ runs in cc
    ]
    not_running alive (inr (runs, ended)) _ =
        let z : false ≡ true = sym alive ∙ doing_it floor v s f (λ d. d.has_ended) ∙ ended in cc

    -- the queue that its record names is that one
    there : (q r : QueueName) → v.pose ≡ StandsOn q → s.blocked_on v.thread ≡ Some r → q ≡ r
    there q r stands on = elim (posed (StandsOn q) stands) [
      | inl z ↦ same_Some q r (sym z.1 ∙ on)
      | inr z ↦ absurd (let y : Woken q z.0 ≡ Queued = sym z.1
          ∙ standing_queued s (config_in floor) f.sound.facts.lawful v.thread r on in cc)
    ]

    released : (r : QueueName) → s.blocked_on v.thread ≡ Some r → StandsOrEnded (config_in floor) v
        → HasReleased (config_in floor) s v.thread r
    released r on (inl (q, stands, left)) =
        subst (HasReleased (config_in floor) s v.thread) (there q r stands on) (has_released floor v s f q left)
    released r on (inr (runs, ended)) =
        absurd (let z : None ≡ Some r = sym (is_acting floor v s f runs).unnamed ∙ on in cc)

-- The turns of a thread with a marked list, and of a woken one: their steps may be made, and leave the run on track.
use Rattle.run_laws.proofs.Names
use Names.{ℕ, true, List, [], length, Option, Some, None, refl, sym, ap, subst, same_Some, Hold, NotHeld, config_of}
use Names.{Config, Mark, Cause, BySignal, chan_queue, State, Queued, Running, Woken, put, Marks, Resumes}
use Names.{is_taking_back, has_slept, MayMark, MayResume, HasReleased, wanted_after, taking_by, noted_after, after_mark}
use Names.{after_resume, QueuedStands, WokenWants, WokenSlept, WokenBySignal, Run, waits_on, to_release, does, Entry}
use Names.{Plan, QueueName, Lock, Chan, IsOnTrack, OwesNothing, at_put, put_same, put_other, each_place, arith}
use Rattle.std.proofs.Common.{◌≡◌, ◌≢◌, ◌<◌, ◌∷◌, ◌∙◌}
use Rattle.lock_model.specs.declared.turn.StepKind.TheVariants as kind
use Rattle.run_laws.proofs.OnTrack.{KeepsTrack, MayWant, none_unnoted, is_there, there_wanting, waits_uncut}

-- a thread whose newest entry is the Sleeps entry of a channel waits there
pub slept_waits : (d : ℕ) (es : List Entry) → has_slept d es ≡ true → waits_on es ≡ Some d
slept_waits d es x = grind arith

-- a wait's lock that is not to be released isn't held
pub given_up : (held : ℕ → Hold) (l : ℕ) → to_release held (Some l) ≡ None → held l ≡ NotHeld
given_up held l e = grind arith

module _ (plan : Plan) (r : Run) (t : ℕ) (k : IsOnTrack plan r) (lt : t < length plan.threads) where
  abbrev c : Config
  c = config_of plan

  abbrev s : State
  s = r.state

  -- 1. A mark

  pub may_mark : (m : Mark) (ms : List Mark) → s.marked t ≡ m ∷ ms → MayMark c s t m ms
  may_mark m ms e = record { thread = lt; marked = e; stamped = none_unnoted plan r t k }

  pub marked : (m : Mark) (ms : List Mark) → KeepsTrack plan r t (does kind.Mark (Marks t m ms ∷ []))
  unfolding after_mark QueuedStands
  marked m ms = record {
    asks = (tt, tt);
    out = k.lawful.nothing_out;
    stands = λ u. each_place m.thread
        (λ v. put s.wait m.thread (Woken m.queue m.cause) v ≡ Queued → put s.blocked_on m.thread None v ≢ None)
        (λ i. absurd
        (let z : Woken m.queue m.cause ≡ Queued = sym (put_same s.wait m.thread (Woken m.queue m.cause)) ∙ i in cc))
        (λ v ne. rw (put_other s.wait m.thread (Woken m.queue m.cause) v ne, put_other s.blocked_on m.thread None v ne)
        (k.lawful.queued_stands v)) u;
    noted = none_unnoted plan r t k;
    no_halts = k.no_halts;
    there = is_there plan r t k;
    back = λ d e runs. k.back_wants t d e (at_put (λ v w. w ≡ Running → s.wait v ≡ Running) s.wait m.thread
        (Woken m.queue m.cause) (λ x. absurd cc) (λ v ne x. x) t runs);
  }

  -- 2. A resume

  module _ (q : QueueName) (cause : Cause) (f : OwesNothing plan r t) (e : s.wait t ≡ Woken q cause) where
    -- a thread that was woken from a channel waits there
    waits : (d : ℕ) → q ≡ chan_queue d → waits_on (s.log t) ≡ Some d
    unfolding WokenSlept
    waits d i = slept_waits d (s.log t) (k.sleepers.woken_slept t d cause (e ∙ ap (λ x. Woken x cause) i))

    unheld : (d : ℕ) → q ≡ chan_queue d → s.held t (c.chan_lock d) ≡ NotHeld
    unheld d i = given_up (s.held t) (c.chan_lock d) (rw (waits d i) at f.released)

    pub may_resume : MayResume c s t q cause
    may_resume = record { thread = lt; woken = e; released = released q refl }
      where
        released : (x : QueueName) → q ≡ x → HasReleased c s t x
        released (Lock l) i = tt
        released (Chan d) i = unheld d.0 i

    -- what it wants and takes then
    abbrev wanted : Option ℕ
    wanted = wanted_after c q cause (is_taking_back (s.log t)) (s.wanted t)

    -- from a channel the lock of its wait, and from a lock's queue what it wanted
    abbrev Wants : QueueName → Cause → Type 0
    Wants x y =
        let w : Option ℕ = wanted_after c x y (is_taking_back (s.log t)) (s.wanted t) in
        MayWant plan r t w × (taking_by c x (s.taking t) ≡ w)
        × ((d : ℕ) → waits_on (s.log t) ≡ Some d → w ≡ Some (c.chan_lock d))

    signal : cause ≡ BySignal
    unfolding WokenBySignal
    signal = k.sleepers.woken_by_signal k.halted t q cause e

    wants : Wants q cause
    unfolding WokenWants
    wants = rw signal (go q refl)
      where
        go : (x : QueueName) → q ≡ x → Wants x BySignal
        go (Lock j) i = (
          record { takes = k.wants t; unheld = k.wants_unheld t; uncut = k.cut_wants_nothing t },
          k.taking t,
          λ d w.
              let its = k.lawful.lawful.waits.woken_wants t j.0
              (e ∙ ap (λ x. Woken x cause) i ∙ ap (Woken (Lock j)) signal) in
              let same : c.chan_lock d ≡ j.0 = rw w at (k.wants t j.0 its) in
              its ∙ ap Some (sym same),
        )
        go (Chan d) i = (
          record {
            takes = λ l w. rw (waits d.0 i) (same_Some (c.chan_lock d.0) l w);
            unheld = λ l w. subst (λ j. s.held t j ≡ NotHeld) (same_Some (c.chan_lock d.0) l w) (unheld d.0 i);
            uncut = λ x. absurd (let z = sym x ∙ waits_uncut plan r t k d.0 (waits d.0 i) in cc);
          },
          refl,
          λ j w. ap (λ n. Some (c.chan_lock n)) (same_Some d.0 j (sym (waits d.0 i) ∙ w)),
        )

    pub resumed : KeepsTrack plan r t (does kind.Resume (Resumes t q cause ∷ []))
    unfolding after_resume QueuedStands
    resumed = record {
      asks = (tt, tt);
      out = k.lawful.nothing_out;
      stands = at_put (λ v w. w ≡ Queued → s.blocked_on v ≢ None) s.wait t Running (λ e. absurd cc)
          (λ v ne. k.lawful.queued_stands v);
      noted = none_unnoted plan r t k;
      no_halts = k.no_halts;
      there = rw (put_same s.wanted t wanted, put_same s.taking t (taking_by c q (s.taking t)), still)
          (there_wanting plan r t wanted (taking_by c q (s.taking t)) k wants.1 wants.0);
      back = λ d w runs. put_same s.wanted t wanted ∙ wants.2 d w;
    }
      where
        still : put s.noted t (noted_after q cause (is_taking_back (s.log t)) (s.noted t)) t ≡ s.noted t
        still = put_same s.noted t _ ∙ rw signal (unchanged q)
          where
            unchanged : (x : QueueName) → noted_after x BySignal (is_taking_back (s.log t)) (s.noted t) ≡ s.noted t
            unchanged x = grind arith

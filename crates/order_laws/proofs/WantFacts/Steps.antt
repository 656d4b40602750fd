-- Each step of a running floor that keeps to the order keeps that wants fit takes.
use Rattle.order_laws.proofs.Names
use Names.{ℕ, Bool, false, Option, Some, None, refl, sym, ap, inl, inr, arith, subst, cases_eq, Config, NotHeld, Holds}
use Names.{Cause, Mark, lock_queue, chan_queue, QueueName, Event, Locked, HaltedLock, Woke, HaltedChan, State, Wait}
use Names.{Running, Queued, Woken, OrderRefused, SleepHalted, put, Lawful, Ordered, WantsFitTakes, WantedIsTaken}
use Names.{HaltedWantNothing, Step, Seeks, Gains, Stamps, Readies, Unreadies, Enters, EntersSleepQueue, Adds, Marks}
use Names.{Resumes, Claims, Admits, Refuses, FitsFloor, KeepsToOrder, EndsItsTake, after, MayStamp, is_woken}
use Names.{is_taking_back, taking_from, taking_after, after_seek, after_look, after_gain, after_drop, after_stamp}
use Names.{after_ready, after_unready, MayResume, wanted_after, taking_by, noted_after, after_enter, after_open}
use Names.{after_mark, after_resume, after_enter_sleep, after_open_sleep, after_add, after_wake, after_abort}
use Names.{after_claim, after_lend, after_shift, after_end_walk, after_take, after_give, after_admit, after_refuse}
use Names.{after_count_out, after_count_in, after_count_self_in, after_count_end, after_halt, columns, put_same}
use Names.{put_other, unnamed, marked_named}
use Rattle.std.proofs.Common.{◌≡◌, ◌≢◌, ◌∙◌}
use Rattle.order_laws.proofs.OrderFacts.Cycle.{unheld}

module _ (c : Config) (s : State) (x : WantsFitTakes s) (t : ℕ) where
  -- 1. A gain

  gain_taken : WantedIsTaken (put s.wanted t None) s.taking
  unfolding WantedIsTaken
  gain_taken u k = grind (arith, columns, x.wanted_is_taken u k)

  gain_halted : HaltedWantNothing s.noted (put s.wanted t None) s.blocked_on s.wait
  unfolding HaltedWantNothing
  gain_halted u k e = let z = x.halted_want_nothing u k e in (grind (arith, columns, z.0), z.1, z.2)

  -- 2. An entry

  -- one that ends a take is of a lock that isn't wanted
  ended_unwanted : (o : Ordered c s) (e : Event) → MayStamp c s t e → EndsItsTake c s t e → (k : ℕ)
      → s.wanted t ≡ Some k
      → taking_after e (s.taking t) ≡ Some k
  unfolding WantedIsTaken HaltedWantNothing
  ended_unwanted o (Locked l mode) g i k w =
      let a = i k (x.wanted_is_taken t k w) in
      absurd (unheld c s o t k (λ n. (let z : NotHeld ≡ Holds mode = sym n ∙ ap (s.held t) (sym a.0)
      ∙ g.asks.0.held in cc)) w)
  ended_unwanted o (HaltedLock l) g i k w =
      absurd (let z : None ≡ Some k = sym ((x.halted_want_nothing t l.0 g.asks.0).0) ∙ w in cc)
  ended_unwanted o (Woke d) g i k w =
      let a = i k (x.wanted_is_taken t k w) in
      absurd (unheld c s o t k (subst (λ j. s.held t j ≢ NotHeld) a.0 g.asks.0.holds) w)
  ended_unwanted o (HaltedChan d) g i k w =
      let a = i k (x.wanted_is_taken t k w) in
      absurd (unheld c s o t k (subst (λ j. s.held t j ≢ NotHeld) a.0 g.asks.0.holds) w)
  ended_unwanted o other g i k w = x.wanted_is_taken t k w

  stamp_taken : (o : Ordered c s) (e : Event) → MayStamp c s t e → EndsItsTake c s t e
      → WantedIsTaken s.wanted (put s.taking t (taking_after e (s.taking t)))
  unfolding WantedIsTaken
  stamp_taken o e g i u k w = elim (cases_eq t u) [
    | inl j ↦ ap (put s.taking t (taking_after e (s.taking t))) (sym j)
        ∙ put_same s.taking t (taking_after e (s.taking t)) ∙ ended_unwanted o e g i k (ap s.wanted j ∙ w)
    | inr j ↦ put_other s.taking t (taking_after e (s.taking t)) u j ∙ x.wanted_is_taken u k w
  ]

  stamp_halted : HaltedWantNothing (put s.noted t None) s.wanted s.blocked_on s.wait
  unfolding HaltedWantNothing
  stamp_halted u k e = x.halted_want_nothing u k (grind (arith, columns, e))

  -- 3. Standing on a queue

  enter_taken : (l : ℕ) → s.wanted t ≡ Some l → WantedIsTaken (put s.wanted t (Some l)) s.taking
  unfolding WantedIsTaken
  enter_taken l w u k = grind (arith, columns, x.wanted_is_taken u k, w)

  enter_halted : (l : ℕ) → s.wanted t ≡ Some l
      → HaltedWantNothing s.noted (put s.wanted t (Some l)) (put s.blocked_on t (Some (lock_queue l))) s.wait
  unfolding HaltedWantNothing
  enter_halted l w u k e =
      let z = x.halted_want_nothing u k e in
      let ne : t ≡ u → ⊥ = λ i. (let y : Some l ≡ None = sym w ∙ ap s.wanted i ∙ z.0 in cc) in
      (put_other s.wanted t (Some l) u ne ∙ z.0, put_other s.blocked_on t (Some (lock_queue l)) u ne ∙ z.1, z.2)

  add_halted : (d : ℕ) → s.noted t ≡ None
      → HaltedWantNothing s.noted s.wanted (put s.blocked_on t (Some (chan_queue d))) s.wait
  unfolding HaltedWantNothing
  add_halted d n u k e =
      let z = x.halted_want_nothing u k e in
      let ne : t ≡ u → ⊥ = λ i. (let y : None ≡ Some (SleepHalted (lock_queue k)) = sym n ∙ ap s.noted i ∙ e in cc) in
      (z.0, put_other s.blocked_on t (Some (chan_queue d)) u ne ∙ z.1, z.2)

  -- 4. The begin of a round, an admission and a refusal, and the own wait word

  seek_taken : (by_try : Bool) (l : ℕ)
      → WantedIsTaken s.wanted (put s.taking t (taking_from by_try (s.wanted t) l (s.taking t)))
  unfolding WantedIsTaken
  seek_taken by_try l u k w = grind (arith, columns)

  admit_taken : (l : ℕ) → WantedIsTaken (put s.wanted t (Some l)) (put s.taking t (Some l))
  unfolding WantedIsTaken
  admit_taken l u k = grind (arith, columns, x.wanted_is_taken u k)

  admit_halted : (l : ℕ) → s.noted t ≡ None
      → HaltedWantNothing s.noted (put s.wanted t (Some l)) s.blocked_on s.wait
  unfolding HaltedWantNothing
  admit_halted l n u k e =
      let z = x.halted_want_nothing u k e in
      let ne : t ≡ u → ⊥ = λ i. (let y : None ≡ Some (SleepHalted (lock_queue k)) = sym n ∙ ap s.noted i ∙ e in cc) in
      (put_other s.wanted t (Some l) u ne ∙ z.0, z.1, z.2)

  refuse_halted : (l j : ℕ)
      → HaltedWantNothing (put s.noted t (Some (OrderRefused l j))) s.wanted s.blocked_on s.wait
  unfolding HaltedWantNothing
  refuse_halted l j u k e = x.halted_want_nothing u k (grind (arith, columns, e))

  wait_halted : (w : Wait) → is_woken w ≡ false → HaltedWantNothing s.noted s.wanted s.blocked_on (put s.wait t w)
  unfolding HaltedWantNothing
  wait_halted w n u k e =
      let z = x.halted_want_nothing u k e in (
        z.0,
        z.1,
        elim (cases_eq t u) [
          | inl i ↦ ap (λ v. is_woken (put s.wait t w v)) (sym i) ∙ ap is_woken (put_same s.wait t w) ∙ n
          | inr i ↦ ap is_woken (put_other s.wait t w u i) ∙ z.2
        ],
      )

-- 5. A mark

module _ (c : Config) (s : State) (x : WantsFitTakes s) (m : Mark) (stood : s.blocked_on m.thread ≡ Some m.queue) where
  abbrev blocked_on : ℕ → Option QueueName
  blocked_on = put s.blocked_on m.thread None

  abbrev wait : ℕ → Wait
  wait = put s.wait m.thread (Woken m.queue m.cause)

  mark_halted : HaltedWantNothing s.noted s.wanted blocked_on wait
  unfolding HaltedWantNothing
  mark_halted u k e =
      let z = x.halted_want_nothing u k e in
      let ne : m.thread ≡ u → ⊥ = λ i. (let y : Some m.queue ≡ None = sym stood ∙ ap s.blocked_on i ∙ z.1 in cc) in (
        z.0,
        put_other s.blocked_on m.thread None u ne
            ∙ z.1,
        ap is_woken (put_other s.wait m.thread (Woken m.queue m.cause) u ne) ∙ z.2,
      )

-- 6. A resume

module _ (c : Config) (s : State) (x : WantsFitTakes s) (t : ℕ) (q : QueueName) (cause : Cause)
    (g : MayResume c s t q cause)
    (unnamed : (r : QueueName) → s.blocked_on t ≡ Some r → ⊥) where
  abbrev back : Bool
  back = is_taking_back (s.log t)

  abbrev wanted : ℕ → Option ℕ
  wanted = put s.wanted t (wanted_after c q cause back (s.wanted t))

  abbrev taking : ℕ → Option ℕ
  taking = put s.taking t (taking_by c q (s.taking t))

  takes : (q : QueueName) (cause : Cause) (k : ℕ) → wanted_after c q cause back (s.wanted t) ≡ Some k
      → taking_by c q (s.taking t) ≡ Some k
  unfolding WantedIsTaken
  takes q cause k e = grind arith

  resume_taken : WantedIsTaken wanted taking
  unfolding WantedIsTaken
  resume_taken u k e = grind (arith, columns)

  resume_halted : HaltedWantNothing (put s.noted t (noted_after q cause back (s.noted t))) wanted s.blocked_on
      (put s.wait t Running)
  unfolding HaltedWantNothing
  resume_halted u k e = grind (arith, columns)

-- 7. Each step

pub keeps : (chains : ℕ) (c : Config) (s : State) (step : Step) → FitsFloor chains c s step → KeepsToOrder c s step
    → Lawful c s → Ordered c s → WantsFitTakes s → WantsFitTakes (after c s step)
unfolding after_seek after_look after_gain after_drop after_stamp after_ready after_unready after_enter after_open
    after_mark after_resume after_enter_sleep after_open_sleep after_add after_wake after_claim after_lend after_shift
    after_end_walk after_admit after_refuse after_take after_give after_count_out after_count_in after_count_self_in
    after_count_end after_halt after_abort
keeps chains c s (Seeks t l by_try) f k w o x = assumption (x, seek_taken c s x t by_try l)
keeps chains c s (Gains t l mode by_try) f k w o x = assumption (x, gain_taken c s x t, gain_halted c s x t)
keeps chains c s (Claims t l h by_try) f k w o x = assumption (x, gain_taken c s x t, gain_halted c s x t)
keeps chains c s (Stamps t e) f k w o x = assumption (x, stamp_taken c s x t o e f.may k, stamp_halted c s x t)
keeps chains c s (Readies t q) f k w o x = assumption (x, wait_halted c s x t Queued refl)
keeps chains c s (Unreadies t q) f k w o x = assumption (x, wait_halted c s x t Running refl)
keeps chains c s (Enters t l mode h) f k w o x = assumption (x, enter_taken c s x t l k, enter_halted c s x t l k)
keeps chains c s (EntersSleepQueue t l mode h) f k w o x =
    assumption (x, enter_taken c s x t l k, enter_halted c s x t l k)
keeps chains c s (Adds t d h) f k w o x = assumption (x, add_halted c s x t d f.has_seen.unnoted)
keeps chains c s (Marks t m ms) f k w o x =
    assumption (x, mark_halted c s x m (marked_named c s t m ms w f.may.thread f.may.marked))
keeps chains c s (Resumes t q cause) f k w o x =
    let n = unnamed c s t q cause f.may w in
    assumption (x, resume_taken c s x t q cause f.may n, resume_halted c s x t q cause f.may n)
keeps chains c s (Admits t l) f k w o x =
    assumption (x, admit_taken c s x t l, admit_halted c s x t l f.may.free.unnoted)
keeps chains c s (Refuses t l class) f k w o x = assumption (x, refuse_halted c s x t l class)
keeps chains c s other f k w o x = assumption x

-- A thread that was woken runs again: the last bit of its own wait word is kept, which changes the word of one that was
-- woken, and leaves that of one that is queued still.
use Rattle.lock_floor.proofs.Names
use Names.{ℕ, bit_and, List, [], refl, sym, ap, subst, inl, inr, arith, Me, keeps, carried_after, Allows, put_same}
use Names.{put_other, Config, Cause, BySignal, ByAbort, QueueName, State, Wait, Running, Queued, Woken, Awake, Step}
use Names.{Resumes, is_taking_back, after_resume, called_after, wanted_after, noted_after, taking_by, woken_from_by}
use Names.{round_for, config_in, Description, Slot, IsSeenBy, spot, wait_line, wait_word, latch_word, slots_for}
use Names.{home_at, Board, IsPosed, RepresentsShare, wait_number, FloorHolds, ShareColumns, columns_of, share_in}
use Names.{Shelves, MayMake, Makes, Fits, Knowledge, OfThread, Pose, StandsOn, seeing, Finds, Steps, allows, wait_made}
use Names.{none_made, sooner, outs_stay, OwnSteps, one_own, seen_on, resumed, FindsQueued, MayRunAgain, RunsAgain}
use Rattle.std.proofs.Common.{◌≡◌, ◌≢◌, ◌⊎◌, ◌∷◌, ◌∙◌}
use Rattle.lock_floor.proofs.Taking.{HasWaited}

-- 1. The shares behind it

module _ (s : State) (v : Knowledge) (fit : RepresentsShare v.share s v.thread) where
  abbrev t : ℕ
  t = v.thread

  abbrev e : columns_of v.share ≡ share_in s t
  e = fit.columns

  pub resume_own : (c : Config) (q : QueueName) (cause : Cause)
      → RepresentsShare (resumed c v q cause).share (after_resume c s t q cause) t
  unfolding after_resume
  resume_own c q cause = record {
    columns = λ i. record (e i) {
      doing = record (e i).doing {
        called = (ap (λ (x : ShareColumns). called_after q cause x.doing.called) e ∙ sym (put_same s.called t _)) i;
        wanted = (ap (λ (x : ShareColumns). wanted_after c q cause (is_taking_back x.log) x.doing.wanted) e
            ∙ sym (put_same s.wanted t _)) i;
        noted = (ap (λ (x : ShareColumns). noted_after q cause (is_taking_back x.log) x.doing.noted) e
            ∙ sym (put_same s.noted t _)) i;
        taking = (ap (λ (x : ShareColumns). taking_by c q x.doing.taking) e ∙ sym (put_same s.taking t _)) i;
        woken_from = (ap (λ (x : ShareColumns). woken_from_by q cause x.doing.woken_from) e
            ∙ sym (put_same s.woken_from t _)) i;
        looks = sym (put_same s.looks t 0) i;
        round = (ap (λ (x : ShareColumns). round_for (wanted_after c q cause (is_taking_back x.log) x.doing.wanted)) e
            ∙ sym (put_same s.round t _)) i;
        phase = sym (put_same s.phase t Awake) i;
      };
    };
    held_once = fit.held_once;
  }

module _ (s : State) (t u : ℕ) (other : u ≢ t) where
  ne : t ≡ u → ⊥
  ne q = other (sym q)

  pub resume_others : (c : Config) (q : QueueName) (cause : Cause)
      → share_in (after_resume c s t q cause) u ≡ share_in s u
  unfolding after_resume
  resume_others c q cause =
      let called_is : (after_resume c s t q cause).called u ≡ s.called u = put_other s.called t _ u ne in
      let wanted_is : (after_resume c s t q cause).wanted u ≡ s.wanted u = put_other s.wanted t _ u ne in
      let noted_is : (after_resume c s t q cause).noted u ≡ s.noted u = put_other s.noted t _ u ne in
      let taking_is : (after_resume c s t q cause).taking u ≡ s.taking u = put_other s.taking t _ u ne in
      let woken_is : (after_resume c s t q cause).woken_from u ≡ s.woken_from u = put_other s.woken_from t _ u ne in
      let round_is : (after_resume c s t q cause).round u ≡ s.round u = put_other s.round t _ u ne in
      λ i. record (share_in s u) {
        doing = record (share_in s u).doing {
          called = called_is i;
          wanted = wanted_is i;
          noted = noted_is i;
          taking = taking_is i;
          woken_from = woken_is i;
          looks = put_other s.looks t 0 u ne i;
          round = round_is i;
          phase = put_other s.phase t Awake u ne i;
        };
      }

-- 2. It may be made on each table

-- what it tells: where the word was that of a wake by a cause, the thread runs; where it was Queued, the thread made
-- no step; and the word was one of these
abbrev pub Resumed : Description → QueueName → Me Slot Knowledge → ℕ → Me Slot Knowledge → Type 0
Resumed floor q me found behind =
    ((cause : Cause) → found ≡ wait_number (Woken q cause)
    → (behind ≡ (seeing behind.0.seen (resumed (config_in floor) me.0 q cause), me.1))
    × Makes floor (Resumes me.0.thread q cause ∷ []) me.0 behind.0)
    × (found ≡ 1 → (behind ≡ (seeing behind.0.seen me.0, me.1)) × FindsQueued floor me.0 behind.0)
    × ((found ≡ 1) ⊎ ((cause : Cause) × (found ≡ wait_number (Woken q cause))))

-- the same, of whichever queue it stands on
abbrev pub ResumedOff : Description → Me Slot Knowledge → ℕ → Me Slot Knowledge → Type 0
ResumedOff floor me found behind = (q : QueueName) → me.0.pose ≡ StandsOn q → Resumed floor q me found behind

-- the causes have different numbers
one_cause : (q : QueueName) (a b : Cause) → wait_number (Woken q a) ≡ wait_number (Woken q b) → a ≡ b
one_cause q f g e = grind arith

-- that of a queued thread is another
not_queued : (q : QueueName) (a : Cause) → wait_number (Woken q a) ≡ 1 → ⊥
not_queued q f e = grind arith

-- of a word that says woken no last bit is kept
no_bit : (q : QueueName) (a : Cause) → bit_and (wait_number (Woken q a)) 1 ≡ 0
no_bit q e = grind arith

module _ (floor : Description) (me : Me Slot Knowledge) (was : me.0.role ≡ OfThread) (q : QueueName)
    (stands : me.0.pose ≡ StandsOn q) where
  abbrev v : Knowledge
  v = me.0

  abbrev at : ℕ
  at = spot (wait_line v.thread)

  its_number : (b : Board) (h : Finds floor v b) (y : Wait) → h.state.wait v.thread ≡ y
      → wait_word b.words v.thread ≡ wait_number y
  its_number b h y e = h.represents.words.waits v.thread h.fits.thread ∙ ap wait_number e

  resumes : (b : Board) (h : Finds floor v b) (cause : Cause) → h.state.wait v.thread ≡ Woken q cause
      → MayMake floor v (λ s. s.wait v.thread ≡ Woken q cause) (Resumes v.thread q cause ∷ [])
      → Steps floor me at (wait_word b.words v.thread) 0 (Resumed floor q me) b
  unfolding after_resume
  resumes b h cause woken may =
      let c : Config = config_in floor in
      let s : State = h.state in
      let t : ℕ = v.thread in
      let n : State = after_resume c s t q cause in
      let step : Step = Resumes t q cause in
      let w : Knowledge = seeing (step ∷ h.past) (resumed c v q cause) in
      let allowed = may s h.fits woken in
      let own : OwnSteps v w h.past (step ∷ []) s n = record {
        role = was;
        seen = refl;
        makers = one_own t step refl;
        seat = record { thread = refl; share = resume_own s v h.fits.share c q cause };
        others = λ u ne. resume_others s t u ne c q cause;
        pose = put_same s.wait t Running;
        other_poses = λ u ne p z. subst (λ wait. IsPosed p wait (s.blocked_on u))
            (sym (put_other s.wait t Running u (λ e. ne (sym e)))) z;
      } in
      let made = wait_made floor (step ∷ []) b v w h was allowed own me.1 t 0 Running h.represents.content h.fits.thread
      refl refl refl refl
      (subst (λ o. Shelves (slots_for floor) (latch_word b.words) (home_at b.homes) o h.represents.content)
      (outs_stay floor (step ∷ []) b v w h was allowed own me.1 refl) h.represents.shelves) h.represents.objects in
      let found = its_number b h (Woken q cause) woken in (
        w,
        keeps,
        tt,
        made.0,
        (
          λ k e. subst (λ k. ◌≡◌ {A = Me Slot Knowledge} (w, me.1) (seeing w.seen (resumed c v q k), me.1)
              × Makes floor (Resumes t q k ∷ []) v w) (one_cause q cause k (sym found ∙ e)) (refl, made.1),
          λ e. absurd (not_queued q cause (sym found ∙ e)),
          inr (cause, found),
        ),
      )

  stays : (b : Board) (h : Finds floor v b) → h.state.wait v.thread ≡ Queued
      → Steps floor me at (wait_word b.words v.thread) (wait_word b.words v.thread) (Resumed floor q me) b
  stays b h queued =
      let seen = none_made floor b v h was at me.1 in
      let found = its_number b h Queued queued in
      let queue : FindsQueued floor v (seeing h.past v) = record {
        moment = seen.1;
        queued = ap (λ (s : State). s.wait v.thread) seen.2 ∙ queued;
      } in (
        seeing h.past v,
        keeps,
        tt,
        seen.0,
        (λ k e. absurd (not_queued q k (sym e ∙ found)), λ e. (refl, queue), inl found),
      )

  -- the word becomes its last bit
  steps : MayRunAgain floor v → (queue_is : (r : QueueName) → v.pose ≡ StandsOn r → r ≡ q)
      → (b : Board) (h : Finds floor v b)
      → Steps floor me at (wait_word b.words v.thread) (bit_and (wait_word b.words v.thread) 1) (Resumed floor q me) b
  steps may queue_is b h =
      elim (subst (λ p. IsPosed p (h.state.wait v.thread) (h.state.blocked_on v.thread)) stands h.fits.pose) [
        | inl z ↦
            let number = its_number b h Queued z.0 in
            subst (λ n. Steps floor me at (wait_word b.words v.thread) n (Resumed floor q me) b)
            (number ∙ ap (λ n. bit_and n 1) (sym number)) (stays b h z.0)
        | inr z ↦
            let number = its_number b h (Woken q z.0) z.1 in
            let its_may = subst (λ r. MayMake floor v (λ s. s.wait v.thread ≡ Woken r z.0)
            (Resumes v.thread r z.0 ∷ [])) (queue_is may.queue may.stands) (may.may z.0) in
            subst (λ n. Steps floor me at (wait_word b.words v.thread) n (Resumed floor q me) b)
            (sym (no_bit q z.0) ∙ ap (λ n. bit_and n 1) (sym number)) (resumes b h z.0 z.1 its_may)
      ]

-- the queue of a pose is one
one_queue : (p : Pose) (q r : QueueName) → p ≡ StandsOn q → p ≡ StandsOn r → r ≡ q
one_queue p q r e f = let z : StandsOn r ≡ StandsOn q = sym f ∙ e in cc

pub resume_allowed : (floor : Description) (me : Me Slot Knowledge) (slots id : ℕ) → me.0.role ≡ OfThread
    → MayRunAgain floor me.0
    → Allows (FloorHolds floor) slots id me (spot (wait_line me.0.thread)) (λ n. bit_and n 1)
    (ResumedOff floor me)
resume_allowed floor me slots id was may =
    allows floor slots id me (spot (wait_line me.0.thread)) (λ n. bit_and n 1)
    (ResumedOff floor me) was
    (λ b h small.
    let q = may.queue in
    let made = steps floor me was q may.stands may (λ r e. one_queue me.0.pose q r may.stands e) b h in (
      made.0,
      made.1,
      made.2,
      made.3,
      λ r e. subst (λ r. Resumed floor r me (wait_word b.words me.0.thread) (made.0, carried_after me.1 made.1))
          (one_queue me.0.pose r q e may.stands) made.4,
    ))

-- 3. Waiting for it

-- who finds itself Queued has waited on
pub waits_queued : (floor : Description) (old mid new : Knowledge) → HasWaited old mid → new ≡ seeing new.seen mid
    → FindsQueued floor mid new → HasWaited old new
waits_queued floor old mid new h view queued =
    let m = queued.moment in
    let same : mid.thread ≡ old.thread = ap (λ (k : Knowledge). k.thread) h.view in
    let since : IsSeenBy old.thread mid.seen new.seen =
    subst (λ (z : ℕ × List Step). IsSeenBy z.0 mid.seen z.1) (λ k. (same k, sym m.seen k)) m.since in
    record {
      view = view ∙ ap (seeing new.seen) h.view;
      since = seen_on old.thread old.seen mid.seen new.seen h.since since;
    }

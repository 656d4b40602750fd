-- A gain and a drop of a lock: an exchange of its word, which is a look where it misses.
use Rattle.lock_floor.proofs.Names
use Names.{ℕ, eqb, List, [], length, refl, sym, ap, subst, Me, keeps, Allows, put_at_same, NotHeld, hold_in, word_of}
use Names.{Held, Mode, State, Step, Looks, Gains, Drops, Opens, after, after_gain, after_drop, after_open, config_in}
use Names.{Description, Slot, spot, lock_line, lock_word, Board, IsSeatOf, RepresentsShare, thread_in, FloorHolds}
use Names.{ShareColumns, MayMake, Makes, Knowledge, OfThread, seeing, Finds, Steps, exchange_allows, lock_made}
use Names.{OwnSteps, one_own, counts, gained, put_down}
use Rattle.std.proofs.Common.{◌≡◌, ◌≢◌, ◌<◌, ◌∷◌, ◌∙◌}
use prog.Atomic.{either}
use Rattle.lock_model.specs.Words as words
use Rattle.lock_floor.proofs.Looking.{Looked, looks, found_word}
use Rattle.lock_floor.proofs.Shares.{gain_own, gain_others, drop_own, drop_others}

-- where the seen word was found the seat knows v then, behind the steps, and else what it knows after a look
abbrev pub Changed : Description → ℕ → ℕ → (Me Slot Knowledge → Knowledge) → (Me Slot Knowledge → List Step)
    → Me Slot Knowledge → ℕ → Me Slot Knowledge → Type 0
Changed floor l seen v steps me found behind =
    (found ≡ seen → (behind ≡ (seeing behind.0.seen (v me), me.1)) × Makes floor (steps me) me.0 behind.0)
    × (found ≢ seen → Looked floor l me found behind)

abbrev pub gain_step : Held → Me Slot Knowledge → List Step
gain_step h me = Gains me.0.thread h.l.0 h.mode h.by_try ∷ []

abbrev pub Gained : Description → Held → ℕ → Me Slot Knowledge → ℕ → Me Slot Knowledge → Type 0
Gained floor h seen = Changed floor h.l.0 seen (λ me. gained me.0 h) (gain_step h)

abbrev pub drop_step : ℕ → Mode → Me Slot Knowledge → List Step
drop_step l mode me = Drops me.0.thread l mode ∷ []

abbrev pub Dropped : Description → ℕ → Mode → ℕ → Me Slot Knowledge → ℕ → Me Slot Knowledge → Type 0
Dropped floor l mode seen = Changed floor l seen (λ me. put_down me.0 l) (drop_step l mode)

module _ (floor : Description) (me : Me Slot Knowledge) (was : me.0.role ≡ OfThread) (slots id seen new : ℕ) where
  abbrev v : Knowledge
  v = me.0

  -- a look where it misses
  pub missed : (l : ℕ) (w : Me Slot Knowledge → Knowledge) (steps : Me Slot Knowledge → List Step)
      → l < length floor.locks → MayMake floor v (λ s. Unit {0}) (Looks v.thread l (counts v l) ∷ [])
      → (b : Board) (h : Finds floor v b) → lock_word b.words l ≢ seen
      → Steps floor me (spot (lock_line l)) (lock_word b.words l) (lock_word b.words l)
      (Changed floor l seen w steps me) b
  missed l w steps low may b h ne =
      let look = looks floor me l was low b h (may h.state h.fits tt) in
      (look.0, look.1, look.2, look.3, (λ e. absurd (ne e), λ _. look.4))

  gains : (x : Held) → x.l.0 < length floor.locks → word_of new ≡ words.gained (word_of seen) v.thread x.mode
      → MayMake floor v (λ s. s.word x.l.0 ≡ word_of seen) (gain_step x me)
      → (b : Board) (h : Finds floor v b) → lock_word b.words x.l.0 ≡ seen
      → Steps floor me (spot (lock_line x.l.0)) (lock_word b.words x.l.0) new (Gained floor x seen me) b
  unfolding after_gain
  gains x low says may b h same =
      let l : ℕ = x.l.0 in
      let step : Step = Gains v.thread l x.mode x.by_try in
      let w : Knowledge = seeing (step ∷ h.past) (gained v x) in
      let its_word : h.state.word l ≡ word_of seen = sym (found_word floor b v h l low).0 ∙ ap word_of same in
      let allowed = may h.state h.fits its_word in
      let n : State = after_gain h.state v.thread l x.mode x.by_try in
      let own : OwnSteps v w h.past (gain_step x me) h.state n = record {
        role = was;
        seen = refl;
        makers = one_own v.thread step refl;
        seat = record { thread = refl; share = gain_own h.state v h.fits.share x allowed.0.fits.may.unheld };
        others = λ u ne. gain_others h.state v.thread u ne x;
        pose = h.fits.pose;
        other_poses = λ u ne p k. k;
      } in
      let says_now : word_of new ≡ words.gained (h.state.word l) v.thread x.mode = says
      ∙ ap (λ y. words.gained y v.thread x.mode) (sym its_word) in
      let made = lock_made floor (gain_step x me) b v w h was allowed own me.1 l new
      (words.gained (h.state.word l) v.thread x.mode) low says_now refl (record { items = refl; objects = refl })
      refl refl in
      (w, keeps, tt, made.0, (λ e. (refl, made.1), λ ne. absurd (ne same)))

  pub gain_allowed : (x : Held) → x.l.0 < length floor.locks → word_of new ≡ words.gained (word_of seen) v.thread x.mode
      → MayMake floor v (λ s. s.word x.l.0 ≡ word_of seen) (gain_step x me)
      → MayMake floor v (λ s. Unit {0}) (Looks v.thread x.l.0 (counts v x.l.0) ∷ [])
      → Allows (FloorHolds floor) slots id me (spot (lock_line x.l.0)) (λ n. either (eqb n seen) new n)
      (Gained floor x seen me)
  gain_allowed x low says may may_look =
      exchange_allows floor slots id me (spot (lock_line x.l.0)) seen new (Gained floor x seen me) was
      (gains x low says may) (λ b h ne small. missed x.l.0 (λ me. gained me.0 x) (gain_step x) low may_look b h ne)

  drops : (l : ℕ) (mode : Mode) → l < length floor.locks → word_of new ≡ words.dropped (word_of seen)
      → MayMake floor v (λ s. s.word l ≡ word_of seen) (drop_step l mode me)
      → (b : Board) (h : Finds floor v b) → lock_word b.words l ≡ seen
      → Steps floor me (spot (lock_line l)) (lock_word b.words l) new (Dropped floor l mode seen me) b
  unfolding after_drop
  drops l mode low says may b h same =
      let step : Step = Drops v.thread l mode in
      let w : Knowledge = seeing (step ∷ h.past) (put_down v l) in
      let its_word : h.state.word l ≡ word_of seen = sym (found_word floor b v h l low).0 ∙ ap word_of same in
      let allowed = may h.state h.fits its_word in
      let n : State = after_drop h.state v.thread l in
      let own : OwnSteps v w h.past (drop_step l mode me) h.state n = record {
        role = was;
        seen = refl;
        makers = one_own v.thread step refl;
        seat = record { thread = refl; share = drop_own h.state v h.fits.share l };
        others = λ u ne. drop_others h.state v.thread u ne l;
        pose = h.fits.pose;
        other_poses = λ u ne p k. k;
      } in
      let says_now : word_of new ≡ words.dropped (h.state.word l) = says ∙ ap (λ y. words.dropped y) (sym its_word) in
      let made = lock_made floor (drop_step l mode me) b v w h was allowed own me.1 l new
      (words.dropped (h.state.word l)) low says_now refl (record { items = refl; objects = refl }) refl refl in
      (w, keeps, tt, made.0, (λ e. (refl, made.1), λ ne. absurd (ne same)))

  pub drop_allowed : (l : ℕ) (mode : Mode) → l < length floor.locks → word_of new ≡ words.dropped (word_of seen)
      → MayMake floor v (λ s. s.word l ≡ word_of seen) (drop_step l mode me)
      → MayMake floor v (λ s. Unit {0}) (Looks v.thread l (counts v l) ∷ [])
      → Allows (FloorHolds floor) slots id me (spot (lock_line l)) (λ n. either (eqb n seen) new n)
      (Dropped floor l mode seen me)
  drop_allowed l mode low says may may_look =
      exchange_allows floor slots id me (spot (lock_line l)) seen new (Dropped floor l mode seen me) was
      (drops l mode low says may)
      (λ b h ne small. missed l (λ me. put_down me.0 l) (drop_step l mode) low may_look b h ne)

-- behind a release the thread doesn't hold the lock

left_unheld : (floor : Description) (v w : Knowledge) (l : ℕ) (step : Step) (m : Makes floor (step ∷ []) v w)
    → (after (config_in floor) m.state step).held v.thread l ≡ NotHeld → hold_in w.share.held l ≡ NotHeld
left_unheld floor v w l step m unheld =
    let n : State = after (config_in floor) m.state step in
    let its : IsSeatOf (thread_in m.behind.views v.thread) n v.thread =
    m.represents_behind.seats.thread v.thread (ap (λ (k : Knowledge). k.role) m.is ∙ m.role_behind) in
    let share : RepresentsShare w.share n v.thread =
    subst (λ (k : Knowledge). RepresentsShare k.share n v.thread) m.is its.share in
    ap (λ (x : ShareColumns). x.held l) share.columns ∙ unheld

pub dropped_unheld : (floor : Description) (v w : Knowledge) (l : ℕ) (mode : Mode)
    → Makes floor (Drops v.thread l mode ∷ []) v w → hold_in w.share.held l ≡ NotHeld
unfolding after_drop
dropped_unheld floor v w l mode m =
    left_unheld floor v w l (Drops v.thread l mode) m (put_at_same m.state.held v.thread l NotHeld)

pub opened_unheld : (floor : Description) (v w : Knowledge) (l : ℕ) (mode : Mode)
    → Makes floor (Opens v.thread l mode ∷ []) v w → hold_in w.share.held l ≡ NotHeld
unfolding after_open
opened_unheld floor v w l mode m =
    left_unheld floor v w l (Opens v.thread l mode) m (put_at_same m.state.held v.thread l NotHeld)

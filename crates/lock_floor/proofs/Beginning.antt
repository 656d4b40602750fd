-- A round that begins with an exchange: it is gained in the same step, or the exchange misses and is a look.
use Rattle.lock_floor.proofs.Names
use Names.{ℕ, eqb, true, List, [], length, refl, sym, ap, Me, keeps, Allows, word_of, Held, State, Step, Looks, Seeks}
use Names.{Gains, after_seek, after_gain, Description, Slot, past_with, spot, lock_line, lock_word, Board, FloorHolds}
use Names.{MayMake, FitAll, Makes, Knowledge, OfThread, seeing, Finds, Steps, exchange_allows, lock_made, OwnSteps}
use Names.{two_own, gained_first, counts, sought}
use Rattle.std.proofs.Common.{◌≡◌, ◌≢◌, ◌<◌, ◌∷◌, ◌∙◌}
use prog.Atomic.{either}
use Rattle.lock_model.specs.Words as words
use Rattle.lock_floor.proofs.Gaining.{Changed, missed}
use Rattle.lock_floor.proofs.Looking.{Sought, first_looks, found_word}
use Rattle.lock_floor.proofs.Shares.{seek_own, seek_others, gain_own, gain_others}

-- the steps by which a round begins and its lock is gained
abbrev pub both_steps : Held → Me Slot Knowledge → List Step
both_steps h me = Seeks me.0.thread h.l.0 h.by_try ∷ Gains me.0.thread h.l.0 h.mode h.by_try ∷ []

-- what it tells where it gained
abbrev pub Begun : Description → Held → Me Slot Knowledge → Me Slot Knowledge → Type 0
Begun floor h me behind =
    (behind ≡ (seeing behind.0.seen (gained_first me.0 h), me.1)) × Makes floor (both_steps h me) me.0 behind.0

-- where the exchange that misses is no round's look,
abbrev pub FirstGained : Description → Held → ℕ → Me Slot Knowledge → ℕ → Me Slot Knowledge → Type 0
FirstGained floor h seen = Changed floor h.l.0 seen (λ me. gained_first me.0 h) (both_steps h)

-- and where it is the first look of the round
abbrev pub SoughtGained : Description → Held → ℕ → Me Slot Knowledge → ℕ → Me Slot Knowledge → Type 0
SoughtGained floor h seen me found behind =
    (found ≡ seen → Begun floor h me behind) × (found ≢ seen → Sought floor h.l.0 h.by_try me found behind)

module _ (floor : Description) (me : Me Slot Knowledge) (was : me.0.role ≡ OfThread) (slots id seen new : ℕ) (x : Held)
    (low : x.l.0 < length floor.locks) where
  abbrev v : Knowledge
  v = me.0

  abbrev l : ℕ
  l = x.l.0

  module _ (says : word_of new ≡ words.gained (word_of seen) v.thread x.mode)
      (may : MayMake floor v (λ s. s.word l ≡ word_of seen) (both_steps x me)) where
    begins : (b : Board) (h : Finds floor v b) → lock_word b.words l ≡ seen
        → Steps floor me (spot (lock_line l)) (lock_word b.words l) new (λ found behind. Begun floor x me behind) b
    unfolding after_seek after_gain
    begins b h same =
        let w : Knowledge = seeing (past_with h.past (both_steps x me)) (gained_first v x) in
        let its_word : h.state.word l ≡ word_of seen = sym (found_word floor b v h l low).0 ∙ ap word_of same in
        let allowed : FitAll floor h.state (both_steps x me) = may h.state h.fits its_word in
        let s : State = after_seek h.state v.thread l x.by_try in
        let n : State = after_gain s v.thread l x.mode x.by_try in
        let own : OwnSteps v w h.past (both_steps x me) h.state n = record {
          role = was;
          seen = refl;
          makers = two_own v.thread (Seeks v.thread l x.by_try) (Gains v.thread l x.mode x.by_try) refl refl;
          seat = record {
            thread = refl;
            share = gain_own s (sought v l x.by_try) (seek_own h.state v h.fits.share l x.by_try) x
                allowed.0.fits.may.unheld;
          };
          others = λ u ne. gain_others s v.thread u ne x ∙ seek_others h.state v.thread u ne l x.by_try;
          pose = h.fits.pose;
          other_poses = λ u ne p k. k;
        } in
        let says_now : word_of new ≡ words.gained (h.state.word l) v.thread x.mode =
        says ∙ ap (λ y. words.gained y v.thread x.mode) (sym its_word) in
        let made =
        lock_made floor (both_steps x me) b v w h was allowed own me.1 l new
        (words.gained (h.state.word l) v.thread x.mode) low says_now refl (record { items = refl; objects = refl }) refl
        refl in
        (w, keeps, tt, made.0, (refl, made.1))

    pub first_allowed : MayMake floor v (λ s. Unit {0}) (Looks v.thread l (counts v l) ∷ [])
        → Allows (FloorHolds floor) slots id me (spot (lock_line l)) (λ n. either (eqb n seen) new n)
        (FirstGained floor x seen me)
    first_allowed may_look =
        exchange_allows floor slots id me (spot (lock_line l)) seen new (FirstGained floor x seen me) was
        (λ b h same. let r = begins b h same in (r.0, r.1, r.2, r.3, (λ e. r.4, λ ne. absurd (ne same))))
        (λ b h ne small. missed floor me was slots id seen new l (λ me. gained_first me.0 x) (both_steps x) low may_look
        b h ne)

    pub sought_allowed : v.description ≡ floor
        → MayMake floor v (λ s. Unit {0}) (Seeks v.thread l x.by_try ∷ Looks v.thread l true ∷ [])
        → Allows (FloorHolds floor) slots id me (spot (lock_line l)) (λ n. either (eqb n seen) new n)
        (SoughtGained floor x seen me)
    sought_allowed mine may_look =
        exchange_allows floor slots id me (spot (lock_line l)) seen new (SoughtGained floor x seen me) was
        (λ b h same. let r = begins b h same in (r.0, r.1, r.2, r.3, (λ e. r.4, λ ne. absurd (ne same))))
        (λ b h ne small.
        let r = first_looks floor me l was low x.by_try mine b h (may_look h.state h.fits tt) in
        (r.0, r.1, r.2, r.3, (λ e. absurd (ne e), λ _. r.4)))

-- A look at a lock's word: a load of the word, or an exchange that misses. It may be made on each table, and tells what
-- the thread's seat knows then.
use Rattle.lock_floor.proofs.Names
use Names.{ℕ, Bool, true, false, not, List, [], length, Option, Some, None, refl, sym, ap, subst, arith, eq-eqb, ne_eqb}
use Names.{Me, keeps, Allows, well_formed, Word, word_of, IsWellFormed, State, Step, Looks, Seeks, chain_of, is_with}
use Names.{item_with, after_look, after_seek, config_in, Description, Slot, past_with, spot, lock_line, lock_word}
use Names.{Board, RepresentsShare, FloorHolds, MayMake, FitAll, Makes, Knowledge, OfThread, seeing, Finds, Steps}
use Names.{allows, lock_seen, OwnSteps, one_own, two_own, Floor, Pass, has_item, counts, looked, sought}
use Rattle.std.proofs.Common.{◌≡◌, ◌<◌, ◌&&◌, ◌||◌, ◌∷◌, ◌∙◌}
use Rattle.lock_floor.proofs.May.{its_item}
use Rattle.lock_floor.proofs.Shares.{look_own, look_others, seek_own, seek_others}

-- what it tells
abbrev pub Looked : Description → ℕ → Me Slot Knowledge → ℕ → Me Slot Knowledge → Type 0
Looked floor l me found behind =
    IsWellFormed (word_of found) × (behind ≡ (seeing behind.0.seen (looked me.0 l (word_of found)), me.1))
    × Makes floor (Looks me.0.thread l (counts me.0 l) ∷ []) me.0 behind.0

abbrev pub Sought : Description → ℕ → Bool → Me Slot Knowledge → ℕ → Me Slot Knowledge → Type 0
Sought floor l by_try me found behind =
    IsWellFormed (word_of found)
    × (behind ≡ (seeing behind.0.seen (looked (sought me.0 l by_try) l (word_of found)), me.1))
    × Makes floor (Seeks me.0.thread l by_try ∷ Looks me.0.thread l true ∷ []) me.0 behind.0

-- the word that is found says the lock's column, and is well formed
pub found_word : (floor : Description) (b : Board) (v : Knowledge) (h : Finds floor v b) (l : ℕ)
    → l < length floor.locks → (word_of (lock_word b.words l) ≡ h.state.word l)
    × IsWellFormed (word_of (lock_word b.words l))
found_word floor b v h l low =
    let says : word_of (lock_word b.words l) ≡ h.state.word l = h.represents.words.locks l low in (
      says,
      subst IsWellFormed (sym says)
          (well_formed (config_in floor) h.state l h.sound.facts.lawful
          (omega (arith, h.represents.sizes.sized.threads))),
    )

module _ (floor : Description) (me : Me Slot Knowledge) (l : ℕ) (was : me.0.role ≡ OfThread)
    (low : l < length floor.locks) where
  abbrev v : Knowledge
  v = me.0

  -- on a table where it may be made
  pub looks : (b : Board) (h : Finds floor v b) → FitAll floor h.state (Looks v.thread l (counts v l) ∷ [])
      → Steps floor me (spot (lock_line l)) (lock_word b.words l) (lock_word b.words l) (Looked floor l me) b
  unfolding after_look
  looks b h may =
      let word : Word = word_of (lock_word b.words l) in
      let step : Step = Looks v.thread l (counts v l) in
      let w : Knowledge = seeing (step ∷ h.past) (looked v l word) in
      let found = found_word floor b v h l low in
      let own : OwnSteps v w h.past (step ∷ []) h.state (after_look h.state v.thread l (counts v l)) = record {
        role = was;
        seen = refl;
        makers = one_own v.thread step refl;
        seat = record {
          thread = refl;
          share = subst (λ y. RepresentsShare (looked v l y).share (after_look h.state v.thread l (counts v l))
              v.thread) (sym found.0) (look_own h.state v h.fits.share l);
        };
        others = λ u ne. look_others h.state v.thread u ne l (counts v l);
        pose = h.fits.pose;
        other_poses = λ u ne p k. k;
      } in
      let made = lock_seen floor (step ∷ []) b v w h was may own me.1 l low refl
      (record { items = refl; objects = refl }) refl refl in
      (w, keeps, tt, made.0, (found.1, refl, made.1))

  pub look_allowed : (slots id : ℕ) → MayMake floor v (λ s. Unit {0}) (Looks v.thread l (counts v l) ∷ [])
      → Allows (FloorHolds floor) slots id me (spot (lock_line l)) (λ n. n) (Looked floor l me)
  look_allowed slots id may =
      allows floor slots id me (spot (lock_line l)) (λ n. n) (Looked floor l me) was
      (λ b h small. looks b h (may h.state h.fits tt))

  -- 2. The first look of an acquiring round

  module _ (by_try : Bool) (mine : v.description ≡ floor) where
    abbrev both : List Step
    both = Seeks v.thread l by_try ∷ Looks v.thread l true ∷ []

    -- the thread doesn't have the lock's chain out
    no_chain : (b : Board) (h : Finds floor v b) → FitAll floor h.state both
        → has_item v (chain_of v.description.chains (config_in v.description) l) ≡ false
    no_chain b h may =
        subst (λ (d : Description). has_item v (chain_of d.chains (config_in d) l) ≡ false) (sym mine)
        (its_item floor v h.state h.fits mine (chain_of floor.chains (config_in floor) l)
        ∙ go (item_with h.state (chain_of floor.chains (config_in floor) l)) may.0.fits.has_out)
      where
        go : (o : Option ℕ) → (o ≡ Some v.thread → ⊥) → is_with v.thread o ≡ false
        go None gone = refl
        go (Some u) gone = ne_eqb u v.thread (λ e. gone (ap Some e))

    pub first_looks : (b : Board) (h : Finds floor v b) → FitAll floor h.state both
        → Steps floor me (spot (lock_line l)) (lock_word b.words l) (lock_word b.words l) (Sought floor l by_try me) b
    unfolding after_look after_seek
    first_looks b h may =
        let word : Word = word_of (lock_word b.words l) in
        let s : State = after_seek h.state v.thread l by_try in
        let n : State = after_look s v.thread l true in
        let x : Knowledge = sought v l by_try in
        let w : Knowledge = seeing (past_with h.past both) (looked x l word) in
        let found = found_word floor b v h l low in
        let chain = chain_of v.description.chains (config_in v.description) l in
        let away : has_item v chain ≡ false = no_chain b h may in
        let counted : counts x l ≡ true = (λ i. (eq-eqb l l refl i || false) && not (away i)) in
        let share : RepresentsShare (looked x l (s.word l)).share n v.thread =
        subst (λ c. RepresentsShare (looked x l (s.word l)).share (after_look s v.thread l c) v.thread) counted
        (look_own s x (seek_own h.state v h.fits.share l by_try) l) in
        let own : OwnSteps v w h.past both h.state n = record {
          role = was;
          seen = refl;
          makers = two_own v.thread (Seeks v.thread l by_try) (Looks v.thread l true) refl refl;
          seat = record {
            thread = refl;
            share = subst (λ y. RepresentsShare (looked x l y).share n v.thread) (sym found.0) share;
          };
          others = λ u ne. look_others s v.thread u ne l true ∙ seek_others h.state v.thread u ne l by_try;
          pose = h.fits.pose;
          other_poses = λ u ne p k. k;
        } in
        let made = lock_seen floor both b v w h was may own me.1 l low refl (record { items = refl; objects = refl })
        refl refl in
        (w, keeps, tt, made.0, (found.1, refl, made.1))

-- Inside a call the floor and the pass are the caller's: what it may look at there, and what a look made
module _ (f g : Floor Description) (p q : Pass Knowledge) (same_floor : f ≡ g) (same_pass : p ≡ q) (l : ℕ) where
  pub may_look_inside : MayMake g.description q.view (λ s. Unit {0}) (Looks q.view.thread l (counts q.view l) ∷ [])
      → MayMake f.description p.view (λ s. Unit {0}) (Looks p.view.thread l (counts p.view l) ∷ [])
  may_look_inside = subst (λ (z : Floor Description × Pass Knowledge). MayMake z.0.description z.1.view (λ s. Unit {0})
      (Looks z.1.view.thread l (counts z.1.view l) ∷ [])) (λ i. (sym same_floor i, sym same_pass i))

  pub look_outside : (w : Knowledge) → Makes f.description (Looks p.view.thread l (counts p.view l) ∷ []) p.view w
      → Makes g.description (Looks q.view.thread l (counts q.view l) ∷ []) q.view w
  look_outside w = grind arith

-- Who had a lock: what explains a word still does where more is had, and who holds a lock has it.
use Rattle.std.proofs.Common.{◌≡◌, ℕ, ◌<◌, Bool, true, false, not, eqb, ◌&&◌, List, [], ◌∷◌, refl, sym, ap, arith, eq-eqb, ◌∙◌}
use Rattle.std.proofs.lemmas.Bool.{ne_eqb, ltb-true, and_from}
use Rattle.lock_model.specs.Config.{Config}
use Rattle.lock_model.specs.Counts.{any_below, sum_below}
use Rattle.lock_model.specs.Events.{OfTake, NoTake, GainedBy, FoundBusy, HaltedFor, RefusedBy, facets}
use Rattle.lock_model.specs.Holds.{Hold, NotHeld, Holds, is_exclusive}
use Rattle.lock_model.specs.Words.{Holder, Free, HeldBy, SharedBy, sharers, word_of}
use Rattle.lock_model.specs.declared.plan.Mode.{Mode}
use Rattle.lock_model.specs.declared.plan.Mode.TheVariants.{Excl, Shared}
use Rattle.lock_model.specs.declared.event.Entry.{Entry}
use Rattle.lock_state.specs.State.{State}
use Rattle.lock_state.specs.Facts.{Lawful, WordsMatchHolders, OnlyThreadsHold}
use Rattle.lock_state.specs.Facts.Words.{owns, shares}
use Rattle.lock_laws.proofs.Best.{any_below-true}
use Rattle.lock_laws.proofs.Shown.{true-any_below, exclusive_is}
use Rattle.lock_laws.proofs.Sums.{sum_below-single}
use Rattle.lock_model.specs.BusyWords.{is_in_mode, is_had_by_another, WordHasHolder, BusyWordsHaveHolders}
use Rattle.busy_laws.specs.Holders.{BusyWordsFit, BegunAreNoted, has_another, has_or_begins}

-- 1. Where more is had

right_more : (a b d : Bool) → (b ≡ true → d ≡ true) → (a && b) ≡ true → (a && d) ≡ true
right_more true b d f e = f e
right_more false b d f e = e

module _ (c : Config) (had more : ℕ → ℕ → Mode → Bool)
    (h : (u l : ℕ) (mode : Mode) → had u l mode ≡ true → more u l mode ≡ true) where
  pub still_had : (t l : ℕ) (x : Holder) → is_had_by_another c had t l x ≡ true → is_had_by_another c more t l x ≡ true
  still_had t l Free e = e
  still_had t l (HeldBy u) e = right_more (not (eqb u t)) (had u l Excl) (more u l Excl) (h u l Excl) e
  still_had t l (SharedBy n) e =
      let r = any_below-true c.threads (λ u. not (eqb u t) && had u l Shared) e in
      true-any_below c.threads (λ u. not (eqb u t) && more u l Shared) r.0 r.1
      (right_more (not (eqb r.0 t)) (had r.0 l Shared) (more r.0 l Shared) (h r.0 l Shared) r.2)

  word_has : (o : OfTake) (t : ℕ) → WordHasHolder c had o t → WordHasHolder c more o t
  word_has NoTake t e = tt
  word_has (GainedBy l by_try) t e = tt
  word_has (FoundBusy l seen) t e = still_had t l (word_of seen).holder e
  word_has (HaltedFor l) t e = tt
  word_has (RefusedBy l class) t e = tt

  pub still_have : (es : List Entry) → BusyWordsHaveHolders c had es → BusyWordsHaveHolders c more es
  unfolding BusyWordsHaveHolders
  still_have [] e = tt
  still_have (x ∷ es) e = (word_has (facets x.event).take x.thread.0 e.0, still_have es e.1)

-- 2. Modes

pub same_mode : (mode : Mode) → is_in_mode mode (Holds mode) ≡ true
same_mode mode = grind arith

pub mode_is : (mode : Mode) (h : Hold) → is_in_mode mode h ≡ true → h ≡ Holds mode
mode_is mode h e = grind arith

-- 3. Who holds a lock

module _ (c : Config) (s : State) (x : BusyWordsFit c s) where
  abbrev had : ℕ → ℕ → Mode → Bool
  had = has_or_begins c s.held s.has_begun s.history

  -- has a section of it, or has yet to note that
  holder_had : (u k : ℕ) (mode : Mode) → s.held u k ≡ Holds mode → had u k mode ≡ true
  unfolding BegunAreNoted
  holder_had u k mode e = grind arith

  -- so a word that another holds is explained
  pub held_had : Lawful c s → (t k : ℕ) → has_another (s.held t k) (s.word k).holder ≡ true
      → is_had_by_another c had t k (s.word k).holder ≡ true
  unfolding WordsMatchHolders OnlyThreadsHold
  held_had l t k e = go (s.word k).holder refl e
    where
      go : (y : Holder) → (s.word k).holder ≡ y → has_another (s.held t k) y ≡ true
          → is_had_by_another c had t k y ≡ true
      go Free i a = a
      go (HeldBy u) i a =
          let own = exclusive_is (s.held u k) ((l.words.words_match_holders k).owner u ∙ ap (owns u) i
          ∙ eq-eqb u u refl) in
          let ne : u ≡ t → ⊥ = λ j. (let z : false ≡ true = sym (ap (λ h. not (is_exclusive h)) own)
          ∙ ap (λ v. not (is_exclusive (s.held v k))) j ∙ a in cc) in
          and_from _ _ (ap not (ne_eqb u t ne)) (holder_had u k Excl own)
      go (SharedBy n) i a = by_found (any_below c.threads found) refl
        where
          found : ℕ → Bool
          found u = not (eqb u t) && had u k Shared

          none : any_below c.threads found ≡ false → (u : ℕ) → (t ≡ u → ⊥) → (h : Hold) → s.held u k ≡ h
              → shares h ≡ 0
          none unfound u ne NotHeld j = refl
          none unfound u ne (Holds Excl) j = refl
          none unfound u ne (Holds Shared) j =
              let its = l.words.only_threads_hold u k Shared j in
              let both = and_from _ _ (ap not (ne_eqb u t (λ e. ne (sym e)))) (holder_had u k Shared j) in
              absurd (let z : false ≡ true = sym unfound ∙ true-any_below c.threads found u its both in cc)

          by_found : (b : Bool) → any_below c.threads found ≡ b → b ≡ true
          by_found true x = refl
          by_found false x =
              let count : sum_below c.threads (λ u. shares (s.held u k)) ≡ n =
              (l.words.words_match_holders k).sharers_are_counted ∙ ap sharers i in
              let more : shares (s.held t k) < n = ltb-true (shares (s.held t k)) n a in
              let rest = sum_below-single c.threads (λ u. shares (s.held u k)) t
              (λ u ne. none x u ne (s.held u k) refl) in
              absurd (omega (arith, count, more, rest))

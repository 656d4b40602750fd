-- What steps change: a look, and the columns of who holds a lock and whether its section began. Behind each change who
-- had a lock still has it.
use Rattle.std.proofs.Common.{◌≡◌, ℕ, zero, suc, Bool, true, false, not, cond, eqb, ◌&&◌, ◌||◌, List, [], ◌∷◌, Some, None, refl, sym, ap, inl, inr, arith, eq-eqb, subst, ◌∙◌}
use Rattle.std.proofs.lemmas.Bool.{lt-ltb, or_cases, or_left, or_right, and_from, and_parts}
use Rattle.std.proofs.lemmas.Option.{same_Some}
use Rattle.lock_model.specs.Config.{Config}
use Rattle.lock_model.specs.Events.{facets}
use Rattle.lock_model.specs.History.{begun_by, left_in}
use Rattle.lock_model.specs.Holds.{Hold, NotHeld, Holds}
use Rattle.lock_model.specs.Queues.{Waiter}
use Rattle.lock_model.specs.Words.{holder_of, is_free, word_of}
use Rattle.lock_model.specs.declared.plan.Mode.{Mode}
use Rattle.lock_model.specs.declared.plan.QueueName.{QueueName}
use Rattle.lock_model.specs.declared.plan.QueueName.TheVariants.{Lock, Chan}
use Rattle.lock_model.specs.declared.event.Event.{Event}
use Rattle.lock_model.specs.declared.event.Event.TheVariants.{Locked, Tried, Busy, Woke, HaltedChan}
use Rattle.lock_model.specs.declared.event.Entry.{Entry}
use Rattle.lock_state.specs.State.{State, Look, put, put_at}
use Rattle.lock_state.specs.Facts.{Lawful}
use Rattle.lock_state.specs.Steps.LockWords.{MayStamp, begun_after, entry_of}
use Rattle.lock_state.specs.Steps.SleepQueues.{look_leaving}
use Rattle.lock_laws.proofs.Kit.{at_put, put_back}
use Rattle.lock_laws.proofs.Words.{refused_held}
use Rattle.lock_model.specs.BusyWords.{is_in_mode, has_section, is_had_by_another, WordHasHolder, BusyWordsHaveHolders}
use Rattle.busy_laws.specs.Holders.{BusyWordsFit, BegunAreNoted, LooksHaveHolders, has_another, has_or_begins}
use Rattle.busy_laws.proofs.Had.{still_had, still_have, same_mode, mode_is, held_had}

-- 1. Columns by thread and lock

-- a fact of each place and its entry, where one entry is changed
at_place : {A : Type 0} (P : ℕ → ℕ → A → Type 0) (f : ℕ → ℕ → A) (t l : ℕ) (v : A) → P t l v
    → ((u k : ℕ) → P u k (f u k)) → (u k : ℕ) → P u k (put_at f t l v u k)
unfolding put_at
at_place P f t l v here rest k u = grind arith

-- the same of two columns
at_both : (P : ℕ → ℕ → Hold → Bool → Type 0) (f : ℕ → ℕ → Hold) (g : ℕ → ℕ → Bool) (t l : ℕ) (v : Hold) (w : Bool)
    → P t l v w → ((u k : ℕ) → P u k (f u k) (g u k)) → (u k : ℕ) → P u k (put_at f t l v u k) (put_at g t l w u k)
unfolding put_at
at_both P f g t l v w here rest k u = grind arith

module _ (c : Config) (s : State) (x : BusyWordsFit c s) (t : ℕ) where
  abbrev had : ℕ → ℕ → Mode → Bool
  had = has_or_begins c s.held s.has_begun s.history

  abbrev section : ℕ → ℕ → Mode → Bool
  section = has_section c s.history

  -- what was had by no section that has yet to begin is had by one of the history
  by_section : (u k : ℕ) (m : Mode) (h : Hold) (b : Bool) → (is_in_mode m h && not b) ≡ false
      → (section u k m || is_in_mode m h && not b) ≡ true → section u k m ≡ true
  by_section u k m h b none e = grind arith

  -- 2. Looks

  -- the thread's last look is forgotten, and each other thread holds what it held
  pub looks_less : (held : ℕ → ℕ → Hold) (has_begun : ℕ → ℕ → Bool) (history : List Entry)
      → ((u k : ℕ) (m : Mode) → had u k m ≡ true → has_or_begins c held has_begun history u k m ≡ true)
      → ((u k : ℕ) → (t ≡ u → ⊥) → held u k ≡ s.held u k)
      → LooksHaveHolders c held has_begun (put s.last_look t None) history
  unfolding LooksHaveHolders
  looks_less held has_begun history more others =
      at_put (λ u o. (look : Look) → o ≡ Some look → has_another (held u look.lock) look.word.holder ≡ true
      → is_had_by_another c (has_or_begins c held has_begun history) u look.lock look.word.holder ≡ true)
      s.last_look t None (λ look e a. absurd cc) (λ u ne look e a.
      still_had c had (has_or_begins c held has_begun history) more u look.lock look.word.holder
      (x.looks_have_holders u look e
      (ap (λ h. has_another h look.word.holder) (sym (others u look.lock ne)) ∙ a)))

  -- an abort leaves its thread's last look, or none
  looks_same : LooksHaveHolders c s.held s.has_begun (put s.last_look t (s.last_look t)) s.history
  looks_same = subst (λ looks. LooksHaveHolders c s.held s.has_begun looks s.history)
      (sym (put_back s.last_look t (s.last_look t) refl)) x.looks_have_holders

  pub looks_left : (q : QueueName) (left : List Waiter)
      → LooksHaveHolders c s.held s.has_begun (put s.last_look t (look_leaving q left (s.last_look t))) s.history
  looks_left (Lock l) [] = looks_less s.held s.has_begun s.history (λ u k m e. e) (λ u k ne. refl)
  looks_left (Lock l) (w ∷ ws) = looks_same
  looks_left (Chan d) left = looks_same

  -- a look sees the word as it is
  pub looks_more : Lawful c s → (l : ℕ)
      → LooksHaveHolders c s.held s.has_begun (put s.last_look t (Some (record { lock = l; word = s.word l })))
      s.history
  unfolding LooksHaveHolders
  looks_more lawful l =
      at_put (λ u o. (look : Look) → o ≡ Some look → has_another (s.held u look.lock) look.word.holder ≡ true
      → is_had_by_another c had u look.lock look.word.holder ≡ true)
      s.last_look t (Some seen) (λ look e. subst (λ (k : Look). has_another (s.held t k.lock) k.word.holder ≡ true
      → is_had_by_another c had t k.lock k.word.holder ≡ true) (same_Some seen look e) (held_had c s x lawful t l))
      (λ u ne. x.looks_have_holders u)
    where
      seen : Look
      seen = record { lock = l; word = s.word l }

  -- 3. A gain and a release

  module _ (l : ℕ) where
    pub gain_noted : (mode : Mode)
        → BegunAreNoted c (put_at s.held t l (Holds mode)) (put_at s.has_begun t l false) s.history
    unfolding BegunAreNoted
    gain_noted mode =
        at_both (λ u k h b. (m : Mode) → h ≡ Holds m → b ≡ true → section u k m ≡ true) s.held s.has_begun t l
        (Holds mode) false (λ m e f. absurd cc) x.begun_are_noted

    pub gain_more : (mode : Mode) → s.held t l ≡ NotHeld → (u k : ℕ) (m : Mode) → had u k m ≡ true
        → has_or_begins c (put_at s.held t l (Holds mode)) (put_at s.has_begun t l false) s.history u k m ≡ true
    gain_more mode n =
        at_both (λ u k h b. (m : Mode) → had u k m ≡ true → (section u k m || is_in_mode m h && not b) ≡ true)
        s.held s.has_begun t l (Holds mode) false (λ m e. or_left (section t l m) _ (by_section t l m (s.held t l)
        (s.has_begun t l) (ap (λ h. is_in_mode m h && not (s.has_begun t l)) n) e)) (λ u k m e. e)

    pub left_noted : BegunAreNoted c (put_at s.held t l NotHeld) s.has_begun s.history
    unfolding BegunAreNoted
    left_noted =
        at_place (λ u k h. (m : Mode) → h ≡ Holds m → s.has_begun u k ≡ true → section u k m ≡ true) s.held t l
        NotHeld (λ m e f. absurd cc) x.begun_are_noted

    pub left_more : s.has_begun t l ≡ true → (u k : ℕ) (m : Mode) → had u k m ≡ true
        → has_or_begins c (put_at s.held t l NotHeld) s.has_begun s.history u k m ≡ true
    left_more b =
        at_place (λ u k h. (m : Mode) → had u k m ≡ true → (section u k m || is_in_mode m h && not (s.has_begun u k))
        ≡ true) s.held t l NotHeld (λ m e. or_left (section t l m) _ (by_section t l m (s.held t l) (s.has_begun t l)
        (none (is_in_mode m (s.held t l)) (s.has_begun t l) b) e)) (λ u k m e. e)
      where
        none : (a d : Bool) → d ≡ true → (a && not d) ≡ false
        none true d i = ap not i
        none false d i = refl

  -- 4. An entry

  module _ (e : Event) (g : MayStamp c s t e) where
    abbrev new : List Entry
    new = entry_of s t e ∷ s.history

    still_section : (u k : ℕ) (m : Mode) → section u k m ≡ true → has_section c new u k m ≡ true
    unfolding has_section
    still_section u k m = or_right (eqb t u && is_in_mode m (begun_by c e (left_in c s.history u k) k)) (section u k m)

    -- the section that it begins
    new_section : (k : ℕ) (m : Mode) → begun_by c e (left_in c s.history t k) k ≡ Holds m
        → has_section c new t k m ≡ true
    unfolding has_section
    new_section k m i = or_left _ _ (and_from _ _ (eq-eqb t t refl) (ap (is_in_mode m) i ∙ same_mode m))

    begins_noted : (k : ℕ)
        → ((m : Mode) → s.held t k ≡ Holds m → begun_by c e (left_in c s.history t k) k ≡ Holds m)
        → BegunAreNoted c s.held (put_at s.has_begun t k true) new
    unfolding BegunAreNoted
    begins_noted k h =
        at_place (λ u j b. (m : Mode) → s.held u j ≡ Holds m → b ≡ true → has_section c new u j m ≡ true)
        s.has_begun t k true (λ m f b. new_section k m (h m f))
        (λ u j m f b. still_section u j m (x.begun_are_noted u j m f b))

    same_noted : BegunAreNoted c s.held s.has_begun new
    unfolding BegunAreNoted
    same_noted u k m f b = still_section u k m (x.begun_are_noted u k m f b)

  -- a section begins in the mode in which its lock is held
  own : (k : ℕ) (h : Hold) (m : Mode) → s.held t k ≡ h → s.held t k ≡ Holds m
      → cond (eqb k k) h NotHeld ≡ Holds m
  own k h m a f = ap (λ b. cond b h NotHeld) (eq-eqb k k refl) ∙ sym a ∙ f

  pub stamp_noted : (e : Event) → MayStamp c s t e
      → BegunAreNoted c s.held (begun_after c e t s.has_begun) (entry_of s t e ∷ s.history)
  stamp_noted (Locked k mode) g =
      begins_noted (Locked k mode) g k.0 (λ m. own k.0 (Holds mode) m g.asks.0.held)
  stamp_noted (Tried k mode) g =
      begins_noted (Tried k mode) g k.0 (λ m. own k.0 (Holds mode) m g.asks.0.held)
  stamp_noted (Woke d) g =
      let k = c.chan_lock d.0 in
      begins_noted (Woke d) g k (λ m. own k (left_in c s.history t k) m g.asks.0.held)
  stamp_noted (HaltedChan d) g =
      let k = c.chan_lock d.0 in
      begins_noted (HaltedChan d) g k (λ m. own k (left_in c s.history t k) m g.asks.0.held)
  stamp_noted other g = same_noted other g

  pub stamp_more : (e : Event) → MayStamp c s t e → (u k : ℕ) (m : Mode) → had u k m ≡ true
      → has_or_begins c s.held (begun_after c e t s.has_begun) (entry_of s t e ∷ s.history) u k m ≡ true
  unfolding BegunAreNoted
  stamp_more e g u k m h = elim (or_cases (section u k m) (is_in_mode m (s.held u k) && not (s.has_begun u k)) h) [
    | inl i ↦ or_left _ _ (still_section e g u k m i)
    | inr i ↦ by_begun (begun_after c e t s.has_begun u k) refl
        (and_parts (is_in_mode m (s.held u k)) (not (s.has_begun u k)) i).0
  ]
    where
      by_begun : (b : Bool) → begun_after c e t s.has_begun u k ≡ b → is_in_mode m (s.held u k) ≡ true
          → has_or_begins c s.held (begun_after c e t s.has_begun) (entry_of s t e ∷ s.history) u k m ≡ true
      by_begun true j a = or_left _ _ (stamp_noted e g u k m (mode_is m (s.held u k) a) j)
      by_begun false j a = or_right (has_section c (entry_of s t e ∷ s.history) u k m) _
          (and_from _ _ a (ap not j))

  seen_another : (b : Bool) (n : ℕ) → is_free (holder_of b n) ≡ false → has_another NotHeld (holder_of b n) ≡ true
  seen_another true n i = refl
  seen_another false zero i = absurd cc
  seen_another false (suc n) i = lt-ltb 0 (suc n) (omega arith)

  word_has : (e : Event) → MayStamp c s t e
      → WordHasHolder c (has_or_begins c s.held (begun_after c e t s.has_begun) (entry_of s t e ∷ s.history))
      (facets e).take t
  unfolding LooksHaveHolders
  word_has (Busy l seen) g =
      let w = g.asks.1 in
      let held = refused_held (c.kind l.0) (word_of seen) g.asks.0 w.mutex w.refused in
      still_had c had _ (stamp_more (Busy l seen) g) t l.0 (word_of seen).holder
      (x.looks_have_holders t (record { lock = l.0; word = word_of seen }) w.looked
      (ap (λ h. has_another h (word_of seen).holder) w.unheld ∙ seen_another _ _ held))
  word_has other g = tt

  pub stamp_words : (e : Event) → MayStamp c s t e
      → BusyWordsHaveHolders c
      (has_or_begins c s.held (begun_after c e t s.has_begun) (entry_of s t e ∷ s.history))
      (entry_of s t e ∷ s.history)
  unfolding BusyWordsHaveHolders
  stamp_words e g = (
    word_has e g,
    still_have c had _ (stamp_more e g) s.history x.busy_words_have_holders,
  )

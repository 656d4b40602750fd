-- Laws of lock words, and of the words and holders of one lock.
use Rattle.lock_laws.proofs.Names
use Names.{ℕ, true, false, eqb, refl, sym, ap, inl, inr, arith, ne_eqb, cases_eq, not-false, one, sum_below, Word}
use Names.{Holder, Free, HeldBy, SharedBy, word_of, bits_of, sharers, is_free, is_owned, shows_waiters, admits}
use Names.{is_plain, gained, claimed, entered, without_one, is_exclusive, Hold, NotHeld, Holds, Config, State, put}
use Names.{put_at, Lawful, WordsMatchHolders, busy, WordMatchesHolders, owns, shares, Kind, Mtx, Rw, Sx, Mode, Excl}
use Names.{Shared, Side, X, S}
use Rattle.std.proofs.Common.{◌≡◌, ◌≢◌, ◌+◌, ◌<◌, ◌≤◌, ◌∙◌}
use Rattle.lock_laws.proofs.Kit.{put_same, put_other, put_at_same, put_at_other, put_at_beside, sum_below-put_at, sum_below-put_beside, sum_below-at}

-- 1. Words

pub free_is : (x : Holder) → is_free x ≡ true → x ≡ Free
free_is x e = grind arith

-- a shared gain needs a word that nobody holds exclusively
pub admits_unowned : (kind : Kind) (w : Word) → admits kind w Shared ≡ true → is_owned w.holder ≡ false
admits_unowned kind w e = grind arith

-- a lock that refuses a thread is held, as a mutex is asked for exclusively
pub refused_held : (kind : Kind) (w : Word) (mode : Mode) → (kind ≡ Mtx → mode ≡ Excl) → admits kind w mode ≡ false
    → is_free w.holder ≡ false
refused_held kind w mode m e = grind arith

-- a free word shows no waiters, where it shows them only held
pub free_shows_none : (w : Word) → one (shows_waiters w) ≤ busy w.holder → is_free w.holder ≡ true
    → shows_waiters w ≡ false
free_shows_none w few free = grind arith

-- a gain that isn't plain is an exclusive one, of a free rw lock that shows waiters
pub record IsClaim (kind : Kind) (w : Word) (mode : Mode) : Type 0 where
  pub exclusive : mode ≡ Excl
  pub is_rw : kind ≡ Rw
  pub free : is_free w.holder ≡ true
  pub shown : shows_waiters w ≡ true

pub is_claim : (kind : Kind) (w : Word) (mode : Mode)
    → (kind ≡ Mtx → is_free w.holder ≡ true → shows_waiters w ≡ false) → admits kind w mode ≡ true
    → is_plain kind w mode ≡ false → IsClaim kind w mode
is_claim kind w Shared m e f = absurd cc
is_claim Sx w Excl m e f = absurd cc
is_claim Rw w Excl m e f =
    record { exclusive = refl; is_rw = refl; free = e; shown = not-false (shows_waiters w) f }
is_claim Mtx w Excl m e f = absurd (let z : true ≡ false = sym (not-false (shows_waiters w) f) ∙ m refl e in cc)

-- the bits of a word that a lock can have say the word again
pub word_again : (w : Word) → w.holder ≢ SharedBy 0 → word_of (bits_of w) ≡ w
word_again w some = grind arith

pub unowned_owns : (t : ℕ) (x : Holder) → is_owned x ≡ false → owns t x ≡ false
unowned_owns t x e = grind arith

-- 2. The word and the holders of a lock, after one thread's hold is changed

pub matches-put : (c : Config) (w v : Word) (held : ℕ → ℕ → Hold) (t l : ℕ) (b : Hold) → t < c.threads
    → WordMatchesHolders c w l held
    → is_exclusive b ≡ owns t v.holder
    → ((u : ℕ) → (t ≡ u → ⊥) → owns u w.holder ≡ owns u v.holder)
    → shares b + sharers w.holder ≡ shares (held t l) + sharers v.holder
    → v.holder ≢ SharedBy 0
    → WordMatchesHolders c v l (put_at held t l b)
matches-put c w v held t l b lt m own others count some =
    record { owner = owner; sharers_are_counted = counted; some_sharer = some }
  where
    owner : (u : ℕ) → is_exclusive (put_at held t l b u l) ≡ owns u v.holder
    owner u =
        elim (cases_eq t u) [
          | inl e ↦ rw (← e, put_at_same held t l b) own
          | inr e ↦ rw (put_at_other held t l b u l e) (m.owner u ∙ others u e)
        ]

    counted : sum_below c.threads (λ u. shares (put_at held t l b u l)) ≡ sharers v.holder
    counted =
        let a = sum_below-put_at c.threads shares held t l b lt in
        omega (arith, m.sharers_are_counted)

pub matches-beside : (c : Config) (w : Word) (held : ℕ → ℕ → Hold) (t l : ℕ) (b : Hold) (k : ℕ) → (l ≡ k → ⊥)
    → WordMatchesHolders c w k held → WordMatchesHolders c w k (put_at held t l b)
matches-beside c w held t l b k ne m = record {
  owner = λ u. rw (put_at_beside held t l b u k ne) (m.owner u);
  sharers_are_counted = sum_below-put_beside c.threads shares held t l b k ne ∙ m.sharers_are_counted;
  some_sharer = m.some_sharer;
}

pub all_match-put : (c : Config) (word : ℕ → Word) (held : ℕ → ℕ → Hold) (t l : ℕ) (v : Word) (b : Hold)
    → WordsMatchHolders c word held
    → WordMatchesHolders c v l (put_at held t l b) → WordsMatchHolders c (put word l v) (put_at held t l b)
unfolding WordsMatchHolders
all_match-put c word held t l v b h here k =
    elim (cases_eq l k) [
      | inl e ↦ rw (← e, put_same word l v) here
      | inr e ↦ rw (put_other word l v k e) (matches-beside c (word k) held t l b k e (h k))
    ]

-- 3. What the words say of a lock that is held

pub owns_is : (t : ℕ) (x : Holder) → owns t x ≡ true → x ≡ HeldBy t
owns_is t x e = grind arith

module _ (c : Config) (s : State) (t l : ℕ) (h : Lawful c s) where
  -- a lock that is held exclusively shows its owner
  pub owner_is : s.held t l ≡ Holds Excl → (s.word l).holder ≡ HeldBy t
  unfolding WordsMatchHolders
  owner_is e = owns_is t (s.word l).holder (sym ((h.words.words_match_holders l).owner t) ∙ ap is_exclusive e)

  -- a lock that is held shared has a sharer
  pub has_sharer : t < c.threads → s.held t l ≡ Holds Shared → 1 ≤ sharers (s.word l).holder
  unfolding WordsMatchHolders
  has_sharer lt e =
      let a = sum_below-at c.threads (λ u. shares (s.held u l)) t lt in
      let b = ap shares e in
      omega (arith, (h.words.words_match_holders l).sharers_are_counted)

-- 4. Gains, drops and claims

pub matches-gain : (c : Config) (kind : Kind) (w : Word) (held : ℕ → ℕ → Hold) (t l : ℕ) (mode : Mode) → t < c.threads
    → admits kind w mode ≡ true → held t l ≡ NotHeld
    → WordMatchesHolders c w l held → WordMatchesHolders c (gained w t mode) l (put_at held t l (Holds mode))
matches-gain c kind w held t l Excl lt a n m =
    let f : w.holder ≡ Free = free_is w.holder a in
    matches-put c w (gained w t Excl) held t l (Holds Excl) lt m (sym (rw (eqb_same t) refl))
    (λ u ne. rw f (sym (ne_eqb u t (λ e. ne (sym e))))) (rw (f, n) refl) (λ e. cc)
  where
    eqb_same : (t : ℕ) → eqb t t ≡ true
    eqb_same t = grind arith
matches-gain c kind w held t l Shared lt a n m =
    let f : is_owned w.holder ≡ false = admits_unowned kind w a in
    matches-put c w (gained w t Shared) held t l (Holds Shared) lt m refl (λ u ne. unowned_owns u w.holder f)
    (rw n (omega arith)) (λ e. grind arith)

-- what is left of a holder that loses one: the thread owned it, or it was one of the sharers
pub matches-drop : (c : Config) (w v : Word) (held : ℕ → ℕ → Hold) (t l : ℕ) (mode : Mode) → t < c.threads
    → held t l ≡ Holds mode → v.holder ≡ without_one w.holder
    → WordMatchesHolders c w l held → WordMatchesHolders c v l (put_at held t l NotHeld)
matches-drop c w v held t l Excl lt n e m =
    let o : w.holder ≡ HeldBy t = owns_is t w.holder (sym (m.owner t) ∙ ap is_exclusive n) in
    let f : v.holder ≡ Free = e ∙ ap without_one o in
    matches-put c w v held t l NotHeld lt m (rw f refl) (λ u ne. rw (f, o) (ne_eqb u t (λ x. ne (sym x))))
    (rw (f, o, n) refl) (λ x. cc)
matches-drop c w v held t l Shared lt n e m =
    let a = sum_below-at c.threads (λ u. shares (held u l)) t lt in
    let b : shares (held t l) ≡ 1 = ap shares n in
    let p : 1 ≤ sharers w.holder = omega (arith, m.sharers_are_counted) in
    matches-put c w v held t l NotHeld lt m (rw e (sym (left_owns t w.holder p)))
    (λ u ne. rw e (owns_left u w.holder p)) (rw (e, n) (left_sharers w.holder p)) (λ x. left_some w.holder (sym e ∙ x))
  where
    left_owns : (u : ℕ) (x : Holder) → 1 ≤ sharers x → owns u (without_one x) ≡ false
    left_owns u x p = grind arith

    owns_left : (u : ℕ) (x : Holder) → 1 ≤ sharers x → owns u x ≡ owns u (without_one x)
    owns_left u x p = grind arith

    left_sharers : (x : Holder) → 1 ≤ sharers x → 0 + sharers x ≡ 1 + sharers (without_one x)
    left_sharers x p = grind arith

    left_some : (x : Holder) → without_one x ≢ SharedBy 0
    left_some x e = grind arith

pub matches-claim : (c : Config) (w : Word) (held : ℕ → ℕ → Hold) (t l : ℕ) → t < c.threads → is_free w.holder ≡ true
    → held t l ≡ NotHeld
    → WordMatchesHolders c w l held → WordMatchesHolders c (claimed w t) l (put_at held t l (Holds Excl))
matches-claim c w held t l lt a n m = matches-gain c Mtx w held t l Excl lt a n m

-- 5. Waiters' bits

pub entered_holder : (w : Word) (side : Side) → (entered w side).holder ≡ w.holder
entered_holder w X = refl
entered_holder w S = refl

pub matches_same : (c : Config) (w v : Word) (l : ℕ) (held : ℕ → ℕ → Hold) → v.holder ≡ w.holder
    → WordMatchesHolders c w l held → WordMatchesHolders c v l held
matches_same c w v l held e m = grind arith

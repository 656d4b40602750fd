-- A blocking call before it takes the lock's chain: its exchanges and looks may be made, and what it knows behind them.
use Rattle.lock_calls.proofs.Names
use Names.{ℕ, suc, true, false, cond, Some, None, List, [], length, replicate, refl, sym, ap, subst, inl, inr, arith}
use Names.{replicate-append-replicate, same_Some, NotHeld, Held, most_held, hold_in, lock_queue, Word, word_of, admits}
use Names.{is_plain, LockNo, Kind, Mtx, Rw, Sx, Mode, Excl, Shared, Look, Round, SleepHalted, Step, Seeks, Looks, Gains}
use Names.{FitsRound, round_of, config_in, Description, Makes, MakesEach, MayMake, Knowledge, seeing, counts, looked}
use Names.{gained, BeginsCall, BeginsRound, IsUnhalted, WantsItsRound, counts_there, may_look, may_seek_gain, may_gain}
use Names.{course, Course, Plainly, ByClaim, MustWait, IsCovered, FirstMisses, most_missed, as_taken, LooksOn}
use Names.{looks_alone, tries_too, HasSeen, Kept, kept_of, IsCalling, CanAcquire, MayGain, IsChecking, IsSeeking}
use Names.{HasMissed, HasSpun, SpinsThenGains, IsGaining, HasGained, with_looks_counted, IsAtRest}
use Rattle.std.proofs.Common.{◌≡◌, ◌≢◌, ◌⊎◌, ◌+◌, ◌<◌, ◌≤◌, ◌∷◌, ◌∙◌}
use Rattle.lock_calls.proofs.Looks.{each_append, last_step, rest_looks}
use Rattle.lock_calls.proofs.Words.{other_word}

-- 1. The first exchange

-- a thread at rest may gain a lock that it doesn't hold
pub acquires : (floor : Description) (l : ℕ) (v : Knowledge) → IsAtRest floor v → hold_in v.share.held l ≡ NotHeld
    → length v.share.held < most_held → MayGain floor l v
acquires floor l v r unheld few =
    assumption (unheld, few, r.no_last_look, rest_looks floor v r, r)

pub begins_call : (floor : Description) (l : ℕ) (v : Knowledge) → MayGain floor l v → BeginsCall v
begins_call floor l v m = assumption (m.wants_nothing, m.looks.takes_nothing, m)

-- the free word that shows nobody admits each mode in which a lock of the kind can be held, and plainly
pub free_admits : (k : Kind) (mode : Mode) → (k ≡ Mtx → mode ≡ Excl) → admits k (word_of 0) mode ≡ true
free_admits k Excl mutex = refl
free_admits Mtx Shared mutex = absurd (let z : Shared ≡ Excl = mutex refl in cc)
free_admits Rw Shared mutex = refl
free_admits Sx Shared mutex = refl

pub plainly : (k : Kind) (mode : Mode) → is_plain k (word_of 0) mode ≡ true
plainly k Shared = refl
plainly Mtx Excl = refl
plainly Rw Excl = refl
plainly Sx Excl = refl

pub free_plainly : (k : Kind) (mode : Mode) → (k ≡ Mtx → mode ≡ Excl) → course k (word_of 0) mode ≡ Plainly
free_plainly Mtx Excl mutex = refl
free_plainly Rw Excl mutex = refl
free_plainly Sx Excl mutex = refl
free_plainly Mtx Shared mutex = absurd (let z : Shared ≡ Excl = mutex refl in cc)
free_plainly Rw Shared mutex = refl
free_plainly Sx Shared mutex = refl

pub unhalted : (v : Knowledge) → v.share.doing.noted ≡ None → IsUnhalted v
unhalted v none k e = absurd (let z : None ≡ Some (SleepHalted (lock_queue k)) = sym none ∙ e in cc)

begins_it : (floor : Description) (l : ℕ) (v : Knowledge) → MayGain floor l v → v.share.held ≡ []
    → BeginsRound l false v
begins_it floor l v m bare = record {
  unheld = m.unheld;
  wants = inr m.wants_nothing;
  tries = λ e. m.wants_nothing;
  anew = λ e. m.looks.takes_nothing;
  unseen = λ e. m.unseen;
  missed = λ look e. absurd (let z : None ≡ Some look = sym m.unseen ∙ e in cc);
  ordered = λ e. inr (record { bare = bare; unnoted = m.unnoted; no_wait = m.no_wait });
  unhalted = unhalted v m.unnoted;
  no_round = m.looks.no_round;
  runs = m.looks.runs;
  nothing_out = m.looks.nothing_out;
  going = m.looks.going;
}

pub may_gain_first : (floor : Description) (l : ℕ) (mode : Mode) (v : Knowledge) → IsCovered floor l mode
    → MayGain floor l v → v.share.held ≡ []
    → MayMake floor v (λ s. s.word l ≡ word_of 0) (Seeks v.thread l false ∷ Gains v.thread l mode false ∷ [])
may_gain_first floor l mode v covered m bare =
    may_seek_gain floor v l mode false (word_of 0) covered.lock
    (free_admits ((config_in floor).kind l) mode covered.mutex) (plainly ((config_in floor).kind l) mode)
    (λ w. absurd (let z : None ≡ Some l = sym m.wants_nothing ∙ w in cc)) (begins_it floor l v m bare)

-- 2. What the thread knows where its lock's order is to be checked

-- one may miss of each kind, and two at most
pub one_may_miss : (k : Kind) → 1 ≤ most_missed k
one_may_miss Mtx = omega arith
one_may_miss Rw = omega arith
one_may_miss Sx = omega arith

two_may_miss : (k : Kind) → most_missed k ≤ 2
two_may_miss Mtx = omega arith
two_may_miss Rw = omega arith
two_may_miss Sx = omega arith

-- who made one holds nothing, and they are two at most
pub misses_bare : (k : Kind) (held : List Held) (missed : ℕ) → FirstMisses k held missed → 1 ≤ missed → held ≡ []
misses_bare k [] missed first some = refl
misses_bare k (h ∷ hs) missed first some = absurd (omega (arith, first, some))

pub misses_few : (k : Kind) (held : List Held) (missed : ℕ) → FirstMisses k held missed → missed ≤ 2
misses_few k [] missed first = omega (arith, first.1, two_may_miss k)
misses_few k (h ∷ hs) missed first = omega (arith, first)

pub is_checking : (floor : Description) (l : ℕ) (mode : Mode) (v w : Knowledge) → IsAtRest floor v
    → hold_in v.share.held l ≡ NotHeld → length v.share.held < most_held → HasMissed floor l mode v w
    → IsChecking floor l w
is_checking floor l mode v w r unheld few h = subst (IsChecking floor l) (sym h.knows) record {
  unheld = unheld;
  may = assumption (few, h.its, r);
  no_walk = r.no_walk;
  bare = λ some. misses_bare ((config_in floor).kind l) v.share.held h.missed h.first.first
      (omega (arith, h.counted, r.no_looks, some));
  nothing_out = r.nothing_out;
}

-- 3. Looks in the round

module _ (floor : Description) (l : ℕ) (b : Knowledge) (m : IsSeeking l b) where
  not_outside : b.share.doing.round ≡ None → ⊥
  not_outside none = let z : Some (round_of l false) ≡ None = sym m.round ∙ none in cc

  -- it is a round of the wanted lock
  pub wants_it : WantsItsRound b
  wants_it r is blocks =
      m.wants ∙ ap (λ (x : Round). Some x.lock) (same_Some (round_of l false) r (sym m.round ∙ is))

  it_counts : counts b l ≡ true
  it_counts = counts_there floor b l false m.nothing_out m.round

  pub may_look_there : b.description ≡ floor → l < length floor.locks → b.share.doing.looks < 100
      → MayMake floor b (λ s. Unit {0}) (Looks b.thread l (counts b l) ∷ [])
  may_look_there mine low room =
      may_look floor b l mine low m.runs m.nothing_out m.going (λ e. room) (λ e. it_counts)
      (λ none. absurd (not_outside none)) (λ none. absurd (not_outside none)) wants_it

  pub may_gain_there : (mode : Mode) (word : Word) → l < length floor.locks
      → admits ((config_in floor).kind l) word mode ≡ true → is_plain ((config_in floor).kind l) word mode ≡ true
      → MayMake floor b (λ s. s.word l ≡ word) (Gains b.thread l mode false ∷ [])
  may_gain_there mode word low admitted plain =
      may_gain floor b l mode false word low admitted plain m.unheld
      (inl m.wants) (subst (λ r. FitsRound r l false) (sym m.round) (refl, refl)) (λ none. absurd (not_outside none))
      (λ k e. same_Some k l (sym e ∙ m.takes)) (λ e. m.takes) (λ e. inl m.wants) m.unhalted m.runs
      m.nothing_out m.going

  -- one look
  pub spun_once : (w : Knowledge) (word : Word) → w ≡ seeing w.seen (looked b l word)
      → Makes floor (Looks b.thread l (counts b l) ∷ []) b w → HasSpun floor l 1 b w
  spun_once w word view step =
      let x = b.share.doing in
      let look : Look = record { lock = l; word = word } in
      record {
        looks = suc x.looks;
        counted = omega arith;
        all = suc x.looks_in_all;
        last = Some look;
        seen = Some look;
        knows = view
            ∙ (λ i. seeing w.seen (with_looks_counted b (cond (it_counts i) (suc x.looks) x.looks) (suc x.looks_in_all)
            (Some look) (Some look)));
        steps = (w, subst (λ c. Makes floor (Looks b.thread l c ∷ []) b w) it_counts step, refl);
      }

module _ (floor : Description) (l : ℕ) (mode : Mode) where
  -- it saw that it doesn't gain the lock plainly, and tried nothing
  pub looked_alone : (word : Word) (a b : Knowledge) → HasSpun floor l 1 a b
      → course ((config_in floor).kind l) word mode ≢ Plainly → HasSeen l word b → LooksOn floor l mode 1 word a b
  looked_alone word a b x other saw =
      looks_alone word other (last_step floor (Looks a.thread l true ∷ []) a b x.steps) saw

  -- or that it does, and its exchange missed
  pub tried_too : (from found : ℕ) (a mid b : Knowledge) → HasSpun floor l 1 a mid → HasSpun floor l 1 mid b
      → course ((config_in floor).kind l) (word_of from) mode ≡ Plainly → HasSeen l (word_of from) mid
      → HasSeen l (word_of found) b → found ≢ from → LooksOn floor l mode 2 (word_of found) a b
  tried_too from found a mid b x y plainly saw last other =
      tries_too mid (word_of from) (word_of found) plainly
      (last_step floor (Looks a.thread l true ∷ []) a mid x.steps) saw
      (last_step floor (Looks a.thread l true ∷ []) mid b
      (subst (λ t. MakesEach floor ((Looks t l true ∷ []) ∷ []) mid b) (ap (λ (k : Knowledge). k.thread) x.knows)
      y.steps)) last (other_word found from other)

-- a claim or a wait is no plain gain
pub no_plain : (c : Course) → c ≡ Plainly → (c ≡ ByClaim) ⊎ (c ≡ MustWait) → ⊥
no_plain c plain (inl claim) = let z : Plainly ≡ ByClaim = sym plain ∙ claim in cc
no_plain c plain (inr wait) = let z : Plainly ≡ MustWait = sym plain ∙ wait in cc

module _ (floor : Description) (l n : ℕ) (a b : Knowledge) (x : HasSpun floor l n a b) where
  its_thread : b.thread ≡ a.thread
  its_thread = ap (λ (k : Knowledge). k.thread) x.knows

  pub looks_spun : b.share.doing.looks ≡ n + a.share.doing.looks
  looks_spun = ap (λ (k : Knowledge). k.share.doing.looks) x.knows ∙ x.counted

  -- looks leave the thread in its round,
  pub seeking_on : IsSeeking l a → IsSeeking l b
  seeking_on m = subst (IsSeeking l) (sym x.knows) (assumption m)

  -- and more may follow
  pub spun_more : (k : ℕ) (w : Knowledge) → HasSpun floor l k b w → HasSpun floor l (n + k) a w
  spun_more k w y =
      let look : List Step = Looks a.thread l true ∷ [] in
      let more : MakesEach floor (replicate k look) b w =
      subst (λ t. MakesEach floor (replicate k (Looks t l true ∷ [])) b w) its_thread y.steps in
      record {
        looks = y.looks;
        counted = y.counted ∙ omega (arith, looks_spun);
        all = y.all;
        last = y.last;
        seen = y.seen;
        knows = y.knows ∙ ap (λ z. seeing w.seen (with_looks_counted z y.looks y.all y.last y.seen)) x.knows;
        steps = subst (λ xs. MakesEach floor xs a w) (replicate-append-replicate n k look)
            (each_append floor (replicate n look) (replicate k look) a b w x.steps more);
      }

  -- or the gain
  pub spun_gains : (h : LockNo) → h.0 ≡ l → (mode : Mode) (w : Knowledge)
      → w ≡ seeing w.seen (gained b (as_taken h mode)) → Makes floor (Gains b.thread l mode false ∷ []) b w
      → SpinsThenGains floor (as_taken h mode) n a w
  spun_gains h same mode w view step = record {
    between = b;
    spun = subst (λ k. HasSpun floor k n a b) (sym same) x;
    view = view;
    step = subst (λ (z : ℕ × ℕ). Makes floor (Gains z.0 z.1 mode false ∷ []) b w) (λ i. (its_thread i, sym same i))
        step;
  }

-- 4. What a take keeps

pub gaining : (l : ℕ) (v : Knowledge) → IsSeeking l v → IsGaining l v
gaining l v m = assumption m

module _ (floor : Description) (l : LockNo) (mode : Mode) (old : Knowledge) where
  -- it gained the lock in its round
  pub gained_in_round : (v : Knowledge) (n : ℕ) → IsSeeking l.0 old → SpinsThenGains floor (as_taken l mode) n old v
      → HasGained l mode old v
  gained_in_round v n m s = record {
    before = s.between;
    kept = ap kept_of s.spun.knows;
    gaining = gaining l.0 s.between (seeking_on floor l.0 n old s.between s.spun m);
    view = s.view;
  }

-- what a thread at rest keeps
pub calling_at_rest : (floor : Description) (v : Knowledge) → v.description ≡ floor → IsAtRest floor v
    → IsCalling floor (kept_of v)
calling_at_rest floor v mine r = assumption (mine, r)

-- who makes such a call may acquire the lock
pub can_acquire : (floor : Description) (k : Kept) → IsCalling floor k → CanAcquire floor k
can_acquire floor k c = record {
  description = c.description;
  going = c.going;
  unmarked = c.unmarked;
  uncounted = c.uncounted;
  sections = c.sections;
  unhalted = λ l e. let z : None ≡ Some (SleepHalted (lock_queue l)) = sym c.unnoted ∙ e in cc;
  awake = λ back unwoken unhalted. let z : true ≡ false = sym back ∙ c.no_wait in cc;
}

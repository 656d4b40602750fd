-- What a thread sees of the word of a lock that it doesn't hold: a mutex is never shared, and one more of at most 64
-- threads may share a lock beside those who do.
use Rattle.lock_laws.proofs.Names
use Names.{ℕ, Bool, true, false, not, List, refl, sym, ap, subst, arith, Config, is_empty, NotHeld, Waiter, side_of}
use Names.{list_of, without, Word, Holder, Free, HeldBy, SharedBy, admits, gained, sharers, without_one, with_bit, Kind}
use Names.{Mtx, Mode, Excl, Shared, QueueName, Lock, Chan, Side, X, S, Lawful, FreeMutexShowsNone, WordsMatchHolders}
use Names.{shares, State, put, start_state, after_seek, after_look, after_gain, after_drop, after_stamp, after_ready}
use Names.{after_unready, after_enter, after_open, after_mark, after_resume, after_enter_sleep, after_open_sleep}
use Names.{after_add, after_wake, after_abort, word_showing, after_claim, after_lend, after_shift, after_end_walk}
use Names.{after_take, after_give, after_admit, after_refuse, after_count_out, after_count_in, after_count_self_in}
use Names.{after_count_end, after_halt, Step, Gains, Drops, Enters, Opens, EntersSleepQueue, OpensSleepQueue, Claims}
use Names.{Aborts, May, after, IsReachable, begins, goes_on, HasRoom, CanBeSeen}
use Rattle.std.proofs.Common.{◌≡◌, ◌≢◌, ◌<◌, ◌≤◌, ◌∙◌}
use Rattle.lock_laws.proofs.AtTurn.{well_formed}
use Rattle.lock_laws.proofs.Kit.{at_put}
use Rattle.lock_laws.proofs.Steps.{reached_lawful}
use Rattle.lock_laws.proofs.Sums.{sum_below-less}
use Rattle.lock_laws.proofs.Words.{free_shows_none}
use Rattle.lock_laws.proofs.WordsAndHeads.{shares_one}

-- 1. A mutex is never shared

abbrev IsUnshared : Kind → Holder → Type 0
IsUnshared kind x = kind ≡ Mtx → (n : ℕ) → x ≢ SharedBy n

AreUnshared : Config → (ℕ → Word) → Type 0
AreUnshared c word = (l : ℕ) → IsUnshared (c.kind l) (word l).holder

changed : (c : Config) (word : ℕ → Word) (l : ℕ) (w : Word) → IsUnshared (c.kind l) w.holder → AreUnshared c word
    → AreUnshared c (put word l w)
unfolding AreUnshared
changed c word l w new h = at_put (λ k x. IsUnshared (c.kind k) x.holder) word l w new (λ k ne. h k)

gain : (kind : Kind) (w : Word) (t : ℕ) (mode : Mode) → admits kind w mode ≡ true
    → IsUnshared kind (gained w t mode).holder
gain kind w t Excl admitted mutex n e = cc
gain kind w t Shared admitted mutex n e =
    let z : false ≡ true = ap (λ k. admits k w Shared) (sym mutex) ∙ admitted in cc

-- a holder less
less : (kind : Kind) (x : Holder) → IsUnshared kind x → IsUnshared kind (without_one x)
less kind x h mutex n e = grind arith

-- a side's bit is none of the holder
bit : (w : Word) (side : Side) (b : Bool) → (with_bit w side b).holder ≡ w.holder
bit w X b = refl
bit w S b = refl

shown : (kind : Kind) (w : Word) (side : Side) (b : Bool) → IsUnshared kind w.holder
    → IsUnshared kind (with_bit w side b).holder
shown kind w side b h = subst (IsUnshared kind) (sym (bit w side b)) h

aborted : (c : Config) (word : ℕ → Word) (q : QueueName) (side : Side) (ws : List Waiter) → AreUnshared c word
    → AreUnshared c (word_showing q side ws word)
unfolding AreUnshared
aborted c word (Lock l) side ws h =
    changed c word l.0 (with_bit (word l.0) side (not (is_empty ws)))
    (shown (c.kind l.0) (word l.0) side (not (is_empty ws)) (h l.0)) h
aborted c word (Chan d) side ws h = h

kept : (c : Config) (s : State) (step : Step) → May c s step → AreUnshared c s.word
    → AreUnshared c (after c s step).word
unfolding AreUnshared after_seek after_look after_gain after_drop after_stamp after_ready after_unready after_enter
    after_open after_mark after_resume after_enter_sleep after_open_sleep after_add after_wake after_claim after_lend
    after_shift after_end_walk after_admit after_refuse after_count_out after_count_in after_count_self_in
    after_count_end after_halt after_abort after_take after_give
kept c s (Gains t l mode by_try) g h = changed c s.word l _ (gain (c.kind l) (s.word l) t mode g.admitted) h
kept c s (Drops t l mode) g h = changed c s.word l _ (less (c.kind l) (s.word l).holder (h l)) h
kept c s (Enters t l mode x) g h = changed c s.word l _ (shown (c.kind l) (s.word l) (side_of mode) true (h l)) h
kept c s (Opens t l mode) g h = changed c s.word l _ (λ mutex n e. cc) h
kept c s (EntersSleepQueue t l mode x) g h =
    changed c s.word l _ (shown (c.kind l) (s.word l) (side_of mode) true (h l)) h
kept c s (OpensSleepQueue t l mode) g h = changed c s.word l _ (λ mutex n e. cc) h
kept c s (Claims t l x by_try) g h = changed c s.word l _ (λ mutex n e. cc) h
kept c s (Aborts t q side u) g h = aborted c s.word q side (without u (list_of side (s.lists q))) h
kept c s other g h = h

at_start : (c : Config) → AreUnshared c (start_state c).word
unfolding AreUnshared start_state
at_start c l mutex n e = cc

all_unshared : (c : Config) (s : State) → IsReachable c s → AreUnshared c s.word
all_unshared c s begins = at_start c
all_unshared c n (goes_on {s} r p) =
    subst (λ (m : State). AreUnshared c m.word) (sym p.2) (kept c s p.0 p.1 (all_unshared c s r))

pub unshared : (c : Config) (s : State) (l n : ℕ) → IsReachable c s → c.kind l ≡ Mtx → (s.word l).holder ≢ SharedBy n
unfolding AreUnshared
unshared c s l n r mutex = all_unshared c s r l mutex n

-- 2. Who doesn't hold a lock is one more

module _ (c : Config) (s : State) (t l : ℕ) (few : c.threads ≤ 64) (thread : t < c.threads)
    (unheld : s.held t l ≡ NotHeld) where
  room : Lawful c s → HasRoom (s.word l).holder
  unfolding WordsMatchHolders
  room h = go (s.word l).holder refl
    where
      go : (x : Holder) → (s.word l).holder ≡ x → HasRoom x
      go Free e = tt
      go (HeldBy u) e = tt
      go (SharedBy n) e =
          let count : _ ≡ n = (h.words.words_match_holders l).sharers_are_counted ∙ ap sharers e in
          let less = sum_below-less c.threads (λ u. shares (s.held u l)) (λ u. shares_one (s.held u l)) t thread
          (ap shares unheld) in
          omega (arith, few, count, less)

  pub can_be_seen : IsReachable c s → CanBeSeen (c.kind l) (s.word l)
  unfolding FreeMutexShowsNone
  can_be_seen r =
      let h : Lawful c s = reached_lawful c s r in
      record {
        formed = well_formed c s l h few;
        room = room h;
        mutex = λ mutex free. free_shows_none (s.word l) (h.waits.free_mutex_shows_none l mutex) free;
        unshared = λ mutex n. unshared c s l n r mutex;
      }

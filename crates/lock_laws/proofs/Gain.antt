-- A gain keeps each fact.
use Rattle.lock_laws.proofs.Names
use Names.{ℕ, Bool, None, arith, at_option, is_turnstile, lock_queue, State, put, put_at, Config, NotHeld, Holds}
use Names.{IsActing, MayGain, after_gain, Lawful, BitsShowWaiters, HeadsFitWaiters, StandingWants, WokenWants}
use Names.{CalledWants, StandingIsUncalled, WokenIsUncalled, FreeWordHasCalled, FreeMutexShowsNone, WordsMatchHolders}
use Names.{OnlyThreadsHold, OwnersHold, SectionsAreHeld, callers, owner_if, Mode}
use Rattle.std.proofs.Common.{◌≡◌, ◌<◌, ◌∙◌}
use Rattle.lock_laws.proofs.Kit.{columns, at_put, sum_below-put}
use Rattle.lock_laws.proofs.Words.{all_match-put, matches-gain}
use Rattle.lock_laws.proofs.Owners.{owner_gained}
use Rattle.lock_laws.proofs.Listed as listed

-- what a gain and a claim have in common: the thread holds the lock, wants none and is called for none
pub record Gained (c : Config) (s : State) (t l : ℕ) (mode : Mode) : Type 0 where
  pub standing_wants : StandingWants s.blocked_on (put s.wanted t None)
  pub woken_wants : WokenWants s.wait (put s.wanted t None)
  pub called_wants : CalledWants (put s.called t None) (put s.wanted t None)
  pub standing_uncalled : StandingIsUncalled s.blocked_on (put s.called t None)
  pub woken_uncalled : WokenIsUncalled s.wait (put s.called t None)
  pub threads_hold : OnlyThreadsHold c (put_at s.held t l (Holds mode))
  pub sections : SectionsAreHeld c s.history (put_at s.held t l (Holds mode))

pub gained_lock : (c : Config) (s : State) (t l : ℕ) (mode : Mode) → t < c.threads → s.held t l ≡ NotHeld
    → IsActing s t → Lawful c s → Gained c s t l mode
unfolding StandingWants WokenWants CalledWants StandingIsUncalled WokenIsUncalled OnlyThreadsHold SectionsAreHeld
gained_lock c s t l mode thread unheld acting h = grind (arith, columns)

module _ (c : Config) (s : State) (t l : ℕ) (mode : Mode) (by_try : Bool) (g : MayGain c s t l mode)
    (h : Lawful c s) where
  abbrev n : State
  n = after_gain s t l mode by_try

  bits : BitsShowWaiters n.word n.lists
  unfolding after_gain BitsShowWaiters
  bits k = grind (arith, columns, h.queues.bits_show_waiters k)

  called : FreeWordHasCalled c n.word n.marked n.wait n.called
  unfolding after_gain FreeWordHasCalled callers CalledWants
  called k =
      let a = sum_below-put c.threads (at_option k) s.called t None g.thread in
      grind (arith, columns, h.waits.free_word_has_called k, h.waits.called_wants t)

  free_mutex : FreeMutexShowsNone c n.word
  unfolding after_gain FreeMutexShowsNone
  free_mutex k e = grind (arith, columns, h.waits.free_mutex_shows_none k e)

  holders : WordsMatchHolders c n.word n.held
  unfolding after_gain WordsMatchHolders
  holders = all_match-put c s.word s.held t l _ (Holds mode) h.words.words_match_holders (matches-gain c (c.kind l)
      (s.word l) s.held t l mode g.thread g.admitted g.unheld (h.words.words_match_holders l))

  owners : OwnersHold c n.owner n.head n.word
  unfolding after_gain OwnersHold BitsShowWaiters HeadsFitWaiters
  owners =
      at_put
      (λ k w. s.owner (lock_queue k) ≡ owner_if (is_turnstile (c.kind k)) (s.head (lock_queue k)) w.holder) s.word l _
      (h.loans.owners_hold l ∙ owner_gained (c.kind l) (s.word l) (s.lists (lock_queue l)) (s.free_list (lock_queue l))
      (s.head (lock_queue l)) (s.owner (lock_queue l)) t mode g.admitted g.plainly (h.queues.bits_show_waiters l)
      (h.queues.heads_fit_waiters (lock_queue l)))
      (λ k ne. h.loans.owners_hold k)

  pub lawful : Lawful c n
  unfolding after_gain
  lawful = assumption (
    listed.gained s t l h.words.held_are_listed mode by_try,
    bits,
    called,
    free_mutex,
    holders,
    owners,
    gained_lock c s t l mode g.thread g.unheld g.acting h,
  )

-- A drop keeps each fact.
use Rattle.lock_laws.proofs.Names
use Names.{ℕ, arith, refl, is_turnstile, State, Config, NotHeld, MayDrop, after_drop, lock_queue, Lawful}
use Names.{BitsShowWaiters, HeadsFitWaiters, FreeWordHasCalled, FreeMutexShowsNone, WordsMatchHolders, OnlyThreadsHold}
use Names.{OwnersHold, SectionsAreHeld, callers, owner_if, Mode}
use Rattle.std.proofs.Common.{◌≡◌, ◌∙◌}
use Rattle.lock_laws.proofs.Kit.{columns, at_put}
use Rattle.lock_laws.proofs.Words.{all_match-put, matches-drop}
use Rattle.lock_laws.proofs.Owners.{owner_dropped}
use Rattle.lock_laws.proofs.Listed as listed

module _ (c : Config) (s : State) (t l : ℕ) (mode : Mode) (g : MayDrop c s t l mode) (h : Lawful c s) where
  abbrev n : State
  n = after_drop s t l

  bits : BitsShowWaiters n.word n.lists
  unfolding after_drop BitsShowWaiters
  bits k = grind (arith, columns, h.queues.bits_show_waiters k)

  called : FreeWordHasCalled c n.word n.marked n.wait n.called
  unfolding after_drop FreeWordHasCalled callers
  called k = grind (arith, columns, h.waits.free_word_has_called k)

  free_mutex : FreeMutexShowsNone c n.word
  unfolding after_drop FreeMutexShowsNone
  free_mutex k e = grind (arith, columns, h.waits.free_mutex_shows_none k e)

  holders : WordsMatchHolders c n.word n.held
  unfolding after_drop WordsMatchHolders
  holders = all_match-put c s.word s.held t l _ NotHeld h.words.words_match_holders
      (matches-drop c (s.word l) _ s.held t l mode g.thread g.held refl (h.words.words_match_holders l))

  threads_hold : OnlyThreadsHold c n.held
  unfolding after_drop OnlyThreadsHold
  threads_hold u k m = grind (arith, columns, h.words.only_threads_hold u k m)

  owners : OwnersHold c n.owner n.head n.word
  unfolding after_drop OwnersHold BitsShowWaiters HeadsFitWaiters
  owners =
      at_put
      (λ k w. s.owner (lock_queue k) ≡ owner_if (is_turnstile (c.kind k)) (s.head (lock_queue k)) w.holder) s.word l _
      (h.loans.owners_hold l ∙ owner_dropped (is_turnstile (c.kind l)) (s.word l) (s.lists (lock_queue l))
      (s.free_list (lock_queue l)) (s.head (lock_queue l)) (s.owner (lock_queue l)) g.stays
      (h.queues.bits_show_waiters l) (h.queues.heads_fit_waiters (lock_queue l)))
      (λ k ne. h.loans.owners_hold k)

  sections : SectionsAreHeld c n.history n.held
  unfolding after_drop SectionsAreHeld
  sections u k m = grind (arith, columns, h.books.sections_are_held u k m, g.closed)

  pub lawful : Lawful c n
  unfolding after_drop
  lawful = assumption
      (listed.released s t l h.words.held_are_listed, bits, called, free_mutex, holders, threads_hold, owners, sections)

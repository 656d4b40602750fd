-- A lock's queue: what the enters of both sorts have in common beside the law of standing, and the opens of both beside
-- the law of taking off. The word shows its waiters and matches its holders, and of a free one somebody is called.
use Rattle.lock_laws.proofs.Names
use Names.{ℕ, Bool, true, false, not, List, [], Option, Some, None, refl, sym, ap, inl, inr, arith, cases_eq, Config}
use Names.{one, at_option, is_empty, NotHeld, Word, Free, is_free, shows_waiters, without_one, entered, opened, unshown}
use Names.{side_woken, Waiter, Lists, Mark, lock_queue, list_of, with_list, dealt, head_after, Kind, Mtx, Rw, Sx, Mode}
use Names.{Side, X, S, State, put, put_queue, IsLastHolder, after_last_release, Lawful, BitsShowWaiters}
use Names.{MutexWaitersAreExclusive, CalledWants, FreeWordHasCalled, FreeMutexShowsNone, WordsMatchHolders}
use Names.{OnlyThreadsHold, HeldAreListed, SectionsAreHeld, ShowsItsWaiters, callers, calls_marked, WordMatchesHolders}
use Rattle.std.proofs.Common.{◌≡◌, ◌⊎◌, ◌≤◌}
use Rattle.lock_laws.proofs.Kit.{columns, put_same, put_other, put_lock_same, put_lock_other, sum_below-put, at_put}
use Rattle.lock_laws.proofs.Words.{entered_holder, matches_same, free_is, all_match-put, matches-drop}
use Rattle.lock_laws.proofs.Queues.{calls-dealt}
use Rattle.lock_laws.proofs.ComingToStand.{IsInsertion, MayStand, some_stand}
use Rattle.lock_laws.proofs.TakingOff.{MayTakeOff, all_taken, fits}
use Rattle.lock_laws.proofs.Listed as listed

-- what is said of words
pub record WordsKept (c : Config) (n : State) : Type 0 where
  pub bits : BitsShowWaiters n.word n.lists
  pub called : FreeWordHasCalled c n.word n.marked n.wait n.called
  pub free_mutex : FreeMutexShowsNone c n.word
  pub holders : WordsMatchHolders c n.word n.held

pub bits_put : (s : State) → BitsShowWaiters s.word s.lists → (l : ℕ) (w : Word) (lists : Lists)
    → ShowsItsWaiters w lists
    → BitsShowWaiters (put s.word l w) (put_queue s.lists (lock_queue l) lists)
unfolding BitsShowWaiters
bits_put s each l w lists here k =
    elim (cases_eq l k) [
      | inl e ↦ rw (← e, put_same s.word l w, put_lock_same s.lists l lists) here
      | inr e ↦ rw (put_other s.word l w k e, put_lock_other s.lists l lists k e) (each k)
    ]

-- 1. Enters: the word shows the side on which the thread stands

bits_entered : (side : Side) (w : Word) (ws : List Waiter) (q : Lists) → is_empty ws ≡ false
    → ShowsItsWaiters w q → ShowsItsWaiters (entered w side) (with_list side ws q)
bits_entered X w ws q e i = record { exclusive = sym (ap not e); shared = i.shared }
bits_entered S w ws q e i = record { exclusive = i.exclusive; shared = sym (ap not e) }

module _ {c : Config} {s : State} {t l : ℕ} {turnstile : Bool} {side : Side} {x : ℕ}
    {put_in : Waiter → List Waiter → List Waiter} (rule : IsInsertion turnstile put_in) (kept : ℕ)
    (a : MayStand c s t (lock_queue l) turnstile side x) (h : Lawful c s)
  where
    abbrev old : Lists
    old = s.lists (lock_queue l)

    abbrev ws : List Waiter
    ws = put_in (record { thread = t; kept = kept }) (list_of side old)

    abbrev w : Word
    w = entered (s.word l) side

    pub entered_lock : is_free (s.word l).holder ≡ false
        → (s.wanted t ≡ Some l) ⊎ (s.wanted t ≡ None)
        → WordsKept c (record s {
          word = put s.word l w;
          lists = put_queue s.lists (lock_queue l) (with_list side ws old);
          called = put s.called t None;
        })
    unfolding BitsShowWaiters FreeWordHasCalled callers CalledWants FreeMutexShowsNone WordsMatchHolders
    entered_lock held wants =
        let holder = entered_holder (s.word l) side in
        let bits = h.queues.bits_show_waiters in
        let some = some_stand rule (record { thread = t; kept = kept }) (list_of side old) in
        record {
          bits = bits_put s bits l w (with_list side ws old) (bits_entered side (s.word l) ws old some (bits l));
          called = λ k.
              let b = sum_below-put c.threads (at_option k) s.called t None a.thread in
              grind (arith, columns, h.waits.free_word_has_called k, h.waits.called_wants);
          free_mutex = λ k e. grind (arith, columns, h.waits.free_mutex_shows_none k e);
          holders = at_put (λ k v. WordMatchesHolders c v k s.held) s.word l w
              (matches_same c (s.word l) w l s.held holder (h.words.words_match_holders l))
              (λ k ne. h.words.words_match_holders k);
        }

-- 2. Opens: the word is free, and those on the woken side are in the marked list

bits_opened : (side : Side) (w : Word) (q : Lists) → ShowsItsWaiters w q
    → ShowsItsWaiters (record (unshown w side) { holder = Free }) (with_list side [] q)
bits_opened X w q i = record { exclusive = refl; shared = i.shared }
bits_opened S w q i = record { exclusive = i.exclusive; shared = refl }

-- the woken side isn't empty
pub side_shown : (kind : Kind) (w : Word) (q : Lists) → ShowsItsWaiters w q → shows_waiters w ≡ true
    → (kind ≡ Mtx → q.shared ≡ []) → is_empty (list_of (side_woken kind w) q) ≡ false
side_shown Mtx w q i e m = let z = m refl in grind (arith, i.exclusive, i.shared)
side_shown Rw w q i e m = grind (arith, i.exclusive, i.shared)
side_shown Sx w q i e m = grind (arith, i.exclusive, i.shared)

one_le : (b : Bool) → one b ≤ 1
one_le true = omega arith
one_le false = omega arith

-- the side that is woken, its waiters, and what they leave
abbrev pub side_opened : Config → State → ℕ → Side
side_opened c s l = side_woken (c.kind l) (s.word l)

abbrev pub woken_of : Config → State → ℕ → List Waiter
woken_of c s l = list_of (side_opened c s l) (s.lists (lock_queue l))

abbrev pub lists_left : Config → State → ℕ → Lists
lists_left c s l = with_list (side_opened c s l) [] (s.lists (lock_queue l))

abbrev pub head_left : Config → State → ℕ → Option ℕ
head_left c s l = head_after (woken_of c s l) (s.free_list (lock_queue l)) (s.head (lock_queue l))

pub record Opened (c : Config) (n : State) : Type 0 where
  pub words : WordsKept c n
  pub threads_hold : OnlyThreadsHold c n.held
  pub listed : HeldAreListed n.held n.held_locks
  pub sections : SectionsAreHeld c n.history n.held

module _ {c : Config} {s : State} {t l : ℕ} {mode : Mode} (g : IsLastHolder c s t l mode) (h : Lawful c s) where
  abbrev v : Word
  v = opened (c.kind l) (s.word l)

  abbrev woken : List Waiter
  woken = woken_of c s l

  abbrev marks : List Mark
  marks = dealt (lock_queue l) woken (s.free_list (lock_queue l)) (s.head (lock_queue l))

  pub whole_side : MayTakeOff c s t (lock_queue l) (side_opened c s l) woken []
  whole_side = record { thread = g.thread; queue = g.lock; parts = all_taken woken }

  some_woken : is_empty woken ≡ false
  unfolding BitsShowWaiters MutexWaitersAreExclusive
  some_woken =
      side_shown (c.kind l) (s.word l) (s.lists (lock_queue l)) (h.queues.bits_show_waiters l) g.shown
      (h.queues.mutex_waiters_are_exclusive l)

  now_called : FreeWordHasCalled c (put s.word l v) (put s.marked t marks) s.wait s.called
  unfolding FreeWordHasCalled callers
  now_called k =
      let a = sum_below-put c.threads (calls_marked k) s.marked t marks g.thread in
      let e = ap (calls_marked k) g.unmarked in
      elim (cases_eq l k) [
        | inl i ↦
            let few = fits whole_side h in
            let d = calls-dealt l woken (s.free_list (lock_queue l)) (s.head (lock_queue l)) few some_woken in
            let a2 = rw (← i) at a in
            let e2 = rw (← i) at e in
            let f = one_le (shows_waiters (put s.word l v l)) in
            rw (← i) (omega arith)
        | inr i ↦ rw (put_other s.word l v k i) (omega (arith, h.waits.free_word_has_called k))
      ]

  pub opened_lock : Opened c (after_last_release c s t l)
  unfolding BitsShowWaiters MutexWaitersAreExclusive FreeMutexShowsNone WordsMatchHolders OnlyThreadsHold
      SectionsAreHeld
  opened_lock =
      let closed = g.closed in
      let bits = h.queues.bits_show_waiters in
      record {
        words = record {
          bits = bits_put s bits l v (lists_left c s l)
              (bits_opened (side_opened c s l) (s.word l) (s.lists (lock_queue l)) (bits l));
          called = now_called;
          free_mutex = λ k e.
              let none = h.queues.mutex_waiters_are_exclusive k e in
              grind (arith, columns, h.waits.free_mutex_shows_none k e, bits k, none);
          holders = all_match-put c s.word s.held t l _ NotHeld h.words.words_match_holders
              (matches-drop c (s.word l) _ s.held t l mode g.thread g.held
              (sym (free_is (without_one (s.word l).holder) g.last)) (h.words.words_match_holders l));
        };
        threads_hold = λ u k m. grind (arith, columns, h.words.only_threads_hold u k m);
        listed = listed.released s t l h.words.held_are_listed;
        sections = λ u k m. grind (arith, columns, h.books.sections_are_held u k m);
      }

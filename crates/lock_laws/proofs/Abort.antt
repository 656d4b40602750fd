-- An abort of a sleeper, of an sx lock or of a channel, keeps each fact.
use Rattle.lock_laws.proofs.Names
use Names.{ℕ, Bool, true, false, not, List, [], Option, refl, ap, inl, inr, arith, cases_eq, Config, one, is_empty}
use Names.{Word, shows_waiters, with_bit, Waiter, Lists, Mark, lock_queue, list_of, with_list, times_waiting, dealt}
use Names.{free_after, head_after, without, Side, X, S, QueueName, Lock, Chan, State, put, put_queue, IsQueueOf}
use Names.{MayAbort, sleeper, by_abort, after_abort, Lawful, BitsShowWaiters, FreeWordHasCalled, FreeMutexShowsNone}
use Names.{WordsMatchHolders, times_object, ShowsItsWaiters, callers, calls_marked, times_marked, WordMatchesHolders}
use Rattle.std.proofs.Common.{◌≡◌, ◌≤◌, ◌∷◌, ◌∙◌}
use Rattle.lock_laws.proofs.Kit.{put_same, put_other, sum_below-put, at_put}
use Rattle.lock_laws.proofs.Places.{IsThere}
use Rattle.lock_laws.proofs.Words.{matches_same}
use Rattle.lock_laws.proofs.TakingOff.{MayTakeOff, Deals, one_taken, deals_signal, taking_off}
use Rattle.lock_laws.proofs.LockQueues.{WordsKept, bits_put}
use Rattle.lock_laws.proofs.SleepQueues.{unowned, loans_stay, sx_word, bits_stay}

-- 1. Marks by abort: as those of a signal, but that they call for no lock

object_same : (c : Config) (sort : Bool) (n : ℕ) (ms : List Mark)
    → times_object c sort n (by_abort ms) ≡ times_object c sort n ms
object_same c true n [] = refl
object_same c false n [] = refl
object_same c true n (m ∷ ms) = omega (arith, object_same c true n ms)
object_same c false n (m ∷ ms) = omega (arith, object_same c false n ms)

pub marked_same : (u : ℕ) (q : QueueName) (ms : List Mark) → times_marked u q (by_abort ms) ≡ times_marked u q ms
marked_same u q [] = refl
marked_same u q (m ∷ ms) = omega (arith, marked_same u q ms)

no_calls : (l : ℕ) (ms : List Mark) → calls_marked l (by_abort ms) ≡ 0
no_calls l [] = refl
no_calls l (m ∷ ms) = grind (arith, no_calls l ms)

-- 2. The queue

there : (c : Config) (q : QueueName) → IsQueueOf c q → IsThere c q
there c q i = grind arith

module _ (c : Config) (s : State) (t : ℕ) (q : QueueName) (side : Side) (u : ℕ) (g : MayAbort c s t q side u)
    (h : Lawful c s) where
  abbrev pub taken : List Waiter
  taken = sleeper s u ∷ []

  abbrev pub left : List Waiter
  left = without u (list_of side (s.lists q))

  abbrev pub lists : Lists
  lists = with_list side left (s.lists q)

  abbrev free : List ℕ
  free = free_after taken (s.free_list q)

  abbrev head : Option ℕ
  head = head_after taken (s.free_list q) (s.head q)

  abbrev pub dealt_marks : List Mark
  dealt_marks = dealt q taken (s.free_list q) (s.head q)

  abbrev pub marks : List Mark
  marks = by_abort dealt_marks

  pub may_take_off : MayTakeOff c s t q side taken left
  may_take_off = record {
    thread = g.thread;
    queue = there c q g.queue;
    parts = one_taken (sleeper s u) (list_of side (s.lists q)) g.stands;
  }

  deals : Deals c s t q taken marks free head
  deals =
      let d = deals_signal may_take_off h g.unmarked in
      record {
        each = λ v. marked_same v q dealt_marks ∙ d.each v;
        elsewhere = λ v r e. marked_same v r dealt_marks ∙ d.elsewhere v r e;
        objects = λ sort n. rw (object_same c sort n dealt_marks) (d.objects sort n);
        counted = d.counted;
        bare = d.bare;
      }

  -- nobody is called for a lock by it
  same_calls : FreeWordHasCalled c s.word (put s.marked t marks) s.wait s.called
  unfolding FreeWordHasCalled callers
  same_calls l =
      let a = sum_below-put c.threads (calls_marked l) s.marked t marks g.thread in
      let e = ap (calls_marked l) g.unmarked in
      let d = no_calls l dealt_marks in
      omega (arith, h.waits.free_word_has_called l)

-- 3. An sx lock's word

bits_less : (side : Side) (w : Word) (ws : List Waiter) (q : Lists) → ShowsItsWaiters w q
    → ShowsItsWaiters (with_bit w side (not (is_empty ws))) (with_list side ws q)
bits_less X w ws q i = record { exclusive = refl; shared = i.shared }
bits_less S w ws q i = record { exclusive = i.exclusive; shared = refl }

some_stands : (u : ℕ) (ws : List Waiter) → 1 ≤ times_waiting u ws → is_empty ws ≡ false
some_stands u ws i = grind arith

-- where a side has a waiter, its bit alone may fall
shows_less : (side : Side) (b : Bool) (w : Word) (q : Lists) → ShowsItsWaiters w q → is_empty (list_of side q) ≡ false
    → one (shows_waiters (with_bit w side b)) ≤ one (shows_waiters w)
shows_less X b w q i e = grind (arith, i.exclusive)
shows_less S b w q i e = grind (arith, i.shared)

holder_same : (side : Side) (b : Bool) (w : Word) → (with_bit w side b).holder ≡ w.holder
holder_same X b w = refl
holder_same S b w = refl

module _ (c : Config) (s : State) (t l : ℕ) (side : Side) (u : ℕ) (g : MayAbort c s t (lock_queue l) side u)
    (h : Lawful c s) where
  abbrev shown : Bool
  shown = not (is_empty (left c s t (lock_queue l) side u g h))

  abbrev w : Word
  w = with_bit (s.word l) side shown

  abbrev its_marks : List Mark
  its_marks = marks c s t (lock_queue l) side u g h

  words : WordsKept c (record s {
    word = put s.word l w;
    lists = put_queue s.lists (lock_queue l) (lists c s t (lock_queue l) side u g h);
    marked = put s.marked t its_marks;
  })
  unfolding BitsShowWaiters FreeWordHasCalled FreeMutexShowsNone WordsMatchHolders
  words = record {
    bits = bits_put s h.queues.bits_show_waiters l w _
        (bits_less side (s.word l) _ (s.lists (lock_queue l)) (h.queues.bits_show_waiters l));
    called = λ k.
        let same = same_calls c s t (lock_queue l) side u g h k in
        let here = holder_same side shown (s.word l) in
        let less = shows_less side shown (s.word l) (s.lists (lock_queue l)) (h.queues.bits_show_waiters l)
        (some_stands u _ g.stands) in
        elim (cases_eq l k) [
          | inl i ↦ rw (← i, put_same s.word l w, here) (let same2 = rw (← i) at same in omega (arith, same2, less))
          | inr i ↦ rw (put_other s.word l w k i) same
        ];
    free_mutex = λ k e.
        rw (put_other s.word l w k (λ i. let z = rw (← i) at e in let y = rw z at g.sleeps in cc))
        (h.waits.free_mutex_shows_none k e);
    holders = at_put (λ k v. WordMatchesHolders c v k s.held) s.word l w
        (matches_same c (s.word l) w l s.held (holder_same side shown (s.word l)) (h.words.words_match_holders l))
        (λ k ne. h.words.words_match_holders k);
  }

-- 4. Each fact

pub lawful : (c : Config) (s : State) (t : ℕ) (q : QueueName) (side : Side) (u : ℕ) → MayAbort c s t q side u
    → Lawful c s
    → Lawful c (after_abort s t q side u)
unfolding after_abort
lawful c s t (Lock l) side u g h =
    let q = Lock l in
    assumption (
      taking_off (may_take_off c s t q side u g h) h (deals c s t q side u g h) s.owner (λ r e. refl)
          (λ e. unowned h q g.sleeps),
      words c s t l.0 side u g h,
      loans_stay h q g.sleeps (lists c s t q side u g h) (head c s t q side u g h)
          (put s.word l.0 (w c s t l.0 side u g h))
          (sx_word c s.word l.0 (w c s t l.0 side u g h) g.sleeps),
    )
lawful c s t (Chan d) side u g h =
    let q = Chan d in
    assumption (
      taking_off (may_take_off c s t q side u g h) h (deals c s t q side u g h) s.owner (λ r e. refl)
          (λ e. unowned h q g.sleeps),
      same_calls c s t q side u g h,
      bits_stay h d.0 (lists c s t q side u g h),
      loans_stay h q g.sleeps (lists c s t q side u g h) (head c s t q side u g h) s.word (λ l e. refl),
    )

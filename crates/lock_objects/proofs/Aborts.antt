-- One sleeper is taken off a sleep queue: the chain shows the columns behind it, and the sleeper its mark.
use Rattle.lock_objects.proofs.Names
use Names.{ℕ, false, cond, eqb, eq-eqb, List, [], length, map, Option, Some, None, IsSome, refl, sym, ap, subst, arith}
use Names.{inl, inr, length-append, cases_eq, ne_eqb, All, Config, one, Waiter, Lists, is_turnstile_queue, BySignal}
use Names.{ByAbort, list_of, with_list, times_waiting, stands, waiting, without_waiter, entry_of, one_or_none}
use Names.{free_after, head_after, dealt, QueueName, Side, X, S, length-entry, State, by_abort, SleepQueue, Place}
use Names.{entries_of, without_thread, without_absent, entries_on, head_of, without, IsSleeper, aborted_from}
use Names.{chain_aborted, aborted, SleepColumns, RepresentsSleepQueue, RepresentsSleepers, sleepers_in, sleepers_of}
use Names.{mark_by, mark_of, ChangesSleepers}
use Rattle.std.proofs.Common.{◌≡◌, ◌+◌, ◌<◌, ◌≤◌, ◌∷◌, ◌∙◌}
use Rattle.sleep_queues.specs.Seen.{Contents}
use Rattle.sleep_queues.specs.Changes.{lists_of}
use Rattle.lock_objects.proofs.SleepChains.{ShowsSleepers, chain_left, fits_there}
use Rattle.lock_objects.proofs.TakenOff as object

-- 1. The entry of a thread

entry_is : (t : ℕ) (ws : List Waiter) → 0 < times_waiting t ws
    → (v : Waiter) × (entry_of t ws ≡ Some v) × (v.thread ≡ t)
entry_is t [] here = absurd (omega arith)
entry_is t (w ∷ ws) here = elim (cases_eq t w.thread) [
  | inl e ↦ (w, ap (λ b. cond b (Some w) (entry_of t ws)) (eq-eqb t w.thread e), sym e)
  | inr ne ↦
      let other : eqb t w.thread ≡ false = ne_eqb t w.thread ne in
      let rest = entry_is t ws (omega (arith, here, ap one other)) in
      (rest.0, ap (λ b. cond b (Some w) (entry_of t ws)) other ∙ rest.1, rest.2)
]

without_on : (side : Side) (t : ℕ) (q : Lists) → stands t q ≤ 1 → 0 < times_waiting t (list_of side q)
    → without_thread t q ≡ with_list side (without_waiter t (list_of side q)) q
without_on X t q once here = rw (without_absent t q.shared (omega arith)) refl
without_on S t q once here = rw (without_absent t q.exclusive (omega arith)) refl

waiting_without : (t : ℕ) (q : Lists) → waiting (without_thread t q) + length (entries_of t q) ≡ waiting q
waiting_without t q =
    let both = length-append (one_or_none (entry_of t q.exclusive)) (one_or_none (entry_of t q.shared)) in
    omega (arith, length-entry t q.exclusive, length-entry t q.shared, both)

-- whoever goes alone takes back the same
head_after-alone : (v w : Waiter) (xs : List ℕ) (h : Option ℕ) → head_after (v ∷ []) xs h ≡ head_after (w ∷ []) xs h
head_after-alone v w [] h = refl
head_after-alone v w (x ∷ xs) h = refl

dealt-alone : (q : QueueName) (v w : Waiter) (xs : List ℕ) (h : Option ℕ) → v.thread ≡ w.thread
    → dealt q (v ∷ []) xs h ≡ dealt q (w ∷ []) xs h
dealt-alone q v w [] None e = refl
dealt-alone q v w [] (Some h) e = λ i. record { thread = e i; object = h; queue = q; cause = BySignal } ∷ []
dealt-alone q v w (x ∷ xs) h e = λ i. record { thread = e i; object = x; queue = q; cause = BySignal } ∷ []

-- marks by an abort are those by a signal but for their cause
marks_by : (q : QueueName) (ps : List Place) → map (mark_by ByAbort q) ps ≡ by_abort (map (mark_of q) ps)
marks_by q [] = refl
marks_by q (p ∷ ps) = ap (λ ms. mark_by ByAbort q p ∷ ms) (marks_by q ps)

-- 2. One queue

module _ (side : Side) (w : Waiter) (h : Contents)
    (stands_there : 0 < times_waiting w.thread (list_of side (lists_of h)))
    (once : stands w.thread (lists_of h) ≤ 1) where
  abbrev t : ℕ
  t = w.thread

  abbrev off : List Waiter
  off = entries_of t (lists_of h)

  abbrev rest : Lists
  rest = without_thread t (lists_of h)

  entry : (v : Waiter) × (entry_of t (list_of side (lists_of h)) ≡ Some v) × (v.thread ≡ t)
  entry = entry_is t (list_of side (lists_of h)) stands_there

  off_is : off ≡ entry.0 ∷ []
  off_is = entries_on side t (lists_of h) once stands_there ∙ ap one_or_none entry.1

  columns_are : (a : SleepColumns) → a ≡ sleepers_of h → aborted side w a ≡ object.columns_left off rest a
  columns_are a is = ap (aborted side w) is ∙ (λ i. record {
    head = (head_after-alone w entry.0 h.free (Some h.number)
        ∙ ap (λ ws. head_after ws h.free (Some h.number)) (sym off_is)) i;
    lists = sym (without_on side t (lists_of h) once stands_there) i;
    free_list = ap (λ ws. free_after ws h.free) (sym off_is) i;
  }) ∙ ap (object.columns_left off rest) (sym is)

  marks_are : (q : QueueName) → dealt q off h.free (Some h.number) ≡ dealt q (w ∷ []) h.free (Some h.number)
  marks_are q = ap (λ ws. dealt q ws h.free (Some h.number)) off_is
      ∙ dealt-alone q entry.0 w h.free (Some h.number) entry.2

  count : waiting rest + length off ≡ waiting (lists_of h)
  count = waiting_without t (lists_of h)

-- 3. The chain, which shows the columns of these queues

module _ (P : QueueName → Type 0) (c : Config) (s : State) (q : QueueName) (side : Side) (w : Waiter)
    (is : IsSleeper c s q side w) (there : P q) (chain : List (QueueName × SleepQueue))
    (shows : ShowsSleepers P chain (sleepers_in s)) (h : SleepQueue) (here : head_of q chain ≡ Some h) where
  old : sleepers_in s q ≡ sleepers_of h.contents
  old = subst (λ o. RepresentsSleepQueue o (sleepers_in s q)) here (shows q there)

  lists_are : s.lists q ≡ lists_of h.contents
  lists_are = ap (λ (a : SleepColumns). a.lists) old

  stands_there : 0 < times_waiting w.thread (list_of side (lists_of h.contents))
  stands_there = subst (λ (a : Lists). 0 < times_waiting w.thread (list_of side a)) lists_are is.there

  once_there : stands w.thread (lists_of h.contents) ≤ 1
  once_there = subst (λ (a : Lists). stands w.thread a ≤ 1) lists_are is.once

  pub shows_aborted : (n : State) {new : List (QueueName × SleepQueue)} → ChangesSleepers s n q (aborted side w)
      → head_of q (without q chain) ≡ None → new ≡ chain_aborted q w.thread h chain
      → ShowsSleepers P new (sleepers_in n)
  shows_aborted n changes absent is_new =
      subst (λ z. ShowsSleepers P z (sleepers_in n)) (sym is_new)
      (chain_left P chain (sleepers_in s) (sleepers_in n) q (aborted side w (sleepers_in s q)) changes shows is.balanced
      there absent h (entries_of w.thread (lists_of h.contents)) (without_thread w.thread (lists_of h.contents)) here
      (waiting_without w.thread (lists_of h.contents))
      (columns_are side w h.contents stands_there once_there (sleepers_in s q) old))

  pub marks_aborted : {ps : List Place} → ps ≡ aborted_from w.thread h.contents
      → (map (mark_by ByAbort q) ps ≡ by_abort (dealt q (w ∷ []) (s.free_list q) (s.head q)))
      × All (λ p. IsSome p.object) ps
  marks_aborted are =
      let shown = object.woken_shown (entries_of w.thread (lists_of h.contents))
      (without_thread w.thread (lists_of h.contents)) h.contents (waiting_without w.thread (lists_of h.contents))
      (fits_there h.contents (sleepers_in s q) is.balanced old) q in
      subst (λ (z : List Place). (map (mark_by ByAbort q) z ≡ by_abort (dealt q (w ∷ []) (s.free_list q) (s.head q)))
      × All (λ p. IsSome p.object) z) (sym are) (
        marks_by q (aborted_from w.thread h.contents)
            ∙ ap by_abort (shown.0 ∙ marks_are side w h.contents stands_there once_there q
            ∙ (λ i. dealt q (w ∷ []) (sym old i).free_list (sym old i).head)),
        shown.1,
      )

-- 4. A chain of all sleep queues

module _ (c : Config) (s : State) (q : QueueName) (side : Side) (w : Waiter) (is : IsSleeper c s q side w)
    {chain : List (QueueName × SleepQueue)} (shows : RepresentsSleepers c chain (sleepers_in s)) (h : SleepQueue)
    (here : head_of q chain ≡ Some h) where
  abbrev IsHere : QueueName → Type 0
  IsHere r = is_turnstile_queue c r ≡ false

  pub aborted_chain : (n : State) {new : List (QueueName × SleepQueue)} → ChangesSleepers s n q (aborted side w)
      → head_of q (without q chain) ≡ None → new ≡ chain_aborted q w.thread h chain
      → RepresentsSleepers c new (sleepers_in n)
  aborted_chain n changes absent is_new =
      record { queue = shows_aborted IsHere c s q side w is is.sleeps chain shows.queue h here n changes absent is_new }

  pub aborted_marks : {ps : List Place} → ps ≡ aborted_from w.thread h.contents
      → (map (mark_by ByAbort q) ps ≡ by_abort (dealt q (w ∷ []) (s.free_list q) (s.head q)))
      × All (λ p. IsSome p.object) ps
  aborted_marks are = marks_aborted IsHere c s q side w is is.sleeps chain shows.queue h here are

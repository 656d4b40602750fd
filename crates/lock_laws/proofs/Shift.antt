-- A hop of a walk at a thread, and the end of a walk, keep each fact.
use Rattle.lock_laws.proofs.Names
use Names.{ℕ, true, eqb, List, Option, Some, None, refl, sym, ap, inl, inr, arith, cases_eq, ne_eqb, one, sum_below}
use Names.{is_turnstile, State, Walk, NoWalk, AtLock, AtThread, Config, Waiter, Lists, lock_queue, stands, least_of}
use Names.{with_kept, prio_of, MayShift, MayEndWalk, IsAtEnd, after_shift, after_end_walk, walk_up, Lawful}
use Names.{HeadsFitWaiters, BitsShowWaiters, ListsAscend, MutexWaitersAreExclusive, StandsOnce, OnlyThreadsStand}
use Names.{LoansAreLeast, KeptIsEffective, EffectiveIsKnown, KeptIsKnown, HeadFits, at_queue, IsKept, IsKnown, EachOf}
use Names.{walkers_at_lock, walkers_at_thread, at_lock, at_thread, QueueName, ascends-reinsert}
use Rattle.std.proofs.Common.{◌≡◌, ◌≢◌, ◌+◌, ◌≤◌, ◌∙◌}
use Rattle.lock_laws.proofs.Kit.{columns, put_lock_other, sum_below-put, at_put_queue, at_put_lock, at_queue_one}
use Rattle.lock_laws.proofs.OneQueue.{stand_put}
use Rattle.lock_laws.proofs.Lending.{walk_up-there, each_of-map, each_of-kept, stands-kept, waiting-kept, is_empty-reinsert}

head_fits : (t p : ℕ) (q : Lists) (xs : List ℕ) (h o : Option ℕ) → HeadFits q xs h o → HeadFits (with_kept t p q) xs h o
head_fits t p q xs h o f =
    record { balanced = f.balanced ∙ sym (waiting-kept t p q); no_free = f.no_free; no_owner = f.no_owner }

module _ (c : Config) (s : State) (t o l : ℕ) (g : MayShift c s t o l) (h : Lawful c s) where
  abbrev n : State
  n = after_shift s t o l

  abbrev q : QueueName
  q = lock_queue l

  abbrev lists : Lists
  lists = with_kept o (s.effective o) (s.lists q)

  heads : HeadsFitWaiters n.lists n.free_list n.head n.owner
  unfolding after_shift HeadsFitWaiters
  heads =
      at_put_queue (λ r v. HeadFits v (s.free_list r) (s.head r) (s.owner r)) s.lists q lists
      (head_fits o (s.effective o) (s.lists q) (s.free_list q) (s.head q) (s.owner q) (h.queues.heads_fit_waiters q))
      (λ r ne. h.queues.heads_fit_waiters r)

  bits : BitsShowWaiters n.word n.lists
  unfolding after_shift BitsShowWaiters
  bits k = grind (arith, columns, h.queues.bits_show_waiters k, is_empty-reinsert)

  ascend : ListsAscend c n.lists
  unfolding after_shift ListsAscend
  ascend k e = grind (arith, columns, h.queues.lists_ascend k e, ascends-reinsert)

  mutex_waiters : MutexWaitersAreExclusive c n.lists
  unfolding after_shift MutexWaitersAreExclusive
  mutex_waiters k e = grind (arith, columns, h.queues.mutex_waiters_are_exclusive k e)

  stand : StandsOnce c n.lists n.marked n.blocked_on
  unfolding after_shift StandsOnce
  stand =
      stand_put h q lists s.marked s.blocked_on
      (λ u. omega (arith, stands-kept u o (s.effective o) (s.lists q), h.waits.stands_once u q))
      (λ r e u. h.waits.stands_once u r)

  loans_least : LoansAreLeast c n.owner n.walk n.loan n.lists
  unfolding after_shift LoansAreLeast walkers_at_lock
  loans_least k u e w =
      let a = sum_below-put c.threads (at_lock k) s.walk t (walk_up l (s.owner q)) g.thread in
      let b = ap (at_lock k) g.walks in
      elim (cases_eq l k) [
        | inl i ↦
            let d = walk_up-there l (s.owner q) u (ap (λ j. s.owner (lock_queue j)) i ∙ e) in
            let d2 = ap (λ j. at_lock j (walk_up l (s.owner q))) i in
            absurd (omega arith)
        | inr i ↦ rw (put_lock_other s.lists l lists k i) (h.loans.loans_are_least k u e (omega arith))
      ]

  still : (w : Waiter) → w.thread ≢ o → IsKept c s.walk s.effective w → IsKept c n.walk s.effective w
  unfolding after_shift walkers_at_thread
  still w ne kept none =
      let a = sum_below-put c.threads (at_thread w.thread) s.walk t (walk_up l (s.owner q)) g.thread in
      let d = ap (at_thread w.thread) g.walks in
      let f : one (eqb w.thread o) ≡ 0 = ap one (ne_eqb w.thread o ne) in
      kept (omega arith)

  once : stands o (s.lists q) ≤ 1
  unfolding StandsOnce
  once = grind arith

  elsewhere : (k : ℕ) → (l ≡ k → ⊥) → stands o (s.lists (lock_queue k)) ≡ 0
  unfolding StandsOnce
  elsewhere k ne =
      let a = ap (at_queue (lock_queue k)) g.blocked_on in
      let b : one (eqb k l) ≡ 0 = ap one (ne_eqb k l (λ j. ne (sym j))) in
      omega (arith, h.waits.stands_once o (lock_queue k))

  kept : KeptIsEffective c n.walk n.effective n.lists
  unfolding after_shift KeptIsEffective
  kept =
      let P : Waiter → Type 0 = IsKept c s.walk s.effective in
      let Q : Waiter → Type 0 = IsKept c n.walk s.effective in
      at_put_lock (λ k r. is_turnstile (c.kind k) ≡ true → EachOf Q r) s.lists l lists
      (λ i. each_of-kept Q o (s.effective o) (s.lists q) once (λ e. refl)
      (each_of-map P (λ w. w.thread ≢ o → Q w) (s.lists q) (λ w k p ne. still w ne p) (h.loans.kept_is_effective l i)))
      (λ k ne i. each_of-map P Q (s.lists (lock_queue k)) (λ w j p. still w (λ x. let y : stands w.thread
      (s.lists (lock_queue k)) ≡ stands o (s.lists (lock_queue k)) = ap (λ r. stands r (s.lists (lock_queue k))) x in
      absurd (omega (arith, elsewhere k ne))) p) (h.loans.kept_is_effective k i))

  kept_known : KeptIsKnown c n.lists n.history
  unfolding after_shift KeptIsKnown EffectiveIsKnown OnlyThreadsStand
  kept_known =
      let P : Waiter → Type 0 = λ w. IsKnown c s.history w.kept in
      at_put_lock (λ k r. is_turnstile (c.kind k) ≡ true → EachOf P r) s.lists l lists
      (λ i. each_of-kept P o (s.effective o) (s.lists q) once
      (h.loans.effective_is_known o (h.waits.only_threads_stand o q g.blocked_on))
      (each_of-map P (λ w. w.thread ≢ o → P w) (s.lists q) (λ w k p ne. p) (h.loans.kept_is_known l i)))
      (λ k ne. h.loans.kept_is_known k)

  pub lawful : Lawful c n
  unfolding after_shift
  lawful = assumption (heads, bits, ascend, mutex_waiters, stand, loans_least, kept, kept_known)

-- The end of a walk

module _ (c : Config) (s : State) (t : ℕ) (g : MayEndWalk c s t) (h : Lawful c s) where
  abbrev m : State
  m = after_end_walk s t

  end_loans_least : LoansAreLeast c m.owner m.walk m.loan m.lists
  unfolding after_end_walk LoansAreLeast walkers_at_lock
  end_loans_least l u e w = go (s.walk t) refl g.there
    where
      a : sum_below c.threads (λ j. at_lock l (m.walk j)) + at_lock l (s.walk t)
          ≡ sum_below c.threads (λ j. at_lock l (s.walk j)) + 0
      a = sum_below-put c.threads (at_lock l) s.walk t NoWalk g.thread

      go : (x : Walk) → s.walk t ≡ x → IsAtEnd c s x → prio_of (s.loan u l) ≡ least_of (s.lists (lock_queue l))
      go NoWalk y z = absurd z
      go (AtLock k) y z =
          let b = ap (at_lock l) y in
          elim (cases_eq l k) [
            | inl i ↦ absurd (let f : None ≡ Some u = sym z ∙ ap (λ j. s.owner (lock_queue j)) (sym i) ∙ e in cc)
            | inr i ↦ let f : one (eqb l k) ≡ 0 = ap one (ne_eqb l k i) in
                h.loans.loans_are_least l u e (omega (arith, a))
          ]
      go (AtThread o) y z = let b = ap (at_lock l) y in h.loans.loans_are_least l u e (omega (arith, a))

  end_still : (l : ℕ) → is_turnstile (c.kind l) ≡ true → (w : Waiter) → 1 ≤ stands w.thread (s.lists (lock_queue l))
      → IsKept c s.walk s.effective w → IsKept c m.walk s.effective w
  unfolding after_end_walk walkers_at_thread StandsOnce
  end_still l i w p kept none = go (s.walk t) refl g.there
    where
      a : sum_below c.threads (λ j. at_thread w.thread (m.walk j)) + at_thread w.thread (s.walk t)
          ≡ sum_below c.threads (λ j. at_thread w.thread (s.walk j)) + 0
      a = sum_below-put c.threads (at_thread w.thread) s.walk t NoWalk g.thread

      go : (x : Walk) → s.walk t ≡ x → IsAtEnd c s x → w.kept ≡ s.effective w.thread
      go NoWalk y z = absurd z
      go (AtLock k) y z = let b = ap (at_thread w.thread) y in kept (omega (arith, a))
      go (AtThread o) y z =
          let b = ap (at_thread w.thread) y in
          elim (cases_eq w.thread o) [
            | inl j ↦
                let d = at_queue_one (lock_queue l) (s.blocked_on w.thread)
                (omega (arith, h.waits.stands_once w.thread (lock_queue l))) in
                let f = z l i (ap s.blocked_on (sym j) ∙ d) in
                let r = ap (λ v. stands v (s.lists (lock_queue l))) j in
                absurd (omega arith)
            | inr j ↦ let f : one (eqb w.thread o) ≡ 0 = ap one (ne_eqb w.thread o j) in kept (omega (arith, a))
          ]

  end_kept : KeptIsEffective c m.walk m.effective m.lists
  unfolding after_end_walk KeptIsEffective
  end_kept l i = each_of-map (IsKept c s.walk s.effective) (IsKept c m.walk s.effective) (s.lists (lock_queue l))
      (end_still l i) (h.loans.kept_is_effective l i)

  pub end_lawful : Lawful c m
  unfolding after_end_walk
  end_lawful = assumption (end_loans_least, end_kept)

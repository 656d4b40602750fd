-- A chain of sleep queues, of some queues: what it shows of their columns where those of one change. It is said of any
-- queues, so that it serves where one chain has all sleep queues, and where each of several has its own.
use Rattle.lock_objects.proofs.Names
use Names.{ℕ, Bool, true, false, cond, List, [], length, map, Option, Some, None, IsSome, refl, sym, ap, subst, arith}
use Names.{All, All-nil, is_empty, some, Waiter, Lists, list_of, with_list, taken_off, left_on, head_after, waiting}
use Names.{dealt, Side, X, S, QueueName, put_queue, put_queue_same, put_queue_other, SleepQueue, Place, head_of}
use Names.{without, SleepColumns, RepresentsSleepQueue, sleepers_of, mark_of, IsBalanced, head_asleep, chain_asleep}
use Names.{slept, chain_woken, woken}
use Rattle.std.proofs.Common.{◌≡◌, ◌≢◌, ◌+◌, ◌∷◌, ◌∙◌}
use Rattle.sleep_queues.specs.Seen.{Contents}
use Rattle.sleep_queues.specs.Changes.{lists_of, waiters, all_waiters}
use Rattle.chain_table.proofs.Lookups.{without_absent}
use Rattle.lock_objects.specs.Sleeps.{woken_of}
use Rattle.lock_objects.proofs.Chains.{is_queue-other, all_placed, all_gone}
use Rattle.lock_objects.proofs.TakenOff as object

-- 1. What one queue shows

-- without a head a queue has no sleeper
pub nobody : (a : SleepColumns) → IsBalanced a → a.head ≡ None → (a.lists.exclusive ≡ []) × (a.lists.shared ≡ [])
nobody a fits none =
    let n : length a.lists.exclusive + length a.lists.shared ≡ 0 = sym fits.balanced
    ∙ (λ i. length (fits.no_free none i) + some (none i)) in
    (object.no_item a.lists.exclusive (omega (arith, n)), object.no_item a.lists.shared (omega (arith, n)))

-- a thread more stands at its tail
pub slept_shown : (q : QueueName) (side : Side) (x : ℕ) (w : Waiter) (o : Option SleepQueue) (a : SleepColumns)
    → IsBalanced a → RepresentsSleepQueue o a → slept side x w a ≡ sleepers_of (head_asleep q side x w o).contents
slept_shown q side x w None a fits none =
    let e = nobody a fits none in
    (λ i. slept side x w (record {
      head = none i;
      lists = record { exclusive = e.0 i; shared = e.1 i };
      free_list = fits.no_free none i;
    })) ∙ first side
  where
    first : (d : Side)
        → slept d x w (record { head = None; lists = record { exclusive = []; shared = [] }; free_list = [] })
        ≡ sleepers_of (head_asleep q d x w None).contents
    first X = refl
    first S = refl
slept_shown q side x w (Some h) a fits old = ap (slept side x w) old ∙ later side
  where
    later : (d : Side) → slept d x w (sleepers_of h.contents) ≡ sleepers_of (head_asleep q d x w (Some h)).contents
    later X = refl
    later S = refl

nobody_goes : (all : Bool) (ws : List Waiter) → ws ≡ [] → taken_off all ws ≡ []
nobody_goes true ws e = e
nobody_goes false ws e = rw e refl

none_on : (side : Side) (a : Lists) → (a.exclusive ≡ []) × (a.shared ≡ []) → list_of side a ≡ []
none_on X a e = e.0
none_on S a e = e.1

pub nobody_off : (all : Bool) (side : Side) (a : SleepColumns) → IsBalanced a → a.head ≡ None
    → taken_off all (list_of side a.lists) ≡ []
nobody_off all side a fits none = nobody_goes all (list_of side a.lists) (none_on side a.lists (nobody a fits none))

pub fits_there : (h : Contents) (a : SleepColumns) → IsBalanced a → a ≡ sleepers_of h
    → length h.free + 1 ≡ length h.exclusive + length h.shared
fits_there h a fits is =
    subst (λ (v : SleepColumns). length v.free_list + some v.head ≡ waiting v.lists) is fits.balanced

-- those who are woken show their marks, and each has an object
pub marks_woken : (q : QueueName) (all : Bool) (side : Side) (o : Option SleepQueue) (a : SleepColumns) → IsBalanced a
    → RepresentsSleepQueue o a
    → (map (mark_of q) (woken_of all side o) ≡ dealt q (taken_off all (list_of side a.lists)) a.free_list a.head)
    × All (λ p. IsSome p.object) (woken_of all side o)
marks_woken q all side None a fits none = (
  ap (λ ws. dealt q ws a.free_list a.head) (sym (nobody_off all side a fits none)),
  All-nil (λ (p : Place). IsSome p.object),
)
marks_woken q all side (Some h) a fits is =
    let are = object.woken_shown (taken_off all (waiters side h.contents))
    (with_list side (left_on all (waiters side h.contents)) (lists_of h.contents)) h.contents
    (object.count_woken all side (lists_of h.contents)) (fits_there h.contents a fits is) q in (
      are.0 ∙ (λ i. dealt q (taken_off all (list_of side (sym is i).lists)) (sym is i).free_list (sym is i).head),
      are.1,
    )

-- 2. A chain

-- it shows the columns of these queues
abbrev pub ShowsSleepers : (QueueName → Type 0) → List (QueueName × SleepQueue) → (QueueName → SleepColumns) → Type 0
ShowsSleepers P chain qs = (r : QueueName) → P r → RepresentsSleepQueue (head_of r chain) (qs r)

module _ (P : QueueName → Type 0) (chain : List (QueueName × SleepQueue)) (qs ns : QueueName → SleepColumns)
    (q : QueueName) (v : SleepColumns) (changes : (r : QueueName) → ns r ≡ put_queue qs q v r)
    (shows : ShowsSleepers P chain qs) where
  abbrev Shown : QueueName → Option SleepQueue → Type 0
  Shown r o = P r → RepresentsSleepQueue o (ns r)

  then_is : ns q ≡ v
  then_is = changes q ∙ put_queue_same qs q v

  others : (r : QueueName) → r ≢ q → Shown r (head_of r chain)
  others r d k = subst (RepresentsSleepQueue (head_of r chain))
      (sym (changes r ∙ put_queue_other qs q v r (is_queue-other q r (λ e. d (sym e))))) (shows r k)

  -- another sleep queue is in the place of the queue's, or where it had none
  pub sleepers_placed : (h : SleepQueue) → v ≡ sleepers_of h.contents → ShowsSleepers P ((q, h) ∷ without q chain) ns
  sleepers_placed h new = all_placed Shown q chain others h (λ _. then_is ∙ new)

  -- the queue has none any more
  pub sleepers_gone : head_of q (without q chain) ≡ None → v.head ≡ None → ShowsSleepers P (without q chain) ns
  sleepers_gone absent none = all_gone Shown q chain others absent (λ _. ap (λ a. a.head) then_is ∙ none)

  module _ (fits : IsBalanced (qs q)) (there : P q) where
    -- a thread stands there
    pub chain_slept : (side : Side) (x : ℕ) (w : Waiter) → v ≡ slept side x w (qs q)
        → ShowsSleepers P (chain_asleep q side x w chain) ns
    chain_slept side x w is = sleepers_placed (head_asleep q side x w (head_of q chain))
        (is ∙ slept_shown q side x w (head_of q chain) (qs q) fits (shows q there))

    module _ (absent : head_of q (without q chain) ≡ None) where
      -- these go from its sleep queue, and those stay
      pub chain_left : (h : SleepQueue) (off : List Waiter) (rest : Lists) → head_of q chain ≡ Some h
          → waiting rest + length off ≡ waiting (lists_of h.contents) → v ≡ object.columns_left off rest (qs q)
          → ShowsSleepers P (cond (is_empty (all_waiters (object.left off rest h.contents))) (without q chain)
          ((q, record h { contents = object.left off rest h.contents }) ∷ without q chain)) ns
      chain_left h off rest here count is = go (is_empty (all_waiters (object.left off rest h.contents))) refl
        where
          old : qs q ≡ sleepers_of h.contents
          old = subst (λ o. RepresentsSleepQueue o (qs q)) here (shows q there)

          go : (b : Bool) → is_empty (all_waiters (object.left off rest h.contents)) ≡ b
              → ShowsSleepers P (cond b (without q chain)
              ((q, record h { contents = object.left off rest h.contents }) ∷ without q chain)) ns
          go true e = sleepers_gone absent (ap (λ a. a.head) (is ∙ ap (object.columns_left off rest) old)
              ∙ object.gone off rest h.contents count (fits_there h.contents (qs q) fits old) e)
          go false e = sleepers_placed (record h { contents = object.left off rest h.contents })
              (is ∙ ap (object.columns_left off rest) old
              ∙ object.stays off rest h.contents count (fits_there h.contents (qs q) fits old) e)

      -- the best sleeper of a side goes, or all do
      pub chain_woken_shown : (all : Bool) (side : Side) (o : Option SleepQueue) → head_of q chain ≡ o
          → v ≡ woken all side (qs q) → ShowsSleepers P (chain_woken q all side o chain) ns
      chain_woken_shown all side None here is =
          let none : (qs q).head ≡ None = subst (λ o. RepresentsSleepQueue o (qs q)) here (shows q there) in
          subst (λ z. ShowsSleepers P z ns) (without_absent q chain here)
          (sleepers_gone absent (ap (λ a. a.head) is
          ∙ ap (λ ws. head_after ws (qs q).free_list (qs q).head) (nobody_off all side (qs q) fits none) ∙ none))
      chain_woken_shown all side (Some h) here is =
          let old : qs q ≡ sleepers_of h.contents = subst (λ o. RepresentsSleepQueue o (qs q)) here (shows q there) in
          chain_left h (taken_off all (waiters side h.contents))
          (with_list side (left_on all (waiters side h.contents)) (lists_of h.contents)) here
          (object.count_woken all side (lists_of h.contents))
          (is ∙ (λ i. object.columns_left (taken_off all (list_of side (old i).lists))
          (with_list side (left_on all (list_of side (old i).lists)) (old i).lists) (qs q)))

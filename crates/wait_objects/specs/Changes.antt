-- What is done with an object's lists and its free list, in the words of lock_model for the lists of a queue.
use Rattle.std.specs.Prelude.{◌≡◌, ℕ, ◌-◌, ◌≤◌, Bool, true, false, nat_lt, List, ◌∷◌, ◌++◌, [], length, map, None, Some, ⊤}
use Rattle.lock_model.specs.Queues.{Waiter as Waiting, Lists, list_of, with_list, stands, waiting, insert, with_last, handed_out, free_after, one_or_none, entry_of, without, taken_off, left_on, Ascends}
use Rattle.lock_model.specs.declared.plan.Side.{Side}
use Rattle.lock_model.specs.declared.plan.QueueName.{QueueName}
use Rattle.wait_objects.specs.declared.own.Own.{Ghosts}
use Rattle.wait_objects.specs.declared.which.Which.{Which}
use Rattle.wait_objects.specs.declared.which.Which.TheVariants.{Best, All, Thread}
use Rattle.wait_objects.specs.Seen.{Contents, Object, Place}
use Rattle.wait_objects.specs.Lists.{place}

-- both lists
abbrev pub lists_of : {E : Type 0} → Contents E → Lists
lists_of c = record { exclusive = c.exclusive; shared = c.shared }

-- with other lists
abbrev pub with_lists : {E : Type 0} → Lists → Contents E → Contents E
with_lists q c = record c { exclusive = q.exclusive; shared = q.shared }

-- the list of a side
abbrev pub waiters : {E : Type 0} → Side → Contents E → List Waiting
waiters side c = list_of side (lists_of c)

-- with another list on a side
abbrev pub with_waiters : {E : Type 0} → Side → List Waiting → Contents E → Contents E
with_waiters side ws c = with_lists (with_list side ws (lists_of c)) c

-- all who wait, the exclusive ones first
abbrev pub all_waiters : {E : Type 0} → Contents E → List Waiting
all_waiters c = c.exclusive ++ c.shared

-- whether a thread waits on an object
abbrev pub waits : {E : Type 0} → ℕ → Contents E → Bool
waits t c = nat_lt 0 (stands t (lists_of c))

-- the head of a queue
abbrev pub named : {E : Type 0} → Ghosts E → QueueName → Contents E → Contents E
named kind q c = record c { own = kind.with_name (Some q) c.own }

-- the head of no queue any more
abbrev pub unnamed : {E : Type 0} → Ghosts E → Contents E → Contents E
unnamed kind c = record c { own = kind.with_name None c.own }

-- nothing but its name keeps an object from being idle
pub record IsLeft {E : Type 0} (kind : Ghosts E) (o : Object E) : Type 0 where
  pub no_exclusive : o.contents.exclusive ≡ []
  pub no_shared : o.contents.shared ≡ []
  pub no_free : o.contents.free ≡ []
  pub own : kind.with_name None o.contents.own ≡ kind.home
  pub no_next : o.next ≡ []

-- a list with one more: by rank, or at the tail
abbrev pub added : Bool → Waiting → List Waiting → List Waiting
added true w ws = insert w ws
added false w ws = with_last w ws

-- one more waiter, whose object goes first on the free list
abbrev pub joined : {E : Type 0} → Bool → ℕ → Waiting → Side → Contents E → Contents E
joined ranked n w side c =
    with_waiters side (added ranked w (waiters side c)) (record c { free = n ∷ c.free })

-- who of a list is taken off
abbrev pub picked : Which → List Waiting → List Waiting
picked Best ws = taken_off false ws
picked All ws = taken_off true ws
picked (Thread t) ws = one_or_none (entry_of t.0 ws)

-- who stays
abbrev pub unpicked : Which → List Waiting → List Waiting
unpicked Best ws = left_on false ws
unpicked All ws = left_on true ws
unpicked (Thread t) ws = without t.0 ws

-- those who are taken off, each with the free object that it takes back, where one is left
abbrev pub woken : {E : Type 0} → Which → Side → Contents E → List Place
woken which side c = map place (handed_out (picked which (waiters side c)) c.free None)

-- the object without them, and without as many free objects
abbrev pub left : {E : Type 0} → Which → Side → Contents E → Contents E
left which side c =
    let ws : List Waiting = waiters side c in
    with_waiters side (unpicked which ws)
    (record c { free = free_after (picked which ws) c.free })

-- a list that is kept by rank ascends
abbrev pub InOrder : Bool → List Waiting → Type 0
InOrder true ws = Ascends ws
InOrder false ws = ⊤

-- what is true of each object: a list that is kept by rank ascends, each thread waits once, and the free list is one
-- shorter than both lists together, or as empty as they are
pub record IsWellFormed {E : Type 0} (ranked : Bool) (c : Contents E) : Type 0 where
  pub exclusive_ascends : InOrder ranked c.exclusive
  pub shared_ascends : InOrder ranked c.shared
  pub once : (t : ℕ) → stands t (lists_of c) ≤ 1
  pub one_free_less : length c.free ≡ waiting (lists_of c) - 1

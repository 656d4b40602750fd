-- How the boxes of an object are seen, and what is true of them.
use Rattle.std.specs.Prelude.{◌≡◌, ℕ, ◌-◌, ◌<◌, ◌≤◌, Bool, List, length, map, None, IfSome}
use Rattle.std.specs.List.{AllByRecursion}
use Rattle.lock_model.specs.Queues.{Waiter as Waiting, Lists, stands, waiting as waiting_on}
use Rattle.wait_objects.specs.Seen.{Place, Node, Contents, Object, idle_contents, idle_object}
use Rattle.wait_objects.specs.Changes.{InOrder}
use Rattle.wait_objects.specs.Linked.{linked_places, linked_contents, number_in}
use Rattle.wait_objects.specs.declared.own.Own.{Ghosts}
use Rattle.wait_objects.specs.declared.waiters.Waiters.TheInside.{Inside as InWaiters}
use Rattle.wait_objects.specs.declared.free_list.FreeList.TheInside.{Inside as InFreeList}
use Rattle.wait_objects.specs.declared.node.Node.TheInside.{Inside as InNode}
use Rattle.wait_objects.specs.declared.lists.Lists.TheInside.{Inside as InLists}
use Rattle.wait_objects.specs.declared.object.Object.TheInside.{Inside as InObject}

abbrev pub places_in : {E : Type 0} → InWaiters E → List Place
places_in a = linked_places a.first

abbrev pub free_contents : {E : Type 0} → InFreeList E → List (Contents E)
free_contents a = linked_contents a.first

abbrev pub seen_node : {E : Type 0} → InNode E → Node
seen_node a =
    record {
      place = record {
        thread = a.thread.0;
        kept = a.kept.0;
        object = number_in a.object;
      };
      next = a.next;
    }

-- what a node holds is idle, with all that it has at home
abbrev pub HoldsIdle : {E : Type 0} → E → InNode E → Type 0
HoldsIdle home a = IfSome a.object (λ b. b.value ≡ idle_object home b.value.contents.number)

-- a place in a list, without what it takes back
abbrev pub waiting : Place → Waiting
waiting p = record { thread = p.thread; kept = p.kept }

-- no place holds an object
abbrev pub HoldNone : List Place → Type 0
HoldNone ps = AllByRecursion (λ p. p.object ≡ None) ps

-- each is a thread below n
abbrev pub AreBelow : ℕ → List Waiting → Type 0
AreBelow n ws = AllByRecursion (λ w. w.thread < n) ws

-- what is true of a list of waiters while they wait
pub record AreWaiting (ranked : Bool) (ps : List Place) : Type 0 where
  pub in_order : InOrder ranked (map waiting ps)
  pub hold_none : HoldNone ps
  pub threads : AreBelow 256 (map waiting ps)

abbrev pub seen_lists : {E : Type 0} → InLists E → Lists
seen_lists a = record { exclusive = map waiting a.exclusive; shared = map waiting a.shared }

-- both lists are of waiters
pub record AreLists {E : Type 0} (ranked : Bool) (a : InLists E) : Type 0 where
  pub exclusive : AreWaiting ranked a.exclusive
  pub shared : AreWaiting ranked a.shared

abbrev pub seen_contents : {E : Type 0} → InObject E → Contents E
seen_contents a =
    record {
      number = a.number.0;
      exclusive = a.lists.exclusive;
      shared = a.lists.shared;
      free = map (λ c. c.number) a.free;
      own = a.own;
    }

abbrev pub seen_object : {E : Type 0} → InObject E → Object E
seen_object a = record { contents = seen_contents a; next = linked_contents a.next }

-- each is idle, with what it has at home
abbrev pub AllIdle : {E : Type 0} → E → List (Contents E) → Type 0
AllIdle home cs = AllByRecursion (λ c. c ≡ idle_contents home c.number) cs

-- each thread waits once, the free list is one shorter than both lists together, or as empty as they are, and each
-- free object is idle with what it has at home
pub record IsSound {E : Type 0} (kind : Ghosts E) (a : InObject E) : Type 0 where
  pub once : (t : ℕ) → stands t a.lists ≤ 1
  pub one_free_less : length a.free ≡ waiting_on a.lists - 1
  pub free_idle : AllIdle kind.home a.free

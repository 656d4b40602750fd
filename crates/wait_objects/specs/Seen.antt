-- Objects in which threads wait, and the nodes by which they stand there, as their callers see them.
use Rattle.std.specs.Prelude.{◌≡◌, ℕ, List, [], Option, None}
use Rattle.lock_model.specs.Queues.{Waiter as Waiting}

-- who waits, by the priority that is kept for it, and the number of the object that it takes back, or none
pub record Place : Type 0 where
  pub thread : ℕ
  pub kept : ℕ
  pub object : Option ℕ

-- a thread's node, with those that stand behind it in its list
pub record Node : Type 0 where
  pub place : Place
  pub next : List Place

-- an object without its link, with what it has of its own
pub record Contents (E : Type 0) : Type 0 where
  pub number : ℕ
  pub exclusive : List Waiting
  pub shared : List Waiting
  pub free : List ℕ
  pub own : E

-- an object, with those that its link leads to, in order
pub record Object (E : Type 0) : Type 0 where
  pub contents : Contents E
  pub next : List (Contents E)

-- an idle object by its number, with what it has at home
abbrev pub idle_contents : {E : Type 0} → E → ℕ → Contents E
idle_contents home n =
    record { number = n; exclusive = []; shared = []; free = []; own = home }

-- the same, with nothing behind it
abbrev pub idle_object : {E : Type 0} → E → ℕ → Object E
idle_object home n = record { contents = idle_contents home n; next = [] }

-- a node holds no object and stands in no list
pub record IsEmpty (w : Node) : Type 0 where
  pub holds_none : w.place.object ≡ None
  pub alone : w.next ≡ []

-- a thread's node as it is made. Its kept number is the least important, and has no meaning
abbrev pub empty_node : ℕ → Node
empty_node t = record { place = record { thread = t; kept = 255; object = None }; next = [] }

-- an object at home, by its number, with the thread of the node beside it
pub record Kept : Type 0 where
  pub object : ℕ
  pub thread : ℕ

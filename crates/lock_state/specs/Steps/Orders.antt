-- Steps that check the order of locks: the lock of a blocking call is admitted behind those that its thread holds, or
-- refused. What each asks of the state, and what it makes of it. The class graph goes home by them.
use Rattle.std.specs.Prelude.{◌≡◌, ℕ, ◌<◌, false, List, map, reverse, Some, None}
use Rattle.lock_model.specs.Config.{Config}
use Rattle.lock_model.specs.Orders.{IsAdmitted, IsFirstToForbid, edges_behind}
use Rattle.lock_state.specs.Steps.LockWords.{AllOpen, is_taking_back}
use Rattle.lock_state.specs.State.{State, Running, OrderRefused, HeldLock, put}

-- the classes of the locks that a thread holds, in order of acquisition
abbrev pub held_classes : Config → List HeldLock → List ℕ
held_classes c hs = reverse (map (λ h. c.class h.lock) hs)

-- the same of a state
abbrev pub classes_held : Config → State → ℕ → List ℕ
classes_held c s t = held_classes c (s.held_locks t)

-- the thread runs, neither wants nor takes a lock, and has nothing to note; it isn't in a wait, and the sections of all
-- locks that it holds are open
pub record IsFreeToTake (c : Config) (s : State) (t l : ℕ) : Type 0 where
  pub thread : t < c.threads
  pub lock : l < c.locks
  pub running : s.wait t ≡ Running
  pub wants : s.wanted t ≡ None
  pub takes : s.taking t ≡ None
  pub unnoted : s.noted t ≡ None
  pub awake : is_taking_back (s.log t) ≡ false
  pub sections : AllOpen c s t

-- 1. An admission: no class of a held lock forbids that of the lock

-- what it asks
pub record MayAdmit (c : Config) (s : State) (t l : ℕ) : Type 0 where
  pub free : IsFreeToTake c s t l
  pub admitted : IsAdmitted s.edges (classes_held c s t) (c.class l)

-- the graph is home with one more edge from each class of a held lock, and the lock is wanted and being taken
unfoldable pub after_admit : Config → State → ℕ → ℕ → State
after_admit c s t l = record s {
  edges = edges_behind s.edges (classes_held c s t) (c.class l);
  wanted = put s.wanted t (Some l);
  taking = put s.taking t (Some l);
  graph_with = None;
}

-- 2. A refusal: of the held locks' classes, in order of acquisition, k is the first that forbids that of the lock

-- what it asks
pub record MayRefuse (c : Config) (s : State) (t l k : ℕ) : Type 0 where
  pub free : IsFreeToTake c s t l
  pub refused : IsFirstToForbid s.edges (classes_held c s t) (c.class l) k

-- the graph is home as it was, and the refusal is to be noted
unfoldable pub after_refuse : State → ℕ → ℕ → ℕ → State
after_refuse s t l k = record s {
  noted = put s.noted t (Some (OrderRefused l k));
  graph_with = None;
}

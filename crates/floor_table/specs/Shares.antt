-- The share that a thread has in the state of a floor: what its seat knows of it, as data, and what the columns of a
-- state say of it.
use Rattle.std.specs.Prelude.{ℕ, Bool, false, ◌==◌, List, [], Option, None}
use Rattle.std.specs.List.{list_any}
use Rattle.lock_state.specs.State.{gained_order, State, Walk, NoWalk, Look, Round, Note, Wake, HeldLock, Phase, Awake}
use Rattle.lock_model.specs.Counts.{times}
use Rattle.lock_model.specs.Holds.{Hold}
use Rattle.lock_model.specs.Operations.{hold_in}
use Rattle.lock_model.specs.Queues.{Mark}
use Rattle.lock_model.specs.declared.event.Entry.{Entry}
use Rattle.lock_model.specs.declared.event.Held.{Held}

-- what a thread is about
pub record Doing : Type 0 where
  pub wanted : Option ℕ
  pub taking : Option ℕ
  pub called : Option ℕ
  pub walk : Walk
  pub marked : List Mark
  pub looks : ℕ
  pub looks_in_all : ℕ
  pub last_look : Option Look
  pub seen_in_section : Option Look
  pub round : Option Round
  pub noted : Option Note
  pub woken_from : Option ℕ
  pub unstamped : Option Wake
  pub counted_out : ℕ
  pub counting : Option ℕ
  pub phase : Phase
  pub has_ended : Bool

-- 1. What a seat knows

pub record Share : Type 0 where
  -- the locks that the thread holds, in order of acquisition, and those of which a section began since
  pub held : List Held
  pub begun : List ℕ
  pub doing : Doing
  -- the threads that it counted in
  pub counted_in : List ℕ
  -- its log, the newest entry first
  pub log : List Entry

-- that of a thread at its begin
abbrev pub start_share : Share
start_share = record {
  held = [];
  begun = [];
  doing = record {
    wanted = None;
    taking = None;
    called = None;
    walk = NoWalk;
    marked = [];
    looks = 0;
    looks_in_all = 0;
    last_look = None;
    seen_in_section = None;
    round = None;
    noted = None;
    woken_from = None;
    unstamped = None;
    counted_out = 0;
    counting = None;
    phase = Awake;
    has_ended = false;
  };
  counted_in = [];
  log = [];
}

-- 2. What the columns say

pub record ShareColumns : Type 0 where
  pub held : ℕ → Hold
  pub held_locks : List HeldLock
  pub has_begun : ℕ → Bool
  pub doing : Doing
  pub counted_in : ℕ → ℕ
  pub log : List Entry

-- of a thread
abbrev pub share_in : State → ℕ → ShareColumns
share_in s t = record {
  held = s.held t;
  held_locks = s.held_locks t;
  has_begun = s.has_begun t;
  doing = record {
    wanted = s.wanted t;
    taking = s.taking t;
    called = s.called t;
    walk = s.walk t;
    marked = s.marked t;
    looks = s.looks t;
    looks_in_all = s.looks_in_all t;
    last_look = s.last_look t;
    seen_in_section = s.seen_in_section t;
    round = s.round t;
    noted = s.noted t;
    woken_from = s.woken_from t;
    unstamped = s.unstamped t;
    counted_out = s.counted_out t;
    counting = s.counting t;
    phase = s.phase t;
    has_ended = s.has_ended t;
  };
  counted_in = s.counted_in t;
  log = s.log t;
}

-- whether a number stands in a list
abbrev pub is_among : ℕ → List ℕ → Bool
is_among l ks = list_any (λ k. k == l) ks

-- what a share says
abbrev pub columns_of : Share → ShareColumns
columns_of x = record {
  held = hold_in x.held;
  held_locks = gained_order x.held;
  has_begun = λ l. is_among l x.begun;
  doing = x.doing;
  counted_in = λ u. times u x.counted_in;
  log = x.log;
}

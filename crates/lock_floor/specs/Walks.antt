-- How a thread that came to stand on a turnstile lends its priority along the chain of owners, hop
-- by hop: from a lock to its owner, and from an owner that stands on a turnstile itself to the lock
-- for which that one waits.
use Rattle.std.specs.Prelude.{◌≡◌, ◌≢◌, ◌⊎◌, ℕ, ◌<◌, true, false, List, [], ◌∷◌, ◌++◌, length, Option, None, Some, IfSome, IsSomeAnd, ⊤}
use Rattle.std.specs.declared.alloc.Global.{Global}
use Rattle.std.specs.declared.boxed.Box.{Box}
use Rattle.chain_table.specs.Chains.{head_of, without}
use Rattle.lock_model.specs.Queues.{lock_queue}
use Rattle.lock_model.specs.Words.{is_turnstile}
use Rattle.lock_model.specs.declared.plan.QueueName.{QueueName}
use Rattle.lock_objects.specs.Hops.{CanHop}
use Rattle.lock_objects.specs.Represents.{RepresentsQueues, RepresentsRecord, queue_in, record_in, walk_of}
use Rattle.lock_state.specs.Facts.{Lawful}
use Rattle.lock_state.specs.State.{State, Walk, NoWalk, AtLock, AtThread}
use Rattle.lock_state.specs.Steps.{Step, TakesItem, GivesItem, Lends, Shifts, EndsWalk}
use Rattle.lock_state.specs.Steps.Items.{Item, TurnstileChain, RecordOf}
use Rattle.lock_state.specs.Steps.Lending.{MayLend, after_lend, MayShift, after_shift}
use Rattle.prio_lending.specs.declared.walk.Walk as run_time
use Rattle.prio_lending.specs.Hops.{with_contents}
use Rattle.thread_records.specs.Records.{Record as RecordSeen}
use Rattle.thread_records.specs.declared.record.ThreadRec.{ThreadRec}
use Rattle.turnstile_core.specs.Changes.{waits, with_loan_home, moved}
use Rattle.turnstile_core.specs.Seen.{Turnstile}
use Rattle.floor_table.specs.Descriptions.{config_in}
use Rattle.floor_table.specs.Places.{first_turnstile_chain}
use Rattle.floor_table.specs.Shares.{Doing}
use Rattle.floor_table.specs.Steps.{Makes, MakesEach}
use Rattle.floor_table.specs.Views.{Knowledge, IsReady, seeing}
use Rattle.floor_table.specs.declared.description.Description.{Description}
use Rattle.floor_table.specs.declared.slot.Slot.{Slot}
use Rattle.floor_table.specs.declared.slot.Slot.TheVariants.{Record, Turnstiles}
use Rattle.lock_floor.specs.Passes.{IsGoing}

-- 1. Where a walk is

-- at a lock of the floor, of a kind with turnstiles, or at a thread of the floor
abbrev pub IsOnFloor : Description → Walk → Type 0
IsOnFloor floor NoWalk = ⊤
IsOnFloor floor (AtLock l) =
    (l < length floor.locks) × (is_turnstile ((config_in floor).kind l) ≡ true)
IsOnFloor floor (AtThread o) = o < length floor.threads

-- A thread makes the hops of its walk when it isn't about to stand on a queue, has nothing out,
-- seeks no lock and goes on. The floor has one chain of turnstiles: a hop at a thread takes it
-- before it knows for which lock that one waits
pub record CanWalk (floor : Description) (v : Knowledge) : Type 0 where
  pub one_chain : floor.chains ≡ 1
  pub on_floor : IsOnFloor floor v.share.doing.walk
  pub settled : v.pose ≢ IsReady
  pub nothing_out : v.out ≡ []
  pub no_round : v.share.doing.round ≡ None
  pub going : IsGoing v

-- 2. A hop

-- the one chain of turnstiles, and its place
abbrev pub turnstiles : Item
turnstiles = TurnstileChain 0

abbrev pub turnstiles_place : Description → ℕ
turnstiles_place floor = first_turnstile_chain floor

-- these atomic steps, while the thread has the chain of turnstiles out
abbrev pub in_chain : ℕ → List (List Step) → List (List Step)
in_chain t steps = (TakesItem t turnstiles ∷ []) ∷ (steps ++ (GivesItem t turnstiles ∷ []) ∷ [])

-- and this one, while it has the record of a thread out
abbrev pub with_record : ℕ → ℕ → Step → List (List Step)
with_record t o step =
    (TakesItem t (RecordOf o) ∷ []) ∷ (step ∷ []) ∷ (GivesItem t (RecordOf o) ∷ []) ∷ []

-- at a thread that one is sorted anew among those who wait for a lock, or the walk ends
abbrev pub IsStepAtThread : ℕ → ℕ → Step → Type 0
IsStepAtThread t o step = ((l : ℕ) × (step ≡ Shifts t o l)) ⊎ (step ≡ EndsWalk t)

-- The atomic steps of a hop. At a lock the owner o of its turnstile, whose number is h, is lent to
-- under the chain and o's record; or the walk ends under the chain alone, where there is no owner.
-- At a thread the step is made under the chain and that one's record
abbrev pub IsHop : ℕ → Walk → List (List Step) → Type 0
IsHop t NoWalk steps = ⊥
IsHop t (AtLock l) steps =
    ((o : ℕ) × ((h : ℕ) × (steps ≡ in_chain t (with_record t o (Lends t l o h)))))
    ⊎ (steps ≡ in_chain t ((EndsWalk t ∷ []) ∷ []))
IsHop t (AtThread o) steps =
    (step : Step) × IsStepAtThread t o step × (steps ≡ in_chain t (with_record t o step))

-- after hops: the walk is there, and what the thread has seen since it gave a chain back is nothing
abbrev pub walked : Knowledge → Walk → Knowledge
walked v w =
    let after : Doing = record v.share.doing { walk = w; seen_in_section = None } in
    record v { share = record v.share { doing = after } }

-- The thread made one hop of its walk, which is there then. Between its atomic steps other threads
-- made theirs; before it and behind it the thread has nothing out
pub record Hops (floor : Description) (w : Walk) (old new : Knowledge) : Type 0 where
  pub steps : List (List Step)
  pub hop : IsHop old.thread old.share.doing.walk steps
  pub each : MakesEach floor steps old new
  pub view : new ≡ seeing new.seen (walked old w)
  pub on_floor : IsOnFloor floor w

-- 3. A walk

-- the thread made hop after hop
pub data Walks (floor : Description) : Knowledge → Knowledge → Type 0 where
  no_hop : {v : Knowledge} → Walks floor v v
  one_more : {u v new : Knowledge} (w : Walk) → Walks floor u v → Hops floor w v new
      → Walks floor u new

-- 4. Inside a hop

-- the owner of a turnstile, where one is lent to the lock
abbrev pub owner_of_head : Option Turnstile → Option ℕ
owner_of_head None = None
owner_of_head (Some h) = h.contents.own.owner

-- The thread is in a hop, where its walk is, and has the chain of turnstiles out, and nothing else.
-- Whoever owns a turnstile there is a thread of the floor
pub record HasTurnstilesOut (floor : Description) (v : Knowledge) : Type 0 where
  pub one_chain : floor.chains ≡ 1
  pub on_floor : IsOnFloor floor v.share.doing.walk
  pub settled : v.pose ≢ IsReady
  pub no_round : v.share.doing.round ≡ None
  pub going : IsGoing v
  pub chain : List (QueueName × Turnstile)
  pub out : v.out ≡ (turnstiles_place floor, Turnstiles chain) ∷ []
  pub owners : (l o : ℕ) → is_turnstile ((config_in floor).kind l) ≡ true
      → owner_of_head (head_of (lock_queue l) chain) ≡ Some o → o < length floor.threads

-- the thread whose record a hop takes: at a lock the owner of its turnstile, in the chain; at a thread that one's
abbrev pub IsHopTo : Walk → List (QueueName × Turnstile) → ℕ → Type 0
IsHopTo NoWalk chain o = ⊥
IsHopTo (AtLock l) chain o = owner_of_head (head_of (lock_queue l) chain) ≡ Some o
IsHopTo (AtThread u) chain o = u ≡ o

-- the rest of that hop needs a thread's record
pub record NeedsRecord (floor : Description) (o : ℕ) (v : Knowledge) : Type 0 where
  pub chain : List (QueueName × Turnstile)
  pub out : v.out ≡ (turnstiles_place floor, Turnstiles chain) ∷ []
  pub to : IsHopTo v.share.doing.walk chain o

-- it made the rest of that hop: the walk is there then, and the thread has nothing out
pub record HopsOn (floor : Description) (w : Walk) (old new : Knowledge) : Type 0 where
  pub steps : List (List Step)
  pub hop : IsHop old.thread old.share.doing.walk
      ((TakesItem old.thread turnstiles ∷ []) ∷ steps)
  pub each : MakesEach floor steps old new
  pub view : new ≡ seeing new.seen (record (walked old w) { out = [] })
  pub on_floor : IsOnFloor floor w

-- the record of a thread was taken last, and before it the chain of turnstiles
abbrev pub record_and_chain : Description → ℕ → Box ThreadRec Global
    → List (QueueName × Turnstile) → List (ℕ × Slot)
record_and_chain floor o b chain =
    (o, Record b) ∷ (turnstiles_place floor, Turnstiles chain) ∷ []

-- the thread is in a hop, where its walk is, and has both out
pub record InHop (floor : Description) (o : ℕ) (v : Knowledge) : Type 0 where
  pub one_chain : floor.chains ≡ 1
  pub settled : v.pose ≢ IsReady
  pub going : IsGoing v
  pub box : Box ThreadRec Global
  pub chain : List (QueueName × Turnstile)
  pub out : v.out ≡ record_and_chain floor o box chain

-- it may lend to the owner of a lock's turnstile
pub record MayLendTo (floor : Description) (l o : ℕ) (v : Knowledge) : Type 0 where
  pub hop : InHop floor o v
  pub there : v.share.doing.walk ≡ AtLock l
  pub on_floor : IsOnFloor floor (AtLock l)
  pub of_floor : o < length floor.threads
  pub turnstile : Turnstile
  pub head : head_of (lock_queue l) hop.chain ≡ Some turnstile
  pub owned : turnstile.contents.own.owner ≡ Some o
  pub can : CanHop l hop.box.value turnstile

-- it may sort a thread anew, where that one stands on a turnstile
pub record MaySort (floor : Description) (o : ℕ) (v : Knowledge) : Type 0 where
  pub hop : InHop floor o v
  pub there : v.share.doing.walk ≡ AtThread o
  pub of_floor : o < length floor.threads

-- after a step of a hop: the walk is there, and these values are out
abbrev pub hopped : Knowledge → Walk → List (ℕ × Slot) → Knowledge
hopped v w out =
    let after : Doing = record v.share.doing { walk = w } in
    record v { share = record v.share { doing = after }; out = out }

-- the thread made the step of a hop, with both out then, as the step leaves them
pub record StepsInHop (floor : Description) (o : ℕ) (step : Step) (w : Walk) (old new : Knowledge)
    : Type 0 where
  pub box : Box ThreadRec Global
  pub chain : List (QueueName × Turnstile)
  pub view : new ≡ seeing new.seen (hopped old w (record_and_chain floor o box chain))
  pub made : Makes floor (step ∷ []) old new
  pub on_floor : IsOnFloor floor w

-- 5. The work on the values that are out

-- what the owner of a lock's turnstile was lent shows in its record and in the chain, and tells
-- where the walk goes on
pub record IsLentTo (floor : Description) (l : ℕ) (w : run_time.Walk) (r m : RecordSeen)
    (chain new : List (QueueName × Turnstile)) : Type 0 where
  pub placed : IfSome (head_of (lock_queue l) chain) (λ h. new
      ≡ (lock_queue l, with_contents (with_loan_home false h.contents) h)
      ∷ without (lock_queue l) chain)
  pub queues : (s : State) (t o h : ℕ) → Lawful (config_in floor) s
      → MayLend (config_in floor) s t l o h
      → RepresentsQueues (config_in floor) chain (queue_in s) s.loan_home
      → RepresentsQueues (config_in floor) new (queue_in (after_lend (config_in floor) s t l o h))
      (after_lend (config_in floor) s t l o h).loan_home
  pub its_record : (s : State) (t o h : ℕ) → Lawful (config_in floor) s
      → MayLend (config_in floor) s t l o h
      → RepresentsQueues (config_in floor) chain (queue_in s) s.loan_home
      → RepresentsRecord r (record_in s o)
      → RepresentsRecord m (record_in (after_lend (config_in floor) s t l o h) o)
  pub walk : (s : State) (t o h : ℕ) → Lawful (config_in floor) s
      → MayLend (config_in floor) s t l o h
      → RepresentsQueues (config_in floor) chain (queue_in s) s.loan_home
      → RepresentsRecord r (record_in s o)
      → walk_of w ≡ (after_lend (config_in floor) s t l o h).walk t

-- a thread stands on the turnstile of a lock, which its record names
pub record StandsThere (floor : Description) (l : ℕ) (r : RecordSeen)
    (chain : List (QueueName × Turnstile)) : Type 0 where
  pub named : r.on ≡ Some (lock_queue l)
  pub turnstile : is_turnstile ((config_in floor).kind l) ≡ true
  pub waits : IsSomeAnd (head_of (lock_queue l) chain) (λ h. waits r.thread h.contents ≡ true)

-- it stands on none
abbrev pub StandsNowhere : Description → RecordSeen → List (QueueName × Turnstile) → Type 0
StandsNowhere floor r chain =
    (l : ℕ) → is_turnstile ((config_in floor).kind l) ≡ true → r.on ≡ Some (lock_queue l)
    → IfSome (head_of (lock_queue l) chain) (λ h. waits r.thread h.contents ≡ false)

-- that it was sorted anew among those who wait for the lock shows in the chain, and tells where the
-- walk goes on
pub record IsSorted (floor : Description) (l : ℕ) (w : run_time.Walk) (r : RecordSeen)
    (chain new : List (QueueName × Turnstile)) : Type 0 where
  pub stands : StandsThere floor l r chain
  pub placed : IfSome (head_of (lock_queue l) chain) (λ h. new
      ≡ (lock_queue l, with_contents (moved r.thread r.effective h.contents) h)
      ∷ without (lock_queue l) chain)
  pub queues : (s : State) (t o : ℕ) → Lawful (config_in floor) s
      → MayShift (config_in floor) s t o l
      → RepresentsQueues (config_in floor) chain (queue_in s) s.loan_home
      → RepresentsRecord r (record_in s o)
      → RepresentsQueues (config_in floor) new (queue_in (after_shift s t o l))
      (after_shift s t o l).loan_home
  pub walk : (s : State) (t o : ℕ) → Lawful (config_in floor) s
      → MayShift (config_in floor) s t o l
      → RepresentsQueues (config_in floor) chain (queue_in s) s.loan_home
      → walk_of w ≡ (after_shift s t o l).walk t

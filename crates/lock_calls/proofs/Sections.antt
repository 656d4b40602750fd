-- A thread takes the chain in which a lock's queue stands, and then its own record, in which its turnstile and its
-- sleep queue are. By the lock's kind the chain is one of turnstiles, or one of sleep queues.
use Rattle.lock_calls.proofs.Names
use Names.{ℕ, Bool, true, false, cond, Option, Some, None, IsSome, List, [], refl, sym, ap, subst, Global, Box}
use Names.{lock_queue, is_turnstile, Kind, Mtx, Rw, Sx, Mode, QueueName, Enters, EntersSleepQueue, Opens}
use Names.{OpensSleepQueue, RecordOf, TurnstileChain, SleepChain, SleepQueue, ThreadRec, Turnstile, config_in}
use Names.{Description, Slot, Record, Cell, Turnstiles, SleepQueues, Graph, is_off_queues, Knowledge, IsOfKind, Takes}
use Names.{HasBothOut, HasSleeperOut, its_chain, chain_place, own_turnstile, own_sleep_queue, IsItsChain, section_out}
use Names.{HasRecordAndChain, enters_by, opens_by}
use Rattle.std.proofs.Common.{◌≡◌, ◌%◌, ◌∷◌, ◌∙◌}

-- 1. Steps by the kind

pub enters_turnstile : (k : Kind) (t l : ℕ) (mode : Mode) (x : ℕ) → is_turnstile k ≡ true
    → Enters t l mode x ≡ enters_by k t l mode x
enters_turnstile Mtx t l mode x is = refl
enters_turnstile Rw t l mode x is = refl
enters_turnstile Sx t l mode x is = absurd (let z : false ≡ true = is in cc)

pub enters_asleep : (k : Kind) (t l : ℕ) (mode : Mode) (x : ℕ) → is_turnstile k ≡ false
    → EntersSleepQueue t l mode x ≡ enters_by k t l mode x
enters_asleep Mtx t l mode x is = absurd (let z : true ≡ false = is in cc)
enters_asleep Rw t l mode x is = absurd (let z : true ≡ false = is in cc)
enters_asleep Sx t l mode x is = refl

pub opens_turnstile : (k : Kind) (t l : ℕ) (mode : Mode) → is_turnstile k ≡ true → Opens t l mode ≡ opens_by k t l mode
opens_turnstile Mtx t l mode is = refl
opens_turnstile Rw t l mode is = refl
opens_turnstile Sx t l mode is = absurd (let z : false ≡ true = is in cc)

pub opens_asleep : (k : Kind) (t l : ℕ) (mode : Mode) → is_turnstile k ≡ false
    → OpensSleepQueue t l mode ≡ opens_by k t l mode
opens_asleep Mtx t l mode is = absurd (let z : true ≡ false = is in cc)
opens_asleep Rw t l mode is = absurd (let z : true ≡ false = is in cc)
opens_asleep Sx t l mode is = refl

-- 2. What is out

-- the objects that the record lends are in it
pub record HasItsObjects (b : Box ThreadRec Global) : Type 0 where
  pub turnstile : ℕ
  pub lent : b.value.turnstile ≡ Some turnstile
  pub sleep_queue : ℕ
  pub home : b.value.sleep_queue ≡ Some sleep_queue

module _ (floor : Description) (l : ℕ) where
  pub chain_out : (old new : Knowledge)
      → (k : Takes floor (its_chain floor (lock_queue l)) (chain_place floor (lock_queue l)) old new) → old.out ≡ []
      → new.out ≡ (chain_place floor (lock_queue l), k.value) ∷ []
  chain_out old new k empty = ap (λ (v : Knowledge). v.out) k.view
      ∙ (λ i. (chain_place floor (lock_queue l), k.value) ∷ empty i)

  boxed : (t : ℕ) (y : Slot) → IsOfKind (RecordOf t) y → (b : Box ThreadRec Global) × (y ≡ Record b)
  boxed t (Record b) is = (b, refl)
  boxed t (Cell value) is = absurd is
  boxed t (Turnstiles c) is = absurd is
  boxed t (SleepQueues c) is = absurd is
  boxed t (Graph g) is = absurd is

  pub both_out : (old new : Knowledge) (chain : Slot) → IsItsChain floor l chain
      → Takes floor (RecordOf old.thread) old.thread old new
      → old.out ≡ (chain_place floor (lock_queue l), chain) ∷ [] → HasRecordAndChain floor l new
  both_out old new chain of_lock k out =
      let b = boxed old.thread k.value k.kind in
      record {
        box = b.0;
        chain = chain;
        of_lock = of_lock;
        out = ap (λ (v : Knowledge). v.out) k.view ∙ (λ i. (old.thread, b.1 i) ∷ out i)
            ∙ ap (λ t. section_out floor t l b.0 chain) (sym (ap (λ (v : Knowledge). v.thread) k.view));
      }

  -- and where the thread stands on no queue its objects are there
  pub record_out : (old new : Knowledge) (chain : Slot) → IsItsChain floor l chain
      → Takes floor (RecordOf old.thread) old.thread old new → is_off_queues old.pose ≡ true
      → old.out ≡ (chain_place floor (lock_queue l), chain) ∷ []
      → (both : HasRecordAndChain floor l new) × HasItsObjects both.box
  unfolding both_out
  record_out old new chain of_lock k off out =
      let b = boxed old.thread k.value k.kind in
      let x = filled b.0.value.turnstile (own_turnstile floor old new b.0 k b.1 off) in
      let y = filled b.0.value.sleep_queue (own_sleep_queue floor old new b.0 k b.1 off) in (
        both_out old new chain of_lock k out,
        record { turnstile = x.0; lent = x.1; sleep_queue = y.0; home = y.1 },
      )
    where
      filled : (o : Option ℕ) → IsSome o → (x : ℕ) × (o ≡ Some x)
      filled (Some x) some = (x, refl)
      filled None some = absurd (let z : false ≡ true = some in cc)

  -- 3. By the kind

  -- the chain of a lock of a kind with turnstiles, or without
  abbrev of_kind : Slot → Bool → Type 0
  of_kind x b = IsOfKind (cond b (TurnstileChain (l % floor.chains)) (SleepChain (l % floor.chains))) x

  pub turnstiles_out : is_turnstile ((config_in floor).kind l) ≡ true → (x : Slot) → IsItsChain floor l x
      → (chain : List (QueueName × Turnstile)) × (x ≡ Turnstiles chain)
  turnstiles_out turnstile x is = go x (subst (of_kind x) turnstile is)
    where
      go : (y : Slot) → IsOfKind (TurnstileChain (l % floor.chains)) y → (chain : List (QueueName × Turnstile))
          × (y ≡ Turnstiles chain)
      go (Turnstiles chain) is = (chain, refl)
      go (Record b) is = absurd is
      go (Cell value) is = absurd is
      go (SleepQueues chain) is = absurd is
      go (Graph b) is = absurd is

  pub sleepers_out : is_turnstile ((config_in floor).kind l) ≡ false → (x : Slot) → IsItsChain floor l x
      → (chain : List (QueueName × SleepQueue)) × (x ≡ SleepQueues chain)
  sleepers_out sleeps x is = go x (subst (of_kind x) sleeps is)
    where
      go : (y : Slot) → IsOfKind (SleepChain (l % floor.chains)) y → (chain : List (QueueName × SleepQueue))
          × (y ≡ SleepQueues chain)
      go (SleepQueues chain) is = (chain, refl)
      go (Record b) is = absurd is
      go (Cell value) is = absurd is
      go (Turnstiles chain) is = absurd is
      go (Graph b) is = absurd is

  abbrev pub as_both : is_turnstile ((config_in floor).kind l) ≡ true → (v : Knowledge) → HasRecordAndChain floor l v
      → HasBothOut floor l v
  as_both turnstile v h =
      let c = turnstiles_out turnstile h.chain h.of_lock in
      record { box = h.box; chain = c.0; out = h.out ∙ (λ i. section_out floor v.thread l h.box (c.1 i)) }

  abbrev pub as_sleeper : is_turnstile ((config_in floor).kind l) ≡ false → (v : Knowledge)
      → HasRecordAndChain floor l v
      → HasSleeperOut floor (lock_queue l) v
  as_sleeper sleeps v h =
      let c = sleepers_out sleeps h.chain h.of_lock in
      record { box = h.box; chain = c.0; out = h.out ∙ (λ i. section_out floor v.thread l h.box (c.1 i)) }

  pub from_both : is_turnstile ((config_in floor).kind l) ≡ true → (v : Knowledge) → HasBothOut floor l v
      → HasRecordAndChain floor l v
  from_both turnstile v h = record {
    box = h.box;
    chain = Turnstiles h.chain;
    of_lock = subst (of_kind (Turnstiles h.chain)) (sym turnstile) tt;
    out = h.out;
  }

  pub from_sleeper : is_turnstile ((config_in floor).kind l) ≡ false → (v : Knowledge)
      → HasSleeperOut floor (lock_queue l) v → HasRecordAndChain floor l v
  from_sleeper sleeps v h = record {
    box = h.box;
    chain = SleepQueues h.chain;
    of_lock = subst (of_kind (SleepQueues h.chain)) (sym sleeps) tt;
    out = h.out;
  }

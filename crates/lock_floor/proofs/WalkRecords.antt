-- What a thread finds in the chain of turnstiles and in a record that it takes under it: the owner of a turnstile is a
-- thread of the floor, and what its record has fits the turnstile, so that it can be lent to.
use Rattle.lock_floor.proofs.Names
use Names.{ℕ, true, Option, Some, None, List, [], length, refl, sym, ap, subst, IsSomeAnd, Global, Box, head_of}
use Names.{owner_thread, Config, lock_queue, is_turnstile, QueueName, CanHop, QueueColumns, RepresentsQueue}
use Names.{RepresentsRecord, queue_in, record_in, can_hop, Lawful, State, AtLock, RecordOf, after_take, MayLend}
use Names.{ThreadRec, Turnstile, config_in, IsOf, RepresentsTurnstiles, RepresentsShare, objects_in, thread_in}
use Names.{ShareColumns, found, OfThread, Knowledge, Description, Slot, Record, Cell, Turnstiles, SleepQueues, Graph}
use Names.{found_first, IsOfKind, Takes, owner_of_head, turnstiles, turnstiles_place, arith}
use Rattle.std.proofs.Common.{◌≡◌, ◌<◌, ◌∷◌, ◌∙◌}
use mathlib.Core.Option.{some}
use Rattle.lock_floor.proofs.Taking.{record_at}
use Rattle.lock_floor.proofs.WalkChains.{turnstiles_at, lock_chain, all_queues}

-- a value of the chain has turnstiles
pub a_chain : (y : Slot) → IsOfKind turnstiles y → (chain : List (QueueName × Turnstile)) × (y ≡ Turnstiles chain)
a_chain e is = grind arith

module _ (floor : Description) (one : floor.chains ≡ 1) where
  abbrev c : Config
  c = config_in floor

  -- 1. The chain was taken

  module _ (old new : Knowledge) (k : Takes floor turnstiles (turnstiles_place floor) old new)
      (chain : List (QueueName × Turnstile)) (is : k.value ≡ Turnstiles chain) where
    chain_says : RepresentsTurnstiles floor 0 chain (objects_in k.step.state)
    unfolding after_take
    chain_says =
        let j : ℕ = turnstiles_place floor in
        let r = k.step.represents_behind in
        let out : found j (thread_in k.step.behind.views old.thread).out ≡ some k.value =
        ap (λ (v : Knowledge). found j v.out) (k.step.is ∙ k.view) ∙ found_first j k.value old.out in
        let same : Turnstiles chain ≡ r.content j = sym is ∙ (r.shelves.taken j old.thread k.value out).2 in
        subst (IsOf floor (objects_in (after_take k.step.state old.thread turnstiles)) turnstiles) (sym same)
        (r.objects.each turnstiles j (turnstiles_at floor one))

    -- an owner is a thread of the floor
    pub owner_low : (l o : ℕ) → is_turnstile (c.kind l) ≡ true → owner_of_head (head_of (lock_queue l) chain) ≡ Some o
        → o < length floor.threads
    owner_low l o turnstile owned =
        go (head_of (lock_queue l) chain) (chain_says.queue (lock_queue l) (lock_chain floor one l turnstile)) owned
      where
        go : (x : Option Turnstile) → RepresentsQueue x (queue_in k.step.state (lock_queue l)) k.step.state.loan_home
            → owner_of_head x ≡ Some o → o < length floor.threads
        go None h e = absurd (let z : None ≡ Some o = e in cc)
        go (Some d) h e = owner_thread c k.step.state l o k.step.sound.facts.lawful
            (ap (λ (q : QueueColumns). q.owner) h.queue ∙ e)

  -- 2. And then a record

  module _ (old new : Knowledge) (o l : ℕ) (low : o < length floor.threads)
      (on_floor : (l < length floor.locks) × (is_turnstile (c.kind l) ≡ true))
      (k : Takes floor (RecordOf o) o old new) (b : Box ThreadRec Global) (is : k.value ≡ Record b)
      (chain : List (QueueName × Turnstile)) (out : old.out ≡ (turnstiles_place floor, Turnstiles chain) ∷ [])
      (there : old.share.doing.walk ≡ AtLock l) (d : Turnstile) (head : head_of (lock_queue l) chain ≡ Some d)
      (owned : d.contents.own.owner ≡ Some o) where
    abbrev s : State
    s = k.step.state

    abbrev t : ℕ
    t = old.thread

    abbrev lawful : Lawful c s
    lawful = k.step.sound.facts.lawful

    record_says : RepresentsRecord b.value (record_in s o)
    unfolding after_take
    record_says =
        let r = k.step.represents_behind in
        let its : found o (thread_in k.step.behind.views t).out ≡ some k.value =
        ap (λ (v : Knowledge). found o v.out) (k.step.is ∙ k.view) ∙ found_first o k.value old.out in
        let same : Record b ≡ r.content o = sym is ∙ (r.shelves.taken o t k.value its).2 in
        subst (IsOf floor (objects_in (after_take s t (RecordOf o))) (RecordOf o)) (sym same)
        (r.objects.each (RecordOf o) o (record_at floor o low))

    chain_still : RepresentsTurnstiles floor 0 chain (objects_in s)
    chain_still =
        let j : ℕ = turnstiles_place floor in
        let r = k.step.represents in
        let its : found j (thread_in k.step.before.views t).out ≡ some (Turnstiles chain) =
        ap (λ (v : Knowledge). found j v.out) k.step.was ∙ ap (found j) out ∙ found_first j (Turnstiles chain) [] in
        let same : Turnstiles chain ≡ r.content j = (r.shelves.taken j t (Turnstiles chain) its).2 in
        subst (IsOf floor (objects_in s) turnstiles) (sym same) (r.objects.each turnstiles j (turnstiles_at floor one))

    walks : s.walk t ≡ AtLock l
    walks =
        let role : (thread_in k.step.before.views t).role ≡ OfThread =
        ap (λ (v : Knowledge). v.role) k.step.was ∙ k.step.role in
        let seat = k.step.represents.seats.thread t role in
        let share : RepresentsShare old.share s t =
        subst (λ (v : Knowledge). RepresentsShare v.share s t) k.step.was seat.share in
        sym (ap (λ (x : ShareColumns). x.doing.walk) share.columns) ∙ there

    may_lend_then : MayLend c s t l o d.contents.number
    may_lend_then =
        let shows : RepresentsQueue (Some d) (queue_in s (lock_queue l)) s.loan_home =
        subst (λ x. RepresentsQueue x (queue_in s (lock_queue l)) s.loan_home) head
        (chain_still.queue (lock_queue l) (lock_chain floor one l on_floor.1)) in
        record {
          thread = k.step.may.0.fits.may.thread;
          lock = on_floor.0;
          walks = walks;
          head = ap (λ (q : QueueColumns). q.head) shows.queue;
          owned = ap (λ (q : QueueColumns). q.owner) shows.queue ∙ owned;
        }

    -- the owner can be lent to
    pub can_lend_to : CanHop l b.value d
    can_lend_to =
        subst (λ (x : Option Turnstile). IsSomeAnd x (CanHop l b.value)) head
        (can_hop c s t l o d.contents.number lawful may_lend_then (all_queues floor one s chain chain_still)
        record_says)

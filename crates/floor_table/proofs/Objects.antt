-- A value that says of its item what the columns say goes on to do so where they say the same of that item. A chain is
-- empty where, by the columns, no queue that stands in it has a head.
use Rattle.std.proofs.Common.{◌≡◌, ℕ, Option, Some, None, List, [], ◌∷◌, refl, sym, ap, ◌∙◌, subst, arith}
use Rattle.std.proofs.lemmas.Map.Entries.{lookup_head}
use Rattle.lock_laws.proofs.Kit.{is_queue_same}
use Rattle.lock_model.specs.Queues.{is_queue}
use Rattle.lock_model.specs.declared.plan.QueueName.{QueueName}
use Rattle.lock_state.specs.Steps.Items.{Item, TurnstileChain, SleepChain, RecordOf, CellOf, ClassGraph}
use Rattle.sleep_queues.specs.Seen.{SleepQueue}
use Rattle.turnstile_core.specs.Seen.{Turnstile}
use Rattle.chain_table.specs.Chains.{head_of}
use Rattle.witness_orders.specs.Graph.{RepresentsGraph}
use Rattle.lock_objects.specs.Represents.{QueueColumns, SleepColumns, sleepers_of, RepresentsRecord, RepresentsHead, RepresentsQueue, RepresentsSleepQueue}
use Rattle.lock_objects.proofs.Queues.{SameQueue, queue_stays}
use Rattle.floor_table.specs.Descriptions.{config_in}
use Rattle.floor_table.specs.declared.description.Description.{Description}
use Rattle.floor_table.specs.declared.slot.Slot.{Slot}
use Rattle.floor_table.specs.declared.slot.Slot.TheVariants.{Record, Cell, Turnstiles, SleepQueues, Graph}
use Rattle.floor_table.specs.Represents.{Objects, sleepers, StandsIn, IsOf, RepresentsTurnstiles, RepresentsSleepChain}

-- the columns say the same of an item
abbrev pub SaySame : Description → Objects → Objects → Item → Type 0
SaySame floor x y (TurnstileChain k) = (q : QueueName) → StandsIn floor (TurnstileChain k) q
    → SameQueue x.queues y.queues x.loan_home y.loan_home q
SaySame floor x y (SleepChain k) = (q : QueueName) → StandsIn floor (SleepChain k) q
    → sleepers (y.queues q) ≡ sleepers (x.queues q)
SaySame floor x y (RecordOf t) = y.record_of t ≡ x.record_of t
SaySame floor x y (CellOf l key) = y.table l key ≡ x.table l key
SaySame floor x y ClassGraph = y.edges ≡ x.edges

sleeps_on : (o : Option SleepQueue) (a b : SleepColumns) → b ≡ a → RepresentsSleepQueue o a → RepresentsSleepQueue o b
sleeps_on o a b e h = subst (RepresentsSleepQueue o) (sym e) h

pub still_of : (floor : Description) (x y : Objects) (i : Item) (z : Slot) → SaySame floor x y i → IsOf floor x i z
    → IsOf floor y i z
still_of floor x y (TurnstileChain k) (Turnstiles chain) e h = record {
  names = h.names;
  queue = λ q there. queue_stays (head_of q chain) (e q there) (h.queue q there);
}
still_of floor x y (SleepChain k) (SleepQueues chain) e h = record {
  names = h.names;
  queue = λ q there. sleeps_on (head_of q chain) (sleepers (x.queues q)) (sleepers (y.queues q)) (e q there)
      (h.queue q there);
}
still_of floor x y (RecordOf t) (Record b) e h = subst (RepresentsRecord b.value) (sym e) h
still_of floor x y (CellOf l key) (Cell value) e h = h ∙ sym e
still_of floor x y ClassGraph (Graph b) e h = subst (RepresentsGraph (config_in floor) b.value) (sym e) h
still_of floor x y (TurnstileChain k) (Record b) e h = absurd h
still_of floor x y (TurnstileChain k) (Cell value) e h = absurd h
still_of floor x y (TurnstileChain k) (SleepQueues chain) e h = absurd h
still_of floor x y (TurnstileChain k) (Graph b) e h = absurd h
still_of floor x y (SleepChain k) (Record b) e h = absurd h
still_of floor x y (SleepChain k) (Cell value) e h = absurd h
still_of floor x y (SleepChain k) (Turnstiles chain) e h = absurd h
still_of floor x y (SleepChain k) (Graph b) e h = absurd h
still_of floor x y (RecordOf t) (Cell value) e h = absurd h
still_of floor x y (RecordOf t) (Turnstiles chain) e h = absurd h
still_of floor x y (RecordOf t) (SleepQueues chain) e h = absurd h
still_of floor x y (RecordOf t) (Graph b) e h = absurd h
still_of floor x y (CellOf l key) (Record b) e h = absurd h
still_of floor x y (CellOf l key) (Turnstiles chain) e h = absurd h
still_of floor x y (CellOf l key) (SleepQueues chain) e h = absurd h
still_of floor x y (CellOf l key) (Graph b) e h = absurd h
still_of floor x y ClassGraph (Record b) e h = absurd h
still_of floor x y ClassGraph (Cell value) e h = absurd h
still_of floor x y ClassGraph (Turnstiles chain) e h = absurd h
still_of floor x y ClassGraph (SleepQueues chain) e h = absurd h

-- a name in a chain is that of a queue which stands there, and has a head
pub no_turnstile : (floor : Description) (k : ℕ) (chain : List (QueueName × Turnstile)) (x : Objects)
    → RepresentsTurnstiles floor k chain x
    → ((q : QueueName) → StandsIn floor (TurnstileChain k) q → (x.queues q).head ≡ None) → chain ≡ []
no_turnstile floor k [] x h none = refl
no_turnstile floor k (e ∷ es) x h none =
    let there : StandsIn floor (TurnstileChain k) e.0 = h.names.own 0 e (omega arith) in
    let found : head_of e.0 (e ∷ es) ≡ Some e.1 = lookup_head (is_queue e.0) e es (is_queue_same e.0) in
    let its : RepresentsHead e.1.contents (x.queues e.0) x.loan_home =
    subst (λ o. RepresentsQueue o (x.queues e.0) x.loan_home) found (h.queue e.0 there) in
    absurd (let z : Some e.1.contents.number ≡ None = sym (ap (λ (y : QueueColumns). y.head) its.queue)
    ∙ none e.0 there in cc)

pub no_sleep_queue : (floor : Description) (k : ℕ) (chain : List (QueueName × SleepQueue)) (x : Objects)
    → RepresentsSleepChain floor k chain x
    → ((q : QueueName) → StandsIn floor (SleepChain k) q → (x.queues q).head ≡ None) → chain ≡ []
no_sleep_queue floor k [] x h none = refl
no_sleep_queue floor k (e ∷ es) x h none =
    let there : StandsIn floor (SleepChain k) e.0 = h.names.own 0 e (omega arith) in
    let found : head_of e.0 (e ∷ es) ≡ Some e.1 = lookup_head (is_queue e.0) e es (is_queue_same e.0) in
    let its : sleepers (x.queues e.0) ≡ sleepers_of e.1.contents =
    subst (λ o. RepresentsSleepQueue o (sleepers (x.queues e.0))) found (h.queue e.0 there) in
    absurd (let z : Some e.1.contents.number ≡ None = sym (ap (λ (y : SleepColumns). y.head) its)
    ∙ none e.0 there in cc)

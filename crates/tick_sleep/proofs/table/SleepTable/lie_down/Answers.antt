use Rattle.std.proofs.Common.{◌≡◌, ℕ, true, false, List, [], ◌∷◌, ◌++◌, Option, cond, eqb, set, slice_get, sym, ap, subst, ◌∙◌}
use Rattle.std.proofs.lemmas.Option.{get_or_from_slice_get}
use Rattle.lock_model.specs.Queues.{Waiter, chan_queue}
use Rattle.lock_model.specs.declared.plan.QueueName.{QueueName}
use Rattle.sleep_queues.specs.Seen.{SleepQueue}
use Rattle.wait_objects.specs.Seen.{Kept}
use Rattle.chain_table.specs.Chains.{head_of}
use Rattle.tick_sleep.specs.Tables.{Table, CanJoin, head_joined, lying, home_at, is_home}
use Rattle.tick_sleep.proofs.Places.{some_there}
use Rattle.tick_sleep.proofs.Lying.{home_here, may, then_sound, then_queues, then_homes}
use Rattle.tick_sleep.proofs.Waking.{of_name}
use Rattle.tick_sleep.proofs.table.SleepTable.lie_down.Goals as goal

pub with_sleeper-head-requires-clause-may : goal.with_sleeper-head-requires-clause-may
with_sleeper-head-requires-clause-may c =
    let items = c.self.inside.homes.items in
    let a : Table = record { chain = c.self.inside.chain; homes = items } in
    let home = subst (λ (b : Table). is_home c.args.t.0 b ≡ true) (sym c.self.view_is) c.requires.home in
    let at = c.index_mut.ensures.value
    ∙ get_or_from_slice_get items c.from.result (home_at c.args.t.0 items) _
    (ap (λ i. slice_get items i) c.from.ensures ∙ some_there items c.args.t.0 (home_here items c.args.t.0 home)) in
    subst (λ (o : Option SleepQueue). CanJoin c.lend-own.result.1.value.place.thread o)
    (sym c.unplace-there.ensures.taken)
    (may a c.self.invariant c.args.t.0 c.args.key c.index_mut.result.now at home c.lend-own.result.0.value
    c.lend-own.result.1.value.place.thread c.lend-own.ensures.object c.lend-own.ensures.node)

pub invariant_of-self : goal.invariant_of-self
invariant_of-self c =
    let items = c.self.inside.homes.items in
    let a : Table = record { chain = c.self.inside.chain; homes = items } in
    let home = subst (λ (b : Table). is_home c.args.t.0 b ≡ true) (sym c.self.view_is) c.requires.home in
    let at = c.index_mut.ensures.value
    ∙ get_or_from_slice_get items c.from.result (home_at c.args.t.0 items) _
    (ap (λ i. slice_get items i) c.from.ensures ∙ some_there items c.args.t.0 (home_here items c.args.t.0 home)) in
    let q = chan_queue c.args.key in
    let w : Waiter = record { thread = c.lend-own.result.1.value.place.thread; kept = c.args.prio.0 } in
    let head = c.with_sleeper-head.ensures.head
    ∙ ap (λ (o : Option SleepQueue). head_joined q c.lend-own.result.0.value.contents.number w o)
    c.unplace-there.ensures.taken in
    let placed = of_name c.with_sleeper-head.result.value.contents.own.name q
    (λ (r : QueueName). c.place.new.self ≡ (r, c.with_sleeper-head.result.value) ∷ c.unplace-there.new.self)
    c.with_sleeper-head.ensures.named c.place.ensures.placed in
    let chain = placed ∙ ap (λ (h : SleepQueue). (q, h) ∷ c.unplace-there.new.self) head
    ∙ ap (λ (es : List (QueueName × SleepQueue)).
    (q, head_joined q c.lend-own.result.0.value.contents.number w (head_of q a.chain)) ∷ es)
    c.unplace-there.ensures.others in
    let left = ap (λ (i : ℕ). set items i c.lend-own.new.self) c.from.ensures
    ∙ ap (λ (o : Option Kept). set items c.args.t.0 o) c.lend-own.ensures.left in
    then_sound a c.self.invariant c.args.t.0 c.args.key c.index_mut.result.now at home c.lend-own.result.0.value
    c.lend-own.result.1.value.place.thread c.lend-own.ensures.object c.lend-own.ensures.node
    c.args.prio.0 c.place.new.self (set items c.from.result c.lend-own.new.self) chain left

pub returns-clause-queues : goal.returns-clause-queues
returns-clause-queues c =
    let items = c.self.inside.homes.items in
    let a : Table = record { chain = c.self.inside.chain; homes = items } in
    let home = subst (λ (b : Table). is_home c.args.t.0 b ≡ true) (sym c.self.view_is) c.requires.home in
    let at = c.index_mut.ensures.value
    ∙ get_or_from_slice_get items c.from.result (home_at c.args.t.0 items) _
    (ap (λ i. slice_get items i) c.from.ensures ∙ some_there items c.args.t.0 (home_here items c.args.t.0 home)) in
    let q = chan_queue c.args.key in
    let w : Waiter = record { thread = c.lend-own.result.1.value.place.thread; kept = c.args.prio.0 } in
    let head = c.with_sleeper-head.ensures.head
    ∙ ap (λ (o : Option SleepQueue). head_joined q c.lend-own.result.0.value.contents.number w o)
    c.unplace-there.ensures.taken in
    let placed = of_name c.with_sleeper-head.result.value.contents.own.name q
    (λ (r : QueueName). c.place.new.self ≡ (r, c.with_sleeper-head.result.value) ∷ c.unplace-there.new.self)
    c.with_sleeper-head.ensures.named c.place.ensures.placed in
    let chain = placed ∙ ap (λ (h : SleepQueue). (q, h) ∷ c.unplace-there.new.self) head
    ∙ ap (λ (es : List (QueueName × SleepQueue)).
    (q, head_joined q c.lend-own.result.0.value.contents.number w (head_of q a.chain)) ∷ es)
    c.unplace-there.ensures.others in
    let left = ap (λ (i : ℕ). set items i c.lend-own.new.self) c.from.ensures
    ∙ ap (λ (o : Option Kept). set items c.args.t.0 o) c.lend-own.ensures.left in
    subst (λ (b : Table). (k : ℕ)
    → lying k (record { chain = c.place.new.self; homes = set items c.from.result c.lend-own.new.self }) ≡ cond
    (eqb c.args.key k) (lying k b ++ (record { thread = c.args.t.0; kept = c.args.prio.0 }) ∷ []) (lying k b))
    c.self.view_is
    (then_queues a c.self.invariant c.args.t.0 c.args.key c.index_mut.result.now at home c.lend-own.result.0.value
    c.lend-own.result.1.value.place.thread c.lend-own.ensures.object c.lend-own.ensures.node
    c.args.prio.0 c.place.new.self (set items c.from.result c.lend-own.new.self) chain left)

pub returns-clause-homes : goal.returns-clause-homes
returns-clause-homes c =
    let items = c.self.inside.homes.items in
    let a : Table = record { chain = c.self.inside.chain; homes = items } in
    let home = subst (λ (b : Table). is_home c.args.t.0 b ≡ true) (sym c.self.view_is) c.requires.home in
    let at = c.index_mut.ensures.value
    ∙ get_or_from_slice_get items c.from.result (home_at c.args.t.0 items) _
    (ap (λ i. slice_get items i) c.from.ensures ∙ some_there items c.args.t.0 (home_here items c.args.t.0 home)) in
    let q = chan_queue c.args.key in
    let w : Waiter = record { thread = c.lend-own.result.1.value.place.thread; kept = c.args.prio.0 } in
    let head = c.with_sleeper-head.ensures.head
    ∙ ap (λ (o : Option SleepQueue). head_joined q c.lend-own.result.0.value.contents.number w o)
    c.unplace-there.ensures.taken in
    let placed = of_name c.with_sleeper-head.result.value.contents.own.name q
    (λ (r : QueueName). c.place.new.self ≡ (r, c.with_sleeper-head.result.value) ∷ c.unplace-there.new.self)
    c.with_sleeper-head.ensures.named c.place.ensures.placed in
    let chain = placed ∙ ap (λ (h : SleepQueue). (q, h) ∷ c.unplace-there.new.self) head
    ∙ ap (λ (es : List (QueueName × SleepQueue)).
    (q, head_joined q c.lend-own.result.0.value.contents.number w (head_of q a.chain)) ∷ es)
    c.unplace-there.ensures.others in
    let left = ap (λ (i : ℕ). set items i c.lend-own.new.self) c.from.ensures
    ∙ ap (λ (o : Option Kept). set items c.args.t.0 o) c.lend-own.ensures.left in
    subst (λ (b : Table). (u : ℕ)
    → is_home u (record { chain = c.place.new.self; homes = set items c.from.result c.lend-own.new.self }) ≡ cond
    (eqb c.args.t.0 u) false (is_home u b)) c.self.view_is
    (then_homes a c.self.invariant c.args.t.0 c.args.key c.index_mut.result.now at home c.lend-own.result.0.value
    c.lend-own.result.1.value.place.thread c.lend-own.ensures.object c.lend-own.ensures.node
    c.args.prio.0 c.place.new.self (set items c.from.result c.lend-own.new.self) chain left)

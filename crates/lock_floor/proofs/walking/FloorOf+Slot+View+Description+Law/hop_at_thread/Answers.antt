use Rattle.lock_floor.proofs.Names.{refl, sym, subst, walk_of, IsHopTo, IsStepAtThread, IsOnFloor, turnstiles}
use Rattle.std.proofs.Common.{◌≡◌}
use Rattle.lock_floor.proofs.WalkHops.{chain_at_slot, may_take_it, may_sort_it, record_last, may_give_it, chain_last, may_give_back, hop_of, sort_hop, b_thread}
use Rattle.lock_floor.proofs.walking.FloorOf+Slot+View+Description+Law.hop_at_thread.Goals as goal

pub try_take_rec-requires-clause-thread : goal.try_take_rec-requires-clause-thread
try_take_rec-requires-clause-thread c =
    subst (IsOnFloor c.args.self.now.description) c.requires.there c.requires.in_hop.on_floor

pub try_take_rec-requires-clause-may : goal.try_take_rec-requires-clause-may
try_take_rec-requires-clause-may c =
    may_take_it c.args.self.now.description c.args.pass.now.view c.requires.in_hop c.args.o.0
    (subst (IsOnFloor c.args.self.now.description) c.requires.there c.requires.in_hop.on_floor)

pub returns-then-not-try_take_rec-clause-elsewhere : goal.returns-then-not-try_take_rec-clause-elsewhere
returns-then-not-try_take_rec-clause-elsewhere c =
    let m = c.requires.in_hop in
    let o = c.args.o.0 in (
      o,
      record { chain = m.chain; out = m.out; to = subst (λ w. IsHopTo w m.chain o) (sym c.requires.there) refl },
      c.try_take_rec.ensures.elsewhere c.if-not-try_take_rec.true,
    )

pub sort-walk-requires-clause-may : goal.sort-walk-requires-clause-may
sort-walk-requires-clause-may c =
    let floor = c.args.self.now.description in
    let a = c.args.pass.now.view in
    let m = c.requires.in_hop in
    let o = c.args.o.0 in
    let low = subst (IsOnFloor floor) c.requires.there m.on_floor in
    let b = c.try_take_rec.new.pass.view in
    let has = c.try_take_rec.ensures.out c.if-not-try_take_rec.false in
    may_sort_it floor a m o low b has c.requires.there

pub give_rec-requires-clause-thread : goal.give_rec-requires-clause-thread
give_rec-requires-clause-thread c =
    subst (IsOnFloor c.args.self.now.description) c.requires.there c.requires.in_hop.on_floor

pub give_rec-requires-clause-last : goal.give_rec-requires-clause-last
give_rec-requires-clause-last c =
    let floor = c.args.self.now.description in
    let a = c.args.pass.now.view in
    let m = c.requires.in_hop in
    let o = c.args.o.0 in
    let low = subst (IsOnFloor floor) c.requires.there m.on_floor in
    let b = c.try_take_rec.new.pass.view in
    let has = c.try_take_rec.ensures.out c.if-not-try_take_rec.false in
    let k = c.sort-walk.new.pass.view in
    let step = c.sort-walk.ensures.step.0 in
    let its = c.sort-walk.ensures.step.2 in
    let w = walk_of c.sort-walk.result in
    record_last floor a m o low b has step w k its

pub give_rec-requires-clause-may : goal.give_rec-requires-clause-may
give_rec-requires-clause-may c =
    let floor = c.args.self.now.description in
    let a = c.args.pass.now.view in
    let m = c.requires.in_hop in
    let o = c.args.o.0 in
    let low = subst (IsOnFloor floor) c.requires.there m.on_floor in
    let b = c.try_take_rec.new.pass.view in
    let has = c.try_take_rec.ensures.out c.if-not-try_take_rec.false in
    let k = c.sort-walk.new.pass.view in
    let step = c.sort-walk.ensures.step.0 in
    let its = c.sort-walk.ensures.step.2 in
    let w = walk_of c.sort-walk.result in
    may_give_it floor a m o low b has step w k its

pub give-requires-clause-last : goal.give-requires-clause-last
give-requires-clause-last c =
    let floor = c.args.self.now.description in
    let a = c.args.pass.now.view in
    let m = c.requires.in_hop in
    let j = c.turnstiles_slot-chain.result in
    let at = c.turnstiles_slot-chain.ensures in
    let o = c.args.o.0 in
    let low = subst (IsOnFloor floor) c.requires.there m.on_floor in
    let b = c.try_take_rec.new.pass.view in
    let has = c.try_take_rec.ensures.out c.if-not-try_take_rec.false in
    let k = c.sort-walk.new.pass.view in
    let step = c.sort-walk.ensures.step.0 in
    let its = c.sort-walk.ensures.step.2 in
    let w = walk_of c.sort-walk.result in
    let d = c.give_rec.new.pass.view in
    chain_last floor a m o low b has step w k its d c.give_rec.ensures.view j at

pub give-requires-clause-may : goal.give-requires-clause-may
give-requires-clause-may c =
    let floor = c.args.self.now.description in
    let a = c.args.pass.now.view in
    let m = c.requires.in_hop in
    let j = c.turnstiles_slot-chain.result in
    let at = c.turnstiles_slot-chain.ensures in
    let o = c.args.o.0 in
    let low = subst (IsOnFloor floor) c.requires.there m.on_floor in
    let b = c.try_take_rec.new.pass.view in
    let has = c.try_take_rec.ensures.out c.if-not-try_take_rec.false in
    let k = c.sort-walk.new.pass.view in
    let step = c.sort-walk.ensures.step.0 in
    let its = c.sort-walk.ensures.step.2 in
    let w = walk_of c.sort-walk.result in
    let d = c.give_rec.new.pass.view in (
      turnstiles,
      chain_at_slot floor m.one_chain j at,
      may_give_back floor a m o low b has step w k its d c.give_rec.ensures.view,
    )

pub returns-clause-hop : goal.returns-clause-hop
returns-clause-hop c =
    let floor = c.args.self.now.description in
    let a = c.args.pass.now.view in
    let m = c.requires.in_hop in
    let j = c.turnstiles_slot-chain.result in
    let at = c.turnstiles_slot-chain.ensures in
    let o = c.args.o.0 in
    let low = subst (IsOnFloor floor) c.requires.there m.on_floor in
    let b = c.try_take_rec.new.pass.view in
    let has = c.try_take_rec.ensures.out c.if-not-try_take_rec.false in
    let k = c.sort-walk.new.pass.view in
    let step = c.sort-walk.ensures.step.0 in
    let its = c.sort-walk.ensures.step.2 in
    let w = walk_of c.sort-walk.result in
    let d = c.give_rec.new.pass.view in
    let place = chain_at_slot floor m.one_chain j at in
    let thread : b.thread ≡ a.thread = b_thread floor a m o low b has in
    let is : IsStepAtThread a.thread o step =
    subst (λ t. IsStepAtThread t o step) thread c.sort-walk.ensures.step.1 in
    hop_of floor a m o low b has step w k its d c.give_rec.ensures.view c.give_rec.ensures.step
    c.give.new.pass.view (c.give.ensures.view turnstiles place) (c.give.ensures.step turnstiles place)
    (sort_hop floor a m o low b has step w k its d c.give_rec.ensures.view c.requires.there is)

use Rattle.lock_floor.proofs.Names.{walk_of}
use Rattle.lock_floor.proofs.WalkAtLock.{low, may_take, not_taken, found_out, may_lend_to, lent_last, lent_may_give, then_last, then_may_give, lent_hop, may_end_here, end_last, end_may_give, end_hop}
use Rattle.lock_floor.proofs.WalkHops.{chain_last_out}
use Rattle.lock_floor.proofs.walking.FloorOf+Slot+View+Description+Law.hop_at_lock.Goals as goal

pub owner_at-requires-clause-last : goal.owner_at-requires-clause-last
owner_at-requires-clause-last c = (
  c.requires.in_hop.chain,
  chain_last_out c.args.self.now.description c.args.pass.now.view c.requires.in_hop c.turnstiles_slot-chain.result
      c.turnstiles_slot-chain.ensures,
)

-- 1. The turnstile has an owner

pub try_take_rec-requires-clause-thread : goal.try_take_rec-requires-clause-thread
try_take_rec-requires-clause-thread c =
    low c.args.self.now.description c.turnstiles_slot-chain.result c.turnstiles_slot-chain.ensures c.args.pass.now
    c.owner_at.new.pass c.requires.in_hop c.in-Some.ensures.same c.args.l.0 c.requires.there
    c.in-Some.o.0 c.in-Some.ensures.owner

pub try_take_rec-requires-clause-may : goal.try_take_rec-requires-clause-may
try_take_rec-requires-clause-may c =
    may_take c.args.self.now.description c.turnstiles_slot-chain.result c.turnstiles_slot-chain.ensures c.args.pass.now
    c.owner_at.new.pass c.requires.in_hop c.in-Some.ensures.same c.args.l.0 c.requires.there
    c.in-Some.o.0 c.in-Some.ensures.owner

-- another has its record
pub returns-then-not-try_take_rec-clause-left : goal.returns-then-not-try_take_rec-clause-left
returns-then-not-try_take_rec-clause-left c =
    not_taken c.args.self.now.description c.turnstiles_slot-chain.result c.turnstiles_slot-chain.ensures c.args.pass.now
    c.owner_at.new.pass c.requires.in_hop c.in-Some.ensures.same c.args.l.0 c.requires.there
    c.in-Some.o.0 c.in-Some.ensures.owner c.try_take_rec.new.pass.view
    (c.try_take_rec.ensures.left c.if-not-try_take_rec.true)

pub returns-then-not-try_take_rec-clause-elsewhere : goal.returns-then-not-try_take_rec-clause-elsewhere
returns-then-not-try_take_rec-clause-elsewhere c =
    found_out c.args.self.now.description c.turnstiles_slot-chain.result c.turnstiles_slot-chain.ensures c.args.pass.now
    c.owner_at.new.pass c.requires.in_hop c.in-Some.ensures.same c.args.l.0 c.requires.there
    c.in-Some.o.0 c.in-Some.ensures.owner c.try_take_rec.new.pass.view
    (c.try_take_rec.ensures.elsewhere c.if-not-try_take_rec.true)

pub lend-walk-requires-clause-may : goal.lend-walk-requires-clause-may
lend-walk-requires-clause-may c =
    may_lend_to c.args.self.now.description c.turnstiles_slot-chain.result c.turnstiles_slot-chain.ensures
    c.args.pass.now
    c.owner_at.new.pass c.requires.in_hop c.in-Some.ensures.same c.args.l.0 c.requires.there
    c.in-Some.o.0 c.in-Some.ensures.owner c.try_take_rec.new.pass.view
    (c.try_take_rec.ensures.out c.if-not-try_take_rec.false)

pub give_rec-requires-clause-thread : goal.give_rec-requires-clause-thread
give_rec-requires-clause-thread c =
    low c.args.self.now.description c.turnstiles_slot-chain.result c.turnstiles_slot-chain.ensures c.args.pass.now
    c.owner_at.new.pass c.requires.in_hop c.in-Some.ensures.same c.args.l.0 c.requires.there
    c.in-Some.o.0 c.in-Some.ensures.owner

pub give_rec-requires-clause-last : goal.give_rec-requires-clause-last
give_rec-requires-clause-last c =
    lent_last c.args.self.now.description c.turnstiles_slot-chain.result c.turnstiles_slot-chain.ensures c.args.pass.now
    c.owner_at.new.pass c.requires.in_hop c.in-Some.ensures.same c.args.l.0 c.requires.there
    c.in-Some.o.0 c.in-Some.ensures.owner c.try_take_rec.new.pass.view
    (c.try_take_rec.ensures.out c.if-not-try_take_rec.false)
    (walk_of c.lend-walk.result) c.lend-walk.new.pass.view c.lend-walk.ensures.step

pub give_rec-requires-clause-may : goal.give_rec-requires-clause-may
give_rec-requires-clause-may c =
    lent_may_give c.args.self.now.description c.turnstiles_slot-chain.result c.turnstiles_slot-chain.ensures
    c.args.pass.now
    c.owner_at.new.pass c.requires.in_hop c.in-Some.ensures.same c.args.l.0 c.requires.there
    c.in-Some.o.0 c.in-Some.ensures.owner c.try_take_rec.new.pass.view
    (c.try_take_rec.ensures.out c.if-not-try_take_rec.false)
    (walk_of c.lend-walk.result) c.lend-walk.new.pass.view c.lend-walk.ensures.step

pub give-requires-clause-last : goal.give-requires-clause-last
give-requires-clause-last c =
    then_last c.args.self.now.description c.turnstiles_slot-chain.result c.turnstiles_slot-chain.ensures c.args.pass.now
    c.owner_at.new.pass c.requires.in_hop c.in-Some.ensures.same c.args.l.0 c.requires.there
    c.in-Some.o.0 c.in-Some.ensures.owner c.try_take_rec.new.pass.view
    (c.try_take_rec.ensures.out c.if-not-try_take_rec.false)
    (walk_of c.lend-walk.result) c.lend-walk.new.pass.view c.lend-walk.ensures.step c.give_rec.new.pass.view
    c.give_rec.ensures.view

pub give-requires-clause-may : goal.give-requires-clause-may
give-requires-clause-may c =
    then_may_give c.args.self.now.description c.turnstiles_slot-chain.result c.turnstiles_slot-chain.ensures
    c.args.pass.now
    c.owner_at.new.pass c.requires.in_hop c.in-Some.ensures.same c.args.l.0 c.requires.there
    c.in-Some.o.0 c.in-Some.ensures.owner c.try_take_rec.new.pass.view
    (c.try_take_rec.ensures.out c.if-not-try_take_rec.false)
    (walk_of c.lend-walk.result) c.lend-walk.new.pass.view c.lend-walk.ensures.step c.give_rec.new.pass.view
    c.give_rec.ensures.view

pub returns-else-not-try_take_rec-clause-hop : goal.returns-else-not-try_take_rec-clause-hop
returns-else-not-try_take_rec-clause-hop c =
    lent_hop c.args.self.now.description c.turnstiles_slot-chain.result c.turnstiles_slot-chain.ensures c.args.pass.now
    c.owner_at.new.pass c.requires.in_hop c.in-Some.ensures.same c.args.l.0 c.requires.there
    c.in-Some.o.0 c.in-Some.ensures.owner c.try_take_rec.new.pass.view
    (c.try_take_rec.ensures.out c.if-not-try_take_rec.false)
    (walk_of c.lend-walk.result) c.lend-walk.new.pass.view c.lend-walk.ensures.step c.give_rec.new.pass.view
    c.give_rec.ensures.view
    c.give_rec.ensures.step c.give.new.pass.view c.give.ensures.view c.give.ensures.step

-- 2. It has none

pub end_walk-requires-clause-one_chain : goal.end_walk-requires-clause-one_chain
end_walk-requires-clause-one_chain c = c.requires.in_hop.one_chain

pub end_walk-requires-clause-may : goal.end_walk-requires-clause-may
end_walk-requires-clause-may c =
    may_end_here c.args.self.now.description c.turnstiles_slot-chain.result c.turnstiles_slot-chain.ensures
    c.args.pass.now
    c.owner_at.new.pass c.requires.in_hop c.in-None.ensures.same c.args.l.0 c.requires.there
    c.in-None.ensures.owner

pub give-requires-in-None-clause-last : goal.give-requires-in-None-clause-last
give-requires-in-None-clause-last c =
    end_last c.args.self.now.description c.turnstiles_slot-chain.result c.turnstiles_slot-chain.ensures c.args.pass.now
    c.owner_at.new.pass c.requires.in_hop c.in-None.ensures.same c.args.l.0 c.requires.there
    c.in-None.ensures.owner c.end_walk.new.pass.view c.end_walk.ensures.view c.end_walk.ensures.step

pub give-requires-in-None-clause-may : goal.give-requires-in-None-clause-may
give-requires-in-None-clause-may c =
    end_may_give c.args.self.now.description c.turnstiles_slot-chain.result c.turnstiles_slot-chain.ensures
    c.args.pass.now
    c.owner_at.new.pass c.requires.in_hop c.in-None.ensures.same c.args.l.0 c.requires.there
    c.in-None.ensures.owner c.end_walk.new.pass.view c.end_walk.ensures.view c.end_walk.ensures.step

pub returns-in-None-clause-hop : goal.returns-in-None-clause-hop
returns-in-None-clause-hop c =
    end_hop c.args.self.now.description c.turnstiles_slot-chain.result c.turnstiles_slot-chain.ensures c.args.pass.now
    c.owner_at.new.pass c.requires.in_hop c.in-None.ensures.same c.args.l.0 c.requires.there
    c.in-None.ensures.owner c.end_walk.new.pass.view c.end_walk.ensures.view c.end_walk.ensures.step
    c.give-in-None.new.pass.view c.give-in-None.ensures.view c.give-in-None.ensures.step

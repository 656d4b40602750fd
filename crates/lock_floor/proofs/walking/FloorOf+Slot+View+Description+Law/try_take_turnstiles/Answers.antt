use Rattle.lock_floor.proofs.Names.{turnstiles}
use Rattle.lock_floor.proofs.WalkHops.{chain_at_slot, taken_there, may_take_there, has_turnstiles}
use Rattle.lock_floor.proofs.walking.FloorOf+Slot+View+Description+Law.try_take_turnstiles.Goals as goal

pub try_take-requires-clause-may : goal.try_take-requires-clause-may
try_take-requires-clause-may c =
    may_take_there c.args.self.now.description c.requires.may.one_chain c.turnstiles_slot-chain.result
    c.turnstiles_slot-chain.ensures c.args.pass.now.view c.requires.may

pub returns-clause-out : goal.returns-clause-out
returns-clause-out c hit =
    taken_there c.args.self.now.description c.requires.may.one_chain c.turnstiles_slot-chain.result
    c.turnstiles_slot-chain.ensures c.args.pass.now.view c.try_take.new.pass.view (c.try_take.ensures.out hit)

pub returns-clause-in_hop : goal.returns-clause-in_hop
returns-clause-in_hop c hit =
    has_turnstiles c.args.self.now.description c.args.pass.now.view c.try_take.new.pass.view c.requires.may
    (taken_there c.args.self.now.description c.requires.may.one_chain c.turnstiles_slot-chain.result
    c.turnstiles_slot-chain.ensures c.args.pass.now.view c.try_take.new.pass.view (c.try_take.ensures.out hit))

pub returns-clause-elsewhere : goal.returns-clause-elsewhere
returns-clause-elsewhere c missed =
    c.try_take.ensures.elsewhere missed turnstiles
    (chain_at_slot c.args.self.now.description c.requires.may.one_chain c.turnstiles_slot-chain.result
    c.turnstiles_slot-chain.ensures)

use Rattle.lock_floor.proofs.Names.{subst, Takes, its_chain}
use Rattle.lock_floor.proofs.chains.FloorOf+Slot+View+Description+Law.try_take_chain.Goals as goal

pub try_take-requires-clause-may : goal.try_take-requires-clause-may
try_take-requires-clause-may c =
    (its_chain c.args.self.now.description c.args.q, c.chain_slot-slot.ensures.at, c.requires.may)

pub returns-clause-out : goal.returns-clause-out
returns-clause-out c hit =
    let floor = c.args.self.now.description in
    let i = its_chain floor c.args.q in
    subst (λ j. Takes floor i j c.args.pass.now.view c.try_take.new.pass.view) c.chain_slot-slot.ensures.place
    (c.try_take.ensures.out hit i c.chain_slot-slot.ensures.at)

pub returns-clause-elsewhere : goal.returns-clause-elsewhere
returns-clause-elsewhere c missed =
    c.try_take.ensures.elsewhere missed (its_chain c.args.self.now.description c.args.q) c.chain_slot-slot.ensures.at

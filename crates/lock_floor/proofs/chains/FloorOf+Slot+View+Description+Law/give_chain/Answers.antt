use Rattle.lock_floor.proofs.Names.{its_chain}
use Rattle.lock_floor.proofs.chains.FloorOf+Slot+View+Description+Law.give_chain.Goals as goal

pub give-requires-clause-may : goal.give-requires-clause-may
give-requires-clause-may c =
    (its_chain c.args.self.now.description c.args.q, c.chain_slot-slot.ensures.at, c.requires.may)

pub returns-clause-view : goal.returns-clause-view
returns-clause-view c =
    c.give.ensures.view (its_chain c.args.self.now.description c.args.q) c.chain_slot-slot.ensures.at

pub returns-clause-step : goal.returns-clause-step
returns-clause-step c =
    c.give.ensures.step (its_chain c.args.self.now.description c.args.q) c.chain_slot-slot.ensures.at

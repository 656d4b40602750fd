use Rattle.std.proofs.Common.{◌<◌, length, subst}
use Rattle.floor_table.specs.declared.description.Description.{Description}
use Rattle.cond_vars.proofs.LyingDown.{may_ready, room_to_sleep, may_sleep, may_add, own_last, may_give_own, chain_last, may_give_chain, lies}
use Rattle.cond_vars.proofs.sleeping.lie_down.Goals as goal

pub ready-requires-clause-may : goal.ready-requires-clause-may
ready-requires-clause-may c = may_ready c.args.floor.now.description c.args.c c.args.pass.now.view c.requires.may

pub stamp-requires-clause-room : goal.stamp-requires-clause-room
stamp-requires-clause-room c =
    room_to_sleep c.args.floor.now.description c.args.c c.args.pass.now.view c.requires.may
    c.ready.new.pass.view c.ready.ensures.view c.ready.ensures.step

pub stamp-requires-clause-may : goal.stamp-requires-clause-may
stamp-requires-clause-may c =
    may_sleep c.args.floor.now.description c.args.c c.args.pass.now.view c.requires.may
    c.ready.new.pass.view c.ready.ensures.view c.ready.ensures.step

pub add-requires-clause-chan : goal.add-requires-clause-chan
add-requires-clause-chan c = c.requires.may.chan

pub add-requires-clause-may : goal.add-requires-clause-may
add-requires-clause-may c =
    may_add c.args.floor.now.description c.args.c c.args.pass.now.view c.requires.may
    c.ready.new.pass.view c.ready.ensures.view c.ready.ensures.step c.stamp.result c.stamp.new.pass.view
    c.stamp.ensures.view
    c.stamp.ensures.step

pub give_rec-requires-clause-thread : goal.give_rec-requires-clause-thread
give_rec-requires-clause-thread c =
    subst (λ (d : Description). c.thread-who.result.0 < length d.threads) c.requires.own.description
    c.thread-who.ensures.of_floor

pub give_rec-requires-clause-last : goal.give_rec-requires-clause-last
give_rec-requires-clause-last c =
    own_last c.args.floor.now.description c.args.c c.args.pass.now.view c.requires.may
    c.ready.new.pass.view c.ready.ensures.view c.ready.ensures.step c.stamp.result c.stamp.new.pass.view
    c.stamp.ensures.view
    c.stamp.ensures.step c.add.new.pass.view c.add.ensures.adds c.thread-who.result.0 c.thread-who.ensures.same

pub give_rec-requires-clause-may : goal.give_rec-requires-clause-may
give_rec-requires-clause-may c =
    may_give_own c.args.floor.now.description c.args.c c.args.pass.now.view c.requires.may
    c.ready.new.pass.view c.ready.ensures.view c.ready.ensures.step c.stamp.result c.stamp.new.pass.view
    c.stamp.ensures.view
    c.stamp.ensures.step c.add.new.pass.view c.add.ensures.adds c.thread-who.result.0 c.thread-who.ensures.same

pub give_chain-requires-clause-queue : goal.give_chain-requires-clause-queue
give_chain-requires-clause-queue c = c.requires.may.chan

pub give_chain-requires-clause-last : goal.give_chain-requires-clause-last
give_chain-requires-clause-last c =
    chain_last c.args.floor.now.description c.args.c c.args.pass.now.view c.requires.may
    c.ready.new.pass.view c.ready.ensures.view c.ready.ensures.step c.stamp.result c.stamp.new.pass.view
    c.stamp.ensures.view
    c.stamp.ensures.step c.add.new.pass.view c.add.ensures.adds c.thread-who.result.0 c.thread-who.ensures.same
    c.give_rec.new.pass.view c.give_rec.ensures.view c.give_rec.ensures.step

pub give_chain-requires-clause-may : goal.give_chain-requires-clause-may
give_chain-requires-clause-may c =
    may_give_chain c.args.floor.now.description c.args.c c.args.pass.now.view c.requires.may
    c.ready.new.pass.view c.ready.ensures.view c.ready.ensures.step c.stamp.result c.stamp.new.pass.view
    c.stamp.ensures.view
    c.stamp.ensures.step c.add.new.pass.view c.add.ensures.adds c.thread-who.result.0 c.thread-who.ensures.same
    c.give_rec.new.pass.view c.give_rec.ensures.view c.give_rec.ensures.step

pub returns-clause-lies : goal.returns-clause-lies
returns-clause-lies c =
    lies c.args.floor.now.description c.args.c c.args.pass.now.view c.requires.may
    c.ready.new.pass.view c.ready.ensures.view c.ready.ensures.step c.stamp.result c.stamp.new.pass.view
    c.stamp.ensures.view
    c.stamp.ensures.step c.add.new.pass.view c.add.ensures.adds c.thread-who.result.0 c.thread-who.ensures.same
    c.give_rec.new.pass.view c.give_rec.ensures.view c.give_rec.ensures.step
    c.give_chain.new.pass.view c.give_chain.ensures.view c.give_chain.ensures.step

use Rattle.floor_calls.proofs.Standing.{wake_done}
use Rattle.floor_calls.proofs.parts.go_on_in_wake.Goals as goal

pub returns-in-Done-clause-at : goal.returns-in-Done-clause-at
returns-in-Done-clause-at c =
    wake_done c.args.floor.now c.args.pass.now c.go_on_waking.new.pass c.in-Done.ensures.own c.requires.there.1
    c.in-Done.ensures.wakes

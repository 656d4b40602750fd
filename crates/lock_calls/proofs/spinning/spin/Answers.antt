use Rattle.lock_calls.proofs.Names.{arith, word_of}
use Rattle.lock_calls.proofs.Attempts.{gained_in_round}
use Rattle.lock_calls.proofs.Spun.{spins_on, spun_end}
use Rattle.lock_calls.proofs.spinning.spin.Goals as goal

pub attempt-requires-clause-room : goal.attempt-requires-clause-room
attempt-requires-clause-room c = omega (arith, c.requires.under_way.there.1, c.requires.some_left)

pub returns-in-Ok-clause-gained : goal.returns-in-Ok-clause-gained
returns-in-Ok-clause-gained c =
    gained_in_round c.args.floor.now.description c.args.l c.args.mode c.args.pass.now.view c.attempt.new.pass.view 1
    c.requires.under_way.there.0 c.in-Ok.ensures.gained

pub returns-in-Ok-clause-end : goal.returns-in-Ok-clause-end
returns-in-Ok-clause-end c =
    spun_end c.args.floor.now.description c.args.l c.args.mode c.args.left c.requires.some_left c.args.pass.now.view
    c.attempt.new.pass.view c.in-Ok.ensures.gained

pub looks_left-requires-clause-covered : goal.looks_left-requires-clause-covered
looks_left-requires-clause-covered c = c.requires.under_way.covered

pub returns-in-Err-clause-on : goal.returns-in-Err-clause-on
returns-in-Err-clause-on c =
    let x = c.in-Err.ensures.spun in
    spins_on c.args.floor.now.description c.args.l c.args.mode c.args.left x.0 c.looks_left.result
    (word_of c.in-Err.seen) c.requires.some_left c.args.pass.now.view c.attempt.new.pass.view
    c.looks_left.new.pass.view c.requires.under_way.there.0 c.requires.under_way.there.1 x.1 x.2
    c.looks_left.ensures.leaves

use Rattle.step_world.proofs.Names.{Some, refl, ap, arith, config_of, next_op_below, left, Ends, Skips}
use Rattle.step_world.proofs.Turning.{is_there, within, stays, went_on}
use Rattle.step_world.proofs.ActionsOfTurns.{here, following}
use Rattle.step_world.proofs.turns.operate.Goals as goal

pub index-requires : goal.index-requires
index-requires c =
    let q = c.requires.run in
    rw c.from.ensures
    (is_there (config_of c.args.plan.now) c.args.machine.now q.0.state c.args.t.0 q.1.shows.shows c.requires.thread)

pub overflow_add-following : goal.overflow_add-following
overflow_add-following c =
    let q = c.requires.run in
    let next = following c.requires.proper c.requires.thread q.1
    (here q.1 c.requires.thread c.from.ensures c.index.ensures) in
    omega (
      arith,
      next,
      next_op_below c.args.plan.now q.0 c.args.t.0 c.requires.proper q.1.on_track c.requires.thread
          (left c.args.plan.now q.0 c.args.t.0 c.args.op q.2.next),
    )

pub go_on-requires-clause-within : goal.go_on-requires-clause-within
go_on-requires-clause-within c =
    let q = c.requires.run in
    let next = following c.requires.proper c.requires.thread q.1
    (here q.1 c.requires.thread c.from.ensures c.index.ensures) in
    rw (c.operations_of.ensures, ← next)
    (within (Ends c.in-Ends.kind) _ c.requires.proper q.1 c.requires.thread (c.in-Ends.ensures.makes q.0 q.1 q.2) refl)

pub go_on-requires-in-Skips-clause-within : goal.go_on-requires-in-Skips-clause-within
go_on-requires-in-Skips-clause-within c =
    let q = c.requires.run in
    rw c.operations_of-in-Skips.ensures (within (Skips c.in-Skips.past) c.in-Skips.past c.requires.proper q.1
    c.requires.thread (c.in-Skips.ensures.makes q.0 q.1 q.2) refl)

pub returns-in-Does-clause-follows : goal.returns-in-Does-clause-follows
returns-in-Does-clause-follows c r h at = stays (c.in-Does.ensures.makes r h at)

pub returns-in-Ends-clause-follows : goal.returns-in-Ends-clause-follows
returns-in-Ends-clause-follows c r h at =
    let x = c.go_on.ensures in
    let next = following c.requires.proper c.requires.thread h
    (here h c.requires.thread c.from.ensures c.index.ensures) in
    went_on (Ends c.in-Ends.kind) _ (c.in-Ends.ensures.makes r h at) (ap Some next) c.operations_of.ensures
    (assumption x)

pub returns-in-Skips-clause-follows : goal.returns-in-Skips-clause-follows
returns-in-Skips-clause-follows c r h at =
    let x = c.go_on-in-Skips.ensures in
    went_on (Skips c.in-Skips.past) c.in-Skips.past
    (c.in-Skips.ensures.makes r h at) refl c.operations_of-in-Skips.ensures (assumption x)

use Rattle.std.proofs.Common.{◌≡◌, true, false, sym, ◌∙◌, subst}
use Rattle.lock_model.specs.declared.plan.QueueName.{QueueName}
use Rattle.lock_floor.specs.Aborts.{AbortsSleeper, MayAbortSleeper}
use Rattle.lock_floor.specs.Waits.{IsQueueOf}
use Rattle.halting.specs.Halts.{FindsFirst, TakesOff}
use Rattle.halting.proofs.Aborted.{may_take_last, may_take_off, took_last, took_off}
use Rattle.halting.proofs.halting.abort.Goals as goal

pub abort_last-requires-clause-may : goal.abort_last-requires-clause-may
abort_last-requires-clause-may c =
    may_take_last c.args.floor.now.description c.in-Lock.l.0 c.args.first c.args.pass.now.view
    (subst (λ (r : QueueName). FindsFirst c.args.floor.now.description r c.args.first c.args.pass.now.view) c.in-Lock.is
    c.requires.first)
    (subst (λ (r : QueueName). IsQueueOf c.args.floor.now.description r) c.in-Lock.is c.requires.queue)
    c.requires.halting c.if-first.true

pub returns-then-first-clause-aborts : goal.returns-then-first-clause-aborts
returns-then-first-clause-aborts c =
    let f = subst (λ (r : QueueName). FindsFirst c.args.floor.now.description r c.args.first c.args.pass.now.view)
    c.in-Lock.is c.requires.first in
    subst (λ (r : QueueName). TakesOff c.args.floor.now.description r c.args.first.thread.0 c.args.pass.now.view
    c.abort_last.new.pass.view) (sym c.in-Lock.is)
    (took_last c.args.floor.now.description c.in-Lock.l.0 c.args.first.side c.args.first.thread.0 c.args.pass.now.view
    c.abort_last.new.pass.view c.abort_last.ensures.aborts f.chain f.out)

pub abort-requires-clause-may : goal.abort-requires-clause-may
abort-requires-clause-may c =
    subst (λ (r : QueueName). MayAbortSleeper c.args.floor.now.description r c.args.first.thread.0
    c.args.pass.now.view) c.in-Lock.is
    (may_take_off c.args.floor.now.description c.args.q c.args.first c.args.pass.now.view c.requires.first
    c.requires.queue c.requires.halting
    (λ e. absurd (let z : true ≡ false = sym e ∙ c.if-first.false in cc)))

pub returns-else-first-clause-aborts : goal.returns-else-first-clause-aborts
returns-else-first-clause-aborts c =
    took_off c.args.floor.now.description c.args.q c.args.first.thread.0 c.args.pass.now.view c.abort.new.pass.view
    (subst (λ (r : QueueName). AbortsSleeper c.args.floor.now.description r c.args.first.thread.0
    c.args.pass.now.view c.abort.new.pass.view) (sym c.in-Lock.is) c.abort.ensures.aborts) c.requires.first.chain
    c.requires.first.out

pub abort-requires-in-Chan-clause-may : goal.abort-requires-in-Chan-clause-may
abort-requires-in-Chan-clause-may c =
    may_take_off c.args.floor.now.description c.args.q c.args.first c.args.pass.now.view c.requires.first
    c.requires.queue c.requires.halting (λ e. (_, c.in-Chan.is))

pub returns-in-Chan-clause-aborts : goal.returns-in-Chan-clause-aborts
returns-in-Chan-clause-aborts c =
    took_off c.args.floor.now.description c.args.q c.args.first.thread.0 c.args.pass.now.view
    c.abort-in-Chan.new.pass.view c.abort-in-Chan.ensures.aborts c.requires.first.chain c.requires.first.out

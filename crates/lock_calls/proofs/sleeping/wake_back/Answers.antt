use Rattle.lock_calls.proofs.Names.{arith}
use Rattle.lock_calls.proofs.Standing.{may_wake_up, sleeps_on, wakes_back}
use Rattle.lock_calls.proofs.sleeping.wake_back.Goals as goal

pub try_resume-requires-clause-may : goal.try_resume-requires-clause-may
try_resume-requires-clause-may c =
    may_wake_up c.args.floor.now.description c.args.l c.args.mode c.args.pass.now.view c.requires.under_way.there
    c.requires.under_way.calling

pub returns-in-Some-clause-on : goal.returns-in-Some-clause-on
returns-in-Some-clause-on c =
    wakes_back c.args.floor.now.description c.args.l c.args.mode c.args.pass.now.view c.requires.under_way.there
    c.requires.under_way.calling c.try_resume.new.pass.view c.in-Some.field-0 c.in-Some.ensures.woken c.requires.back 48
    (omega arith)

pub returns-in-None-clause-on : goal.returns-in-None-clause-on
returns-in-None-clause-on c =
    sleeps_on c.args.floor.now.description c.args.l c.args.mode c.args.pass.now.view c.requires.under_way.there
    c.requires.under_way.calling c.try_resume.new.pass.view c.in-None.ensures.left c.in-None.ensures.queued

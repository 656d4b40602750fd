use Rattle.cond_vars.proofs.Places.{may_run}
use Rattle.cond_vars.proofs.WaitParts.{found_queued, ran_again, still_parked, then_take_back}
use Rattle.cond_vars.proofs.parts.run_again.Goals as goal

pub try_resume-requires-clause-may : goal.try_resume-requires-clause-may
try_resume-requires-clause-may c =
    may_run c.args.floor.now.description c.args.c c.args.pass.now.view c.requires.there.0 c.requires.there.1

pub returns-in-Some-clause-then : goal.returns-in-Some-clause-then
returns-in-Some-clause-then c =
    then_take_back c.args.floor.now.description c.args.c c.args.pass.now.view c.requires.there.0
    c.try_resume.new.pass.view c.requires.there.1
    c.in-Some.aborted c.in-Some.ensures.woken

pub returns-in-Some-clause-part : goal.returns-in-Some-clause-part
returns-in-Some-clause-part c =
    ran_again c.args.floor.now.description c.args.c c.args.pass.now.view c.requires.there.0 c.try_resume.new.pass.view
    c.requires.there.1
    c.in-Some.aborted c.in-Some.ensures.woken

pub returns-in-None-clause-then : goal.returns-in-None-clause-then
returns-in-None-clause-then c =
    still_parked c.args.floor.now.description c.args.c c.args.pass.now.view c.requires.there.0
    c.try_resume.new.pass.view c.requires.there.1 c.in-None.ensures.left

pub returns-in-None-clause-part : goal.returns-in-None-clause-part
returns-in-None-clause-part c =
    found_queued c.args.floor.now.description c.args.c c.args.pass.now.view c.requires.there.0
    c.try_resume.new.pass.view c.requires.there.1 c.in-None.ensures.left c.in-None.ensures.queued

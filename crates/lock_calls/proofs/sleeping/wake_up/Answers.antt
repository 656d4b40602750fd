use Rattle.lock_calls.proofs.Names.{arith, Sleeps, kept_at}
use Rattle.lock_calls.proofs.Attempts.{can_acquire}
use Rattle.lock_calls.proofs.Halted.{may_note_halt, room_for_halt, is_halted}
use Rattle.lock_calls.proofs.Standing.{may_wake_up, sleeps_on, wakes_up}
use Rattle.lock_calls.proofs.sleeping.wake_up.Goals as goal

pub try_resume-requires-clause-may : goal.try_resume-requires-clause-may
try_resume-requires-clause-may c =
    may_wake_up c.args.floor.now.description c.args.l c.args.mode c.args.pass.now.view
    c.requires.under_way.there
    (can_acquire c.args.floor.now.description (kept_at Sleeps c.args.pass.now.view) c.requires.under_way.calling)

pub stamp-requires-clause-room : goal.stamp-requires-clause-room
stamp-requires-clause-room c =
    room_for_halt c.args.floor.now.description c.args.l c.args.pass.now.view c.requires.under_way.there
    c.requires.under_way.calling c.try_resume.new.pass.view c.in-Some.aborted
    c.if-aborted.true c.in-Some.ensures.woken c.requires.under_way.room

pub stamp-requires-clause-may : goal.stamp-requires-clause-may
stamp-requires-clause-may c =
    may_note_halt c.args.floor.now.description c.args.l c.args.pass.now.view c.requires.under_way.there
    c.requires.under_way.calling c.try_resume.new.pass.view c.in-Some.aborted
    c.if-aborted.true c.in-Some.ensures.woken

pub returns-then-aborted-clause-halted : goal.returns-then-aborted-clause-halted
returns-then-aborted-clause-halted c =
    is_halted c.args.floor.now.description c.args.l c.args.pass.now.view c.requires.under_way.there
    c.requires.under_way.calling c.try_resume.new.pass.view c.in-Some.aborted
    c.if-aborted.true c.in-Some.ensures.woken c.requires.under_way.room c.stamp.new.pass.view c.stamp.result
    c.stamp.ensures.view c.stamp.ensures.step

pub returns-else-aborted-clause-on : goal.returns-else-aborted-clause-on
returns-else-aborted-clause-on c =
    wakes_up c.args.floor.now.description c.args.l c.args.mode c.args.pass.now.view
    c.requires.under_way.there
    (can_acquire c.args.floor.now.description (kept_at Sleeps c.args.pass.now.view) c.requires.under_way.calling)
    c.try_resume.new.pass.view c.in-Some.aborted c.in-Some.ensures.woken c.if-aborted.false 48 (omega arith)

pub returns-in-None-clause-on : goal.returns-in-None-clause-on
returns-in-None-clause-on c =
    sleeps_on c.args.floor.now.description c.args.l c.args.mode c.args.pass.now.view
    c.requires.under_way.there
    (can_acquire c.args.floor.now.description (kept_at Sleeps c.args.pass.now.view) c.requires.under_way.calling)
    c.try_resume.new.pass.view c.in-None.ensures.left c.in-None.ensures.queued

use Rattle.lock_calls.proofs.Names.{ap, is_turnstile}
use Rattle.lock_calls.proofs.Owned.{may_look_own, held_at_all, may_open_asleep, opened_asleep, missed_own}
use Rattle.lock_calls.proofs.freeing.open_sleepers.Goals as goal

pub open_sleep-requires-clause-held : goal.open_sleep-requires-clause-held
open_sleep-requires-clause-held c =
    held_at_all c.args.floor.now.description c.args.l.0 c.args.mode c.args.pass.now.view c.requires.lock
    c.requires.may
    c.args.seen c.requires.seen

pub open_sleep-requires-clause-may : goal.open_sleep-requires-clause-may
open_sleep-requires-clause-may c =
    may_open_asleep c.args.floor.now.description c.args.l.0 c.args.mode c.args.pass.now.view c.requires.lock
    c.requires.may
    c.args.seen c.requires.seen (ap is_turnstile c.requires.sleeps) c.requires.opens

pub open_sleep-requires-clause-may_look : goal.open_sleep-requires-clause-may_look
open_sleep-requires-clause-may_look c =
    may_look_own c.args.floor.now.description c.args.l.0 c.args.mode c.args.pass.now.view c.requires.lock
    c.requires.may
    c.requires.own.description

pub returns-in-Ok-clause-lets : goal.returns-in-Ok-clause-lets
returns-in-Ok-clause-lets c =
    opened_asleep c.args.floor.now.description c.args.l.0 c.args.mode c.args.pass.now.view c.requires.lock
    c.requires.may
    c.args.seen c.open_sleep.new.pass.view c.in-Ok.ensures.opens

pub returns-in-Err-clause-missed : goal.returns-in-Err-clause-missed
returns-in-Err-clause-missed c =
    missed_own c.args.floor.now.description c.args.l.0 c.args.mode c.args.pass.now.view c.requires.lock
    c.requires.may
    c.args.seen c.in-Err.found c.open_sleep.new.pass.view c.in-Err.ensures.found.0 c.in-Err.ensures.found.1
    c.in-Err.ensures.looked c.in-Err.ensures.look

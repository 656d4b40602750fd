use Rattle.lock_calls.proofs.Sections.{as_both}
use Rattle.lock_calls.proofs.Owned.{may_look_own, held_at_all, may_open_there, opened_there, missed_own}
use Rattle.lock_calls.proofs.freeing.open_turnstile.Goals as goal

pub open_up-requires-clause-out : goal.open_up-requires-clause-out
open_up-requires-clause-out c =
    as_both c.args.floor.now.description c.args.l.0 c.requires.turnstile c.args.pass.now.view c.requires.may.both

pub open_up-requires-clause-held : goal.open_up-requires-clause-held
open_up-requires-clause-held c =
    held_at_all c.args.floor.now.description c.args.l.0 c.args.mode c.args.pass.now.view c.requires.lock
    c.requires.may
    c.args.seen c.requires.seen

pub open_up-requires-clause-may : goal.open_up-requires-clause-may
open_up-requires-clause-may c =
    may_open_there c.args.floor.now.description c.args.l.0 c.args.mode c.args.pass.now.view c.requires.lock
    c.requires.may
    c.args.seen c.requires.seen c.requires.turnstile c.requires.opens

pub open_up-requires-clause-may_look : goal.open_up-requires-clause-may_look
open_up-requires-clause-may_look c =
    may_look_own c.args.floor.now.description c.args.l.0 c.args.mode c.args.pass.now.view c.requires.lock
    c.requires.may
    c.requires.own.description

pub returns-in-Ok-clause-lets : goal.returns-in-Ok-clause-lets
returns-in-Ok-clause-lets c =
    opened_there c.args.floor.now.description c.args.l.0 c.args.mode c.args.pass.now.view c.requires.lock
    c.requires.may
    c.args.seen c.open_up.new.pass.view c.in-Ok.ensures.opens

pub returns-in-Err-clause-missed : goal.returns-in-Err-clause-missed
returns-in-Err-clause-missed c =
    missed_own c.args.floor.now.description c.args.l.0 c.args.mode c.args.pass.now.view c.requires.lock
    c.requires.may
    c.args.seen c.in-Err.found c.open_up.new.pass.view c.in-Err.ensures.found.0 c.in-Err.ensures.found.1
    c.in-Err.ensures.looked c.in-Err.ensures.look

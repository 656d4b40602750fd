use Rattle.lock_calls.proofs.Owned.{may_look_own, may_drop_there, dropped_there, missed_own}
use Rattle.lock_calls.proofs.freeing.free_by_drop.Goals as goal

pub put_down-requires-clause-held : goal.put_down-requires-clause-held
put_down-requires-clause-held c = c.requires.seen.held

pub put_down-requires-clause-may : goal.put_down-requires-clause-may
put_down-requires-clause-may c =
    may_drop_there c.args.floor.now.description c.args.l.0 c.args.mode c.args.pass.now.view c.requires.lock
    c.requires.may
    c.args.seen c.requires.seen c.requires.drop

pub put_down-requires-clause-may_look : goal.put_down-requires-clause-may_look
put_down-requires-clause-may_look c =
    may_look_own c.args.floor.now.description c.args.l.0 c.args.mode c.args.pass.now.view c.requires.lock
    c.requires.may
    c.requires.own.description

pub returns-in-Ok-clause-lets : goal.returns-in-Ok-clause-lets
returns-in-Ok-clause-lets c =
    dropped_there c.args.floor.now.description c.args.l.0 c.args.mode c.args.pass.now.view c.requires.lock
    c.requires.may
    c.put_down.new.pass.view c.in-Ok.ensures.view c.in-Ok.ensures.step

pub returns-in-Err-clause-missed : goal.returns-in-Err-clause-missed
returns-in-Err-clause-missed c =
    missed_own c.args.floor.now.description c.args.l.0 c.args.mode c.args.pass.now.view c.requires.lock
    c.requires.may
    c.args.seen c.in-Err.found c.put_down.new.pass.view c.in-Err.ensures.found.0 c.in-Err.ensures.found.1
    c.in-Err.ensures.looked c.in-Err.ensures.look

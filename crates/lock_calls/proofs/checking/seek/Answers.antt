use Rattle.lock_calls.proofs.Checked.{may_seek_and_gain, may_seek_and_look, has_begun}
use Rattle.lock_calls.proofs.checking.seek.Goals as goal

pub seek_gain-requires-clause-may : goal.seek_gain-requires-clause-may
seek_gain-requires-clause-may c =
    may_seek_and_gain c.args.floor.now.description c.args.l.0 c.args.mode c.args.pass.now.view c.requires.covered
    c.requires.may

pub seek_gain-requires-clause-may_look : goal.seek_gain-requires-clause-may_look
seek_gain-requires-clause-may_look c =
    may_seek_and_look c.args.floor.now.description c.args.l.0 c.args.pass.now.view c.requires.covered.lock
    c.requires.may

pub returns-in-Err-clause-begun : goal.returns-in-Err-clause-begun
returns-in-Err-clause-begun c =
    has_begun c.args.floor.now.description c.args.l.0 c.args.pass.now.view c.requires.may c.seek_gain.new.pass.view
    c.in-Err.found c.in-Err.ensures.found.0 c.in-Err.ensures.looked c.in-Err.ensures.looks

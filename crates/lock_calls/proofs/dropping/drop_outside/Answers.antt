use Rattle.lock_calls.proofs.Names.{sym, subst, ReleasesOn}
use Rattle.lock_floor.specs.declared.calls.ReleaseAt.TheVariants as places
use Rattle.lock_calls.proofs.Outside.{may_drop_it, may_look_held, dropped_outside, missed_outside}
use Rattle.lock_calls.proofs.dropping.drop_outside.Goals as goal

pub put_down-requires-clause-lock : goal.put_down-requires-clause-lock
put_down-requires-clause-lock c = c.requires.lock

pub put_down-requires-clause-word : goal.put_down-requires-clause-word
put_down-requires-clause-word c = c.requires.there.own.formed

pub put_down-requires-clause-held : goal.put_down-requires-clause-held
put_down-requires-clause-held c = c.requires.there.own.held

pub put_down-requires-clause-drop : goal.put_down-requires-clause-drop
put_down-requires-clause-drop c = c.requires.there.drops

pub put_down-requires-clause-may : goal.put_down-requires-clause-may
put_down-requires-clause-may c =
    may_drop_it c.args.floor.now.description c.args.l c.args.mode c.args.seen c.args.pass.now.view
    c.requires.there c.requires.lock

pub put_down-requires-clause-may_look : goal.put_down-requires-clause-may_look
put_down-requires-clause-may_look c =
    may_look_held c.args.floor.now.description c.args.pass.now.view c.args.l.0 c.args.mode c.requires.own.description
    c.requires.lock c.requires.there.may

pub returns-in-Ok-clause-released : goal.returns-in-Ok-clause-released
returns-in-Ok-clause-released c =
    dropped_outside c.args.floor.now.description c.args.l c.args.mode c.args.seen c.args.pass.now.view
    c.requires.there c.put_down.new.pass.view c.in-Ok.ensures.view c.in-Ok.ensures.step

pub returns-in-Err-clause-on : goal.returns-in-Err-clause-on
returns-in-Err-clause-on c =
    subst (λ to. ReleasesOn c.args.floor.now.description c.args.l c.args.mode (places.Drops c.args.seen) to
    c.args.pass.now.view c.put_down.new.pass.view) (sym c.outside.ensures)
    (missed_outside c.args.floor.now.description c.args.l c.args.mode c.args.seen c.args.pass.now.view
    c.requires.there c.in-Err.found c.put_down.new.pass.view c.in-Err.ensures.found.0
    c.in-Err.ensures.found.1 c.in-Err.ensures.looked c.in-Err.ensures.look)

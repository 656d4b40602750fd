use Rattle.lock_calls.proofs.GivenUp.{begins_by_word}
use Rattle.lock_calls.proofs.Outside.{may_look_held}
use Rattle.lock_calls.proofs.dropping.begin_giving_up.Goals as goal

pub look-seen-requires-clause-may : goal.look-seen-requires-clause-may
look-seen-requires-clause-may c =
    may_look_held c.args.floor.now.description c.args.pass.now.view c.args.l.0 c.args.mode c.requires.own.description
    c.requires.lock c.requires.may

pub returns-clause-begins : goal.returns-clause-begins
returns-clause-begins c =
    begins_by_word c.args.floor.now.description c.args.l c.args.mode c.args.pass.now.view c.look-seen.new.pass.view
    c.requires.may c.look-seen.result c.look-seen.ensures.word c.look-seen.ensures.view c.look-seen.ensures.step
    c.by_word.result c.by_word.ensures

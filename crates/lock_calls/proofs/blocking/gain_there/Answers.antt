use Rattle.lock_calls.proofs.Names.{word_of, config_in}
use Rattle.lock_calls.proofs.Chosen.{gains_plainly, may_be_gained}
use Rattle.lock_calls.proofs.There.{may_look_in_section, may_gain_in_section, gained_plainly, missed_there}
use Rattle.lock_calls.proofs.blocking.gain_there.Goals as goal

pub gain-requires-clause-lock : goal.gain-requires-clause-lock
gain-requires-clause-lock c = c.requires.covered.lock

pub gain-requires-clause-room : goal.gain-requires-clause-room
gain-requires-clause-room c = c.requires.there.few

pub gain-requires-clause-word : goal.gain-requires-clause-word
gain-requires-clause-word c = c.requires.seen_so.formed

pub gain-requires-clause-fits : goal.gain-requires-clause-fits
gain-requires-clause-fits c =
    let kind = (config_in c.args.floor.now.description).kind c.args.l.0 in
    may_be_gained kind (word_of c.args.seen) c.args.mode c.requires.seen_so
    (gains_plainly kind (word_of c.args.seen) c.args.mode c.requires.course).0

pub gain-requires-clause-may : goal.gain-requires-clause-may
gain-requires-clause-may c =
    let g = gains_plainly ((config_in c.args.floor.now.description).kind c.args.l.0) (word_of c.args.seen) c.args.mode
    c.requires.course in
    may_gain_in_section c.args.floor.now.description c.args.l.0 c.args.mode c.args.pass.now.view c.requires.covered
    c.requires.there c.requires.calling (word_of c.args.seen) c.requires.saw g.0 g.1

pub gain-requires-clause-may_look : goal.gain-requires-clause-may_look
gain-requires-clause-may_look c =
    may_look_in_section c.args.floor.now.description c.args.l.0 c.args.mode c.args.pass.now.view c.requires.covered
    c.requires.there c.requires.calling

pub returns-in-Ok-clause-gained : goal.returns-in-Ok-clause-gained
returns-in-Ok-clause-gained c =
    gained_plainly c.args.floor.now.description c.args.l c.args.mode c.args.pass.now.view c.requires.there
    c.gain.new.pass.view c.in-Ok.ensures.view c.in-Ok.ensures.step

pub returns-in-Err-clause-missed : goal.returns-in-Err-clause-missed
returns-in-Err-clause-missed c =
    missed_there c.args.floor.now.description c.args.l.0 c.args.mode c.args.pass.now.view c.requires.covered
    c.requires.there c.args.seen c.in-Err.found c.gain.new.pass.view c.in-Err.ensures.found.0
    c.in-Err.ensures.looked c.in-Err.ensures.look

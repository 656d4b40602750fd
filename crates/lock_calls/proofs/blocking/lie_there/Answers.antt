use Rattle.lock_calls.proofs.Names.{ap, word_of, is_turnstile, refused_held, config_in}
use Rattle.lock_calls.proofs.Chosen.{must_wait}
use Rattle.lock_calls.proofs.There.{may_look_in_section, may_lie_in_section, lay_there, missed_there}
use Rattle.lock_calls.proofs.blocking.lie_there.Goals as goal

pub enter_sleep-requires-clause-lock : goal.enter_sleep-requires-clause-lock
enter_sleep-requires-clause-lock c = c.requires.covered.lock

pub enter_sleep-requires-clause-word : goal.enter_sleep-requires-clause-word
enter_sleep-requires-clause-word c = c.requires.seen_so.formed

pub enter_sleep-requires-clause-held : goal.enter_sleep-requires-clause-held
enter_sleep-requires-clause-held c =
    refused_held ((config_in c.args.floor.now.description).kind c.args.l.0) (word_of c.args.seen) c.args.mode
    c.requires.covered.mutex
    (must_wait ((config_in c.args.floor.now.description).kind c.args.l.0) (word_of c.args.seen) c.args.mode
    c.requires.course)

pub enter_sleep-requires-clause-may : goal.enter_sleep-requires-clause-may
enter_sleep-requires-clause-may c =
    let kind = (config_in c.args.floor.now.description).kind c.args.l.0 in
    let refused = must_wait kind (word_of c.args.seen) c.args.mode c.requires.course in
    may_lie_in_section c.args.floor.now.description c.args.l.0 c.args.mode c.args.pass.now.view c.requires.covered
    c.requires.there c.requires.calling (ap is_turnstile c.requires.sleeps) c.args.seen c.requires.saw
    (refused_held kind (word_of c.args.seen) c.args.mode c.requires.covered.mutex refused) refused

pub enter_sleep-requires-clause-may_look : goal.enter_sleep-requires-clause-may_look
enter_sleep-requires-clause-may_look c =
    may_look_in_section c.args.floor.now.description c.args.l.0 c.args.mode c.args.pass.now.view c.requires.covered
    c.requires.there c.requires.calling

pub returns-in-Ok-clause-entered : goal.returns-in-Ok-clause-entered
returns-in-Ok-clause-entered c =
    lay_there c.args.floor.now.description c.args.l.0 c.args.mode c.args.pass.now.view c.enter_sleep.new.pass.view
    (ap is_turnstile c.requires.sleeps) c.requires.there.no_walk c.in-Ok.ensures.enters

pub returns-in-Err-clause-missed : goal.returns-in-Err-clause-missed
returns-in-Err-clause-missed c =
    missed_there c.args.floor.now.description c.args.l.0 c.args.mode c.args.pass.now.view c.requires.covered
    c.requires.there c.args.seen c.in-Err.found c.enter_sleep.new.pass.view c.in-Err.ensures.found.0
    c.in-Err.ensures.looked c.in-Err.ensures.look

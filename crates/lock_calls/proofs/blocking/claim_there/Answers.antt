use Rattle.lock_calls.proofs.Names.{word_of, config_in}
use Rattle.lock_calls.proofs.Chosen.{claims_it}
use Rattle.lock_calls.proofs.There.{may_look_in_section, may_claim_in_section, gained_by_claim, missed_there}
use Rattle.lock_calls.proofs.blocking.claim_there.Goals as goal

pub claim-requires-clause-lock : goal.claim-requires-clause-lock
claim-requires-clause-lock c = c.requires.covered.lock

pub claim-requires-clause-room : goal.claim-requires-clause-room
claim-requires-clause-room c = c.requires.there.few

pub claim-requires-clause-word : goal.claim-requires-clause-word
claim-requires-clause-word c = c.requires.seen_so.formed

pub claim-requires-clause-free : goal.claim-requires-clause-free
claim-requires-clause-free c =
    (claims_it ((config_in c.args.floor.now.description).kind c.args.l.0) (word_of c.args.seen) c.args.mode
    c.requires.seen_so
    c.requires.course).free

pub claim-requires-clause-shown : goal.claim-requires-clause-shown
claim-requires-clause-shown c =
    (claims_it ((config_in c.args.floor.now.description).kind c.args.l.0) (word_of c.args.seen) c.args.mode
    c.requires.seen_so
    c.requires.course).shown

pub claim-requires-clause-may : goal.claim-requires-clause-may
claim-requires-clause-may c =
    may_claim_in_section c.args.floor.now.description c.args.l.0 c.args.mode c.args.pass.now.view c.requires.covered
    c.requires.there c.requires.calling (word_of c.args.seen) c.requires.saw
    (claims_it ((config_in c.args.floor.now.description).kind c.args.l.0) (word_of c.args.seen) c.args.mode
    c.requires.seen_so
    c.requires.course)

pub claim-requires-clause-may_look : goal.claim-requires-clause-may_look
claim-requires-clause-may_look c =
    may_look_in_section c.args.floor.now.description c.args.l.0 c.args.mode c.args.pass.now.view c.requires.covered
    c.requires.there c.requires.calling

pub returns-in-Ok-clause-gained : goal.returns-in-Ok-clause-gained
returns-in-Ok-clause-gained c =
    gained_by_claim c.args.floor.now.description c.args.l c.args.mode c.args.pass.now.view c.claim.new.pass.view
    (claims_it ((config_in c.args.floor.now.description).kind c.args.l.0) (word_of c.args.seen) c.args.mode
    c.requires.seen_so c.requires.course).exclusive
    c.in-Ok.ensures.claims

pub returns-in-Err-clause-missed : goal.returns-in-Err-clause-missed
returns-in-Err-clause-missed c =
    missed_there c.args.floor.now.description c.args.l.0 c.args.mode c.args.pass.now.view c.requires.covered
    c.requires.there c.args.seen c.in-Err.found c.claim.new.pass.view c.in-Err.ensures.found.0
    c.in-Err.ensures.looked c.in-Err.ensures.look

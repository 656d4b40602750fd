use Rattle.lock_calls.proofs.Names.{sym, ap, word_of, is_plain, is_claim, config_in}
use Rattle.std.proofs.Common.{◌∙◌}
use Rattle.lock_calls.proofs.Chosen.{may_be_gained}
use Rattle.lock_calls.proofs.TriedThere.{may_look_there_by_try, may_gain_there_by_try, may_claim_by_try, tried_plainly, tried_by_claim, missed_by_try}
use Rattle.lock_calls.proofs.trying.gain_there.Goals as goal

pub kind-requires : goal.kind-requires
kind-requires c = c.requires.covered.lock

-- 1. Plainly

pub gain-requires-clause-lock : goal.gain-requires-clause-lock
gain-requires-clause-lock c = c.requires.covered.lock

pub gain-requires-clause-room : goal.gain-requires-clause-room
gain-requires-clause-room c = c.requires.deciding.there.few

pub gain-requires-clause-word : goal.gain-requires-clause-word
gain-requires-clause-word c = c.requires.deciding.seen_so.formed

pub gain-requires-clause-fits : goal.gain-requires-clause-fits
gain-requires-clause-fits c =
    may_be_gained ((config_in c.args.floor.now.description).kind c.args.l.0) (word_of c.args.seen) c.args.mode
    c.requires.deciding.seen_so c.requires.admitted

pub gain-requires-clause-may : goal.gain-requires-clause-may
gain-requires-clause-may c =
    may_gain_there_by_try c.args.floor.now.description c.args.l.0 c.args.pass.now.view c.requires.deciding.there
    c.requires.calling c.requires.covered.lock c.args.mode (word_of c.args.seen) c.requires.deciding.saw
    c.requires.admitted
    (sym (ap (λ k. is_plain k (word_of c.args.seen) c.args.mode) c.kind.ensures) ∙ sym c.is_plain.ensures
    ∙ c.if-is_plain.true)

pub gain-requires-clause-may_look : goal.gain-requires-clause-may_look
gain-requires-clause-may_look c =
    may_look_there_by_try c.args.floor.now.description c.args.l.0 c.args.pass.now.view c.requires.deciding.there
    c.requires.calling c.requires.covered.lock

pub returns-in-Ok-clause-gained : goal.returns-in-Ok-clause-gained
returns-in-Ok-clause-gained c =
    tried_plainly c.args.floor.now.description c.args.l c.args.mode c.args.pass.now.view c.gain.new.pass.view
    c.requires.deciding.there c.in-Ok.ensures.view c.in-Ok.ensures.step

pub returns-in-Err-clause-missed : goal.returns-in-Err-clause-missed
returns-in-Err-clause-missed c =
    missed_by_try c.args.floor.now.description c.args.l.0 c.args.seen c.in-Err.found c.args.pass.now.view
    c.gain.new.pass.view c.requires.deciding.there c.in-Err.ensures.found.0 c.in-Err.ensures.looked
    c.in-Err.ensures.look

-- 2. By a claim

pub claim-requires-clause-may : goal.claim-requires-clause-may
claim-requires-clause-may c =
    let kind = (config_in c.args.floor.now.description).kind c.args.l.0 in
    may_claim_by_try c.args.floor.now.description c.args.l.0 c.args.pass.now.view c.requires.deciding.there
    c.requires.calling c.requires.covered.lock c.args.mode (word_of c.args.seen) c.requires.deciding.saw
    (is_claim kind (word_of c.args.seen) c.args.mode c.requires.deciding.seen_so.mutex c.requires.admitted
    (sym (ap (λ k. is_plain k (word_of c.args.seen) c.args.mode) c.kind.ensures) ∙ sym c.is_plain.ensures
    ∙ c.if-is_plain.false))

pub claim-requires-clause-may_look : goal.claim-requires-clause-may_look
claim-requires-clause-may_look c =
    may_look_there_by_try c.args.floor.now.description c.args.l.0 c.args.pass.now.view c.requires.deciding.there
    c.requires.calling c.requires.covered.lock

pub returns-in-Ok-claim-clause-gained : goal.returns-in-Ok-claim-clause-gained
returns-in-Ok-claim-clause-gained c =
    let kind = (config_in c.args.floor.now.description).kind c.args.l.0 in
    let claim = is_claim kind (word_of c.args.seen) c.args.mode c.requires.deciding.seen_so.mutex c.requires.admitted
    (sym (ap (λ k. is_plain k (word_of c.args.seen) c.args.mode) c.kind.ensures) ∙ sym c.is_plain.ensures
    ∙ c.if-is_plain.false) in
    tried_by_claim c.args.floor.now.description c.args.l c.args.mode c.args.pass.now.view c.claim.new.pass.view
    claim.exclusive c.in-Ok-claim.ensures.claims

pub returns-in-Err-claim-clause-missed : goal.returns-in-Err-claim-clause-missed
returns-in-Err-claim-clause-missed c =
    missed_by_try c.args.floor.now.description c.args.l.0 c.args.seen c.in-Err-claim.found c.args.pass.now.view
    c.claim.new.pass.view c.requires.deciding.there c.in-Err-claim.ensures.found.0
    c.in-Err-claim.ensures.looked c.in-Err-claim.ensures.look

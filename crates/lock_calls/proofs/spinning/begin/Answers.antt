use Rattle.lock_calls.proofs.Names.{true, false, List, [], length, refl, sym, subst, arith, eqb-true, Held, Kind, Mtx}
use Rattle.lock_calls.proofs.Names.{word_of, config_in, course, Plainly, FirstMisses}
use Rattle.std.proofs.Common.{◌≡◌, ◌≢◌, ◌∷◌, ◌∙◌}
use Rattle.std.specs.Prelude.{◌==◌}
use Rattle.lock_calls.proofs.Attempts.{begins_call, may_gain_first}
use Rattle.lock_calls.proofs.Chosen.{gains_plainly, may_be_gained}
use Rattle.lock_calls.proofs.FirstExchanges.{missed_none, missed_once, missed_twice, gained_by_first, gained_again, may_look_again, may_gain_again, no_mutex}
use Rattle.lock_calls.proofs.Looks.{may_look_on}
use Rattle.lock_calls.proofs.Words.{saw_others}
use Rattle.lock_calls.proofs.spinning.begin.Goals as goal

none_there : (hs : List Held) → (length hs == 0) ≡ true → hs ≡ []
none_there [] e = refl
none_there (h ∷ hs) e = absurd (omega (arith, eqb-true (length (h ∷ hs)) 0 e))

some_there : (k : Kind) (hs : List Held) → (length hs == 0) ≡ false → FirstMisses k hs 0
some_there k [] e = absurd cc
some_there k (h ∷ hs) e = refl

pub returns-then-not-is_empty-clause-missed : goal.returns-then-not-is_empty-clause-missed
returns-then-not-is_empty-clause-missed c = λ e.
    missed_none c.args.floor.now.description c.args.l.0 c.args.mode c.args.pass.now.view c.requires.may
    (let kind = (config_in c.args.floor.now.description).kind c.args.l.0 in
    subst (λ hs. FirstMisses kind hs 0) c.held.ensures
    (some_there kind c.held.result.now (sym c.is_empty.ensures ∙ c.if-not-is_empty.true)))

-- it holds nothing
pub gain_first-requires-clause-may : goal.gain_first-requires-clause-may
gain_first-requires-clause-may c =
    may_gain_first c.args.floor.now.description c.args.l.0 c.args.mode c.args.pass.now.view c.requires.covered
    c.requires.may
    (sym c.held.ensures ∙ none_there c.held.result.now (sym c.is_empty.ensures ∙ c.if-not-is_empty.false))

pub gain_first-requires-clause-may_look : goal.gain_first-requires-clause-may_look
gain_first-requires-clause-may_look c =
    may_look_on c.args.floor.now.description c.args.pass.now.view c.args.l.0 c.requires.own.description
    c.requires.covered.lock c.requires.may.looks
    (λ unheld. begins_call c.args.floor.now.description c.args.l.0 c.args.pass.now.view c.requires.may)

pub returns-in-Ok-clause-gained : goal.returns-in-Ok-clause-gained
returns-in-Ok-clause-gained c = λ e.
    gained_by_first c.args.floor.now.description c.args.l.0 c.args.mode c.args.pass.now.view c.requires.covered
    c.requires.may
    (sym c.held.ensures ∙ none_there c.held.result.now (sym c.is_empty.ensures ∙ c.if-not-is_empty.false))
    c.args.l refl c.gain_first.new.pass.view c.in-Ok.ensures.view c.in-Ok.ensures.steps

pub returns-in-Ok-clause-bare : goal.returns-in-Ok-clause-bare
returns-in-Ok-clause-bare c = λ e.
    sym c.held.ensures ∙ none_there c.held.result.now (sym c.is_empty.ensures ∙ c.if-not-is_empty.false)

pub returns-then-not-exchanges_again-clause-missed : goal.returns-then-not-exchanges_again-clause-missed
returns-then-not-exchanges_again-clause-missed c = λ e.
    missed_once c.args.floor.now.description c.args.l.0 c.args.mode c.args.pass.now.view c.requires.covered
    c.requires.may
    (sym c.held.ensures ∙ none_there c.held.result.now (sym c.is_empty.ensures ∙ c.if-not-is_empty.false))
    c.gain_first.new.pass.view c.in-Err.found c.in-Err.ensures.found.0 c.in-Err.ensures.looked c.in-Err.ensures.look
    (λ more. subst (λ k. k ≢ Mtx → course k (word_of c.in-Err.found) c.args.mode ≢ Plainly) c.kind.ensures
    (c.exchanges_again.ensures.enough c.if-not-exchanges_again.true)
    (no_mutex ((config_in c.args.floor.now.description).kind c.args.l.0) more))

-- the second exchange

pub gain_first-requires-in-Err-clause-fits : goal.gain_first-requires-in-Err-clause-fits
gain_first-requires-in-Err-clause-fits c =
    let again = subst (λ k. (k ≢ Mtx) × (course k (word_of c.in-Err.found) c.args.mode ≡ Plainly)) c.kind.ensures
    (c.exchanges_again.ensures.again c.if-not-exchanges_again.false) in
    let kind = (config_in c.args.floor.now.description).kind c.args.l.0 in
    may_be_gained kind (word_of c.in-Err.found) c.args.mode
    (saw_others c.args.floor.now.description c.args.l.0 c.in-Err.found c.args.pass.now.view c.gain_first.new.pass.view
    c.requires.may.unheld c.in-Err.ensures.looked c.in-Err.ensures.look)
    (gains_plainly kind (word_of c.in-Err.found) c.args.mode again.1).0

pub gain_first-requires-in-Err-clause-may : goal.gain_first-requires-in-Err-clause-may
gain_first-requires-in-Err-clause-may c =
    let again = subst (λ k. (k ≢ Mtx) × (course k (word_of c.in-Err.found) c.args.mode ≡ Plainly)) c.kind.ensures
    (c.exchanges_again.ensures.again c.if-not-exchanges_again.false) in
    may_gain_again c.args.floor.now.description c.args.l.0 c.args.mode c.args.pass.now.view c.requires.covered
    c.requires.may
    (sym c.held.ensures ∙ none_there c.held.result.now (sym c.is_empty.ensures ∙ c.if-not-is_empty.false))
    c.gain_first.new.pass.view c.in-Err.found c.in-Err.ensures.found.0 c.in-Err.ensures.looked c.in-Err.ensures.look
    again.0 again.1

pub gain_first-requires-in-Err-clause-may_look : goal.gain_first-requires-in-Err-clause-may_look
gain_first-requires-in-Err-clause-may_look c =
    let again = subst (λ k. (k ≢ Mtx) × (course k (word_of c.in-Err.found) c.args.mode ≡ Plainly)) c.kind.ensures
    (c.exchanges_again.ensures.again c.if-not-exchanges_again.false) in
    may_look_again c.args.floor.now.description c.args.l.0 c.args.mode c.args.pass.now.view c.requires.covered
    c.requires.may
    (sym c.held.ensures ∙ none_there c.held.result.now (sym c.is_empty.ensures ∙ c.if-not-is_empty.false))
    c.gain_first.new.pass.view c.in-Err.found c.in-Err.ensures.found.0 c.in-Err.ensures.looked c.in-Err.ensures.look
    again.0 c.requires.own.description

pub returns-in-Ok-gain_first-clause-gained : goal.returns-in-Ok-gain_first-clause-gained
returns-in-Ok-gain_first-clause-gained c = λ e.
    let again = subst (λ k. (k ≢ Mtx) × (course k (word_of c.in-Err.found) c.args.mode ≡ Plainly)) c.kind.ensures
    (c.exchanges_again.ensures.again c.if-not-exchanges_again.false) in
    gained_again c.args.floor.now.description c.args.l.0 c.args.mode c.args.pass.now.view c.requires.covered
    c.requires.may
    (sym c.held.ensures ∙ none_there c.held.result.now (sym c.is_empty.ensures ∙ c.if-not-is_empty.false))
    c.gain_first.new.pass.view c.in-Err.found c.in-Err.ensures.found.0 c.in-Err.ensures.looked c.in-Err.ensures.look
    again.0 again.1 c.args.l refl c.gain_first-in-Err.new.pass.view c.in-Ok-gain_first.ensures.view
    c.in-Ok-gain_first.ensures.steps

pub returns-in-Ok-gain_first-clause-bare : goal.returns-in-Ok-gain_first-clause-bare
returns-in-Ok-gain_first-clause-bare c = λ e.
    sym c.held.ensures ∙ none_there c.held.result.now (sym c.is_empty.ensures ∙ c.if-not-is_empty.false)

pub returns-in-Err-gain_first-clause-missed : goal.returns-in-Err-gain_first-clause-missed
returns-in-Err-gain_first-clause-missed c = λ e.
    let again = subst (λ k. (k ≢ Mtx) × (course k (word_of c.in-Err.found) c.args.mode ≡ Plainly)) c.kind.ensures
    (c.exchanges_again.ensures.again c.if-not-exchanges_again.false) in
    missed_twice c.args.floor.now.description c.args.l.0 c.args.mode c.args.pass.now.view c.requires.covered
    c.requires.may
    (sym c.held.ensures ∙ none_there c.held.result.now (sym c.is_empty.ensures ∙ c.if-not-is_empty.false))
    c.gain_first.new.pass.view c.in-Err.found c.in-Err.ensures.found.0 c.in-Err.ensures.looked c.in-Err.ensures.look
    again.0 again.1 c.gain_first-in-Err.new.pass.view c.in-Err-gain_first.field-0
    c.in-Err-gain_first.ensures.found.0 c.in-Err-gain_first.ensures.looked c.in-Err-gain_first.ensures.look

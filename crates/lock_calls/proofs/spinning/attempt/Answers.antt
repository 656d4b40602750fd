use Rattle.lock_calls.proofs.Names.{arith, refl, sym, ap, word_of, config_in, Knowledge, course}
use Rattle.std.proofs.Common.{◌∙◌}
use Rattle.lock_calls.proofs.Attempts.{may_gain_there, may_look_there, looks_spun, spun_once, seeking_on, spun_more, spun_gains, looked_alone, tried_too, no_plain}
use Rattle.lock_calls.proofs.Chosen.{gains_plainly, may_be_gained}
use Rattle.lock_calls.proofs.Words.{saw_others}
use Rattle.lock_calls.proofs.spinning.attempt.Goals as goal

pub course_of-requires-clause-mutex : goal.course_of-requires-clause-mutex
course_of-requires-clause-mutex c = λ e. c.requires.covered.mutex (sym c.kind.ensures ∙ e)

pub gain-requires-clause-fits : goal.gain-requires-clause-fits
gain-requires-clause-fits c =
    let kind = (config_in c.args.floor.now.description).kind c.args.l.0 in
    let w = word_of c.look-seen.result in
    let plainly = gains_plainly kind w c.args.mode
    (sym (ap (λ k. course k w c.args.mode) c.kind.ensures) ∙ sym c.course_of.ensures ∙ c.in-Plainly.is) in
    may_be_gained kind w c.args.mode
    (saw_others c.args.floor.now.description c.args.l.0 c.look-seen.result c.args.pass.now.view
    c.look-seen.new.pass.view c.requires.may.unheld c.look-seen.ensures.view c.look-seen.ensures.step) plainly.0

pub gain-requires-clause-may : goal.gain-requires-clause-may
gain-requires-clause-may c =
    let floor = c.args.floor.now.description in
    let kind = (config_in floor).kind c.args.l.0 in
    let w = word_of c.look-seen.result in
    let plainly = gains_plainly kind w c.args.mode
    (sym (ap (λ k. course k w c.args.mode) c.kind.ensures) ∙ sym c.course_of.ensures ∙ c.in-Plainly.is) in
    let x = spun_once floor c.args.l.0 c.args.pass.now.view c.requires.may c.look-seen.new.pass.view w
    c.look-seen.ensures.view c.look-seen.ensures.step in
    may_gain_there floor c.args.l.0 c.look-seen.new.pass.view
    (seeking_on floor c.args.l.0 1 c.args.pass.now.view c.look-seen.new.pass.view x c.requires.may) c.args.mode w
    c.requires.covered.lock plainly.0 plainly.1

pub returns-in-Ok-clause-gained : goal.returns-in-Ok-clause-gained
returns-in-Ok-clause-gained c =
    let floor = c.args.floor.now.description in
    let x = spun_once floor c.args.l.0 c.args.pass.now.view c.requires.may c.look-seen.new.pass.view
    (word_of c.look-seen.result) c.look-seen.ensures.view c.look-seen.ensures.step in
    spun_gains floor c.args.l.0 1 c.args.pass.now.view c.look-seen.new.pass.view x c.args.l refl c.args.mode
    c.gain.new.pass.view c.in-Ok.ensures.view c.in-Ok.ensures.step

pub returns-in-Err-clause-spun : goal.returns-in-Err-clause-spun
returns-in-Err-clause-spun c =
    let floor = c.args.floor.now.description in
    let old = c.args.pass.now.view in
    let mid = c.look-seen.new.pass.view in
    let new = c.gain.new.pass.view in
    let from = word_of c.look-seen.result in
    let x = spun_once floor c.args.l.0 old c.requires.may mid from c.look-seen.ensures.view c.look-seen.ensures.step in
    let y = spun_once floor c.args.l.0 mid (seeking_on floor c.args.l.0 1 old mid x c.requires.may) new
    (word_of c.in-Err.found) c.in-Err.ensures.looked c.in-Err.ensures.look in (
      2,
      tried_too floor c.args.l.0 c.args.mode c.look-seen.result c.in-Err.found old mid new x y
          (sym (ap (λ k. course k from c.args.mode) c.kind.ensures) ∙ sym c.course_of.ensures ∙ c.in-Plainly.is)
          (ap (λ (k : Knowledge). k.share.doing.last_look) c.look-seen.ensures.view)
          (ap (λ (k : Knowledge). k.share.doing.last_look) c.in-Err.ensures.looked) c.in-Err.ensures.found.0,
      spun_more floor c.args.l.0 1 old mid x 1 new y,
    )

pub returns-in-ByClaim-clause-spun : goal.returns-in-ByClaim-clause-spun
returns-in-ByClaim-clause-spun c =
    let floor = c.args.floor.now.description in
    let old = c.args.pass.now.view in
    let new = c.look-seen.new.pass.view in
    let word = word_of c.look-seen.result in
    let x = spun_once floor c.args.l.0 old c.requires.may new word c.look-seen.ensures.view c.look-seen.ensures.step
    in (
      1,
      looked_alone floor c.args.l.0 c.args.mode word old new x
          (λ plainly. no_plain c.course_of.result
          (c.course_of.ensures ∙ ap (λ k. course k word c.args.mode) c.kind.ensures ∙ plainly) c.in-ByClaim.is)
          (ap (λ (k : Knowledge). k.share.doing.last_look) c.look-seen.ensures.view),
      x,
    )

pub gain-requires-clause-may_look : goal.gain-requires-clause-may_look
gain-requires-clause-may_look c =
    let floor = c.args.floor.now.description in
    let l = c.args.l.0 in
    let old = c.args.pass.now.view in
    let mid = c.look-seen.new.pass.view in
    let x = spun_once floor l old c.requires.may mid (word_of c.look-seen.result) c.look-seen.ensures.view
    c.look-seen.ensures.step in
    let looks = looks_spun floor l 1 old mid x in
    may_look_there floor l mid (seeking_on floor l 1 old mid x c.requires.may) c.look-seen.ensures.own.description
    c.requires.covered.lock (omega (arith, looks, c.requires.room))

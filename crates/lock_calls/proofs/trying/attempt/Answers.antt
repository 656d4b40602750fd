use Rattle.lock_calls.proofs.Names.{refl, sym, ap, arith, word_of, config_in, Knowledge, course}
use Rattle.std.proofs.Common.{◌∙◌}
use Rattle.lock_calls.proofs.Attempts.{looks_spun, spun_more, looked_alone, tried_too, no_plain}
use Rattle.lock_calls.proofs.Chosen.{gains_plainly, may_be_gained}
use Rattle.lock_calls.proofs.TriedRound.{may_look_by_try, may_gain_by_try, looked_by_try, seeks_on, looked_and_gains, calling_on}
use Rattle.lock_calls.proofs.Words.{saw_others}
use Rattle.lock_calls.proofs.trying.attempt.Goals as goal

pub look-seen-requires-clause-lock : goal.look-seen-requires-clause-lock
look-seen-requires-clause-lock c = c.requires.covered.lock

pub look-seen-requires-clause-may : goal.look-seen-requires-clause-may
look-seen-requires-clause-may c =
    may_look_by_try c.args.floor.now.description c.args.l.0 c.args.pass.now.view c.requires.may c.requires.calling
    c.requires.covered.lock (omega (arith, c.requires.room))

pub course_of-requires-clause-mutex : goal.course_of-requires-clause-mutex
course_of-requires-clause-mutex c = λ e. c.requires.covered.mutex (sym c.kind.ensures ∙ e)

pub gain-requires-clause-fits : goal.gain-requires-clause-fits
gain-requires-clause-fits c =
    let kind = (config_in c.args.floor.now.description).kind c.args.l.0 in
    let w = word_of c.look-seen.result in
    let plainly = gains_plainly kind w c.args.mode
    (sym (ap (λ k. course k w c.args.mode) c.kind.ensures) ∙ sym c.course_of.ensures ∙ c.in-Plainly.is) in
    may_be_gained kind w c.args.mode
    (saw_others c.args.floor.now.description c.args.l.0 c.look-seen.result c.args.pass.now.view
    c.look-seen.new.pass.view c.requires.may.unheld c.look-seen.ensures.view c.look-seen.ensures.step) plainly.0

pub gain-requires-clause-may : goal.gain-requires-clause-may
gain-requires-clause-may c =
    let floor = c.args.floor.now.description in
    let kind = (config_in floor).kind c.args.l.0 in
    let w = word_of c.look-seen.result in
    let plainly = gains_plainly kind w c.args.mode
    (sym (ap (λ k. course k w c.args.mode) c.kind.ensures) ∙ sym c.course_of.ensures ∙ c.in-Plainly.is) in
    let x = looked_by_try floor c.args.l.0 c.args.pass.now.view c.requires.may c.requires.calling
    c.look-seen.new.pass.view w c.look-seen.ensures.view c.look-seen.ensures.step in
    may_gain_by_try floor c.args.l.0 c.look-seen.new.pass.view
    (seeks_on floor c.args.l.0 1 c.args.pass.now.view c.look-seen.new.pass.view x c.requires.may)
    (calling_on floor c.args.l.0 1 c.args.pass.now.view c.look-seen.new.pass.view x c.requires.calling) c.args.mode w
    c.requires.covered.lock plainly.0 plainly.1

pub gain-requires-clause-may_look : goal.gain-requires-clause-may_look
gain-requires-clause-may_look c =
    let floor = c.args.floor.now.description in
    let w = word_of c.look-seen.result in
    let x = looked_by_try floor c.args.l.0 c.args.pass.now.view c.requires.may c.requires.calling
    c.look-seen.new.pass.view w c.look-seen.ensures.view c.look-seen.ensures.step in
    may_look_by_try floor c.args.l.0 c.look-seen.new.pass.view
    (seeks_on floor c.args.l.0 1 c.args.pass.now.view c.look-seen.new.pass.view x c.requires.may)
    (calling_on floor c.args.l.0 1 c.args.pass.now.view c.look-seen.new.pass.view x c.requires.calling)
    c.requires.covered.lock
    (omega (
      arith,
      c.requires.room,
      looks_spun floor c.args.l.0 1 c.args.pass.now.view c.look-seen.new.pass.view x,
    ))

pub returns-in-Ok-clause-gained : goal.returns-in-Ok-clause-gained
returns-in-Ok-clause-gained c =
    let floor = c.args.floor.now.description in
    let x = looked_by_try floor c.args.l.0 c.args.pass.now.view c.requires.may c.requires.calling
    c.look-seen.new.pass.view (word_of c.look-seen.result) c.look-seen.ensures.view c.look-seen.ensures.step in
    looked_and_gains floor c.args.l.0 1 c.args.pass.now.view c.look-seen.new.pass.view x c.args.l refl c.args.mode
    c.gain.new.pass.view c.in-Ok.ensures.view c.in-Ok.ensures.step

pub returns-in-Err-clause-spun : goal.returns-in-Err-clause-spun
returns-in-Err-clause-spun c =
    let floor = c.args.floor.now.description in
    let old = c.args.pass.now.view in
    let mid = c.look-seen.new.pass.view in
    let new = c.gain.new.pass.view in
    let from = word_of c.look-seen.result in
    let x = looked_by_try floor c.args.l.0 old c.requires.may c.requires.calling mid from c.look-seen.ensures.view
    c.look-seen.ensures.step in
    let y = looked_by_try floor c.args.l.0 mid (seeks_on floor c.args.l.0 1 old mid x c.requires.may)
    (calling_on floor c.args.l.0 1 old mid x c.requires.calling) new (word_of c.in-Err.found) c.in-Err.ensures.looked
    c.in-Err.ensures.look in (
      2,
      tried_too floor c.args.l.0 c.args.mode c.look-seen.result c.in-Err.found old mid new x y
          (sym (ap (λ k. course k from c.args.mode) c.kind.ensures) ∙ sym c.course_of.ensures ∙ c.in-Plainly.is)
          (ap (λ (k : Knowledge). k.share.doing.last_look) c.look-seen.ensures.view)
          (ap (λ (k : Knowledge). k.share.doing.last_look) c.in-Err.ensures.looked) c.in-Err.ensures.found.0,
      spun_more floor c.args.l.0 1 old mid x 1 new y,
    )

pub returns-in-ByClaim-clause-spun : goal.returns-in-ByClaim-clause-spun
returns-in-ByClaim-clause-spun c =
    let floor = c.args.floor.now.description in
    let old = c.args.pass.now.view in
    let new = c.look-seen.new.pass.view in
    let word = word_of c.look-seen.result in
    let x = looked_by_try floor c.args.l.0 old c.requires.may c.requires.calling new word c.look-seen.ensures.view
    c.look-seen.ensures.step in (
      1,
      looked_alone floor c.args.l.0 c.args.mode word old new x
          (λ plainly. no_plain c.course_of.result
          (c.course_of.ensures ∙ ap (λ k. course k word c.args.mode) c.kind.ensures ∙ plainly) c.in-ByClaim.is)
          (ap (λ (k : Knowledge). k.share.doing.last_look) c.look-seen.ensures.view),
      x,
    )

-- the word that it saw last
pub returns-in-ByClaim-clause-seen : goal.returns-in-ByClaim-clause-seen
returns-in-ByClaim-clause-seen c = ap (λ (k : Knowledge). k.share.doing.last_look) c.look-seen.ensures.view

pub returns-in-Err-clause-seen : goal.returns-in-Err-clause-seen
returns-in-Err-clause-seen c = ap (λ (k : Knowledge). k.share.doing.last_look) c.in-Err.ensures.looked

-- and that its looks in all are more
pub returns-in-ByClaim-clause-looked : goal.returns-in-ByClaim-clause-looked
returns-in-ByClaim-clause-looked c =
    omega (arith, ap (λ (k : Knowledge). k.share.doing.looks_in_all) c.look-seen.ensures.view)

pub returns-in-Err-clause-looked : goal.returns-in-Err-clause-looked
returns-in-Err-clause-looked c =
    omega (
      arith,
      ap (λ (k : Knowledge). k.share.doing.looks_in_all) c.look-seen.ensures.view,
      ap (λ (k : Knowledge). k.share.doing.looks_in_all) c.in-Err.ensures.looked,
    )

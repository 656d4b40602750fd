use Rattle.lock_calls.proofs.Names.{Some, None, IfOk, IfErr, subst, arith, word_of, Reversal, config_in, ChecksOrder}
use Rattle.std.proofs.Common.{◌≡◌}
use Rattle.lock_calls.proofs.Checked.{stays_checking, may_seek_on, gained_checked, ends_checked, spins_checked}
use Rattle.lock_calls.proofs.Refused.{may_note_refusal, is_refused}
use Rattle.lock_calls.proofs.checking.check.Goals as goal

pub try_order-requires-clause-lock : goal.try_order-requires-clause-lock
try_order-requires-clause-lock c = c.requires.under_way.covered.lock

pub try_order-requires-clause-first : goal.try_order-requires-clause-first
try_order-requires-clause-first c = c.requires.under_way.there.nothing_out

pub try_order-requires-clause-may : goal.try_order-requires-clause-may
try_order-requires-clause-may c = c.requires.under_way.there.may

pub returns-in-None-clause-on : goal.returns-in-None-clause-on
returns-in-None-clause-on c =
    stays_checking c.args.floor.now.description c.args.l c.args.mode c.args.pass.now.view c.try_order.new.pass.view
    c.requires.under_way.there c.in-None.ensures.left c.in-None.ensures.elsewhere

-- 1. It was admitted

pub returns-in-Ok-clause-gained : goal.returns-in-Ok-clause-gained
returns-in-Ok-clause-gained c =
    let floor = c.args.floor.now.description in
    let l = c.args.l in
    let mode = c.args.mode in
    let old = c.args.pass.now.view in
    let mid = c.try_order.new.pass.view in
    let checked = subst (λ r. IfOk r (λ x. ChecksOrder floor l.0 None old mid)) c.in-Some-Ok.field-0-is
    c.in-Some-Ok.ensures.admitted in
    gained_checked floor l mode old mid c.requires.under_way.there checked c.seek.new.pass.view c.in-Ok.ensures.gained

pub returns-in-Ok-clause-end : goal.returns-in-Ok-clause-end
returns-in-Ok-clause-end c =
    let floor = c.args.floor.now.description in
    let l = c.args.l in
    let mode = c.args.mode in
    let old = c.args.pass.now.view in
    let mid = c.try_order.new.pass.view in
    let checked = subst (λ r. IfOk r (λ x. ChecksOrder floor l.0 None old mid)) c.in-Some-Ok.field-0-is
    c.in-Some-Ok.ensures.admitted in
    ends_checked floor l mode old mid c.requires.under_way.there checked c.seek.new.pass.view c.in-Ok.ensures.gained

pub looks_left-left-requires-clause-covered : goal.looks_left-left-requires-clause-covered
looks_left-left-requires-clause-covered c = c.requires.under_way.covered

pub returns-in-Err-clause-on : goal.returns-in-Err-clause-on
returns-in-Err-clause-on c =
    let floor = c.args.floor.now.description in
    let old = c.args.pass.now.view in
    let mid = c.try_order.new.pass.view in
    let checked = subst (λ r. IfOk r (λ x. ChecksOrder floor c.args.l.0 None old mid)) c.in-Some-Ok.field-0-is
    c.in-Some-Ok.ensures.admitted in
    spins_checked floor c.args.l c.args.mode old mid c.requires.under_way.there checked (word_of c.in-Err.found) 49
    c.looks_left-left.result (omega arith) c.seek.new.pass.view c.looks_left-left.new.pass.view c.in-Err.ensures.begun
    c.looks_left-left.ensures.leaves

-- 2. It was refused

pub stamp-requires-clause-may : goal.stamp-requires-clause-may
stamp-requires-clause-may c =
    let floor = c.args.floor.now.description in
    let old = c.args.pass.now.view in
    let mid = c.try_order.new.pass.view in
    let u = c.requires.under_way in
    let checked = subst (λ r. IfErr r (λ (x : Reversal). ChecksOrder floor c.args.l.0 (Some x.held.0) old mid))
    c.in-Some-Err.field-0-is c.in-Some-Err.ensures.refused in
    may_note_refusal floor c.args.l c.in-Some-Err.reversal old mid u.calling u.there checked

pub returns-in-Some-Err-clause-refused : goal.returns-in-Some-Err-clause-refused
returns-in-Some-Err-clause-refused c =
    let floor = c.args.floor.now.description in
    let l = c.args.l in
    let r = c.in-Some-Err.reversal in
    let old = c.args.pass.now.view in
    let mid = c.try_order.new.pass.view in
    let u = c.requires.under_way in
    let checked = subst (λ x. IfErr x (λ (y : Reversal). ChecksOrder floor l.0 (Some y.held.0) old mid))
    c.in-Some-Err.field-0-is c.in-Some-Err.ensures.refused in
    let wanted = subst (λ x. IfErr x (λ (y : Reversal). y.wanted.0 ≡ (config_in floor).class l.0))
    c.in-Some-Err.field-0-is c.in-Some-Err.ensures.wanted in
    is_refused floor l r old mid u.calling u.there checked u.room wanted c.stamp.new.pass.view c.stamp.result
    c.stamp.ensures.view c.stamp.ensures.step

pub seek-requires-clause-may : goal.seek-requires-clause-may
seek-requires-clause-may c =
    let floor = c.args.floor.now.description in
    let old = c.args.pass.now.view in
    let mid = c.try_order.new.pass.view in
    let checked = subst (λ r. IfOk r (λ x. ChecksOrder floor c.args.l.0 None old mid)) c.in-Some-Ok.field-0-is
    c.in-Some-Ok.ensures.admitted in
    may_seek_on floor c.args.l c.args.mode old mid c.requires.under_way.there checked

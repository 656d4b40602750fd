use Rattle.lock_calls.proofs.Names.{sym, ap, word_of, config_in, course, tries_left}
use Rattle.std.proofs.Common.{◌∙◌}
use Rattle.lock_floor.specs.declared.calls.Call.TheVariants as calls
use Rattle.lock_calls.proofs.Attempts.{calling_at_rest}
use Rattle.lock_calls.proofs.Calls.{own_noted}
use Rattle.lock_calls.proofs.TriedEnd.{gained_at_first, may_note_try, room_to_note_try, try_noted, has_tried, is_busy_for, busy_at_first, may_note_busy, busy_noted, found_busy, looks_noted}
use Rattle.lock_calls.proofs.TriedOn.{none_left, begins_gained, begins_busy, begins_on}
use Rattle.lock_calls.proofs.TriedRound.{may_try_first, may_look_first}
use Rattle.lock_calls.proofs.trying.begin_try.Goals as goal

pub seek_gain-requires-clause-lock : goal.seek_gain-requires-clause-lock
seek_gain-requires-clause-lock c = c.requires.may.covered.lock

pub seek_gain-requires-clause-room : goal.seek_gain-requires-clause-room
seek_gain-requires-clause-room c = c.requires.may.few

pub seek_gain-requires-clause-may : goal.seek_gain-requires-clause-may
seek_gain-requires-clause-may c =
    may_try_first c.args.floor.now.description c.args.l.0 c.args.mode c.args.pass.now.view c.requires.may.covered
    c.requires.ready.rest c.requires.may.unheld

pub seek_gain-requires-clause-may_look : goal.seek_gain-requires-clause-may_look
seek_gain-requires-clause-may_look c =
    may_look_first c.args.floor.now.description c.args.l.0 c.args.mode c.args.pass.now.view c.requires.may.covered
    c.requires.ready.rest c.requires.may.unheld

-- 1. It gained the lock

pub stamp-requires-clause-room : goal.stamp-requires-clause-room
stamp-requires-clause-room c =
    let floor = c.args.floor.now.description in
    let old = c.args.pass.now.view in
    let r = c.requires.ready.rest in
    room_to_note_try floor c.args.l c.args.mode old c.seek_gain.new.pass.view
    (calling_at_rest floor old c.requires.ready.own.description r) c.requires.may.room c.requires.may.unheld
    (gained_at_first floor c.args.l c.args.mode old c.seek_gain.new.pass.view r c.in-Ok.ensures.view)

pub stamp-requires-clause-may : goal.stamp-requires-clause-may
stamp-requires-clause-may c =
    let floor = c.args.floor.now.description in
    let old = c.args.pass.now.view in
    let r = c.requires.ready.rest in
    may_note_try floor c.args.l c.args.mode old c.seek_gain.new.pass.view
    (calling_at_rest floor old c.requires.ready.own.description r) c.requires.may.room c.requires.may.unheld
    (gained_at_first floor c.args.l c.args.mode old c.seek_gain.new.pass.view r c.in-Ok.ensures.view)

pub returns-in-Ok-clause-own : goal.returns-in-Ok-clause-own
returns-in-Ok-clause-own c =
    own_noted c.args.floor.now c.stamp.new.pass c.set_call.new.self calls.None c.set_call.ensures c.stamp.ensures.own

pub returns-in-Ok-clause-begun : goal.returns-in-Ok-clause-begun
returns-in-Ok-clause-begun c =
    let floor = c.args.floor.now.description in
    let old = c.args.pass.now in
    let v = c.seek_gain.new.pass in
    let r = c.requires.ready.rest in
    let k = calling_at_rest floor old.view c.requires.ready.own.description r in
    let g = gained_at_first floor c.args.l c.args.mode old.view v.view r c.in-Ok.ensures.view in
    begins_gained floor c.args.l c.args.mode old v r c.requires.may k c.stamp.new.pass c.set_call.new.self
    c.in-Ok.ensures.steps
    (has_tried floor c.args.l c.args.mode old.view v.view k c.requires.may.room c.requires.may.unheld g
    c.stamp.new.pass.view c.stamp.result c.stamp.ensures.view c.stamp.ensures.step)
    (try_noted floor c.args.l c.args.mode old.view v.view k c.requires.may.room c.requires.may.unheld g
    c.stamp.new.pass.view c.stamp.result c.stamp.ensures.view c.stamp.ensures.step)
    c.set_call.ensures

-- 2. Its exchange missed

pub kind-requires : goal.kind-requires
kind-requires c = c.requires.may.covered.lock

pub looks_left-requires-clause-well_formed : goal.looks_left-requires-clause-well_formed
looks_left-requires-clause-well_formed c = c.in-Err.ensures.found.1

pub looks_left-requires-clause-mutex : goal.looks_left-requires-clause-mutex
looks_left-requires-clause-mutex c = λ e. c.requires.may.covered.mutex (sym c.kind.ensures ∙ e)

pub returns-in-Some-clause-begun : goal.returns-in-Some-clause-begun
returns-in-Some-clause-begun c =
    let floor = c.args.floor.now.description in
    let old = c.args.pass.now in
    let r = c.requires.ready.rest in
    begins_on floor c.args.l c.args.mode old c.seek_gain.new.pass r c.requires.may
    (calling_at_rest floor old.view c.requires.ready.own.description r) c.in-Err.found c.in-Err.ensures.looked
    c.in-Err.ensures.looks c.in-Some.left c.set_call-in-Some.new.self c.in-Err.ensures.found.0
    (sym (ap (λ k. tries_left (course k (word_of c.in-Err.found) c.args.mode) 50) c.kind.ensures)
    ∙ sym c.looks_left.ensures ∙ c.in-Some.is)
    c.set_call-in-Some.ensures

pub stamp-requires-in-None-clause-may : goal.stamp-requires-in-None-clause-may
stamp-requires-in-None-clause-may c =
    let floor = c.args.floor.now.description in
    let old = c.args.pass.now.view in
    let r = c.requires.ready.rest in
    let kind = (config_in floor).kind c.args.l.0 in
    let waits = none_left (course kind (word_of c.in-Err.found) c.args.mode) 50
    (sym (ap (λ k. tries_left (course k (word_of c.in-Err.found) c.args.mode) 50) c.kind.ensures)
    ∙ sym c.looks_left.ensures ∙ c.in-None.is) in
    may_note_busy floor c.args.l c.args.mode c.in-Err.found old c.seek_gain.new.pass.view
    (calling_at_rest floor old c.requires.ready.own.description r) c.requires.may.room c.requires.may.unheld
    c.requires.may.covered
    (is_busy_for floor c.args.l.0 c.args.mode c.in-Err.found c.requires.may.covered c.in-Err.ensures.found.1 waits)
    (busy_at_first floor c.args.l.0 c.in-Err.found old c.seek_gain.new.pass.view r c.in-Err.ensures.looked)

pub returns-in-None-clause-begun : goal.returns-in-None-clause-begun
returns-in-None-clause-begun c =
    let floor = c.args.floor.now.description in
    let old = c.args.pass.now in
    let v = c.seek_gain.new.pass in
    let r = c.requires.ready.rest in
    let kind = (config_in floor).kind c.args.l.0 in
    let k = calling_at_rest floor old.view c.requires.ready.own.description r in
    let waits = none_left (course kind (word_of c.in-Err.found) c.args.mode) 50
    (sym (ap (λ k. tries_left (course k (word_of c.in-Err.found) c.args.mode) 50) c.kind.ensures)
    ∙ sym c.looks_left.ensures ∙ c.in-None.is) in
    let word =
    is_busy_for floor c.args.l.0 c.args.mode c.in-Err.found c.requires.may.covered c.in-Err.ensures.found.1 waits in
    let h = busy_at_first floor c.args.l.0 c.in-Err.found old.view v.view r c.in-Err.ensures.looked in
    begins_busy floor c.args.l c.args.mode old v r c.requires.may k c.in-Err.found c.in-Err.ensures.looked
    c.in-Err.ensures.looks c.stamp-in-None.new.pass c.set_call-in-None.new.self
    (found_busy floor c.args.l c.args.mode c.in-Err.found old.view v.view k c.requires.may.room c.requires.may.unheld
    c.requires.may.covered word h c.stamp-in-None.new.pass.view c.stamp-in-None.result c.stamp-in-None.ensures.view
    c.stamp-in-None.ensures.step)
    (busy_noted floor c.args.l c.args.mode c.in-Err.found old.view v.view k c.requires.may.room c.requires.may.unheld
    c.requires.may.covered word h c.stamp-in-None.new.pass.view c.stamp-in-None.result c.stamp-in-None.ensures.view
    c.stamp-in-None.ensures.step)
    (looks_noted floor c.args.l c.args.mode c.in-Err.found old.view v.view k c.requires.may.room c.requires.may.unheld
    c.requires.may.covered word h c.stamp-in-None.new.pass.view c.stamp-in-None.result c.stamp-in-None.ensures.view
    c.stamp-in-None.ensures.step)
    c.set_call-in-None.ensures

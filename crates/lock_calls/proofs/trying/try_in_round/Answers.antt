use Rattle.lock_calls.proofs.Names.{sym, ap, arith, word_of, config_in, course, tries_left}
use Rattle.std.proofs.Common.{◌∙◌}
use Rattle.lock_calls.proofs.TriedEnd.{gained_in_round, may_note_try, room_to_note_try, try_noted, has_tried, is_busy_for, busy_in_round, may_note_busy, busy_noted, found_busy}
use Rattle.lock_calls.proofs.TriedOn.{none_left, tries_on, gains_on, busy_on}
use Rattle.lock_calls.proofs.trying.try_in_round.Goals as goal

pub attempt-requires-clause-covered : goal.attempt-requires-clause-covered
attempt-requires-clause-covered c = c.requires.under_way.covered

pub attempt-requires-clause-calling : goal.attempt-requires-clause-calling
attempt-requires-clause-calling c = c.requires.under_way.calling

pub attempt-requires-clause-may : goal.attempt-requires-clause-may
attempt-requires-clause-may c = c.requires.under_way.there.0

pub attempt-requires-clause-room : goal.attempt-requires-clause-room
attempt-requires-clause-room c = omega (arith, c.requires.under_way.there.1, c.requires.some_left)

-- 1. It gained the lock

pub stamp-requires-clause-room : goal.stamp-requires-clause-room
stamp-requires-clause-room c =
    let u = c.requires.under_way in
    room_to_note_try c.args.floor.now.description c.args.l c.args.mode c.args.pass.now.view c.attempt.new.pass.view
    u.calling u.room u.there.0.unheld
    (gained_in_round c.args.floor.now.description c.args.l c.args.mode 1 c.args.pass.now.view c.attempt.new.pass.view
    u.there.0 c.in-Ok.ensures.gained)

pub stamp-requires-clause-may : goal.stamp-requires-clause-may
stamp-requires-clause-may c =
    let u = c.requires.under_way in
    may_note_try c.args.floor.now.description c.args.l c.args.mode c.args.pass.now.view c.attempt.new.pass.view
    u.calling u.room u.there.0.unheld
    (gained_in_round c.args.floor.now.description c.args.l c.args.mode 1 c.args.pass.now.view c.attempt.new.pass.view
    u.there.0 c.in-Ok.ensures.gained)

pub returns-in-Ok-clause-tried : goal.returns-in-Ok-clause-tried
returns-in-Ok-clause-tried c =
    let u = c.requires.under_way in
    has_tried c.args.floor.now.description c.args.l c.args.mode c.args.pass.now.view c.attempt.new.pass.view
    u.calling u.room u.there.0.unheld
    (gained_in_round c.args.floor.now.description c.args.l c.args.mode 1 c.args.pass.now.view c.attempt.new.pass.view
    u.there.0 c.in-Ok.ensures.gained)
    c.stamp.new.pass.view c.stamp.result c.stamp.ensures.view c.stamp.ensures.step

pub returns-in-Ok-clause-gains : goal.returns-in-Ok-clause-gains
returns-in-Ok-clause-gains c =
    let u = c.requires.under_way in
    gains_on c.args.floor.now.description c.args.l c.args.mode c.args.left c.requires.some_left c.args.pass.now.view
    c.attempt.new.pass.view c.stamp.new.pass.view c.in-Ok.ensures.gained
    (try_noted c.args.floor.now.description c.args.l c.args.mode c.args.pass.now.view c.attempt.new.pass.view
    u.calling u.room u.there.0.unheld
    (gained_in_round c.args.floor.now.description c.args.l c.args.mode 1 c.args.pass.now.view c.attempt.new.pass.view
    u.there.0 c.in-Ok.ensures.gained)
    c.stamp.new.pass.view c.stamp.result c.stamp.ensures.view c.stamp.ensures.step)

-- 2. It didn't

pub kind-requires : goal.kind-requires
kind-requires c = c.requires.under_way.covered.lock

pub looks_left-requires-clause-mutex : goal.looks_left-requires-clause-mutex
looks_left-requires-clause-mutex c = λ e. c.requires.under_way.covered.mutex (sym c.kind.ensures ∙ e)

pub returns-in-Some-clause-on : goal.returns-in-Some-clause-on
returns-in-Some-clause-on c =
    let u = c.requires.under_way in
    let x = c.in-Err.ensures.spun in
    tries_on c.args.floor.now.description c.args.l c.args.mode c.args.left c.requires.some_left c.args.pass.now.view
    x.0 c.in-Some.rest (word_of c.in-Err.seen) c.attempt.new.pass.view u.there.0 u.there.1 x.1 x.2
    c.in-Err.ensures.looked
    (sym (ap (λ k. tries_left (course k (word_of c.in-Err.seen) c.args.mode) c.args.left) c.kind.ensures)
    ∙ sym c.looks_left.ensures ∙ c.in-Some.is)

-- 3. The lock is busy

pub stamp-requires-in-None-clause-may : goal.stamp-requires-in-None-clause-may
stamp-requires-in-None-clause-may c =
    let floor = c.args.floor.now.description in
    let old = c.args.pass.now.view in
    let v = c.attempt.new.pass.view in
    let u = c.requires.under_way in
    let x = c.in-Err.ensures.spun in
    let waits = none_left (course ((config_in floor).kind c.args.l.0) (word_of c.in-Err.seen) c.args.mode) c.args.left
    (sym (ap (λ k. tries_left (course k (word_of c.in-Err.seen) c.args.mode) c.args.left) c.kind.ensures)
    ∙ sym c.looks_left.ensures ∙ c.in-None.is) in
    may_note_busy floor c.args.l c.args.mode c.in-Err.seen old v u.calling u.room u.there.0.unheld u.covered
    (is_busy_for floor c.args.l.0 c.args.mode c.in-Err.seen u.covered c.in-Err.ensures.word waits)
    (busy_in_round floor c.args.l.0 x.0 c.in-Err.seen old v u.there.0 x.2 c.in-Err.ensures.seen c.in-Err.ensures.looked)

pub returns-in-None-clause-busy : goal.returns-in-None-clause-busy
returns-in-None-clause-busy c =
    let floor = c.args.floor.now.description in
    let old = c.args.pass.now.view in
    let v = c.attempt.new.pass.view in
    let u = c.requires.under_way in
    let x = c.in-Err.ensures.spun in
    let waits = none_left (course ((config_in floor).kind c.args.l.0) (word_of c.in-Err.seen) c.args.mode) c.args.left
    (sym (ap (λ k. tries_left (course k (word_of c.in-Err.seen) c.args.mode) c.args.left) c.kind.ensures)
    ∙ sym c.looks_left.ensures ∙ c.in-None.is) in
    found_busy floor c.args.l c.args.mode c.in-Err.seen old v u.calling u.room u.there.0.unheld u.covered
    (is_busy_for floor c.args.l.0 c.args.mode c.in-Err.seen u.covered c.in-Err.ensures.word waits)
    (busy_in_round floor c.args.l.0 x.0 c.in-Err.seen old v u.there.0 x.2 c.in-Err.ensures.seen c.in-Err.ensures.looked)
    c.stamp-in-None.new.pass.view c.stamp-in-None.result c.stamp-in-None.ensures.view c.stamp-in-None.ensures.step

pub returns-in-None-clause-finds : goal.returns-in-None-clause-finds
returns-in-None-clause-finds c =
    let floor = c.args.floor.now.description in
    let old = c.args.pass.now.view in
    let v = c.attempt.new.pass.view in
    let u = c.requires.under_way in
    let x = c.in-Err.ensures.spun in
    let waits = none_left (course ((config_in floor).kind c.args.l.0) (word_of c.in-Err.seen) c.args.mode) c.args.left
    (sym (ap (λ k. tries_left (course k (word_of c.in-Err.seen) c.args.mode) c.args.left) c.kind.ensures)
    ∙ sym c.looks_left.ensures ∙ c.in-None.is) in
    busy_on floor c.args.l c.args.mode c.args.left c.requires.some_left old c.in-Err.seen x.0 v
    c.stamp-in-None.new.pass.view x.1
    (busy_noted floor c.args.l c.args.mode c.in-Err.seen old v u.calling u.room u.there.0.unheld u.covered
    (is_busy_for floor c.args.l.0 c.args.mode c.in-Err.seen u.covered c.in-Err.ensures.word waits)
    (busy_in_round floor c.args.l.0 x.0 c.in-Err.seen old v u.there.0 x.2 c.in-Err.ensures.seen c.in-Err.ensures.looked)
    c.stamp-in-None.new.pass.view c.stamp-in-None.result c.stamp-in-None.ensures.view c.stamp-in-None.ensures.step)

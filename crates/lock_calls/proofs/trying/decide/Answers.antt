use Rattle.lock_calls.proofs.Names.{inl, sym, ap, word_of, config_in, course}
use Rattle.std.proofs.Common.{◌∙◌}
use Rattle.lock_calls.proofs.TriedEnd.{runs_gained, unbound_gained, going_gained, gained_in_section, may_note_try, room_to_note_try, try_noted, has_tried, is_busy_for, busy_in_section, may_note_busy, busy_noted, found_busy}
use Rattle.lock_calls.proofs.TriedOn.{admits_it, misses_on_by_try, gains_there_on, busy_there_on}
use Rattle.lock_calls.proofs.trying.decide.Goals as goal

pub kind-requires : goal.kind-requires
kind-requires c = c.requires.under_way.covered.lock

pub course_of-requires-clause-well_formed : goal.course_of-requires-clause-well_formed
course_of-requires-clause-well_formed c = c.requires.under_way.there.seen_so.formed

pub course_of-requires-clause-mutex : goal.course_of-requires-clause-mutex
course_of-requires-clause-mutex c = λ e. c.requires.under_way.covered.mutex (sym c.kind.ensures ∙ e)

-- 1. It can gain the lock

pub gain_there-requires-clause-covered : goal.gain_there-requires-clause-covered
gain_there-requires-clause-covered c = c.requires.under_way.covered

pub gain_there-requires-clause-calling : goal.gain_there-requires-clause-calling
gain_there-requires-clause-calling c = c.requires.under_way.calling

pub gain_there-requires-clause-deciding : goal.gain_there-requires-clause-deciding
gain_there-requires-clause-deciding c = c.requires.under_way.there

pub gain_there-requires-clause-admitted : goal.gain_there-requires-clause-admitted
gain_there-requires-clause-admitted c =
    let said = sym (ap (λ k. course k (word_of c.args.seen) c.args.mode) c.kind.ensures) ∙ sym c.course_of.ensures in
    admits_it ((config_in c.args.floor.now.description).kind c.args.l.0) (word_of c.args.seen) c.args.mode
    c.course_of.result said c.in-Plainly.is

pub give_both-requires-clause-lock : goal.give_both-requires-clause-lock
give_both-requires-clause-lock c = c.requires.under_way.covered.lock

pub give_both-requires-clause-both : goal.give_both-requires-clause-both
give_both-requires-clause-both c = c.in-Ok.ensures.gained.both

pub give_both-requires-clause-settled : goal.give_both-requires-clause-settled
give_both-requires-clause-settled c =
    inl (runs_gained c.args.floor.now.description c.args.l c.args.mode c.args.pass.now.view c.gain_there.new.pass.view
    c.requires.under_way.calling c.requires.under_way.there.there c.in-Ok.ensures.gained)

pub give_both-requires-clause-unbound : goal.give_both-requires-clause-unbound
give_both-requires-clause-unbound c =
    unbound_gained c.args.floor.now.description c.args.l c.args.mode c.args.pass.now.view c.gain_there.new.pass.view
    c.requires.under_way.calling c.requires.under_way.there.there c.in-Ok.ensures.gained

pub give_both-requires-clause-going : goal.give_both-requires-clause-going
give_both-requires-clause-going c =
    going_gained c.args.floor.now.description c.args.l c.args.mode c.args.pass.now.view c.gain_there.new.pass.view
    c.requires.under_way.calling c.requires.under_way.there.there c.in-Ok.ensures.gained

pub stamp-requires-clause-room : goal.stamp-requires-clause-room
stamp-requires-clause-room c =
    let u = c.requires.under_way in
    room_to_note_try c.args.floor.now.description c.args.l c.args.mode c.args.pass.now.view c.give_both.new.pass.view
    u.calling u.room u.there.there.unheld
    (gained_in_section c.args.floor.now.description c.args.l c.args.mode c.args.pass.now.view
    c.gain_there.new.pass.view u.calling u.there.there c.in-Ok.ensures.gained c.give_both.new.pass.view
    c.give_both.ensures.view)

pub stamp-requires-clause-may : goal.stamp-requires-clause-may
stamp-requires-clause-may c =
    let u = c.requires.under_way in
    may_note_try c.args.floor.now.description c.args.l c.args.mode c.args.pass.now.view c.give_both.new.pass.view
    u.calling u.room u.there.there.unheld
    (gained_in_section c.args.floor.now.description c.args.l c.args.mode c.args.pass.now.view
    c.gain_there.new.pass.view u.calling u.there.there c.in-Ok.ensures.gained c.give_both.new.pass.view
    c.give_both.ensures.view)

pub returns-in-Ok-clause-tried : goal.returns-in-Ok-clause-tried
returns-in-Ok-clause-tried c =
    let u = c.requires.under_way in
    has_tried c.args.floor.now.description c.args.l c.args.mode c.args.pass.now.view c.give_both.new.pass.view
    u.calling u.room u.there.there.unheld
    (gained_in_section c.args.floor.now.description c.args.l c.args.mode c.args.pass.now.view
    c.gain_there.new.pass.view u.calling u.there.there c.in-Ok.ensures.gained c.give_both.new.pass.view
    c.give_both.ensures.view)
    c.stamp.new.pass.view c.stamp.result c.stamp.ensures.view c.stamp.ensures.step

pub returns-in-Ok-clause-gains : goal.returns-in-Ok-clause-gains
returns-in-Ok-clause-gains c =
    let u = c.requires.under_way in
    gains_there_on c.args.floor.now.description c.args.l c.args.mode c.args.seen c.args.pass.now.view
    c.gain_there.new.pass.view c.give_both.new.pass.view c.stamp.new.pass.view c.in-Ok.ensures.gained
    c.give_both.ensures.steps
    (try_noted c.args.floor.now.description c.args.l c.args.mode c.args.pass.now.view c.give_both.new.pass.view
    u.calling u.room u.there.there.unheld
    (gained_in_section c.args.floor.now.description c.args.l c.args.mode c.args.pass.now.view
    c.gain_there.new.pass.view u.calling u.there.there c.in-Ok.ensures.gained c.give_both.new.pass.view
    c.give_both.ensures.view)
    c.stamp.new.pass.view c.stamp.result c.stamp.ensures.view c.stamp.ensures.step)

pub returns-in-Err-clause-on : goal.returns-in-Err-clause-on
returns-in-Err-clause-on c =
    misses_on_by_try c.args.floor.now.description c.args.l c.args.mode c.args.seen c.args.pass.now.view c.in-Err.found
    c.gain_there.new.pass.view c.requires.under_way.there.there c.requires.under_way.calling
    c.in-Err.ensures.missed

-- 2. The lock is busy

pub stamp-requires-in-MustWait-clause-may : goal.stamp-requires-in-MustWait-clause-may
stamp-requires-in-MustWait-clause-may c =
    let floor = c.args.floor.now.description in
    let u = c.requires.under_way in
    let waits = sym (ap (λ k. course k (word_of c.args.seen) c.args.mode) c.kind.ensures) ∙ sym c.course_of.ensures
    ∙ c.in-MustWait.is in
    let word = is_busy_for floor c.args.l.0 c.args.mode c.args.seen u.covered u.there.seen_so.formed waits in
    let h = busy_in_section floor c.args.l.0 c.args.seen c.args.pass.now.view u.calling u.there
    c.give_both-in-MustWait.new.pass.view c.give_both-in-MustWait.ensures.view in
    may_note_busy floor c.args.l c.args.mode c.args.seen c.args.pass.now.view c.give_both-in-MustWait.new.pass.view
    u.calling u.room u.there.there.unheld u.covered word h

pub returns-in-MustWait-clause-busy : goal.returns-in-MustWait-clause-busy
returns-in-MustWait-clause-busy c =
    let floor = c.args.floor.now.description in
    let u = c.requires.under_way in
    let waits = sym (ap (λ k. course k (word_of c.args.seen) c.args.mode) c.kind.ensures) ∙ sym c.course_of.ensures
    ∙ c.in-MustWait.is in
    let word = is_busy_for floor c.args.l.0 c.args.mode c.args.seen u.covered u.there.seen_so.formed waits in
    let h = busy_in_section floor c.args.l.0 c.args.seen c.args.pass.now.view u.calling u.there
    c.give_both-in-MustWait.new.pass.view c.give_both-in-MustWait.ensures.view in
    found_busy floor c.args.l c.args.mode c.args.seen c.args.pass.now.view c.give_both-in-MustWait.new.pass.view
    u.calling u.room u.there.there.unheld u.covered word h c.stamp-in-MustWait.new.pass.view
    c.stamp-in-MustWait.result c.stamp-in-MustWait.ensures.view c.stamp-in-MustWait.ensures.step

pub returns-in-MustWait-clause-finds : goal.returns-in-MustWait-clause-finds
returns-in-MustWait-clause-finds c =
    let floor = c.args.floor.now.description in
    let u = c.requires.under_way in
    let waits = sym (ap (λ k. course k (word_of c.args.seen) c.args.mode) c.kind.ensures) ∙ sym c.course_of.ensures
    ∙ c.in-MustWait.is in
    let word = is_busy_for floor c.args.l.0 c.args.mode c.args.seen u.covered u.there.seen_so.formed waits in
    let h = busy_in_section floor c.args.l.0 c.args.seen c.args.pass.now.view u.calling u.there
    c.give_both-in-MustWait.new.pass.view c.give_both-in-MustWait.ensures.view in
    busy_there_on floor c.args.l c.args.mode c.args.seen c.args.pass.now.view c.give_both-in-MustWait.new.pass.view
    c.stamp-in-MustWait.new.pass.view h c.give_both-in-MustWait.ensures.steps
    (busy_noted floor c.args.l c.args.mode c.args.seen c.args.pass.now.view c.give_both-in-MustWait.new.pass.view
    u.calling u.room u.there.there.unheld u.covered word h c.stamp-in-MustWait.new.pass.view
    c.stamp-in-MustWait.result c.stamp-in-MustWait.ensures.view c.stamp-in-MustWait.ensures.step)

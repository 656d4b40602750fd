use Rattle.lock_calls.proofs.Names.{Checks}
use Rattle.lock_floor.specs.declared.calls.Call.TheVariants as calls
use Rattle.lock_calls.proofs.Attempts.{acquires, calling_at_rest}
use Rattle.lock_calls.proofs.FirstExchanges.{has_gained_first}
use Rattle.lock_calls.proofs.Calls.{own_noted}
use Rattle.lock_calls.proofs.Begun.{has_begun, gains_first}
use Rattle.lock_calls.proofs.Noting.{may_note_lock, room_to_note, note_step, taken}
use Rattle.lock_calls.proofs.taking.begin_take.Goals as goal

pub begin-requires-clause-covered : goal.begin-requires-clause-covered
begin-requires-clause-covered c = c.requires.may.covered

pub begin-requires-clause-may : goal.begin-requires-clause-may
begin-requires-clause-may c =
    acquires c.args.floor.now.description c.args.l.0 c.args.pass.now.view c.requires.ready.rest c.requires.may.unheld
    c.requires.may.few

pub note_taken-requires-clause-room : goal.note_taken-requires-clause-room
note_taken-requires-clause-room c =
    room_to_note c.args.floor.now.description c.args.l c.args.mode c.args.pass.now.view c.begin.new.pass.view
    (calling_at_rest c.args.floor.now.description c.args.pass.now.view c.requires.ready.own.description
    c.requires.ready.rest)
    c.requires.may.room
    (has_gained_first c.args.floor.now.description c.args.l c.args.mode c.args.pass.now.view c.begin.new.pass.view
    (acquires c.args.floor.now.description c.args.l.0 c.args.pass.now.view c.requires.ready.rest c.requires.may.unheld
    c.requires.may.few)
    (c.begin.ensures.gained c.if-begin.true))

pub note_taken-requires-clause-may : goal.note_taken-requires-clause-may
note_taken-requires-clause-may c =
    may_note_lock c.args.floor.now.description c.args.l c.args.mode c.args.pass.now.view c.begin.new.pass.view
    (calling_at_rest c.args.floor.now.description c.args.pass.now.view c.requires.ready.own.description
    c.requires.ready.rest)
    c.requires.may.room
    (has_gained_first c.args.floor.now.description c.args.l c.args.mode c.args.pass.now.view c.begin.new.pass.view
    (acquires c.args.floor.now.description c.args.l.0 c.args.pass.now.view c.requires.ready.rest c.requires.may.unheld
    c.requires.may.few)
    (c.begin.ensures.gained c.if-begin.true))

pub returns-then-begin-clause-own : goal.returns-then-begin-clause-own
returns-then-begin-clause-own c =
    own_noted c.args.floor.now c.note_taken.new.pass c.set_call.new.self calls.None c.set_call.ensures
    c.note_taken.ensures.own

pub returns-then-begin-clause-begun : goal.returns-then-begin-clause-begun
returns-then-begin-clause-begun c =
    gains_first c.args.floor.now.description c.args.l c.args.mode c.args.pass.now c.begin.new.pass c.note_taken.new.pass
    c.set_call.new.self
    (c.begin.ensures.bare c.if-begin.true) (c.begin.ensures.gained c.if-begin.true)
    (taken c.args.floor.now.description c.args.l c.args.mode c.args.pass.now.view c.begin.new.pass.view
    (calling_at_rest c.args.floor.now.description c.args.pass.now.view c.requires.ready.own.description
    c.requires.ready.rest)
    c.requires.may.room
    (has_gained_first c.args.floor.now.description c.args.l c.args.mode c.args.pass.now.view c.begin.new.pass.view
    (acquires c.args.floor.now.description c.args.l.0 c.args.pass.now.view c.requires.ready.rest c.requires.may.unheld
    c.requires.may.few)
    (c.begin.ensures.gained c.if-begin.true))
    c.note_taken.new.pass.view c.note_taken.result c.note_taken.ensures.view c.note_taken.ensures.step)
    (note_step c.args.floor.now.description c.args.l c.args.mode c.args.pass.now.view c.begin.new.pass.view
    (calling_at_rest c.args.floor.now.description c.args.pass.now.view c.requires.ready.own.description
    c.requires.ready.rest)
    c.requires.may.room
    (has_gained_first c.args.floor.now.description c.args.l c.args.mode c.args.pass.now.view c.begin.new.pass.view
    (acquires c.args.floor.now.description c.args.l.0 c.args.pass.now.view c.requires.ready.rest c.requires.may.unheld
    c.requires.may.few)
    (c.begin.ensures.gained c.if-begin.true))
    c.note_taken.new.pass.view c.note_taken.result c.note_taken.ensures.view c.note_taken.ensures.step)
    c.set_call.ensures

pub returns-else-begin-clause-own : goal.returns-else-begin-clause-own
returns-else-begin-clause-own c =
    own_noted c.args.floor.now c.begin.new.pass c.set_call-else-begin.new.self (calls.Take c.args.l c.args.mode Checks)
    c.set_call-else-begin.ensures c.begin.ensures.own

pub returns-else-begin-clause-begun : goal.returns-else-begin-clause-begun
returns-else-begin-clause-begun c =
    has_begun c.args.floor.now.description c.args.l c.args.mode c.args.pass.now c.begin.new.pass
    c.set_call-else-begin.new.self c.requires.may
    (calling_at_rest c.args.floor.now.description c.args.pass.now.view c.requires.ready.own.description
    c.requires.ready.rest)
    c.requires.ready.rest (c.begin.ensures.missed c.if-begin.false) c.set_call-else-begin.ensures

use Rattle.cond_vars.proofs.Back.{room_to_note, may_note_halted, notes_halted, may_note_woke, notes_woke}
use Rattle.cond_vars.proofs.sleeping.note_end.Goals as goal

pub stamp-requires-clause-room : goal.stamp-requires-clause-room
stamp-requires-clause-room c =
    room_to_note c.args.floor.now.description c.args.c c.args.aborted c.args.pass.now.view c.requires.back

pub stamp-requires-clause-may : goal.stamp-requires-clause-may
stamp-requires-clause-may c =
    may_note_halted c.args.floor.now.description c.args.c c.args.aborted c.args.pass.now.view c.requires.back
    c.if-aborted.true

pub stamp-requires-else-aborted-clause-room : goal.stamp-requires-else-aborted-clause-room
stamp-requires-else-aborted-clause-room c =
    room_to_note c.args.floor.now.description c.args.c c.args.aborted c.args.pass.now.view c.requires.back

pub stamp-requires-else-aborted-clause-may : goal.stamp-requires-else-aborted-clause-may
stamp-requires-else-aborted-clause-may c =
    may_note_woke c.args.floor.now.description c.args.c c.args.aborted c.args.pass.now.view c.requires.back
    c.if-aborted.false

pub returns-then-aborted-clause-notes : goal.returns-then-aborted-clause-notes
returns-then-aborted-clause-notes c =
    notes_halted c.args.floor.now.description c.args.c c.args.aborted c.args.pass.now.view c.requires.back
    c.if-aborted.true
    c.stamp.result c.stamp.new.pass.view c.stamp.ensures.view c.stamp.ensures.step

pub returns-else-aborted-clause-notes : goal.returns-else-aborted-clause-notes
returns-else-aborted-clause-notes c =
    notes_woke c.args.floor.now.description c.args.c c.args.aborted c.args.pass.now.view c.requires.back
    c.if-aborted.false
    c.stamp-else-aborted.result c.stamp-else-aborted.new.pass.view c.stamp-else-aborted.ensures.view
    c.stamp-else-aborted.ensures.step

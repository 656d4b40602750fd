use Rattle.cond_vars.proofs.WaitParts.{noted_halt, noted_wake}
use Rattle.cond_vars.proofs.parts.note.Goals as goal

pub returns-then-aborted-clause-then : goal.returns-then-aborted-clause-then
returns-then-aborted-clause-then c = c.note_end.ensures.notes.rest

pub returns-then-aborted-clause-part : goal.returns-then-aborted-clause-part
returns-then-aborted-clause-part c =
    noted_halt c.args.floor.now.description c.args.c c.args.aborted c.args.pass.now.view c.note_end.new.pass.view
    c.note_end.ensures.notes c.if-aborted.true

pub returns-else-aborted-clause-then : goal.returns-else-aborted-clause-then
returns-else-aborted-clause-then c = c.note_end.ensures.notes.rest

pub returns-else-aborted-clause-part : goal.returns-else-aborted-clause-part
returns-else-aborted-clause-part c =
    noted_wake c.args.floor.now.description c.args.c c.args.aborted c.args.pass.now.view c.note_end.new.pass.view
    c.note_end.ensures.notes c.if-aborted.false

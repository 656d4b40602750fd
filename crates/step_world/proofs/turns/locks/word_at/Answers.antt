use Rattle.step_world.proofs.Names.{word_read}
use Rattle.step_world.proofs.ActionsOfLocks.{is_well_formed}
use Rattle.step_world.proofs.turns.locks.word_at.Goals as goal

pub returns-clause-well_formed : goal.returns-clause-well_formed
returns-clause-well_formed c =
    let q = c.requires.shows in
    let w = c.index.result.now in
    is_well_formed c.args.l.0 w q.1 q.2 (word_read c.from.ensures q.1.words c.requires.lock c.index.ensures)

use Rattle.lock_state.specs.Facts.{WantedIsTaken, HaltedWantNothing}
use Rattle.floor_table.proofs.laws.who_wants_a_lock_takes_it.Goals as goal

pub returns-clause-wanted : goal.returns-clause-wanted
unfolding WantedIsTaken
returns-clause-wanted c floor past s t l sound wants = sound.explained.wants.wanted_is_taken t l wants

pub returns-clause-halted : goal.returns-clause-halted
unfolding HaltedWantNothing
returns-clause-halted c floor past s t l sound notes = (sound.explained.wants.halted_want_nothing t l notes).0

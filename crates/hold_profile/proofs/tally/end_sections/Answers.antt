use Rattle.hold_profile.proofs.LockSteps.{add_more}
use Rattle.hold_profile.proofs.tally.end_sections.Goals as goal

pub loop-o-preserved : goal.loop-o-preserved
loop-o-preserved c = add_more _ _ _ (record { thread = record { 0 = 0 }; since = 0 }) _ _ _ _ c.loop-o-test.true
    c.loop-o.invariant c.add_length.ensures c.lasted_by.ensures

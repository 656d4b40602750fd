use Rattle.lock_state.specs.Facts.Sleeps.{PassedOverAreAborted}
use Rattle.sleep_laws.proofs.sleeps.wakings_pass_over_aborted.Goals as goal

pub returns : goal.returns
unfolding PassedOverAreAborted
returns c at_work config s t h p = h.passed_over_are_aborted t p

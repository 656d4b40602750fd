use Rattle.sleep_laws.proofs.sleeps.wakings_name_sleepers.Goals as goal

pub returns : goal.returns
returns c at_work d s h = h.wakings_name_sleepers

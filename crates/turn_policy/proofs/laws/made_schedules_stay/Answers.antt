use Rattle.turn_policy.proofs.Stays.{stays}
use Rattle.turn_policy.proofs.laws.made_schedules_stay.Goals as goal

pub returns : goal.returns
returns c policy other plan ts h = stays plan ts policy other h

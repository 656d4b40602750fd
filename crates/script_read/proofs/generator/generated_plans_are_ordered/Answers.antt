use Rattle.script_read.proofs.GeneratedPlans.{adds_alone, ordered, proper}
use Rattle.script_read.proofs.generator.generated_plans_are_ordered.Goals as goal

pub returns : goal.returns
returns c = record { proper = proper; ordered = ordered; adds = adds_alone }

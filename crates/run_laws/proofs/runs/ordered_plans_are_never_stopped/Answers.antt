use Rattle.run_laws.proofs.OrderedRuns as law
use Rattle.run_laws.proofs.runs.ordered_plans_are_never_stopped.Goals as goal

pub returns-clause-unrefused : goal.returns-clause-unrefused
returns-clause-unrefused c = law.ordered_unrefused

pub returns-clause-not_stuck : goal.returns-clause-not_stuck
returns-clause-not_stuck c = law.ordered_not_stuck

pub returns-clause-not_reversed : goal.returns-clause-not_reversed
returns-clause-not_reversed c = law.ordered_not_reversed

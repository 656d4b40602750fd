use Rattle.run_laws.proofs.Names.{config_of}
use Rattle.order_laws.proofs.OrderFacts.Cycle as law
use Rattle.run_laws.proofs.runs.runs_have_best.Goals as goal

pub returns : goal.returns
returns c = λ plan r t k still lt. law.best (config_of plan) r.state t k.lawful.lawful k.ordered still lt

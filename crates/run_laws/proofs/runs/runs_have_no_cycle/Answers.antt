use Rattle.run_laws.proofs.Names.{config_of}
use Rattle.order_laws.proofs.OrderFacts.Cycle as law
use Rattle.run_laws.proofs.runs.runs_have_no_cycle.Goals as goal

pub returns : goal.returns
returns c = λ plan r k. law.no_cycle (config_of plan) r.state k.ordered

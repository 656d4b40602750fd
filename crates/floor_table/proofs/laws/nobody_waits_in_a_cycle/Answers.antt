use Rattle.floor_table.specs.Descriptions.{config_in}
use Rattle.order_laws.proofs.OrderFacts.Cycle as law
use Rattle.floor_table.proofs.laws.nobody_waits_in_a_cycle.Goals as goal

pub returns-clause-cycle : goal.returns-clause-cycle
returns-clause-cycle c floor past s sound = law.no_cycle (config_in floor) s sound.ordered

pub returns-clause-best : goal.returns-clause-best
returns-clause-best c floor past s t sound still low =
    law.best (config_in floor) s t sound.facts.lawful sound.ordered still low

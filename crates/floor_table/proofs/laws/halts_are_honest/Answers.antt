use Rattle.count_laws.proofs.Explaining.{honest}
use Rattle.floor_table.specs.Descriptions.{config_in}
use Rattle.floor_table.proofs.laws.halts_are_honest.Goals as goal

pub returns : goal.returns
returns c floor past s sound = honest (config_in floor) s sound.facts.lawful sound.explained

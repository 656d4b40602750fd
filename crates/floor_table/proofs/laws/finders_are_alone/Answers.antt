use Rattle.count_laws.proofs.Alone.{all_stand}
use Rattle.floor_table.specs.Descriptions.{config_in}
use Rattle.floor_table.proofs.laws.finders_are_alone.Goals as goal

pub returns : goal.returns
returns c floor past s f t sound finder low alive =
    all_stand (config_in floor) s sound.facts.lawful sound.counted f finder t low alive

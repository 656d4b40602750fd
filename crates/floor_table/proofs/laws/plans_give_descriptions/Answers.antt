use Rattle.std.proofs.Common.{sym, ◌∙◌}
use Rattle.floor_table.specs.Descriptions.{keys_in}
use Rattle.floor_table.proofs.Descriptions.{same_config, its_room, is_sized}
use Rattle.floor_table.proofs.PlanKeys.{keys_are_named, key_found, found_key}
use Rattle.floor_table.proofs.laws.plans_give_descriptions.Goals as goal

pub returns-clause-config : goal.returns-clause-config
returns-clause-config c = same_config

pub returns-clause-sized : goal.returns-clause-sized
returns-clause-sized c = is_sized

pub returns-clause-room : goal.returns-clause-room
returns-clause-room c = its_room

pub returns-clause-keys : goal.returns-clause-keys
returns-clause-keys c plan chains l key = (
  (λ h. sym (keys_are_named plan l key) ∙ key_found l key (keys_in plan.threads) h),
  (λ named. found_key l key (keys_in plan.threads) (keys_are_named plan l key ∙ named)),
)

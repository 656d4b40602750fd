use Rattle.floor_table.specs.Descriptions.{config_in}
use Rattle.floor_table.proofs.Poses.{stands_nowhere, has_turnstile, has_sleep_queue}
use Rattle.floor_table.proofs.laws.poses_tell_of_records.Goals as goal

pub returns-clause-nowhere : goal.returns-clause-nowhere
returns-clause-nowhere c floor v s fits off =
    stands_nowhere (config_in floor) s fits.sound.facts.lawful v.thread v.pose off fits.pose

pub returns-clause-turnstile : goal.returns-clause-turnstile
returns-clause-turnstile c floor v s fits off =
    has_turnstile (config_in floor) s fits.sound.facts.lawful v.thread
    (stands_nowhere (config_in floor) s fits.sound.facts.lawful v.thread v.pose off fits.pose)

pub returns-clause-sleep_queue : goal.returns-clause-sleep_queue
returns-clause-sleep_queue c floor v s fits off =
    has_sleep_queue (config_in floor) s fits.sound.facts.lawful v.thread
    (stands_nowhere (config_in floor) s fits.sound.facts.lawful v.thread v.pose off fits.pose)

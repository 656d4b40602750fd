use Rattle.lock_floor.proofs.OwnRecords.{own_turnstile, own_sleep_queue, names_none}
use Rattle.lock_floor.proofs.laws.own_records_are_whole.Goals as goal

pub returns-clause-turnstile : goal.returns-clause-turnstile
returns-clause-turnstile c floor old new b k is off = own_turnstile floor old new b k is off

pub returns-clause-sleep_queue : goal.returns-clause-sleep_queue
returns-clause-sleep_queue c floor old new b k is off = own_sleep_queue floor old new b k is off

pub returns-clause-nowhere : goal.returns-clause-nowhere
returns-clause-nowhere c floor old new b k is off = names_none floor old new b k is off

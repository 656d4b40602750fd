use Rattle.floor_table.proofs.Objects.{no_turnstile, no_sleep_queue}
use Rattle.floor_table.proofs.laws.chains_have_no_other.Goals as goal

pub returns-clause-turnstiles : goal.returns-clause-turnstiles
returns-clause-turnstiles c floor k chain x says none = no_turnstile floor k chain x says none

pub returns-clause-sleep_queues : goal.returns-clause-sleep_queues
returns-clause-sleep_queues c floor k chain x says none = no_sleep_queue floor k chain x says none

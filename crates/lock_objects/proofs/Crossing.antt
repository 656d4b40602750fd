-- Those who are to be woken may cross threads.
use denote.Param.Send.{IsSend, sendable}
use Rattle.lock_objects.proofs.Names.{crosses}
use Rattle.wait_objects.proofs.free_list.FreeList.TheLaws.TheKnot as objects
use Rattle.wait_objects.proofs.loan.Loan.TheLaws.TheKnot as loans
use Rattle.wait_objects.proofs.sleeping.Sleeping.TheSendSync as sleeping
use Rattle.lock_model.proofs.numbers.ThreadNo.TheSendSync as thread_no
use Rattle.lock_model.proofs.numbers.LockNo.TheSendSync as lock_no
use Rattle.lock_model.proofs.numbers.Prio.TheSendSync as prio
use Rattle.lock_model.proofs.plan.QueueName.TheSendSync as queue_name
use Rattle.lock_objects.specs.contracts.marked.Marked as marked

-- what a marked list is made of crosses
ruleset parts = (
  objects.send-Waiters,
  objects.send-Object,
  objects.send-Node,
  loans.send-Loan,
  sleeping.the_send,
  thread_no.the_send,
  lock_no.the_send,
  prio.the_send,
  queue_name.the_send,
)

pub marked_send : IsSend marked.the_row
marked_send = search (sendable, crosses, parts) depth 40 fits 100000

-- and so may a field of that type
pub marked_field_send : IsSend marked.the_field.row
marked_field_send = search (sendable, crosses, parts) depth 40 fits 100000

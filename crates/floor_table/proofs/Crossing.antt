-- The values behind latches may cross threads.
use denote.Param.Send.{IsSend, sendable}
use Rattle.std.proofs.Crossing.{crosses}
use Rattle.wait_objects.proofs.free_list.FreeList.TheLaws.TheKnot as objects
use Rattle.wait_objects.proofs.loan.Loan.TheLaws.TheKnot as loans
use Rattle.wait_objects.proofs.sleeping.Sleeping.TheSendSync as sleeping
use Rattle.chain_table.proofs.chain.Chain.TheSendSync as chain
use Rattle.witness_orders.proofs.orders.Orders.TheSendSync as orders
use Rattle.lock_model.proofs.numbers.ThreadNo.TheSendSync as thread_no
use Rattle.lock_model.proofs.numbers.LockNo.TheSendSync as lock_no
use Rattle.lock_model.proofs.numbers.Prio.TheSendSync as prio
use Rattle.lock_model.proofs.plan.QueueName.TheSendSync as queue_name
use Rattle.floor_table.specs.contracts.slot.Slot as slot
use Rattle.thread_records.specs.contracts.record.ThreadRec as rec

record_send : IsSend rec.the_row
record_send = search (
  sendable,
  crosses,
  objects.send-Object,
  objects.send-Node,
  loans.send-Loan,
  sleeping.the_send,
  thread_no.the_send,
  lock_no.the_send,
  prio.the_send,
  queue_name.the_send,
  thread_no.the_field_send,
  prio.the_field_send,
) depth 40 fits 100000

pub slot_send : IsSend slot.the_row
slot_send = search (
  sendable,
  crosses,
  record_send,
  chain.the_send,
  orders.the_send,
  objects.send-Object,
  loans.send-Loan,
  sleeping.the_send,
  thread_no.the_send,
  lock_no.the_send,
  prio.the_send,
) depth 40 fits 100000

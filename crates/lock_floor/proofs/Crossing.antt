-- A pass may cross threads.
use denote.Param.Send.{IsSend, sendable}
use Rattle.lock_floor.proofs.Names.{crosses, marked_send, marked_field_send, slot_send}
use Rattle.std.proofs.marker.PhantomData.TheSendSync as phantom
use Rattle.atomic_table.proofs.shared.Seat.TheSendSync as seat
use Rattle.lock_model.proofs.event.Held.TheSendSync as held
use Rattle.lock_model.proofs.numbers.ThreadNo.TheSendSync as thread_no
use Rattle.lock_history.proofs.log.Log.TheSendSync as log
use Rattle.floor_table.specs.contracts.description.Description as description
use Rattle.floor_table.specs.contracts.slot.Slot as slot
use Rattle.floor_table.specs.contracts.view.View as view
use Rattle.floor_table.specs.contracts.board.Law as law
use Rattle.lock_floor.specs.contracts.ties.LawTiesSlotViewDescription.TheImpl as ties
use Rattle.lock_floor.specs.contracts.pass.PassOf as pass

pub pass_send : IsSend
    (pass.the_row slot.the_row view.the_row description.the_row law.the_row ties.ghosts)
pass_send = search (
  sendable,
  crosses,
  slot_send,
  marked_send,
  marked_field_send,
  seat.the_send,
  phantom.the_send,
  held.the_send,
  held.the_field_send,
  thread_no.the_send,
  thread_no.the_field_send,
  log.the_send,
) depth 40 fits 100000

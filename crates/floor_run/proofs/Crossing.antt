-- A floor may be shared by threads.
use denote.Param.Send.{IsSync}
use Rattle.floor_table.specs.contracts.description.Description as description
use Rattle.floor_table.specs.contracts.slot.Slot as slot
use Rattle.floor_table.specs.contracts.view.View as view
use Rattle.floor_table.specs.contracts.board.Law as law
use Rattle.floor_table.specs.contracts.board.LawTableRuleSlotViewDescription.TheImpl as rule
use Rattle.lock_floor.specs.contracts.ties.LawTiesSlotViewDescription.TheImpl as ties
use Rattle.lock_floor.specs.contracts.floor.FloorOf as floor
use Rattle.lock_floor.proofs.floor.FloorOf.TheSendSync as crossing
use Rattle.floor_run.proofs.Names.{slot_send}
use Rattle.floor_table.proofs.description.Description.TheSendSync as description_crossing

pub floor_sync : IsSync
    (floor.the_row slot.the_row view.the_row description.the_row law.the_row rule.ghosts ties.ghosts)
floor_sync =
    crossing.the_sync slot.the_row view.the_row description.the_row law.the_row rule.ghosts ties.ghosts
    slot_send description_crossing.the_sync

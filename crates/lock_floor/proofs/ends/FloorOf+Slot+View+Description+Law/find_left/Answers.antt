use Rattle.lock_floor.proofs.EndStep.{find_allowed}
use Rattle.lock_floor.proofs.ends.FloorOf+Slot+View+Description+Law.find_left.Goals as goal

pub read_ended-ended-requires-clause-may : goal.read_ended-ended-requires-clause-may
read_ended-ended-requires-clause-may c =
    find_allowed c.self.inside.board.shared.key c.pass.inside.seat.me c.pass.invariant.role
    c.self.inside.board.shared.table_id.slots c.pass.inside.seat.id

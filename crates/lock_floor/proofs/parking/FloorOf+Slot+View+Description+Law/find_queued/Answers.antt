use Rattle.lock_floor.proofs.Names.{length, ap, arith, Description}
use Rattle.std.proofs.Common.{◌≡◌, ◌<◌}
use Rattle.lock_floor.proofs.FoundQueued.{find_allowed}
use Rattle.lock_floor.proofs.parking.FloorOf+Slot+View+Description+Law.find_queued.Goals as goal

pub read_wait-requires-clause-may : goal.read_wait-requires-clause-may
read_wait-requires-clause-may c =
    let key = c.self.inside.board.shared.key in
    let few : length c.as_slice.result.now ≡ length c.self.inside.description.threads = ap length c.as_slice.ensures in
    let kept = ap (λ (d : Description). length d.threads) c.self.invariant.kept in
    let low : c.args.t.0 < length key.threads =
    omega (arith, c.if-from-as_slice.false, c.from.ensures, few, kept) in
    find_allowed key c.pass.inside.seat.me c.pass.invariant.role c.args.t.0 low
    c.self.inside.board.shared.table_id.slots
    c.pass.inside.seat.id

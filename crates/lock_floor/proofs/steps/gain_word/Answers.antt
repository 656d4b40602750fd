use Rattle.lock_floor.proofs.Names.{eqb, sym, subst, Allows, Me, Slot, FloorHolds, Knowledge}
use prog.Atomic.{either}
use Rattle.lock_floor.proofs.steps.gain_word.Goals as goal

pub exchange-requires-clause-may : goal.exchange-requires-clause-may
exchange-requires-clause-may g c =
    let me : Me Slot Knowledge = c.args.seat.now.me in
    let shared = c.args.board.now.shared in
    let new = c.gained-new in
    subst (λ i. Allows (FloorHolds shared.key) shared.table_id.slots c.args.seat.now.id me i
    (λ n. either (eqb n c.args.seen) new.result n) (g.J.Tells.told me)) (sym c.lock_spot.ensures)
    (c.requires.may new.result new.ensures.word)

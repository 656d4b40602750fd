use Rattle.lock_floor.proofs.Names.{eqb, sym, ap, subst, Allows, Me, word_of, Slot, FloorHolds, Knowledge}
use Rattle.std.proofs.Common.{◌∙◌}
use prog.Atomic.{either}
use Rattle.lock_model.specs.Words.{entered}
use Rattle.lock_floor.proofs.waits.enter_word.Goals as goal

pub exchange-requires-clause-may : goal.exchange-requires-clause-may
exchange-requires-clause-may g c =
    let me : Me Slot Knowledge = c.args.seat.now.me in
    let shared = c.args.board.now.shared in
    let new = c.entered-new in
    subst (λ i. Allows (FloorHolds shared.key) shared.table_id.slots c.args.seat.now.id me i
    (λ n. either (eqb n c.args.seen) new.result n) (g.J.Tells.told me)) (sym c.lock_spot.ensures)
    (c.requires.may new.result (new.ensures.word ∙ ap (entered (word_of c.args.seen)) c.side_of.ensures))

use Rattle.lock_floor.proofs.Names.{None, ap, Me, Slot, Record, Cell, Turnstiles, Knowledge}
use Rattle.std.proofs.Common.{◌∙◌}
use Rattle.lock_floor.proofs.TwoOut.{first_of, turned_once, turned_back}
use Rattle.lock_floor.proofs.walking.sort_out.Goals as goal

pub exchange-first-requires : goal.exchange-first-requires
exchange-first-requires c = (c.requires.own, (Record c.requires.out.0, first_of _ _ _ c.requires.out.2))

pub slot_mut-requires : goal.slot_mut-requires
slot_mut-requires c = (
  c.turn.ensures.0 ∙ c.exchange-first.ensures.0 ∙ c.requires.own,
  (
    Turnstiles c.requires.out.1,
    first_of _ _ _
        (turned_once (c.args.own, Record c.requires.out.0) (c.args.at, Turnstiles c.requires.out.1)
        (c.args.own, Cell None)
        c.args.seat.now.me c.exchange-first.new.seat.me c.turn.new.self.me c.requires.out.2 c.exchange-first.ensures.3
        c.turn.ensures.2),
  ),
)

pub exchange-requires : goal.exchange-requires
exchange-requires c =
    let once = turned_once (c.args.own, Record c.requires.out.0) (c.args.at, Turnstiles c.requires.out.1)
    (c.args.own, Cell None) c.args.seat.now.me c.exchange-first.new.seat.me c.turn.new.self.me c.requires.out.2
    c.exchange-first.ensures.3 c.turn.ensures.2 in (
      c.turn-2.ensures.0 ∙ c.turn.ensures.0 ∙ c.exchange-first.ensures.0 ∙ c.requires.own,
      (
        Cell None,
        turned_back _ (c.args.at, Turnstiles c.requires.out.1) (c.args.own, Cell None)
            c.turn.new.self.me.1 c.turn-2.new.self.me.1 once (ap (λ (m : Me Slot Knowledge). m.1) c.turn-2.ensures.2),
      ),
    )

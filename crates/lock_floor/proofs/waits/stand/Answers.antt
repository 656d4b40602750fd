use Rattle.lock_floor.proofs.Names.{ℕ, None, List, [], sym, ap, Me, rest, turned, Slot, Record, Cell, Turnstiles}
use Rattle.lock_floor.proofs.Names.{Knowledge}
use Rattle.std.proofs.Common.{◌≡◌, ◌++◌, ◌∷◌, ◌∙◌}
use Rattle.lock_floor.proofs.waits.stand.Goals as goal

first_of : (xs : List (ℕ × Slot)) (a : ℕ × Slot) (ys : List (ℕ × Slot)) → xs ≡ a ∷ ys → xs ≡ a ∷ rest xs
first_of xs a ys e = e ∙ ap (λ zs. a ∷ zs) (sym (ap rest e))

-- with nothing in place of the record, and then the chain first
turned_once : (x y z : ℕ × Slot) (me put turn : Me Slot Knowledge) → me.1 ≡ x ∷ y ∷ [] → put ≡ (me.0, z ∷ rest me.1)
    → turn ≡ (put.0, turned put.1) → turn.1 ≡ y ∷ z ∷ []
turned_once x y z me put turn e f g =
    let first : put.1 ≡ z ∷ y ∷ [] = ap (λ (m : Me Slot Knowledge). m.1) f ∙ ap (λ xs. z ∷ rest xs) e in
    ap (λ (m : Me Slot Knowledge). m.1) g ∙ ap turned first

pub exchange-first-requires : goal.exchange-first-requires
exchange-first-requires c = (c.requires.own, (Record c.requires.out.0, first_of _ _ _ c.requires.out.2))

pub slot_mut-requires : goal.slot_mut-requires
slot_mut-requires c = (
  c.turn.ensures.0 ∙ c.exchange-first.ensures.0
      ∙ c.requires.own,
  (
    Turnstiles c.requires.out.1,
    first_of _ _ _
        (turned_once (c.args.own, Record c.requires.out.0) (c.args.at, Turnstiles c.requires.out.1)
        (c.args.own, Cell None)
        c.args.seat.now.me c.exchange-first.new.seat.me c.turn.new.self.me c.requires.out.2 c.exchange-first.ensures.3
        c.turn.ensures.2),
  ),
)

ends : (w : ℕ × Slot) (y z : ℕ × Slot) (xs ts : List (ℕ × Slot)) → xs ≡ y ∷ z ∷ [] → ts ≡ rest xs ++ w ∷ []
    → ts ≡ z ∷ rest ts
ends w y z xs ts e f = first_of ts z (w ∷ []) (f ∙ ap (λ ks. rest ks ++ w ∷ []) e)

pub exchange-requires : goal.exchange-requires
exchange-requires c =
    let once = turned_once (c.args.own, Record c.requires.out.0) (c.args.at, Turnstiles c.requires.out.1)
    (c.args.own, Cell None) c.args.seat.now.me c.exchange-first.new.seat.me c.turn.new.self.me c.requires.out.2
    c.exchange-first.ensures.3 c.turn.ensures.2 in (
      c.turn-2.ensures.0 ∙ c.turn.ensures.0 ∙ c.exchange-first.ensures.0
          ∙ c.requires.own,
      (
        Cell None,
        ends _ (c.args.at, Turnstiles c.requires.out.1) (c.args.own, Cell None)
            c.turn.new.self.me.1 c.turn-2.new.self.me.1 once (ap (λ (m : Me Slot Knowledge). m.1) c.turn-2.ensures.2),
      ),
    )

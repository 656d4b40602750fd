use Rattle.lock_floor.proofs.Names.{false, [], length, sym, subst, word_of, Held, Seeks, Gains, Description, MayMake}
use Rattle.lock_floor.proofs.Names.{Knowledge, Floor, Pass}
use Rattle.std.proofs.Common.{◌≡◌, ◌<◌, ◌∷◌}
use Rattle.lock_model.specs.Words.{gained}
use Rattle.lock_floor.proofs.Looking.{may_look_inside}
use Rattle.lock_floor.proofs.Beginning.{first_allowed}
use Rattle.lock_floor.proofs.rounds.FloorOf+Slot+View+Description+Law.gain_first.Goals as goal

pub gain_word-found-requires-clause-may : goal.gain_word-found-requires-clause-may
gain_word-found-requires-clause-may c new says =
    let hold : Held = record { l = c.args.l; mode = c.args.mode; by_try = false } in
    let l = c.args.l.0 in
    let seen = c.args.seen in
    let low = subst (λ (f : Floor Description). l < length f.description.locks) (sym c.self.view_is) c.requires.lock in
    let may = subst (λ (z : Floor Description × Pass Knowledge). MayMake z.0.description z.1.view
    (λ s. s.word l ≡ word_of seen) (Seeks z.1.view.thread l false ∷ Gains z.1.view.thread l c.args.mode false ∷ []))
    (λ i. (sym c.self.view_is i, sym c.pass.view_is i)) c.requires.may in
    let may_look = may_look_inside _ _ _ _ c.self.view_is c.pass.view_is l c.requires.may_look in
    let says_mine = subst (λ t. word_of new ≡ gained (word_of seen) t c.args.mode) c.pass.invariant.thread says in
    first_allowed c.self.inside.board.shared.key c.pass.inside.seat.me c.pass.invariant.role
    c.self.inside.board.shared.table_id.slots c.pass.inside.seat.id seen new hold low says_mine may may_look

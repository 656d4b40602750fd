use Rattle.lock_floor.proofs.Names.{true, [], length, sym, ap, subst, word_of, Seeks, Looks, Gains, Description}
use Rattle.lock_floor.proofs.Names.{MayMake, Knowledge, Floor, Pass}
use Rattle.std.proofs.Common.{◌≡◌, ◌<◌, ◌∷◌, ◌∙◌}
use Rattle.lock_model.specs.Words.{gained}
use Rattle.lock_floor.proofs.Beginning.{sought_allowed}
use Rattle.lock_floor.proofs.rounds.FloorOf+Slot+View+Description+Law.seek_gain.Goals as goal

pub gain_word-found-requires-clause-may : goal.gain_word-found-requires-clause-may
gain_word-found-requires-clause-may c new says =
    let hold = c.args.hold in
    let l = hold.l.0 in
    let seen = c.args.seen in
    let low = subst (λ (f : Floor Description). l < length f.description.locks) (sym c.self.view_is) c.requires.lock in
    let may = subst (λ (z : Floor Description × Pass Knowledge). MayMake z.0.description z.1.view
    (λ s. s.word l ≡ word_of seen)
    (Seeks z.1.view.thread l hold.by_try ∷ Gains z.1.view.thread l hold.mode hold.by_try ∷ []))
    (λ i. (sym c.self.view_is i, sym c.pass.view_is i)) c.requires.may in
    let may_look = subst (λ (z : Floor Description × Pass Knowledge). MayMake z.0.description z.1.view (λ s. Unit {0})
    (Seeks z.1.view.thread l hold.by_try ∷ Looks z.1.view.thread l true ∷ []))
    (λ i. (sym c.self.view_is i, sym c.pass.view_is i)) c.requires.may_look in
    let mine = ap (λ (p : Pass Knowledge). p.view.description) c.pass.view_is ∙ c.requires.own.description
    ∙ sym (ap (λ (f : Floor Description). f.description) c.self.view_is) in
    let says_mine = subst (λ t. word_of new ≡ gained (word_of seen) t hold.mode) c.pass.invariant.thread says in
    sought_allowed c.self.inside.board.shared.key c.pass.inside.seat.me c.pass.invariant.role
    c.self.inside.board.shared.table_id.slots c.pass.inside.seat.id seen new hold low says_mine may mine may_look

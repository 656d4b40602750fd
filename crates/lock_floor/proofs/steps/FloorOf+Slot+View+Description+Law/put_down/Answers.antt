use Rattle.lock_floor.proofs.Names.{[], length, sym, subst, arith, word_of, Drops, Description, MayMake, Knowledge}
use Rattle.lock_floor.proofs.Names.{Floor, Pass}
use Rattle.std.proofs.Common.{◌≡◌, ◌<◌, ◌∷◌}
use Rattle.lock_floor.proofs.Looking.{may_look_inside}
use Rattle.lock_floor.proofs.Gaining.{drop_allowed}
use Rattle.lock_floor.proofs.Tied.{tied_without}
use Rattle.lock_floor.proofs.steps.FloorOf+Slot+View+Description+Law.put_down.Goals as goal

pub drop_word-found-requires-clause-may : goal.drop_word-found-requires-clause-may
drop_word-found-requires-clause-may c new says =
    let l = c.args.l.0 in
    let mode = c.args.mode in
    let seen = c.args.seen in
    let low = subst (λ (f : Floor Description). l < length f.description.locks) (sym c.self.view_is) c.requires.lock in
    let may = subst (λ (z : Floor Description × Pass Knowledge). MayMake z.0.description z.1.view
    (λ s. s.word l ≡ word_of seen) (Drops z.1.view.thread l mode ∷ []))
    (λ i. (sym c.self.view_is i, sym c.pass.view_is i)) c.requires.may in
    let may_look = may_look_inside _ _ _ _ c.self.view_is c.pass.view_is l c.requires.may_look in
    drop_allowed c.self.inside.board.shared.key c.pass.inside.seat.me c.pass.invariant.role
    c.self.inside.board.shared.table_id.slots c.pass.inside.seat.id seen new l mode low says may may_look

pub invariant_of-pass-2 : goal.invariant_of-pass-2
invariant_of-pass-2 c =
    let told = c.drop_word-found.ensures.told.0 c.if-found-seen.false in
    tied_without c.pass.inside.who.0 c.args.l.0 c.pass.inside.held c.leave.new.held c.pass.inside.marked
    c.pass.inside.log c.pass.inside.finished c.pass.inside.seat.me c.drop_word-found.new.seat.me c.pass.invariant told.0
    c.leave.ensures.left (omega (arith, c.pass.invariant.room, c.leave.ensures.room))

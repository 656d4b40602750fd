use Rattle.lock_floor.proofs.Names
use Names.{false, [], refl, sym, ap, subst, Me, Allows, NoWalk, EndsWalk, Description, Slot, spot, latch_line}
use Names.{FloorHolds, MayMake, Makes, Knowledge, seeing, Floor, Pass, hopped, turnstiles_place}
use Rattle.std.proofs.Common.{◌≡◌, ◌∷◌, ◌∙◌}
use Rattle.lock_floor.proofs.WalkCall.{call_view, call_step, call_tied}
use Rattle.lock_floor.proofs.WalkEnd.{Ended, end_allowed}
use Rattle.lock_floor.proofs.WalkStep.{Hopped}
use Rattle.lock_floor.proofs.Tied.{of_floor_still}
use Rattle.lock_floor.proofs.walking.FloorOf+Slot+View+Description+Law.end_walk.Goals as goal

pub ended-requires-clause-may : goal.ended-requires-clause-may
ended-requires-clause-may c =
    let key : Description = c.self.inside.board.shared.key in
    let me : Me Slot Knowledge = c.pass.inside.seat.me in
    let slots = c.self.inside.board.shared.table_id.slots in
    let one = subst (λ (f : Floor Description). f.description.chains ≡ 1) (sym c.self.view_is) c.requires.one_chain in
    let at = c.turnstiles_slot-chain.ensures
    ∙ ap (λ (f : Floor Description). turnstiles_place f.description) (sym c.self.view_is) in
    let may = subst (λ (z : Floor Description × Pass Knowledge). MayMake z.0.description z.1.view (λ s. Unit {0})
    (EndsWalk z.1.view.thread ∷ [])) (λ i. (sym c.self.view_is i, sym c.pass.view_is i)) c.requires.may in
    subst (λ j. Allows (FloorHolds key) slots c.pass.inside.seat.id me (spot (latch_line j)) (λ n. n) (Ended key me))
    (sym at)
    (end_allowed key me c.pass.invariant.role one c.pass.invariant.out slots c.pass.inside.seat.id may)

module _ (c : goal.After-ended) where
  abbrev key : Description
  key = c.self.inside.board.shared.key

  abbrev me : Me Slot Knowledge
  me = c.pass.inside.seat.me

  abbrev behind : Me Slot Knowledge
  behind = c.ended.new.seat.me

  told : Hopped key (EndsWalk me.0.thread) NoWalk me behind
  told = c.ended.ensures.told.1

  going : c.pass.inside.finished ≡ false
  going = ap (λ (p : Pass Knowledge). p.finished) c.pass.view_is ∙ c.requires.own.unfinished

  view : behind.0 ≡ seeing behind.0.seen (hopped me.0 NoWalk me.0.out)
  view = call_view key me me behind EndsWalk NoWalk refl told
      ∙ ap (λ xs. seeing behind.0.seen (hopped me.0 NoWalk xs)) c.pass.invariant.out

pub invariant_of-pass : goal.invariant_of-pass
invariant_of-pass c =
    call_tied (key c) (me c) (me c) (behind c) EndsWalk NoWalk refl (told c) c.pass.inside.who.0 c.pass.inside.held
    c.pass.inside.marked c.pass.inside.log c.pass.inside.finished (going c) c.pass.invariant

pub returns-clause-own : goal.returns-clause-own
returns-clause-own c =
    of_floor_still _ _ _ _ c.pass.view_is c.requires.own c.ended.ensures.own (ap (λ (w : Knowledge). w.description)
    (view c)) refl

pub returns-clause-view : goal.returns-clause-view
returns-clause-view c = view c
    ∙ ap (λ (p : Pass Knowledge). seeing c.ended.new.seat.me.0.seen (hopped p.view NoWalk p.view.out)) c.pass.view_is

pub returns-clause-step : goal.returns-clause-step
returns-clause-step c =
    subst (λ (z : Floor Description × Pass Knowledge). Makes z.0.description (EndsWalk z.1.view.thread ∷ []) z.1.view
    c.ended.new.seat.me.0) (λ i. (c.self.view_is i, c.pass.view_is i))
    (call_step (key c) (me c) (me c) (behind c) EndsWalk NoWalk refl (told c))

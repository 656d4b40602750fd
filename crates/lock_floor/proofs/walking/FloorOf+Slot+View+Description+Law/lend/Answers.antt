use Rattle.lock_floor.proofs.Names.{ℕ, false, refl, sym, ap, subst, Me, walk_of, Lends, Description, Slot, Knowledge}
use Rattle.lock_floor.proofs.Names.{Floor, Pass, MayLendTo, StepsInHop, turnstiles_place}
use Rattle.std.proofs.Common.{◌≡◌, ◌∙◌}
use Rattle.lock_floor.proofs.WalkCall.{call_view, call_tied, call_in_hop}
use Rattle.lock_floor.proofs.WalkStep.{Hopped}
use Rattle.lock_floor.proofs.WalkWork.{LentOut, lend_before, lend_made_out, lend_may}
use Rattle.lock_floor.proofs.Tied.{of_floor_still}
use Rattle.lock_floor.proofs.walking.FloorOf+Slot+View+Description+Law.lend.Goals as goal

-- what the call needs, on the floor and the pass as they are inside
module _ (f g : Floor Description) (p q : Pass Knowledge) (same_floor : f ≡ g) (same_pass : p ≡ q) where
  may_inside : (l o : ℕ) → MayLendTo g.description l o q.view → MayLendTo f.description l o p.view
  may_inside l o = subst (λ (z : Floor Description × Pass Knowledge). MayLendTo z.0.description l o z.1.view)
      (λ i. (sym same_floor i, sym same_pass i))

  at_inside : (at : ℕ) → at ≡ turnstiles_place g.description → at ≡ turnstiles_place f.description
  at_inside at e = e ∙ ap (λ (k : Floor Description). turnstiles_place k.description) (sym same_floor)

pub lend_out-walk-requires-clause-out : goal.lend_out-walk-requires-clause-out
lend_out-walk-requires-clause-out c =
    lend_before c.self.inside.board.shared.key c.pass.inside.seat.me c.args.l.0 c.args.o.0 c.from-own.result
    c.turnstiles_slot-chain.result
    (may_inside _ _ _ _ c.self.view_is c.pass.view_is c.args.l.0 c.args.o.0 c.requires.may) c.pass.invariant.out
    c.from-own.ensures
    (at_inside _ _ _ _ c.self.view_is c.pass.view_is c.turnstiles_slot-chain.result c.turnstiles_slot-chain.ensures)

pub lent-requires-clause-may : goal.lent-requires-clause-may
lent-requires-clause-may c =
    let key = c.self.inside.board.shared.key in
    let me = c.pass.inside.seat.me in
    let worked = c.lend_out-walk.new.seat.me in
    let may = may_inside _ _ _ _ c.self.view_is c.pass.view_is c.args.l.0 c.args.o.0 c.requires.may in
    let at = at_inside _ _ _ _ c.self.view_is c.pass.view_is c.turnstiles_slot-chain.result
    c.turnstiles_slot-chain.ensures in
    let outs = subst (λ d. LentOut d c.args.l.0 c.from-own.result c.turnstiles_slot-chain.result c.lend_out-walk.result
    me
    worked) c.self.invariant.kept c.lend_out-walk.ensures.out in
    lend_may key me c.args.l.0 c.args.o.0 c.from-own.result c.turnstiles_slot-chain.result may c.pass.invariant.out
    c.from-own.ensures at worked c.lend_out-walk.ensures.view c.lend_out-walk.result outs c.pass.invariant.role
    c.self.inside.board.shared.table_id.slots c.lend_out-walk.new.seat.id

module _ (c : goal.After-lent) where
  abbrev its_key : Description
  its_key = c.self.inside.board.shared.key

  abbrev old : Me Slot Knowledge
  old = c.pass.inside.seat.me

  abbrev mid : Me Slot Knowledge
  mid = c.lend_out-walk.new.seat.me

  abbrev behind : Me Slot Knowledge
  behind = c.lent.new.seat.me

  abbrev h : ℕ
  h = c.lent.ensures.told.1.0

  told : Hopped its_key (Lends mid.0.thread c.args.l.0 c.args.o.0 h) (walk_of c.lend_out-walk.result) mid behind
  told = c.lent.ensures.told.1.1

  going : c.pass.inside.finished ≡ false
  going = ap (λ (p : Pass Knowledge). p.finished) c.pass.view_is ∙ c.requires.own.unfinished

pub invariant_of-pass : goal.invariant_of-pass
invariant_of-pass c =
    call_tied (its_key c) (old c) (mid c) (behind c) (λ t. Lends t c.args.l.0 c.args.o.0 (h c))
    (walk_of c.lend_out-walk.result) c.lend_out-walk.ensures.view (told c) c.pass.inside.who.0 c.pass.inside.held
    c.pass.inside.marked c.pass.inside.log c.pass.inside.finished (going c) c.pass.invariant

pub returns-clause-own : goal.returns-clause-own
returns-clause-own c =
    of_floor_still _ _ _ _ c.pass.view_is c.requires.own (c.lent.ensures.own ∙ c.lend_out-walk.ensures.own)
    (ap (λ (w : Knowledge). w.description) (call_view (its_key c) (old c) (mid c) (behind c) (λ t. Lends t c.args.l.0
    c.args.o.0 (h c)) (walk_of c.lend_out-walk.result) c.lend_out-walk.ensures.view (told c))) refl

pub returns-clause-step : goal.returns-clause-step
returns-clause-step c =
    let its_may = may_inside _ _ _ _ c.self.view_is c.pass.view_is c.args.l.0 c.args.o.0 c.requires.may in
    let at = at_inside _ _ _ _ c.self.view_is c.pass.view_is c.turnstiles_slot-chain.result
    c.turnstiles_slot-chain.ensures in
    let told_out = subst (λ d. LentOut d c.args.l.0 c.from-own.result c.turnstiles_slot-chain.result
    c.lend_out-walk.result (old c) (mid c)) c.self.invariant.kept c.lend_out-walk.ensures.out in
    let out = lend_made_out (its_key c) (old c) c.args.l.0 c.args.o.0 c.from-own.result c.turnstiles_slot-chain.result
    its_may
    c.pass.invariant.out c.from-own.ensures at (mid c) c.lend_out-walk.ensures.view c.lend_out-walk.result told_out in (
      h c,
      subst (λ (z : Floor Description × Pass Knowledge). StepsInHop z.0.description c.args.o.0
          (Lends z.1.view.thread c.args.l.0 c.args.o.0 (h c)) (walk_of c.lend_out-walk.result) z.1.view
          (behind c).0) (λ i. (c.self.view_is i, c.pass.view_is i))
          (call_in_hop (its_key c) (old c) (mid c) (behind c) (λ t. Lends t c.args.l.0 c.args.o.0 (h c))
          (walk_of c.lend_out-walk.result) c.lend_out-walk.ensures.view (told c) c.args.o.0 _ _ out),
    )

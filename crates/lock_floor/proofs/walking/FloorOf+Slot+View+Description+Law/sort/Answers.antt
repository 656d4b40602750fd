use Rattle.lock_floor.proofs.Names.{ℕ, false, refl, sym, ap, subst, inl, inr, Me, walk_of, NoWalk, Shifts, EndsWalk}
use Rattle.lock_floor.proofs.Names.{Description, Slot, Knowledge, Floor, Pass, MaySort, StepsInHop, turnstiles_place}
use Rattle.std.proofs.Common.{◌≡◌, ◌∙◌}
use Rattle.lock_floor.proofs.WalkCall.{call_view, call_tied, call_in_hop}
use Rattle.lock_floor.proofs.WalkStep.{Hopped}
use Rattle.lock_floor.proofs.WalkWork.{SortedOut, UnsortedOut, sort_before, sorted_out, unsorted_out, shift_may, end_may}
use Rattle.lock_floor.proofs.Tied.{of_floor_still}
use Rattle.lock_floor.proofs.walking.FloorOf+Slot+View+Description+Law.sort.Goals as goal

-- what the call needs, on the floor and the pass as they are inside
module _ (f g : Floor Description) (p q : Pass Knowledge) (same_floor : f ≡ g) (same_pass : p ≡ q) where
  may_inside : (o : ℕ) → MaySort g.description o q.view → MaySort f.description o p.view
  may_inside o = subst (λ (z : Floor Description × Pass Knowledge). MaySort z.0.description o z.1.view)
      (λ i. (sym same_floor i, sym same_pass i))

  at_inside : (at : ℕ) → at ≡ turnstiles_place g.description → at ≡ turnstiles_place f.description
  at_inside at e = e ∙ ap (λ (k : Floor Description). turnstiles_place k.description) (sym same_floor)

pub sort_out-sorted-requires-clause-out : goal.sort_out-sorted-requires-clause-out
sort_out-sorted-requires-clause-out c =
    sort_before c.self.inside.board.shared.key c.pass.inside.seat.me c.args.o.0 c.from-own.result
    c.turnstiles_slot-chain.result (may_inside _ _ _ _ c.self.view_is c.pass.view_is c.args.o.0 c.requires.may)
    c.pass.invariant.out c.from-own.ensures
    (at_inside _ _ _ _ c.self.view_is c.pass.view_is c.turnstiles_slot-chain.result c.turnstiles_slot-chain.ensures)

pub shifted-requires-clause-may : goal.shifted-requires-clause-may
shifted-requires-clause-may c =
    let key = c.self.inside.board.shared.key in
    let me = c.pass.inside.seat.me in
    let worked = c.sort_out-sorted.new.seat.me in
    let may = may_inside _ _ _ _ c.self.view_is c.pass.view_is c.args.o.0 c.requires.may in
    let at = at_inside _ _ _ _ c.self.view_is c.pass.view_is c.turnstiles_slot-chain.result
    c.turnstiles_slot-chain.ensures in
    let outs = subst (λ d. SortedOut d c.in-Some.l.0 c.from-own.result c.turnstiles_slot-chain.result c.in-Some.walk me
    worked) c.self.invariant.kept c.in-Some.ensures.some in
    shift_may key me c.args.o.0 c.from-own.result c.turnstiles_slot-chain.result may c.pass.invariant.out
    c.from-own.ensures at worked c.sort_out-sorted.ensures.view c.in-Some.l.0 c.in-Some.walk outs c.pass.invariant.role
    c.self.inside.board.shared.table_id.slots c.sort_out-sorted.new.seat.id

pub ended-requires-clause-may : goal.ended-requires-clause-may
ended-requires-clause-may c =
    let key = c.self.inside.board.shared.key in
    let me = c.pass.inside.seat.me in
    let worked = c.sort_out-sorted.new.seat.me in
    let may = may_inside _ _ _ _ c.self.view_is c.pass.view_is c.args.o.0 c.requires.may in
    let at = at_inside _ _ _ _ c.self.view_is c.pass.view_is c.turnstiles_slot-chain.result
    c.turnstiles_slot-chain.ensures in
    let outs = subst (λ d. UnsortedOut d c.from-own.result c.turnstiles_slot-chain.result me worked)
    c.self.invariant.kept c.in-None.ensures.none in
    end_may key me c.args.o.0 c.from-own.result c.turnstiles_slot-chain.result may c.pass.invariant.out
    c.from-own.ensures at worked c.sort_out-sorted.ensures.view outs c.pass.invariant.role
    c.self.inside.board.shared.table_id.slots c.sort_out-sorted.new.seat.id

-- 1. It was sorted anew

module _ (c : goal.After-shifted) where
  abbrev key : Description
  key = c.self.inside.board.shared.key

  abbrev me : Me Slot Knowledge
  me = c.pass.inside.seat.me

  abbrev mid : Me Slot Knowledge
  mid = c.sort_out-sorted.new.seat.me

  abbrev behind : Me Slot Knowledge
  behind = c.shifted.new.seat.me

  told : Hopped key (Shifts mid.0.thread c.args.o.0 c.in-Some.l.0) (walk_of c.in-Some.walk) mid behind
  told = c.shifted.ensures.told.1

  going : c.pass.inside.finished ≡ false
  going = ap (λ (p : Pass Knowledge). p.finished) c.pass.view_is ∙ c.requires.own.unfinished

pub invariant_of-pass : goal.invariant_of-pass
invariant_of-pass c =
    call_tied (key c) (me c) (mid c) (behind c) (λ t. Shifts t c.args.o.0 c.in-Some.l.0) (walk_of c.in-Some.walk)
    c.sort_out-sorted.ensures.view (told c) c.pass.inside.who.0 c.pass.inside.held c.pass.inside.marked
    c.pass.inside.log
    c.pass.inside.finished (going c) c.pass.invariant

pub returns-in-Some-clause-own : goal.returns-in-Some-clause-own
returns-in-Some-clause-own c =
    of_floor_still _ _ _ _ c.pass.view_is c.requires.own (c.shifted.ensures.own ∙ c.sort_out-sorted.ensures.own)
    (ap (λ (w : Knowledge). w.description) (call_view (key c) (me c) (mid c) (behind c) (λ t. Shifts t c.args.o.0
    c.in-Some.l.0) (walk_of c.in-Some.walk) c.sort_out-sorted.ensures.view (told c))) refl

pub returns-in-Some-clause-step : goal.returns-in-Some-clause-step
returns-in-Some-clause-step c =
    let may = may_inside _ _ _ _ c.self.view_is c.pass.view_is c.args.o.0 c.requires.may in
    let at = at_inside _ _ _ _ c.self.view_is c.pass.view_is c.turnstiles_slot-chain.result
    c.turnstiles_slot-chain.ensures in
    let outs = subst (λ d. SortedOut d c.in-Some.l.0 c.from-own.result c.turnstiles_slot-chain.result c.in-Some.walk
    (me c)
    (mid c)) c.self.invariant.kept c.in-Some.ensures.some in
    let out = sorted_out (key c) (me c) c.args.o.0 c.from-own.result c.turnstiles_slot-chain.result may
    c.pass.invariant.out
    c.from-own.ensures at (mid c) c.sort_out-sorted.ensures.view c.in-Some.l.0 c.in-Some.walk outs in
    let t = c.args.pass.now.view.thread in (
      Shifts t c.args.o.0 c.in-Some.l.0,
      inl (c.in-Some.l.0, refl),
      subst (λ (z : Floor Description × Pass Knowledge). StepsInHop z.0.description c.args.o.0
          (Shifts z.1.view.thread c.args.o.0 c.in-Some.l.0) (walk_of c.in-Some.walk) z.1.view (behind c).0)
          (λ i. (c.self.view_is i, c.pass.view_is i))
          (call_in_hop (key c) (me c) (mid c) (behind c) (λ t. Shifts t c.args.o.0 c.in-Some.l.0)
          (walk_of c.in-Some.walk) c.sort_out-sorted.ensures.view (told c) c.args.o.0 _ _ out),
    )

-- 2. It stands nowhere

module _ (c : goal.After-ended) where
  abbrev its_key : Description
  its_key = c.self.inside.board.shared.key

  abbrev old : Me Slot Knowledge
  old = c.pass.inside.seat.me

  abbrev between : Me Slot Knowledge
  between = c.sort_out-sorted.new.seat.me

  abbrev new : Me Slot Knowledge
  new = c.ended.new.seat.me

  its_told : Hopped its_key (EndsWalk between.0.thread) NoWalk between new
  its_told = c.ended.ensures.told.1

  its_going : c.pass.inside.finished ≡ false
  its_going = ap (λ (p : Pass Knowledge). p.finished) c.pass.view_is ∙ c.requires.own.unfinished

pub invariant_of-pass-in-None : goal.invariant_of-pass-in-None
invariant_of-pass-in-None c =
    call_tied (its_key c) (old c) (between c) (new c) EndsWalk NoWalk c.sort_out-sorted.ensures.view (its_told c)
    c.pass.inside.who.0 c.pass.inside.held c.pass.inside.marked c.pass.inside.log c.pass.inside.finished (its_going c)
    c.pass.invariant

pub returns-in-None-clause-own : goal.returns-in-None-clause-own
returns-in-None-clause-own c =
    of_floor_still _ _ _ _ c.pass.view_is c.requires.own (c.ended.ensures.own ∙ c.sort_out-sorted.ensures.own)
    (ap (λ (w : Knowledge). w.description) (call_view (its_key c) (old c) (between c) (new c) EndsWalk NoWalk
    c.sort_out-sorted.ensures.view (its_told c))) refl

pub returns-in-None-clause-step : goal.returns-in-None-clause-step
returns-in-None-clause-step c =
    let may = may_inside _ _ _ _ c.self.view_is c.pass.view_is c.args.o.0 c.requires.may in
    let at = at_inside _ _ _ _ c.self.view_is c.pass.view_is c.turnstiles_slot-chain.result
    c.turnstiles_slot-chain.ensures in
    let outs = subst (λ d. UnsortedOut d c.from-own.result c.turnstiles_slot-chain.result (old c) (between c))
    c.self.invariant.kept c.in-None.ensures.none in
    let out = unsorted_out (its_key c) (old c) c.args.o.0 c.from-own.result c.turnstiles_slot-chain.result may
    c.pass.invariant.out c.from-own.ensures at (between c) c.sort_out-sorted.ensures.view outs in
    let t = c.args.pass.now.view.thread in (
      EndsWalk t,
      inr refl,
      subst (λ (z : Floor Description × Pass Knowledge). StepsInHop z.0.description c.args.o.0
          (EndsWalk z.1.view.thread) NoWalk z.1.view (new c).0) (λ i. (c.self.view_is i, c.pass.view_is i))
          (call_in_hop (its_key c) (old c) (between c) (new c) EndsWalk NoWalk c.sort_out-sorted.ensures.view
          (its_told c)
          c.args.o.0 _ _ out),
    )

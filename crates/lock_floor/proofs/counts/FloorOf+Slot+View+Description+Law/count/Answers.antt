use Rattle.lock_floor.proofs.Names.{[], refl, sym, ap, subst, Me, Description, Slot, MayMake, Makes, Knowledge, seeing}
use Rattle.lock_floor.proofs.Names.{counted, counts_by, Floor, Pass}
use Rattle.std.proofs.Common.{◌≡◌, ◌∷◌, ◌∙◌}
use Rattle.lock_floor.proofs.CountStep.{count_allowed, count_stays}
use Rattle.lock_floor.proofs.Tied.{of_floor_still, tied_on}
use Rattle.lock_floor.proofs.counts.FloorOf+Slot+View+Description+Law.count.Goals as goal

pub add_awake-requires-clause-may : goal.add_awake-requires-clause-may
add_awake-requires-clause-may c =
    let how = c.args.how in
    let shared = c.self.inside.board.shared in
    let may = subst (λ (z : Floor Description × Pass Knowledge). MayMake z.0.description z.1.view (λ s. Unit {0})
    (counts_by how z.1.view.thread ∷ [])) (λ i. (sym c.self.view_is i, sym c.pass.view_is i)) c.requires.may in
    count_allowed shared.key c.pass.inside.seat.me c.pass.invariant.role how c.added.result c.added.ensures
    shared.table_id.slots c.pass.inside.seat.id may

behind_is : (c : goal.After-add_awake)
    → c.add_awake.new.seat.me ≡ (
      seeing c.add_awake.new.seat.me.0.seen (counted c.args.how c.add_awake.result c.pass.inside.seat.me.0),
      c.pass.inside.seat.me.1,
    )
behind_is c = c.add_awake.ensures.told.0

pub invariant_of-pass : goal.invariant_of-pass
invariant_of-pass c =
    let then : Knowledge = counted c.args.how c.add_awake.result c.pass.inside.seat.me.0 in
    let k = count_stays c.args.how c.add_awake.result c.pass.inside.seat.me.0 in
    let v : c.add_awake.new.seat.me.0 ≡ seeing c.add_awake.new.seat.me.0.seen then =
    ap (λ (m : Me Slot Knowledge). m.0) (behind_is c) in
    tied_on c.pass.inside.who.0 c.pass.inside.held c.pass.inside.marked c.pass.inside.log c.pass.inside.finished
    c.pass.inside.seat.me c.add_awake.new.seat.me then
    (ap (λ (p : Pass Knowledge). p.finished) c.pass.view_is ∙ c.requires.own.unfinished) c.pass.invariant v
    (ap (λ (m : Me Slot Knowledge). m.1) (behind_is c) ∙ c.pass.invariant.out ∙ sym (ap (λ w. w.out) v ∙ k.out))
    (λ i. (k.role i, k.description i, k.thread i, k.log i, k.spare i)) k.held k.marked

pub returns-clause-own : goal.returns-clause-own
returns-clause-own c =
    of_floor_still _ _ _ _ c.pass.view_is c.requires.own c.add_awake.ensures.own
    (ap (λ (m : Me Slot Knowledge). m.0.description) (behind_is c) ∙ (count_stays c.args.how c.add_awake.result
    c.pass.inside.seat.me.0).description) refl

pub returns-clause-view : goal.returns-clause-view
returns-clause-view c = ap (λ (m : Me Slot Knowledge). m.0) (behind_is c)
    ∙ ap (λ (p : Pass Knowledge). seeing c.add_awake.new.seat.me.0.seen (counted c.args.how c.add_awake.result p.view))
    c.pass.view_is

pub returns-clause-step : goal.returns-clause-step
returns-clause-step c =
    subst (λ (z : Floor Description × Pass Knowledge). Makes z.0.description
    (counts_by c.args.how z.1.view.thread ∷ []) z.1.view c.add_awake.new.seat.me.0)
    (λ i. (c.self.view_is i, c.pass.view_is i)) c.add_awake.ensures.told.1

pub returns-clause-found : goal.returns-clause-found
returns-clause-found c =
    subst (λ (z : Floor Description × Pass Knowledge). (m : Makes z.0.description
    (counts_by c.args.how z.1.view.thread ∷ []) z.1.view c.add_awake.new.seat.me.0)
    × (m.state.awake ≡ c.add_awake.result)) (λ i. (c.self.view_is i, c.pass.view_is i))
    (c.add_awake.ensures.told.1, c.add_awake.ensures.told.2)

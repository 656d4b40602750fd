use Rattle.lock_floor.proofs.Names.{cond, [], refl, sym, ap, subst, Me, Allows, Description, Slot, spot, wait_line}
use Rattle.lock_floor.proofs.Names.{FloorHolds, MayMake, Makes, Knowledge, seeing, Floor, Pass, readies, readied}
use Rattle.std.proofs.Common.{◌≡◌, ◌∷◌, ◌∙◌}
use Rattle.lock_floor.proofs.Readying.{Readied, ready_allowed, ready_stays}
use Rattle.lock_floor.proofs.Tied.{of_floor_still, tied_on}
use Rattle.lock_floor.proofs.waits.FloorOf+Slot+View+Description+Law.ready.Goals as goal

pub say_wait-requires-clause-may : goal.say_wait-requires-clause-may
say_wait-requires-clause-may c =
    let q = c.args.q in
    let queued = c.args.queued in
    let me : Me Slot Knowledge = c.pass.inside.seat.me in
    let shared = c.self.inside.board.shared in
    let may = subst (λ (z : Floor Description × Pass Knowledge). MayMake z.0.description z.1.view (λ s. Unit {0})
    (readies queued z.1.view.thread q ∷ [])) (λ i. (sym c.self.view_is i, sym c.pass.view_is i)) c.requires.may in
    subst (λ t. Allows (FloorHolds shared.key) shared.table_id.slots c.pass.inside.seat.id me (spot (wait_line t))
    (λ n. cond queued 1 0) (λ n. Readied shared.key q queued me (cond queued 1 0))) (sym c.pass.invariant.thread)
    (ready_allowed shared.key me c.pass.invariant.role q shared.table_id.slots c.pass.inside.seat.id queued may)

behind_is : (c : goal.After-say_wait)
    → c.say_wait.new.seat.me ≡
    (seeing c.say_wait.new.seat.me.0.seen (readied c.args.queued c.pass.inside.seat.me.0), c.pass.inside.seat.me.1)
behind_is c = c.say_wait.ensures.told.0

pub invariant_of-pass : goal.invariant_of-pass
invariant_of-pass c =
    let k = ready_stays c.args.queued c.pass.inside.seat.me.0 in
    let v : c.say_wait.new.seat.me.0 ≡ seeing c.say_wait.new.seat.me.0.seen
    (readied c.args.queued c.pass.inside.seat.me.0) = ap (λ (m : Me Slot Knowledge). m.0) (behind_is c) in
    tied_on c.pass.inside.who.0 c.pass.inside.held c.pass.inside.marked c.pass.inside.log c.pass.inside.finished
    c.pass.inside.seat.me c.say_wait.new.seat.me (readied c.args.queued c.pass.inside.seat.me.0)
    (ap (λ (p : Pass Knowledge). p.finished) c.pass.view_is ∙ c.requires.own.unfinished) c.pass.invariant v
    (ap (λ (m : Me Slot Knowledge). m.1) (behind_is c) ∙ c.pass.invariant.out ∙ sym (ap (λ w. w.out) v ∙ k.out))
    (λ i. (k.role i, k.description i, k.thread i, (k.share i).log, k.spare i)) (ap (λ x. x.held) k.share)
    (ap (λ x. x.doing.marked) k.share)

pub returns-clause-own : goal.returns-clause-own
returns-clause-own c =
    of_floor_still _ _ _ _ c.pass.view_is c.requires.own c.say_wait.ensures.own
    (ap (λ (m : Me Slot Knowledge). m.0.description) (behind_is c) ∙ (ready_stays c.args.queued
    c.pass.inside.seat.me.0).description) refl

pub returns-clause-view : goal.returns-clause-view
returns-clause-view c = ap (λ (m : Me Slot Knowledge). m.0) (behind_is c)
    ∙ ap (λ (p : Pass Knowledge). seeing c.say_wait.new.seat.me.0.seen (readied c.args.queued p.view)) c.pass.view_is

pub returns-clause-step : goal.returns-clause-step
returns-clause-step c =
    subst (λ (z : Floor Description × Pass Knowledge). Makes z.0.description
    (readies c.args.queued z.1.view.thread c.args.q ∷ []) z.1.view c.say_wait.new.seat.me.0)
    (λ i. (c.self.view_is i, c.pass.view_is i)) c.say_wait.ensures.told.1

use Rattle.lock_calls.proofs.Names.{inl, inr, sym, ap, subst, TakeAt, Spins, Contends, wakes_nobody, TakeNext}
use Rattle.lock_calls.proofs.Names.{IsUnderAcquiring, IsBetween, TakesOn, TakesPart}
use Rattle.std.proofs.Common.{◌∙◌}
use Rattle.lock_calls.proofs.Calls.{takes_part, unmarked_there}
use Rattle.lock_calls.proofs.taking.acquire_on.Goals as goal

pub come-requires-clause-under_way : goal.come-requires-clause-under_way
come-requires-clause-under_way c =
    subst (λ a. IsUnderAcquiring c.args.floor.now.description c.args.l c.args.mode a c.args.pass.now.view)
    (c.in-Spins.is ∙ ap Spins c.if-left-eq0.true) c.requires.under_way

pub returns-then-left-eq0-clause-on : goal.returns-then-left-eq0-clause-on
returns-then-left-eq0-clause-on c = (
  subst (λ a. TakesOn c.args.floor.now.description c.args.l c.args.mode a c.come.result c.args.pass.now.view
      c.come.new.pass.view)
      (sym (c.in-Spins.is ∙ ap Spins c.if-left-eq0.true)) c.come.ensures.on,
  wakes_nobody c.args.pass.now.view c.come.new.pass.view
      (unmarked_there c.args.pass.now.view (c.in-Spins.is ∙ ap Spins c.if-left-eq0.true)
      c.requires.under_way.calling.unmarked),
)

pub spin-requires-clause-under_way : goal.spin-requires-clause-under_way
spin-requires-clause-under_way c =
    subst (λ a. IsUnderAcquiring c.args.floor.now.description c.args.l c.args.mode a c.args.pass.now.view)
    c.in-Spins.is c.requires.under_way

pub returns-else-left-eq0-clause-on : goal.returns-else-left-eq0-clause-on
returns-else-left-eq0-clause-on c =
    let part = takes_part c.args.floor.now.description c.args.l c.args.mode (Spins c.in-Spins.left) c.spin.result
    c.args.pass.now.view c.spin.new.pass.view c.spin.ensures.gained c.spin.ensures.end c.spin.ensures.on
    (wakes_nobody c.args.pass.now.view c.spin.new.pass.view
    (unmarked_there c.args.pass.now.view c.in-Spins.is
    c.requires.under_way.calling.unmarked)) in
    subst (λ (z : TakeAt × TakeNext). TakesPart c.args.floor.now.description c.args.l c.args.mode z.0 z.1
    c.args.pass.now.view c.spin.new.pass.view) (λ i. (sym c.in-Spins.is i, sym c.stands.ensures i)) part

pub come_in-requires-clause-under_way : goal.come_in-requires-clause-under_way
come_in-requires-clause-under_way c =
    subst (λ a. IsUnderAcquiring c.args.floor.now.description c.args.l c.args.mode a c.args.pass.now.view)
    c.in-ComesIn.is c.requires.under_way

pub returns-in-ComesIn-clause-on : goal.returns-in-ComesIn-clause-on
returns-in-ComesIn-clause-on c = (
  subst (λ a. TakesOn c.args.floor.now.description c.args.l c.args.mode a c.come_in.result c.args.pass.now.view
      c.come_in.new.pass.view)
      (sym c.in-ComesIn.is) c.come_in.ensures.on,
  wakes_nobody c.args.pass.now.view c.come_in.new.pass.view
      (unmarked_there c.args.pass.now.view c.in-ComesIn.is
      c.requires.under_way.calling.unmarked),
)

pub contend-requires-clause-under_way : goal.contend-requires-clause-under_way
contend-requires-clause-under_way c =
    subst (λ a. IsUnderAcquiring c.args.floor.now.description c.args.l c.args.mode a c.args.pass.now.view)
    c.in-Contends.is c.requires.under_way

pub returns-in-Contends-clause-on : goal.returns-in-Contends-clause-on
returns-in-Contends-clause-on c =
    let part = takes_part c.args.floor.now.description c.args.l c.args.mode (Contends c.in-Contends.seen)
    c.contend.result c.args.pass.now.view c.contend.new.pass.view c.contend.ensures.gained c.contend.ensures.end
    c.contend.ensures.on
    (wakes_nobody c.args.pass.now.view c.contend.new.pass.view
    (unmarked_there c.args.pass.now.view c.in-Contends.is
    c.requires.under_way.calling.unmarked)) in
    subst (λ (z : TakeAt × TakeNext). TakesPart c.args.floor.now.description c.args.l c.args.mode z.0 z.1
    c.args.pass.now.view c.contend.new.pass.view)
    (λ i. (sym c.in-Contends.is i, sym c.stands-in-Contends.ensures i)) part

pub walk_on-requires-clause-under_way : goal.walk_on-requires-clause-under_way
walk_on-requires-clause-under_way c =
    subst (λ a. IsUnderAcquiring c.args.floor.now.description c.args.l c.args.mode a c.args.pass.now.view)
    c.in-Walks.is c.requires.under_way

pub returns-in-Walks-clause-on : goal.returns-in-Walks-clause-on
returns-in-Walks-clause-on c = (
  subst (λ a. TakesOn c.args.floor.now.description c.args.l c.args.mode a c.walk_on.result c.args.pass.now.view
      c.walk_on.new.pass.view)
      (sym c.in-Walks.is) c.walk_on.ensures.on,
  wakes_nobody c.args.pass.now.view c.walk_on.new.pass.view
      (unmarked_there c.args.pass.now.view c.in-Walks.is
      c.requires.under_way.calling.unmarked),
)

pub hop_on-requires-clause-under_way : goal.hop_on-requires-clause-under_way
hop_on-requires-clause-under_way c =
    subst (λ a. IsUnderAcquiring c.args.floor.now.description c.args.l c.args.mode a c.args.pass.now.view)
    c.in-Hops.is c.requires.under_way

pub returns-in-Hops-clause-on : goal.returns-in-Hops-clause-on
returns-in-Hops-clause-on c = (
  subst (λ a. TakesOn c.args.floor.now.description c.args.l c.args.mode a c.hop_on.result c.args.pass.now.view
      c.hop_on.new.pass.view)
      (sym c.in-Hops.is) c.hop_on.ensures.on,
  wakes_nobody c.args.pass.now.view c.hop_on.new.pass.view
      (unmarked_there c.args.pass.now.view c.in-Hops.is
      c.requires.under_way.calling.unmarked),
)

pub halt_on-requires-clause-under_way : goal.halt_on-requires-clause-under_way
halt_on-requires-clause-under_way c =
    subst (λ a. IsUnderAcquiring c.args.floor.now.description c.args.l c.args.mode a c.args.pass.now.view)
    c.in-Halts.is c.requires.under_way

pub returns-in-Halts-clause-on : goal.returns-in-Halts-clause-on
returns-in-Halts-clause-on c =
    subst (λ a. TakesPart c.args.floor.now.description c.args.l c.args.mode a c.halt_on.result c.args.pass.now.view
    c.halt_on.new.pass.view)
    (sym c.in-Halts.is) c.halt_on.ensures.on

pub unreachable-requires : goal.unreachable-requires
unreachable-requires c = elim c.in-Checks.is [
  | inl is ↦ subst IsBetween is c.requires.between
  | inr is ↦ subst IsBetween is c.requires.between
]

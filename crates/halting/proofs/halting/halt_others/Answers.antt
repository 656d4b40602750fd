use Rattle.std.proofs.Common.{subst}
use Rattle.halting.specs.Halts.{GoesOnHalting}
use Rattle.halting.proofs.Whole.{goes_on, is_done}
use Rattle.halting.proofs.halting.halt_others.Goals as goal

pub loop-preserved-then-eq : goal.loop-preserved-then-eq
loop-preserved-then-eq g c = assumption (
  goes_on c.args.floor.now.description c.args.pass.now.view c.loop.pass.view c.go_on_halting.new.pass.view c.loop.at
      c.loop.invariant.stands c.in-Again.to (subst
      (λ n. GoesOnHalting c.args.floor.now.description c.loop.at n c.loop.pass.view c.go_on_halting.new.pass.view)
      c.in-Again.is c.go_on_halting.ensures.went).0,
  c.go_on_halting.ensures,
)

pub loop-preserved-else-eq : goal.loop-preserved-else-eq
loop-preserved-else-eq g c = assumption (
  goes_on c.args.floor.now.description c.args.pass.now.view c.loop.pass.view c.go_on_halting.new.pass.view c.loop.at
      c.loop.invariant.stands c.in-Again.to (subst
      (λ n. GoesOnHalting c.args.floor.now.description c.loop.at n c.loop.pass.view c.go_on_halting.new.pass.view)
      c.in-Again.is c.go_on_halting.ensures.went).0,
  c.go_on_halting.ensures,
)

pub loop-preserved : goal.loop-preserved
loop-preserved g c = assumption (
  goes_on c.args.floor.now.description c.args.pass.now.view c.loop.pass.view c.go_on_halting.new.pass.view c.loop.at
      c.loop.invariant.stands c.in-Wake.to (subst
      (λ n. GoesOnHalting c.args.floor.now.description c.loop.at n c.loop.pass.view c.go_on_halting.new.pass.view)
      c.in-Wake.is c.go_on_halting.ensures.went).0,
  c.go_on_halting.ensures,
)

pub returns-in-Done-clause-halted : goal.returns-in-Done-clause-halted
returns-in-Done-clause-halted g c =
    (is_done c.args.floor.now.description c.args.pass.now.view c.loop.pass.view c.go_on_halting.new.pass.view
    c.loop.at c.loop.invariant.stands
    (subst (λ n. GoesOnHalting c.args.floor.now.description c.loop.at n c.loop.pass.view
    c.go_on_halting.new.pass.view) c.in-Done.is c.go_on_halting.ensures.went)).0

pub returns-in-Done-clause-steps : goal.returns-in-Done-clause-steps
returns-in-Done-clause-steps g c =
    (is_done c.args.floor.now.description c.args.pass.now.view c.loop.pass.view c.go_on_halting.new.pass.view
    c.loop.at c.loop.invariant.stands
    (subst (λ n. GoesOnHalting c.args.floor.now.description c.loop.at n c.loop.pass.view
    c.go_on_halting.new.pass.view) c.in-Done.is c.go_on_halting.ensures.went)).1

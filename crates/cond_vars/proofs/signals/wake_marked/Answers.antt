use Rattle.std.proofs.Common.{subst}
use Rattle.cond_vars.specs.Wakes.{GoesOnWaking}
use Rattle.cond_vars.proofs.Woken.{wakes_begun, has_woken, still_waits, wakes_on, rests_done}
use Rattle.cond_vars.proofs.signals.wake_marked.Goals as goal

pub loop-init : goal.loop-init
loop-init g c = assumption (wakes_begun c.args.floor.now.description c.args.pass.now.view, c.requires)

pub returns-in-Done : goal.returns-in-Done
returns-in-Done g c =
    let done = subst (λ n. GoesOnWaking c.args.floor.now.description n c.loop.pass.view c.go_on_waking.new.pass.view)
    c.in-Done.is c.go_on_waking.ensures.wakes in
    assumption (
      rests_done c.args.floor.now.description c.loop.pass.view c.go_on_waking.new.pass.view c.loop.invariant.rest done,
      has_woken c.args.floor.now.description c.args.pass.now.view c.loop.pass.view c.go_on_waking.new.pass.view
          c.loop.invariant.since done,
      c.go_on_waking.ensures,
    )

pub loop-preserved-in-Again : goal.loop-preserved-in-Again
loop-preserved-in-Again g c = assumption (
  still_waits c.args.floor.now.description c.args.pass.now.view c.loop.pass.view c.go_on_waking.new.pass.view
      c.loop.invariant.since
      (subst (λ n. GoesOnWaking c.args.floor.now.description n c.loop.pass.view c.go_on_waking.new.pass.view)
      c.in-Again.is c.go_on_waking.ensures.wakes),
  c.go_on_waking.ensures,
)

pub unpark-requires : goal.unpark-requires
unpark-requires g c =
    (subst (λ n. GoesOnWaking c.args.floor.now.description n c.loop.pass.view c.go_on_waking.new.pass.view)
    c.in-Wake.is c.go_on_waking.ensures.wakes).0

pub loop-preserved : goal.loop-preserved
loop-preserved g c = assumption (
  wakes_on c.args.floor.now.description c.args.pass.now.view c.loop.pass.view c.go_on_waking.new.pass.view
      c.loop.invariant.since c.in-Wake.t
      (subst (λ n. GoesOnWaking c.args.floor.now.description n c.loop.pass.view c.go_on_waking.new.pass.view)
      c.in-Wake.is c.go_on_waking.ensures.wakes),
  c.go_on_waking.ensures,
)

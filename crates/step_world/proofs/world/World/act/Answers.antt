use Rattle.step_world.proofs.Names.{false, length, sym, subst, Run, run_behind, has_ended, World, Represents}
use Rattle.std.proofs.Common.{◌≡◌, ◌<◌}
use Rattle.step_world.proofs.WorldsAreSound.{behind_going}
use Rattle.step_world.proofs.world.World.act.Goals as goal

-- the thread is one of the plan's, and hasn't ended
within : (c : goal.After-act) → c.args.t.0 < length c.world.inside.plan.now.threads
within c = subst (λ (w : World). c.args.t.0 < length w.plan.threads) (sym c.world.view_is) c.requires.thread

runs : (c : goal.After-act) (r : Run)
    → Represents (record {
      plan = c.world.inside.plan.now;
      chains = c.world.inside.chains;
      machine = c.world.inside.machine;
    }) r
    → has_ended c.world.inside.plan.now r c.args.t.0 ≡ false
runs c = subst (λ (w : World). (r : Run) → Represents w r → has_ended w.plan r c.args.t.0 ≡ false) (sym c.world.view_is)
    c.requires.going

pub act-requires-clause-run : goal.act-requires-clause-run
act-requires-clause-run c =
    let r = c.world.invariant.run in (
      r.0,
      r.1,
      subst (λ (w : World). (q : Run) → Represents w q → has_ended w.plan q c.args.t.0 ≡ false)
          (sym c.world.view_is) c.requires.going r.0 r.1,
    )

pub invariant_of-world : goal.invariant_of-world
invariant_of-world c =
    let w = c.world.inside in
    let i = c.world.invariant in
    record {
      proper = i.proper;
      some_chains = i.some_chains;
      few_chains = i.few_chains;
      run = (
        run_behind w.plan.now i.run.0 c.args.t.0,
        behind_going w.plan.now w.machine c.act.new.machine c.act.result c.args.t.0 i.proper (within c)
            c.act.ensures.follows i.run.0 i.run.1 (runs c i.run.0 i.run.1),
      );
    }

pub returns-clause-answer : goal.returns-clause-answer
returns-clause-answer c =
    rw (← c.world.view_is) (λ r h. (c.act.ensures.follows r h (runs c r h)).0)

pub returns-clause-turn : goal.returns-clause-turn
returns-clause-turn c =
    let w = c.world.inside in
    rw (← c.world.view_is)
    (λ r h. behind_going w.plan.now w.machine c.act.new.machine c.act.result c.args.t.0 c.world.invariant.proper
    (within c) c.act.ensures.follows r h (runs c r h))

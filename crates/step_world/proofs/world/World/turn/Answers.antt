use Rattle.step_world.proofs.Names.{true, sym, subst, length, config_of, Turn, Idle, Ended, Run, run_behind, has_ended}
use Rattle.step_world.proofs.Names.{IsSleeping, effective_best, no_cycle, World}
use Rattle.std.proofs.Common.{◌≡◌, ◌↔◌, ◌<◌}
use Rattle.run_laws.proofs.Idle as idle
use Rattle.step_world.proofs.WorldsAreSound.{behind_turn}
use Rattle.step_world.proofs.world.World.turn.Goals as goal

-- the thread is one of the plan's
within : (c : goal.After-turn) → c.args.t.0 < length c.world.inside.plan.now.threads
within c = subst (λ (w : World). c.args.t.0 < length w.plan.threads) (sym c.world.view_is) c.requires

pub invariant_of-world : goal.invariant_of-world
invariant_of-world c =
    let w = c.world.inside in
    let i = c.world.invariant in
    record {
      proper = i.proper;
      some_chains = i.some_chains;
      few_chains = i.few_chains;
      run = (
        run_behind w.plan.now i.run.0 c.args.t.0,
        behind_turn w.plan.now w.machine c.turn.new.machine c.turn.result c.args.t.0 i.proper
            (within c) c.turn.ensures.follows i.run.0 i.run.1,
      );
    }

pub returns-clause-turn : goal.returns-clause-turn
returns-clause-turn c =
    let w = c.world.inside in
    rw (← c.world.view_is) (behind_turn w.plan.now w.machine c.turn.new.machine c.turn.result c.args.t.0
    c.world.invariant.proper (within c) c.turn.ensures.follows)

-- what is said of the action's answer is said of the turn's
pub returns-clause-idle : goal.returns-clause-idle
returns-clause-idle c =
    let w = c.world.inside in
    rw (← c.world.view_is)
    (λ r h. subst (λ (a : Turn). a ≡ Idle ↔ IsSleeping w.plan.now r c.args.t.0) (sym (c.turn.ensures.follows r h tt).0)
    (idle.idle_exactly w.plan.now r c.args.t.0 c.world.invariant.proper h.on_track))

pub returns-clause-ended : goal.returns-clause-ended
returns-clause-ended c =
    let w = c.world.inside in
    rw (← c.world.view_is) (λ r h. subst (λ (a : Turn). a ≡ Ended ↔ has_ended w.plan.now r c.args.t.0 ≡ true)
    (sym (c.turn.ensures.follows r h tt).0) (idle.ended_exactly w.plan.now r c.args.t.0))

pub returns-clause-lawful : goal.returns-clause-lawful
returns-clause-lawful c =
    let w = c.world.inside in
    let i = c.world.invariant in
    let r : Run = run_behind w.plan.now i.run.0 c.args.t.0 in
    let shows = behind_turn w.plan.now w.machine c.turn.new.machine c.turn.result c.args.t.0 i.proper
    (within c) c.turn.ensures.follows i.run.0 i.run.1 in
    (r, shows, shows.on_track.lawful)

pub returns-clause-ordered : goal.returns-clause-ordered
returns-clause-ordered c r h = h.on_track.ordered

pub returns-clause-no_cycle : goal.returns-clause-no_cycle
returns-clause-no_cycle c r h cycle = no_cycle (config_of c.world.inside.plan.now) r.state h.on_track.ordered cycle

pub returns-clause-best : goal.returns-clause-best
returns-clause-best c r h still no_cycle t lt =
    effective_best (config_of c.world.inside.plan.now) r.state h.on_track.lawful.lawful still t lt no_cycle

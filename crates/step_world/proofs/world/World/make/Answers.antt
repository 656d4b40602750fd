use Rattle.step_world.proofs.Names.{config_of, start_run}
use Rattle.step_world.proofs.WorldsAreSound.{at_begin}
use Rattle.step_world.proofs.world.World.make.Goals as goal

pub invariant_of-result : goal.invariant_of-result
invariant_of-result c =
    let plan = c.args.plan.now in
    record {
      proper = c.requires.proper;
      some_chains = c.requires.some_chains;
      few_chains = c.requires.few_chains;
      run =
          (start_run (config_of plan), at_begin plan c.in_ok-machine.machine c.requires.proper c.in_ok-machine.ensures);
    }

pub returns-clause-begins : goal.returns-clause-begins
returns-clause-begins c = at_begin c.args.plan.now c.in_ok-machine.machine c.requires.proper c.in_ok-machine.ensures

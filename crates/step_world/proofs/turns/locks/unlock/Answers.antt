use Rattle.step_world.proofs.Names.{config_of, read}
use Rattle.step_world.proofs.ActionsOfLocks as actions
use Rattle.step_world.proofs.turns.locks.unlock.Goals as goal

pub stamp-requires-clause-may : goal.stamp-requires-clause-may
stamp-requires-clause-may c =
    let q = c.requires.may in
    let plan = c.args.plan.now in
    let is = read q.1.threads q.3.1.may.0.thread c.from.ensures c.index.ensures in
    (config_of plan, q.0, q.1, q.2, actions.may_note plan q.1 q.2 q.3.1 is c.mode_held-mode.ensures)

pub give_back-requires : goal.give_back-requires
give_back-requires c =
    let q = c.requires.may in
    let is = read q.1.threads q.3.1.may.0.thread c.from.ensures c.index.ensures in
    record {
      may = actions.may_give_then c.args.plan.now q.1 q.2 q.3.1 is c.mode_held-mode.ensures c.stamp.ensures.step;
    }

pub returns-clause-steps : goal.returns-clause-steps
returns-clause-steps c s mode h lawful may =
    let is = read h.threads may.may.0.thread c.from.ensures c.index.ensures in
    actions.gave_then c.args.plan.now h lawful may is c.mode_held-mode.ensures c.stamp.ensures.step
    c.give_back.ensures.step

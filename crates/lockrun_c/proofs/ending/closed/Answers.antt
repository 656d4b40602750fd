use Rattle.std.proofs.Common.{refl}
use Rattle.floor_ends.proofs.Mergeable.{few_entries, tickets_once}
use Rattle.lockrun_c.proofs.Closed.{replayed}
use Rattle.lockrun_c.proofs.ending.closed.Goals as goal

pub invariant_of-result-clause-once : goal.invariant_of-result-clause-once
invariant_of-result-clause-once c = tickets_once _ _ c.in-Ok.closing c.in-Ok.ensures.closing

pub invariant_of-result-clause-few : goal.invariant_of-result-clause-few
invariant_of-result-clause-few c = few_entries _ _ c.in-Ok.closing c.in-Ok.ensures.closing

pub invariant_of-result-clause-replayed : goal.invariant_of-result-clause-replayed
invariant_of-result-clause-replayed c = replayed _ _ c.in-Ok.closing c.in-Ok.ensures.closing

pub returns-in-Ok-clause-closed : goal.returns-in-Ok-clause-closed
returns-in-Ok-clause-closed c = λ z. (
  c.args.house,
  _,
  refl,
  refl,
  record {
    names = refl;
    all = c.in-Ok.ensures.all;
    closing = c.in-Ok.ensures.closing;
    logs = c.in-Ok.ensures.logs;
  },
)

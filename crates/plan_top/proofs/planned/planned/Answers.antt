use Rattle.std.proofs.Common.{◌≤◌, length, arith, ap, ◌∙◌}
use Rattle.lock_model.specs.Limits.{most_bytes}
use Rattle.lock_model.specs.Script.Canonical.{canonical}
use Rattle.script_laws.proofs.Accepted.{accepted_proper}
use Rattle.turn_policy.specs.Schedules.{with_schedule}
use Rattle.plan_top.proofs.Scripts.{written}
use Rattle.plan_top.proofs.planned.planned.Goals as goal

pub schedule_by-requires : goal.schedule_by-requires
schedule_by-requires c = record { proper = accepted_proper c.requires.script.0 c.args.plan c.requires.script.1 }

pub returns-clause-script : goal.returns-clause-script
returns-clause-script c =
    let short : length c.in_ok-text.text.items ≤ most_bytes = omega (arith, c.len.ensures, c.in_ok-text.text.ok.0) in
    written c.args.policy c.args.plan c.requires.script.0 c.in_ok-turns.turns.items c.in_ok-text.text.items
    c.requires.script.1 c.in_ok-turns.ensures.planned c.in_ok-turns.ensures.threads c.in_ok-turns.ensures.few
    (c.in_ok-text.ensures ∙ ap canonical (c.rescheduled.ensures ∙ ap (with_schedule c.args.plan) c.from_vec.ensures))
    short

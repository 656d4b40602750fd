use Rattle.std.proofs.Common.{◌++◌, ap, ◌∙◌, arith, List, ℕ}
use Rattle.std.proofs.lemmas.Bool.Decides.{nat_tests}
use Rattle.lock_model.specs.Script.Canonical.{schedule_lines}
use Rattle.script_read.proofs.Tens.{line_more}
use Rattle.script_read.proofs.writer.push_schedule.Goals as goal

pub loop-rest-preserved : goal.loop-rest-preserved
loop-rest-preserved c =
    let plan = c.args.plan.now in
    let back = c.split_at.result.1.now in
    ap (λ (r : List ℕ). r ++ schedule_lines plan back) c.in_ok-push_turns.ensures
    ∙ line_more plan c.loop-rest.out.items c.loop-rest.rest.now c.split_at.result.0.now back c.min.result
    (grind (arith, nat_tests, c.is_empty.ensures, c.loop-rest-test.ensures)) c.min.ensures c.split_at.ensures.front
    c.split_at.ensures.back
    ∙ c.loop-rest.invariant

use Rattle.std.proofs.Common.{ap, ◌∙◌, length, arith}
use Rattle.hold_profile.proofs.Results.{counted_nothing}
use Rattle.hold_profile.proofs.counting.Counting.make.Goals as goal

pub returns : goal.returns
returns c =
    counted_nothing c.args.plan.now _ (c.in_ok-no_tallies.ensures.len ∙ ap length c.as_slice.ensures)
    (λ l d lt. c.in_ok-no_tallies.ensures.line l d (omega (arith, ap length c.as_slice.ensures)))
    (λ l d lt. c.in_ok-no_tallies.ensures.sections l d (omega (arith, ap length c.as_slice.ensures)))
    (c.in_ok-no_locks.ensures.len ∙ ap length c.as_slice-2.ensures)
    (λ t d lt. c.in_ok-no_locks.ensures.empty t d (omega (arith, ap length c.as_slice-2.ensures)))
    (c.in_ok-no_pairs.ensures.len ∙ ap length c.as_slice-3.ensures)
    (λ b d lb. c.in_ok-no_pairs.ensures.rows b d (omega (arith, ap length c.as_slice-3.ensures))
    ∙ ap length c.as_slice-3.ensures)
    (λ a b d la lb. c.in_ok-no_pairs.ensures.zero a b d (omega (arith, ap length c.as_slice-3.ensures))
    (omega (arith, ap length c.as_slice-3.ensures)))

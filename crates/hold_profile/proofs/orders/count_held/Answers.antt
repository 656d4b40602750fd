use Rattle.lock_model.specs.Plans.{lock_class}
use Rattle.lock_model.specs.declared.numbers.LockNo.{LockNo}
use Rattle.hold_profile.proofs.Rows.{row_fits_one}
use Rattle.hold_profile.proofs.orders.count_held.Goals as goal

pub count_one-requires : goal.count_one-requires
count_one-requires c =
    row_fits_one _ _ _ (λ (k : LockNo). lock_class c.args.plan.now k.0) _ c.loop-l.invariant.len
    c.loop-l.invariant.counted c.requires c.loop-l-test.true

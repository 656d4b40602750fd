use Rattle.std.proofs.Common.{◌||◌, eqb, sym, ap, ◌∙◌}
use Rattle.std.proofs.lemmas.List.Folds.{list_any_more}
use Rattle.lock_model.specs.Counts.{has_bit}
use Rattle.witness_orders.proofs.Sets.{has_none, has_or, has_only}
use Rattle.witness_orders.proofs.bits.set_of.Goals as goal

pub loop-c-init : goal.loop-c-init
loop-c-init c = has_none

pub loop-c-preserved : goal.loop-c-preserved
loop-c-preserved c b =
    let all = c.args.classes.now in
    let more = list_any_more (λ d. eqb d.0 b) all c.loop-c.c-index (record { 0 = 0 }) c.loop-c-test.true in
    has_or c.loop-c.set c.only-set.result b
    ∙ ap (λ x. x || has_bit b c.only-set.result) (c.loop-c.invariant b)
    ∙ rw c.only-set.ensures (rw has_only (sym more))

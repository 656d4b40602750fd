use Rattle.lock_floor.proofs.Names.{false, get_or, ap, subst, arith, slots_filled}
use Rattle.std.proofs.Common.{◌<◌, ◌∙◌}
use Rattle.lock_floor.proofs.Emptying.{still_full, still_empty}
use Rattle.lock_floor.proofs.closing.take_rest.Goals as goal

pub loop-i-preserved : goal.loop-i-preserved
loop-i-preserved c =
    let i = c.loop-i.i in
    let kept = c.loop-i.invariant in
    let others = c.take.ensures.others in
    let flags = slots_filled c.loop-i.closed.slots in
    record {
      places = others.2 ∙ kept.places;
      taken = λ k below. ap (λ fs. get_or fs k false) others.1
          ∙ still_empty flags i k (omega (arith, below)) kept.taken;
      left = λ k past low. ap (λ fs. get_or fs k false) others.1 ∙ still_full flags i k (omega (arith, past))
          ∙ kept.left k (omega (arith, past)) (subst (λ n. k < n) others.2 low);
    }

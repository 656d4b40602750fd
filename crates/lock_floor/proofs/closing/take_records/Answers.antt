use Rattle.lock_floor.proofs.Names.{false, length, get_or, sym, ap, subst, arith, length-append, slots_filled}
use Rattle.std.proofs.Common.{◌+◌, ◌<◌, ◌∙◌}
use mathlib.Core.Option.{some, some-injective}
use lib.ListN.{get_elem?}
use Rattle.lock_floor.proofs.Emptying.{still_full, still_empty, records_more}
use Rattle.lock_floor.proofs.closing.take_records.Goals as goal

pub record_from-requires : goal.record_from-requires
record_from-requires c =
    let t = c.loop-t.t in
    let known = c.requires.records t c.loop-t-test.true in (
      known.0,
      some-injective _ _
          (sym c.take.ensures.value ∙ ap (λ xs. get_elem? xs t) c.loop-t.invariant.items ∙ known.1),
    )

pub loop-t-preserved : goal.loop-t-preserved
loop-t-preserved c =
    let t = c.loop-t.t in
    let i = c.loop-t.invariant in
    let others = c.take.ensures.others in
    let flags = slots_filled c.loop-t.closed.slots in
    let here = ap (λ xs. get_elem? xs t) (sym i.items) ∙ c.take.ensures.value ∙ ap some c.record_from.ensures in
    record {
      count = ap length c.push_reserved.ensures.items ∙ length-append c.loop-t.recs.items _ ∙ ap (λ n. n + 1) i.count;
      room = c.push_reserved.ensures.capacity ∙ i.room;
      records = records_more _ c.loop-t.recs.items c.push_reserved.new.self.items t c.record_from.result
          c.push_reserved.ensures.items i.count here i.records;
      items = others.0 ∙ i.items;
      places = others.2 ∙ i.places;
      taken = λ k low. ap (λ fs. get_or fs k false) others.1 ∙ still_empty flags t k low i.taken;
      left = λ k past low. ap (λ fs. get_or fs k false) others.1 ∙ still_full flags t k (omega (arith, past))
          ∙ i.left k (omega (arith, past)) (subst (λ n. k < n) others.2 low);
    }

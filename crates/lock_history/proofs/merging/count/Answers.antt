use Rattle.std.proofs.Common.{ap, arith, length}
use Rattle.std.proofs.lemmas.List.Folds.{length-flat_map-take}
use Rattle.lock_history.specs.Books.{Book}
use Rattle.lock_history.proofs.merging.count.Goals as goal

pub overflow_add-n : goal.overflow_add-n
overflow_add-n c =
    let item = c.log-item.result in
    let within = length-flat_map-take
    (λ (g : Book). g.entries) c.args.logs.now c.loop-log.log-index item c.loop-log-test.true in
    omega (
      arith,
      within,
      ap length c.as_slice.ensures,
      ap (λ (g : Book). length g.entries) c.log-item.is,
      c.loop-log.invariant,
    )

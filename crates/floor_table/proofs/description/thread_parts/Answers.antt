use Rattle.std.proofs.Common.{ap, ◌∙◌, length, arith}
use Rattle.lock_model.specs.declared.plan.ThreadDecl.{ThreadDecl}
use Rattle.floor_table.proofs.Descriptions.{few_operations}
use Rattle.floor_table.proofs.description.thread_parts.Goals as goal

pub overflow_cast-as_slice : goal.overflow_cast-as_slice
overflow_cast-as_slice c =
    let its = ap length (c.as_slice.ensures ∙ ap (λ (d : ThreadDecl). d.ops) c.thread-item.is) in
    let i = c.loop-thread.thread-index in
    let few = few_operations c.args.threads.now i c.thread-item.result c.loop-thread-test.true in
    omega (arith, its, few, c.requires)

pub overflow_mul-as_slice : goal.overflow_mul-as_slice
overflow_mul-as_slice c =
    let its = ap length (c.as_slice.ensures ∙ ap (λ (d : ThreadDecl). d.ops) c.thread-item.is) in
    let i = c.loop-thread.thread-index in
    let few = few_operations c.args.threads.now i c.thread-item.result c.loop-thread-test.true in
    omega (arith, its, few, c.requires)

use Rattle.step_machine.proofs.Names.{ℕ, ap, subst, next_at, Progress, progress_of}
use Rattle.std.proofs.Common.{◌<◌}
use Rattle.step_machine.proofs.Kit.{aside_changed}
use Rattle.step_machine.proofs.Ending.{read_at, gone_on}
use Rattle.step_machine.proofs.machine.Machine.go_on.Goals as goal

pub returns-clause-shows : goal.returns-clause-shows
returns-clause-shows c k s h =
    rw c.from.ensures (gone_on c.next_at.result c.index_mut.result.now
    (read_at _ c.from.ensures c.requires.thread c.index_mut.ensures.value)
    (subst (λ (n : ℕ). c.args.t.0 < n) h.threads.threads c.requires.thread) h)

pub returns-clause-progress : goal.returns-clause-progress
returns-clause-progress c =
    let th = c.index_mut.result.now in
    rw c.from.ensures (aside_changed _ _ _ (λ a. record a { next_op = next_at c.args.ops.now c.args.n })
    (read_at _ c.from.ensures c.requires.thread c.index_mut.ensures.value)
    (ap (λ n. let a : Progress = record (progress_of th) { next_op = n } in a) c.next_at.ensures))

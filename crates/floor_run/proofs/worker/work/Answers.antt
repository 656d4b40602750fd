use Rattle.floor_run.proofs.Names.{ℕ, List, sym, ap, subst, Entry, Knowledge, EndsItself, Kept, Pass, IsWhole}
use Rattle.std.proofs.Common.{◌∙◌}
use Rattle.floor_run.proofs.worker.work.Goals as goal

pub finish-requires-clause-takes_nothing : goal.finish-requires-clause-takes_nothing
finish-requires-clause-takes_nothing g c =
    ap (λ (k : Kept). k.taking) c.end_thread.ensures.kept ∙ c.operate_all.ensures.ready.rest.takes_nothing

pub returns-clause-thread : goal.returns-clause-thread
returns-clause-thread g c =
    ap (λ (p : Pass Knowledge). p.view.thread) c.finish.ensures
    ∙ ap (λ (k : Kept). k.thread) c.end_thread.ensures.kept ∙ c.operate_all.ensures.thread

pub returns-clause-whole : goal.returns-clause-whole
returns-clause-whole g c =
    let thread = ap (λ (p : Pass Knowledge). p.view.thread) c.finish.ensures
    ∙ ap (λ (k : Kept). k.thread) c.end_thread.ensures.kept in
    let log = ap (λ (p : Pass Knowledge). p.view.share.log) c.finish.ensures
    ∙ ap (λ (k : Kept). k.log) c.end_thread.ensures.kept in
    subst (λ (z : ℕ × List Entry). IsWhole c.args.plan.now c.args.floor.now.description z.0 z.1)
    (λ i. (sym thread i, sym log i)) c.operate_all.ensures.whole

pub returns-clause-ends : goal.returns-clause-ends
returns-clause-ends g c =
    let ended = c.operate_all.new.pass.view in (
      ended,
      subst (EndsItself c.args.floor.now.description ended) (sym (ap (λ (p : Pass Knowledge). p.view) c.finish.ensures))
          c.end_thread.ensures.steps,
    )

use Rattle.floor_run.proofs.Names.{slice_get, arith, ap, sym, subst, slice_get-get_or, operations_of, IsBefore}
use Rattle.std.proofs.Common.{◌≡◌, ◌∙◌}
use Rattle.floor_run.proofs.Cutting.{cut_own}
use Rattle.floor_run.proofs.Operating.{at_first, few_operations}
use Rattle.floor_run.proofs.worker.operate_all.Goals as goal

pub loop-next-init : goal.loop-next-init
loop-next-init g c =
    let plan = c.args.plan.now in
    let f = c.args.floor.now in
    let t = c.args.pass.now.view.thread in
    subst (IsBefore plan f t 0) (sym c.requires.first) (at_first plan f c.requires.given t)

pub overflow_cast-next : goal.overflow_cast-next
overflow_cast-next g c =
    omega (
      arith,
      c.loop-next.invariant.within,
      few_operations c.args.plan.now c.args.pass.now.view.thread
          c.requires.proper,
    )

pub operate-requires-clause-op : goal.operate-requires-clause-op
operate-requires-clause-op g c =
    let same : operations_of c.args.plan.now c.loop-next.pass.view.thread ≡ c.operations_of-ops.result.now =
    ap (operations_of c.args.plan.now) (c.loop-next.invariant.thread ∙ sym c.thread.ensures.same)
    ∙ sym c.operations_of-ops.ensures in
    ap (λ ops. slice_get ops c.loop-next.next) same
    ∙ slice_get-get_or c.operations_of-ops.result.now c.loop-next.next _ c.loop-next-test.true

pub give_back-requires-clause-cut : goal.give_back-requires-clause-cut
give_back-requires-clause-cut g c =
    cut_own c.args.plan.now c.args.floor.now c.loop-next.pass.view.thread c.operate.new.pass c.in-None.ensures.cut

use Rattle.step_machine.proofs.Names.{length, refl, arith, slice_get_read}
use Rattle.step_machine.proofs.Beginning.{new_pushed}
use Rattle.step_machine.proofs.machine.make_threads.Goals as goal

pub loop-t-preserved : goal.loop-t-preserved
loop-t-preserved c =
    let decls = c.args.decls.now in
    let ths = c.loop-t.threads in
    record {
      number = omega (arith, c.in_ok-push.ensures.len, c.loop-t.invariant.number);
      each = rw c.in_ok-push.ensures.items
          (new_pushed decls ths.items c.loop-t.t c.in_ok-make.field-0 c.index-decls-t.result
          (omega (arith, c.loop-t.invariant.number, ths.ok.0)) (slice_get_read decls (length decls) c.loop-t.t
          c.index-decls-t.result refl (omega (arith, c.loop-t-test.true, c.loop-t.auto.t-end)) c.index-decls-t.is)
          c.in_ok-make.ensures c.loop-t.invariant.each);
    }

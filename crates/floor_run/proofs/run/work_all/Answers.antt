use denote.Param.Send.{sendable}
use Rattle.floor_run.proofs.Names.{crosses, pass_send}
use Rattle.lock_model.proofs.plan.Plan.TheSendSync as plan
use Rattle.floor_run.proofs.Crossing.{floor_sync}
use Rattle.floor_run.proofs.run.work_all.Goals as goal

pub for_each_mut-requires-send-T : goal.for_each_mut-requires-send-T
for_each_mut-requires-send-T g c κs within = search (sendable, crosses, pass_send) depth 40 fits 100000

pub for_each_mut-requires-sync-F : goal.for_each_mut-requires-sync-F
for_each_mut-requires-sync-F g c κs within = record {
  shared = λ x b o κ. (
    (
      ((λ q. tt), c.type_bounds.sync-R.shared x.0.now x.0.ref_ptr.0 x.0.ref_ptr.1 κs.1.1.1.1.1.1.0),
      (
        ((λ q. tt), floor_sync.shared x.1.now x.1.ref_ptr.0 x.1.ref_ptr.1 κs.1.1.1.1.1.1.1.0),
        (
          ((λ q. tt), plan.the_sync.shared x.2.now x.2.ref_ptr.0 x.2.ref_ptr.1 κs.1.1.1.1.1.1.1.1.0),
          (((λ q. tt), c.type_bounds.sync-G.shared x.3.now x.3.ref_ptr.0 x.3.ref_ptr.1 κs.1.1.1.1.1.1.1.1.1.0), tt),
        ),
      ),
    ),
    λ q. tt,
  );
}

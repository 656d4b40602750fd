use Rattle.lockrun_c.proofs.There.{has_some}
use Rattle.lockrun_c.proofs.handles.into_box.Goals as goal

pub into_box-requires : goal.into_box-requires
into_box-requires c = has_some c.args.handle.held.home c.args.handle.is_there c.args.handle.fits c.requires

use Rattle.floor_calls.proofs.Fitting.{none_chained, none_sized}
use Rattle.floor_calls.proofs.opening.OpenFloor.open.Goals as goal

pub make-requires-clause-sized : goal.make-requires-clause-sized
make-requires-clause-sized c = none_sized c.args.description c.in-None.ensures

pub make-requires-clause-one_chain : goal.make-requires-clause-one_chain
make-requires-clause-one_chain c = none_chained c.args.description c.in-None.ensures

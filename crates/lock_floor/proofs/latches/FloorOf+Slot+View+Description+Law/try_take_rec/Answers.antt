use Rattle.lock_floor.proofs.Names.{Some, sym, ap, RecordOf}
use Rattle.std.proofs.Common.{◌∙◌}
use Rattle.lock_floor.proofs.Taking.{record_at}
use Rattle.lock_floor.proofs.latches.FloorOf+Slot+View+Description+Law.try_take_rec.Goals as goal

pub try_take-requires-clause-may : goal.try_take-requires-clause-may
try_take-requires-clause-may c = (
  RecordOf c.args.t.0,
  record_at c.args.self.now.description c.args.t.0 c.requires.thread
      ∙ ap Some (sym c.from.ensures),
  c.requires.may,
)

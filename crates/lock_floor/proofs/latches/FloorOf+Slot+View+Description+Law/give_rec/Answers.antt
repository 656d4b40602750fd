use Rattle.lock_floor.proofs.Names.{Some, sym, ap, RecordOf, slot_of}
use Rattle.std.proofs.Common.{◌≡◌, ◌∙◌}
use Rattle.lock_floor.proofs.Taking.{record_at}
use Rattle.lock_floor.proofs.latches.FloorOf+Slot+View+Description+Law.give_rec.Goals as goal

pub give-requires-clause-may : goal.give-requires-clause-may
give-requires-clause-may c = (
  RecordOf c.args.t.0,
  record_at c.args.self.now.description c.args.t.0 c.requires.thread
      ∙ ap Some (sym c.from.ensures),
  c.requires.may,
)

at : (c : goal.After-give) → slot_of c.args.self.now.description (RecordOf c.args.t.0) ≡ Some c.from.result
at c = record_at c.args.self.now.description c.args.t.0 c.requires.thread ∙ ap Some (sym c.from.ensures)

pub returns-clause-view : goal.returns-clause-view
returns-clause-view c = c.give.ensures.view (RecordOf c.args.t.0) (at c)

pub returns-clause-step : goal.returns-clause-step
returns-clause-step c = c.give.ensures.step (RecordOf c.args.t.0) (at c)

use Rattle.std.proofs.Common.{ap, sym, ◌∙◌}
use Rattle.std.specs.FinMap.{entries}
use Rattle.lock_history.proofs.Slots.{entries-present}
use Rattle.lock_history.proofs.tables.Tables.slots.Goals as goal

pub returns : goal.returns
returns c = ap (λ s. entries s.present) (sym c.self.view_is) ∙ entries-present c.self.inside.slots c.self.invariant

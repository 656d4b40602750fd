use Rattle.std.proofs.Common.{ap, sym, ◌∙◌}
use Rattle.std.specs.FinMap.{get}
use Rattle.std.specs.Option.{option_flatten}
use Rattle.lock_history.proofs.Slots.{get-present}
use Rattle.lock_history.proofs.tables.Tables.get.Goals as goal

pub returns-in-Some : goal.returns-in-Some
returns-in-Some c =
    ap option_flatten c.in-Some.ensures.value
    ∙ sym (get-present c.self.inside.slots c.self.invariant (c.args.l.0, c.args.key))
    ∙ ap (λ s. get s.present (c.args.l.0, c.args.key)) c.self.view_is

pub returns-in-None : goal.returns-in-None
returns-in-None c =
    ap option_flatten c.in-None.ensures.value
    ∙ sym (get-present c.self.inside.slots c.self.invariant (c.args.l.0, c.args.key))
    ∙ ap (λ s. get s.present (c.args.l.0, c.args.key)) c.self.view_is

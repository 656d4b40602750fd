use Rattle.step_machine.proofs.Names.{not, Option, Some, None, is_some, refl, ap, is_unheld, Mode, hold_of}
use Rattle.std.proofs.Common.{◌≡◌, ◌∙◌}
use Rattle.step_machine.proofs.thread.Thread.holds.Goals as goal

held_where_some : (mode : Option Mode) → is_some mode ≡ not (is_unheld (hold_of mode))
held_where_some None = refl
held_where_some (Some mode) = refl

pub returns : goal.returns
returns c = c.is_some.ensures ∙ held_where_some c.mode.result ∙ ap (λ h. not (is_unheld h)) c.mode.ensures

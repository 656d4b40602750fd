use Rattle.step_machine.proofs.Names.{Option, Some, None, unwrap_or, refl, ap, Mode, Excl, mode_held, hold_of}
use Rattle.std.proofs.Common.{◌≡◌, ◌∙◌}
use Rattle.step_machine.proofs.thread.Thread.mode_held.Goals as goal

by_default : (mode : Option Mode) → unwrap_or mode Excl ≡ mode_held (hold_of mode)
by_default None = refl
by_default (Some mode) = refl

pub returns : goal.returns
returns c = c.unwrap_or.ensures ∙ by_default c.mode.result ∙ ap mode_held c.mode.ensures

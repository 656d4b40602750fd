use Rattle.lock_calls.proofs.Names.{inl, inr, sym, ap, is_turnstile}
use Rattle.std.proofs.Common.{◌∙◌}
use Rattle.lock_calls.proofs.freeing.free_by_open.Goals as goal

pub open_turnstile-requires-clause-turnstile : goal.open_turnstile-requires-clause-turnstile
open_turnstile-requires-clause-turnstile c = elim c.in-Mtx.is [
  | inl e ↦ ap is_turnstile (sym c.kind.ensures ∙ e)
  | inr e ↦ ap is_turnstile (sym c.kind.ensures ∙ e)
]

pub open_sleepers-requires-clause-sleeps : goal.open_sleepers-requires-clause-sleeps
open_sleepers-requires-clause-sleeps c = sym c.kind.ensures ∙ c.in-Sx.is

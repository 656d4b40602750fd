use Rattle.lock_calls.proofs.Names.{inl, inr, sym, ap, is_turnstile}
use Rattle.std.proofs.Common.{◌∙◌}
use Rattle.lock_calls.proofs.blocking.enter_there.Goals as goal

pub stand_there-requires-clause-turnstile : goal.stand_there-requires-clause-turnstile
stand_there-requires-clause-turnstile c = elim c.in-Mtx.is [
  | inl e ↦ ap is_turnstile (sym c.kind.ensures ∙ e)
  | inr e ↦ ap is_turnstile (sym c.kind.ensures ∙ e)
]

pub lie_there-requires-clause-sleeps : goal.lie_there-requires-clause-sleeps
lie_there-requires-clause-sleeps c = sym c.kind.ensures ∙ c.in-Sx.is

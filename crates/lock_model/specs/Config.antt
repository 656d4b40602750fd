-- What a plan fixes for a run: how many there are of each thing, and what each lock, channel and thread is.
use Rattle.std.specs.Prelude.{ℕ}
use Rattle.lock_model.specs.declared.plan.Kind.{Kind}

-- what a plan fixes: how many there are of each, and each lock's kind and class and each channel's lock
pub record Config : Type 0 where
  pub threads : ℕ
  pub locks : ℕ
  pub chans : ℕ
  pub kind : ℕ → Kind
  pub class : ℕ → ℕ
  pub chan_lock : ℕ → ℕ
  pub declared_base : ℕ → ℕ

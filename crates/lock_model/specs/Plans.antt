-- What a plan says of a thread, a lock, a channel and a class by its number, with a default out of the plan's range.
use Rattle.std.specs.Prelude.{ℕ, Bool, true, List, [], map, length, slice_get, unwrap_or}
use Rattle.lock_model.specs.Config.{Config}
use Rattle.lock_model.specs.declared.plan.Kind.{Kind}
use Rattle.lock_model.specs.declared.plan.Kind.TheVariants.{Mtx}
use Rattle.lock_model.specs.declared.plan.Op.{Op}
use Rattle.lock_model.specs.declared.plan.Plan.{Plan}

abbrev pub thread_name : Plan → ℕ → List ℕ
thread_name plan t = unwrap_or (slice_get (map (λ d. d.name) plan.threads) t) []

abbrev pub lock_name : Plan → ℕ → List ℕ
lock_name plan l = unwrap_or (slice_get (map (λ d. d.name) plan.locks) l) []

abbrev pub lock_kind : Plan → ℕ → Kind
lock_kind plan l = unwrap_or (slice_get (map (λ d. d.kind) plan.locks) l) Mtx

abbrev pub chan_name : Plan → ℕ → List ℕ
chan_name plan c = unwrap_or (slice_get (map (λ d. d.name) plan.chans) c) []

abbrev pub is_cond : Plan → ℕ → Bool
is_cond plan c = unwrap_or (slice_get (map (λ d. d.cond) plan.chans) c) true

abbrev pub class_name : Plan → ℕ → List ℕ
class_name plan k = unwrap_or (slice_get plan.classes k) []

-- the thread's operations, in order
abbrev pub operations_of : Plan → ℕ → List Op
operations_of plan t = unwrap_or (slice_get (map (λ d. d.ops) plan.threads) t) []

abbrev pub declared_base : Plan → ℕ → ℕ
declared_base plan t = unwrap_or (slice_get (map (λ d. d.base.0) plan.threads) t) 0

abbrev pub lock_class : Plan → ℕ → ℕ
lock_class plan l = unwrap_or (slice_get (map (λ d. d.class.0) plan.locks) l) 0

-- the lock of a condition variable or channel
abbrev pub chan_lock : Plan → ℕ → ℕ
chan_lock plan c = unwrap_or (slice_get (map (λ d. d.lock.0) plan.chans) c) 0

-- what the plan fixes for a run
abbrev pub config_of : Plan → Config
config_of plan = record {
  threads = length plan.threads;
  locks = length plan.locks;
  chans = length plan.chans;
  kind = lock_kind plan;
  class = lock_class plan;
  chan_lock = chan_lock plan;
  declared_base = declared_base plan;
}

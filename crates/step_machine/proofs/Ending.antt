-- A thread goes on with another operation, and its walk ends.
use Rattle.step_machine.proofs.Names
use Names.{ℕ, List, length, get_or, slice_get, Some, refl, sym, ap, slice_get_read, with_item, Config, State, NoWalk}
use Names.{MayEndWalk, after_end_walk, put_same, put_other, Machine, Thread, Represents, thread_in}
use Rattle.std.proofs.Common.{◌≡◌, ◌<◌, ◌∙◌}
use Rattle.prio_lending.specs.declared.walk.Walk.TheVariants as walk
use Rattle.step_machine.proofs.Kit.{OthersStay, thread_changed, shown_by}

-- 1. Operations

-- the thread that was read at the place of a number
pub read_at : (ths : List Thread) {t i : ℕ} {th : Thread} → i ≡ t → t < length ths → th ≡ get_or ths i th
    → slice_get ths t ≡ Some th
read_at ths {t} {i} {th} e l is = slice_get_read ths (length ths) t th refl l (is ∙ ap (λ (j : ℕ). get_or ths j th) e)

-- the thread with another next operation
abbrev pub going_on : ℕ → Thread → Thread
going_on n th = record th { next_op = n }

pub gone_on : {m : Machine} {c : Config} {s : State} {t : ℕ} (n : ℕ) (th : Thread)
    → slice_get m.threads.items t ≡ Some th → t < c.threads
    → Represents c m s → Represents c (record m { threads = with_item m.threads t (going_on n th) }) s
gone_on {s = s} {t = t} n th at k h =
    let old = h.threads.thread t th at in
    shown_by s h refl refl h.words h.queues h.sleepers
    (thread_changed s (going_on n th) h.threads k (assumption old) (λ u n. refl))

-- 2. Walks

-- the thread with no walk
abbrev pub walked : Thread → Thread
walked th = record th { walk = walk.None }

others : (s : State) (t : ℕ) → OthersStay s (after_end_walk s t) t
unfolding after_end_walk
others s t u n = λ i. record (thread_in s u) { walk = put_other s.walk t NoWalk u (λ e. n (sym e)) i }

pub walk_ended : {m : Machine} {c : Config} {s : State} {t : ℕ} (th : Thread) → Represents c m s → MayEndWalk c s t
    → slice_get m.threads.items t ≡ Some th
    → Represents c (record m { threads = with_item m.threads t (walked th) }) (after_end_walk s t)
unfolding after_end_walk
walk_ended {s = s} {t = t} th h g at =
    let old = h.threads.thread t th at in
    shown_by (after_end_walk s t) h refl refl h.words h.queues h.sleepers
    (thread_changed (after_end_walk s t) (walked th) h.threads g.thread
    (record {
      columns = λ i. record (old.columns i) { walk = sym (put_same s.walk t NoWalk) i };
      one_loan_each = old.one_loan_each;
      held = old.held;
      marked = old.marked;
    }) (others s t))

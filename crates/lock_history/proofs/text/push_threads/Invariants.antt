use Rattle.std.proofs.Common.{◌≡◌, ◌++◌, map, flat_map}
use Rattle.std.specs.List.{zip}
use Rattle.lock_model.specs.Text.{thread_line}
use Rattle.lock_history.specs.Endings.{numbers_of}
use Rattle.lock_history.proofs.text.push_threads.Given as goal

abbrev pub invariant-loop-thread : goal.invariant-loop-thread
invariant-loop-thread l =
    l.out.items
    ++ flat_map thread_line
    (zip (map (λ d. d.name) l.thread-iterator.a.rest.now) (numbers_of l.thread-iterator.b.rest.now))
    ≡ l.initial.out.items ++ flat_map thread_line (zip (map (λ d. d.name) l.threads) (numbers_of l.finals))

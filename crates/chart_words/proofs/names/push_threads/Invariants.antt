use Rattle.std.proofs.Common.{◌≡◌, ◌++◌, length}
use Rattle.chart_words.specs.Words.{other_names, thread_names}
use Rattle.chart_words.proofs.names.push_threads.Given as goal

-- what is left follows another name
abbrev pub invariant-loop-t : goal.invariant-loop-t
invariant-loop-t l =
    l.out.items ++ other_names l.plan l.left ≡ l.fn.out.items ++ thread_names l.plan l.threads

abbrev pub decreases-loop-t : goal.decreases-loop-t
decreases-loop-t l = length l.left

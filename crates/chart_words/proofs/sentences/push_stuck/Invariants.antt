use Rattle.std.proofs.Common.{◌≡◌, ◌++◌, drop}
use Rattle.std.specs.Prelude.{codes}
use Rattle.chart_words.specs.Sentences.{waits_behind}
use Rattle.chart_words.proofs.sentences.push_stuck.Given as goal

-- what is left, behind the sign that comes next
abbrev pub invariant-loop-t : goal.invariant-loop-t
invariant-loop-t l =
    l.out.items ++ waits_behind l.plan l.between (drop l.t-index l.waits)
    ≡ l.fn.out.items ++ waits_behind l.plan (codes ": ") l.waits

use Rattle.std.proofs.Common.{◌≡◌, ◌++◌, drop, None}
use Rattle.chart_trace.specs.Events.{next_lines, lock_tracks}
use Rattle.chart_trace.proofs.tracks.push_locks.Given as goal

-- what is left to push
abbrev pub invariant-loop-bar : goal.invariant-loop-bar
invariant-loop-bar l =
    l.out.items ++ next_lines (lock_tracks l.plan l.before (drop l.bar-index l.bars))
    ≡ l.fn.out.items ++ next_lines (lock_tracks l.plan None l.bars)

use Rattle.step_world.proofs.Names.{length, map, line_seen, config_of, lock_lines, channel_lines}
use Rattle.std.proofs.Common.{◌≡◌, ◌++◌}
use Rattle.step_world.proofs.outcome.queue_lines.Given as goal

-- the lines of the first locks,
abbrev pub invariant-loop-l : goal.invariant-loop-l
invariant-loop-l l = map line_seen l.lines.items ≡ lock_lines l.chains (config_of l.plan) l.machine l.l

-- and behind those of all locks the lines of the first channels
abbrev pub invariant-loop-c : goal.invariant-loop-c
invariant-loop-c l = map line_seen l.lines.items
    ≡ lock_lines l.chains (config_of l.plan) l.machine (length l.plan.locks) ++ channel_lines l.chains l.machine l.c

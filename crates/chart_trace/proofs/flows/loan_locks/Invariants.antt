use Rattle.std.proofs.Common.{◌≡◌, ℕ, nat_eq, take}
use Rattle.std.specs.HashMap as table
use Rattle.chart_trace.specs.Events.{loan_lock}
use Rattle.chart_trace.proofs.flows.loan_locks.Given as goal

abbrev pub invariant-loop-sentence : goal.invariant-loop-sentence
invariant-loop-sentence l = (turn : ℕ)
    → table.get nat_eq l.locks turn ≡ loan_lock (take l.sentence-index l.sentences) turn

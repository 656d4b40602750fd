use Rattle.std.proofs.Common.{◌≡◌}
use Rattle.script_read.specs.Generator.{behind_rounds, rounds_at}
use Rattle.script_read.proofs.generator.rounds.Given as goal

abbrev pub invariant-loop : goal.invariant-loop
invariant-loop l = record {
  ops : l.ops.items ≡ rounds_at l.initial.draws.state l.counter;
  state : l.draws.state ≡ behind_rounds l.initial.draws.state l.counter;
}

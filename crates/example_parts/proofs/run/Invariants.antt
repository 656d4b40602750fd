use Rattle.example_parts.specs.Threads.{IsThread}
use Rattle.example_parts.proofs.run.Given as goal

abbrev pub invariant-loop : goal.invariant-loop
invariant-loop g l = record {
  first : IsThread l.floor l.first;
  second : IsThread l.floor l.second;
}

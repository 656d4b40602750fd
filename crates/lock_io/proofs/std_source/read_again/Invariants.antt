use Rattle.std.specs.Io.KnownBytes.{Keeps}
use Rattle.lock_io.proofs.std_source.read_again.Given as goal

-- an interrupted read keeps what the reader has left
abbrev pub invariant-loop : goal.invariant-loop
invariant-loop g l = Keeps (g.R.Read.remaining l.initial.reader) (g.R.Read.remaining l.reader)

use Rattle.std.specs.Io.KnownBytes.{Keeps}
use Rattle.lock_io.proofs.std_sink.write_again.Given as goal

-- an interrupted write keeps what the writer holds
abbrev pub invariant-loop : goal.invariant-loop
invariant-loop g l = Keeps (g.W.Write.contents l.initial.writer) (g.W.Write.contents l.writer)

use Rattle.std.proofs.Common.{length, ◌-◌, ◌≡◌, ◌≤◌, take}
use Rattle.std.specs.Io.KnownBytes.{append_known}
use Rattle.lock_io.proofs.whole.write_all.Given as goal

-- the text was written as far as `written`, without a fault
abbrev pub invariant-loop-written : goal.invariant-loop-written
invariant-loop-written g l =
    (l.written ≤ length l.text)
    × (g.K.Sink.contents l.sink ≡ append_known (g.K.Sink.contents l.initial.sink) (take l.written l.text))
    × (g.K.Sink.faults l.sink ≡ g.K.Sink.faults l.initial.sink)

abbrev pub decreases-loop-written : goal.decreases-loop-written
decreases-loop-written g l = length l.text - l.written

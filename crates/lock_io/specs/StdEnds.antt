-- What the adapters over std's reader and writer hold: the reader or writer itself, and the count of its faults.
use Rattle.std.specs.Prelude.{ℕ}
use Rattle.lock_io.specs.declared.std_source.StdSource.{StdSource}
use Rattle.lock_io.specs.declared.std_sink.StdSink.{StdSink}

-- the reader that a source reads from
abbrev pub reader_of : {R : Type 0} → StdSource R → R
reader_of s = s.reader

-- how many of its reads failed; the count stops at the last value of a u64
abbrev pub read_faults : {R : Type 0} → StdSource R → ℕ
read_faults s = s.faults

-- the writer that a sink writes to
abbrev pub writer_of : {W : Type 0} → StdSink W → W
writer_of s = s.writer

-- how many of its calls failed; the count stops at the last value of a u64
abbrev pub write_faults : {W : Type 0} → StdSink W → ℕ
write_faults s = s.faults

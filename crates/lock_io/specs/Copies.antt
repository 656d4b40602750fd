-- A sink that keeps a copy of what another one took, as contracts see it. It is this project's own.
use Rattle.std.specs.Prelude.{◌≡◌, ◌⊎◌, ℕ, List, Option, Some, None, if◌then◌else◌}
use Rattle.std.specs.Io.KnownBytes.{append_known}
use Rattle.lock_io.specs.declared.copied_sink.CopiedSink.{CopiedSink}

-- the sink that takes the bytes
abbrev pub copied_from : {K : Type 0} → CopiedSink K → K
copied_from s = s.sink

-- the copy, where it wasn't given up
abbrev pub copy_of : {K : Type 0} → CopiedSink K → Option (List ℕ)
copy_of s = if s.is_whole then Some s.copy.items else None

-- the bytes that were taken stand in the copy behind those before them, or the copy is given up
abbrev pub Copies : Option (List ℕ) → Option (List ℕ) → List ℕ → Type 0
Copies old new taken = (new ≡ append_known old taken) ⊎ (new ≡ None)

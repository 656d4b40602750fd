-- A source that keeps a copy of what was read from another one, as contracts see it. It is this project's own.
use Rattle.std.specs.Prelude.{ℕ, List, Option, Some, None, if◌then◌else◌}
use Rattle.remarks.specs.declared.copied_source.CopiedSource.{CopiedSource}

-- the source that is read from
abbrev pub copied_from : {S : Type 0} → CopiedSource S → S
copied_from s = s.source

-- the copy, where it wasn't given up
abbrev pub copy_of : {S : Type 0} → CopiedSource S → Option (List ℕ)
copy_of s = if s.is_whole then Some s.copy.items else None

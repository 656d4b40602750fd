-- The list of the locks that a thread holds.
use Rattle.std.specs.Prelude.{ℕ, ◌+◌, ◌==◌, if◌then◌else◌, List, [], ◌∷◌}
use Rattle.lock_model.specs.declared.event.Held.{Held}

-- how many of a list's entries are of a lock
abbrev pub holds_of : ℕ → List Held → ℕ
holds_of l [] = 0
holds_of l (h ∷ hs) = (if h.l.0 == l then 1 else 0) + holds_of l hs

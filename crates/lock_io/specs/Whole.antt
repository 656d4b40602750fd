-- What reading a source to its end, or writing a whole text to a sink, does to the bytes that they tell.
use Rattle.std.specs.Prelude.{◌≡◌, ℕ, ◌+◌, ◌≤◌, List, length, take, Result, Ok, Err, Option}
use Rattle.std.specs.Io.KnownBytes.{prepend_known, append_known}
use Rattle.lock_io.specs.declared.whole.ReadAllError.{ReadAllError}
use Rattle.lock_io.specs.declared.whole.ReadAllError.TheVariants.{Memory, Fault, TooBig}

-- the first bytes of those that were left, at most so many, were taken
abbrev pub TakesFront : Option (List ℕ) → Option (List ℕ) → ℕ → Type 0
TakesFront old new most = (front : List ℕ) × (length front ≤ most) × (old ≡ prepend_known front new)

-- the first bytes of a text were added at the end
abbrev pub AddsFront : Option (List ℕ) → Option (List ℕ) → List ℕ → Type 0
AddsFront old new text = (n : ℕ) × (n ≤ length text) × (new ≡ append_known old (take n text))

-- one fact at the answer `Fault`, and another at each other answer
abbrev pub MatchFault : {T : Type 0} → Result T ReadAllError → Type 0 → Type 0 → Type 0
MatchFault (Err (Fault f)) P Q = P
MatchFault (Err (Memory e)) P Q = Q
MatchFault (Err TooBig) P Q = Q
MatchFault (Ok x) P Q = Q

-- how many bytes are taken at most: one more than the limit where the answer is `TooBig`
abbrev pub most_taken : {T : Type 0} → Result T ReadAllError → ℕ → ℕ
most_taken (Err TooBig) limit = limit + 1
most_taken (Err (Memory e)) limit = limit
most_taken (Err (Fault f)) limit = limit
most_taken (Ok x) limit = limit

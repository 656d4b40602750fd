-- The threads of those that were taken off, node by node, as a set of bits.
use Rattle.lock_objects.proofs.Names.{ℕ, List, [], map, Option, None, Some, Bor, arith, inl, inr, cases_lt, pow_mono}
use Rattle.lock_objects.proofs.Names.{Node}
use Rattle.std.proofs.Common.{◌+◌, ◌^◌, ◌<◌, ◌∷◌}
use Rattle.wait_objects.specs.Seen.{Place}

-- those from a node on
abbrev pub places_at : Option (Bor Node) → List Place
places_at None = []
places_at (Some r) = r.now.place ∷ r.now.next

abbrev pub threads : List Place → List ℕ
threads ps = map (λ p. p.thread) ps

-- each is one of so many bits
pub is_bit : (t rest sum : ℕ) (k : ℕ) → rest + (2 ^ t + sum) < 2 ^ k → t < k
is_bit t rest sum k fits = elim (cases_lt t k) [
  | inl l ↦ l
  | inr l ↦ let m = pow_mono l in absurd (omega arith)
]

-- Tests with codes, in stages. What fails a test of one stage is not tried by a later one, and within a stage the
-- smallest code of those that fail counts.
use Rattle.std.specs.Prelude.{◌≡◌, ℕ, Bool, if◌then◌else◌, List, [], ◌∷◌, Option, Some, None}
use Rattle.lock_model.specs.Counts.{lower}

-- whether something passes, and the code where it doesn't
pub record Test : Type 0 where
  pub passes : Bool
  pub code : ℕ

abbrev pub test : ℕ → Bool → Test
test code passes = record { passes = passes; code = code }

-- the smallest code of the tests that fail
unfoldable pub least_code : List Test → Option ℕ
least_code [] = None
least_code (t ∷ ts) = if t.passes then least_code ts else Some (lower (least_code ts) t.code)

-- no test fails
abbrev pub Passes : List Test → Type 0
Passes tests = least_code tests ≡ None

abbrev pub or_else : Option ℕ → Option ℕ → Option ℕ
or_else None later = later
or_else (Some code) later = Some code

-- the smallest code of the first stage that has one
abbrev pub first_fault : List (List Test) → Option ℕ
first_fault [] = None
first_fault (stage ∷ stages) = or_else (least_code stage) (first_fault stages)

-- tests that speak of something, where it is there
abbrev pub where_some : {A : Type 0} → (A → List Test) → Option A → List Test
where_some tests None = []
where_some tests (Some x) = tests x

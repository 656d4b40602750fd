-- Reading goes by a line's number as it is told.
use Rattle.std.proofs.Common.{◌≡◌, ℕ, suc, ◌≤◌, if◌then◌else◌, List, [], ◌∷◌, Option, Some, None, Err, refl, sym, ap, ◌∙◌, arith}
use Rattle.lock_model.specs.Limits.{greatest_line}
use Rattle.lock_model.specs.Script.{Reading, Reads, Faulty, told, plan_of, faulty_or, reading_from}
use Rattle.lock_model.specs.Script.Faults.{line_fault, behind_line}
use Rattle.lock_model.specs.Script.Learning.{Known}
use Rattle.script_read.specs.Reading.{FailsBy, Tells, told_at}
use Rattle.script_read.specs.declared.fault.LineError.{LineError}
use Rattle.script_read.specs.declared.fault.LineError.TheVariants as why

told_again : (n : ℕ) → told (told n) ≡ told n
told_again n = omega arith

told_next : (n : ℕ) → told (suc (told n)) ≡ told (suc n)
told_next n = omega arith

same_fault : (n : ℕ) (fault : Option ℕ) (r : Reading) → faulty_or (told n) fault r ≡ faulty_or n fault r
same_fault n None r = refl
same_fault n (Some code) r = ap (λ (m : ℕ). Faulty m code) (told_again n)

pub same_reading : (n : ℕ) (k : Known) (lines : List (List ℕ)) → reading_from (told n) k lines ≡ reading_from n k lines
unfolding reading_from
same_reading n k [] = ap (λ (m : ℕ). if k.is_done then Reads (plan_of k) else Faulty m 17) (told_again n)
same_reading n k (line ∷ lines) =
    let next : reading_from (suc (told n)) (behind_line k line) lines
    ≡ reading_from (suc n) (behind_line k line) lines =
    sym (same_reading (suc (told n)) (behind_line k line) lines)
    ∙ ap (λ (m : ℕ). reading_from m (behind_line k line) lines) (told_next n)
    ∙ same_reading (suc n) (behind_line k line) lines in
    ap (λ (r : Reading). faulty_or (told n) (line_fault k line) r) next
    ∙ same_fault n (line_fault k line) (reading_from (suc n) (behind_line k line) lines)

-- behind a line without a fault, as the numbers go on
pub next_reading : (n m : ℕ) (k new : Known) (line : List ℕ) (lines all : List (List ℕ)) → all ≡ line ∷ lines
    → line_fault k line ≡ None → behind_line k line ≡ new → m ≡ told (suc n)
    → reading_from m new lines ≡ reading_from n k all
unfolding reading_from
next_reading n m k new line lines all e none same next =
    ap (λ (i : ℕ). reading_from i new lines) next ∙ same_reading (suc n) new lines ∙ rw (e, none, same) refl

-- and where it has one
pub faulty_reading : (n : ℕ) (k : Known) (line : List ℕ) (lines all : List (List ℕ)) (code : ℕ) → all ≡ line ∷ lines
    → line_fault k line ≡ Some code → n ≤ greatest_line → reading_from n k all ≡ Faulty n code
unfolding reading_from
faulty_reading n k line lines all code e fault small =
    let t : told n ≡ n = omega (arith, small) in
    rw (e, fault, t) refl

-- why a line wasn't read is told with its number
pub error_tells : (n : ℕ) (k : Known) (line : List ℕ) (lines all : List (List ℕ)) (e : LineError) (r : Reading)
    → all ≡ line ∷ lines → n ≤ greatest_line → FailsBy (line_fault k line) e
    → reading_from n k all ≡ r → Tells r (Err (told_at n e))
error_tells n k line lines all (why.Fault code) r e small fault same = sym same
    ∙ faulty_reading n k line lines all code.0 e fault small
error_tells n k line lines all (why.Memory m) r e small fault same = tt

-- The loans of a thread, by lock.
use Rattle.std.specs.Prelude.{ℕ, ◌+◌, ◌==◌, Bool, if◌then◌else◌, List, [], ◌∷◌, map, find, Option}
use Rattle.std.specs.List.{list_any}
use Rattle.turnstile_core.specs.Seen.{Terms, Loan}

-- the priorities that are lent
abbrev pub prios : List Terms → List ℕ
prios ts = map (λ t. t.prio) ts

-- whether a loan for a lock stands
abbrev pub has_loan : ℕ → List Terms → Bool
has_loan l ts = list_any (λ t. t.lock == l) ts

-- the loan for a lock, if it stands
abbrev pub loan_for : ℕ → List Terms → Option Terms
loan_for l ts = find (λ t. t.lock == l) ts

-- a loan with nothing behind it
abbrev pub alone : Terms → Loan
alone t = record { terms = t; next = [] }

-- with another priority for a lock
abbrev pub with_prio : ℕ → ℕ → List Terms → List Terms
with_prio l k [] = []
with_prio l k (t ∷ ts) = if t.lock == l then record t { prio = k } ∷ ts else t ∷ with_prio l k ts

-- without the loan for a lock
abbrev pub without_loan : ℕ → List Terms → List Terms
without_loan l [] = []
without_loan l (t ∷ ts) = if t.lock == l then ts else t ∷ without_loan l ts

-- how many loans there are for a lock
abbrev pub loans_for : ℕ → List Terms → ℕ
loans_for l [] = 0
loans_for l (t ∷ ts) = (if t.lock == l then 1 else 0) + loans_for l ts

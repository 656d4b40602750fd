-- The plan that a number generates: eight threads that make a hundred rounds each over eight mutexes. A round takes one
-- or two of them in order of declaration, adds to a key of each, and releases them. Which ones, which keys and how much
-- is drawn from one sequence of numbers that begins with the plan's. It is this project's own.
use Rattle.std.specs.Prelude.{ℕ, zero, suc, ◌+◌, ◌*◌, ◌/◌, ◌%◌, ◌^◌, ◌==◌, if◌then◌else◌, min, max, List, [], ◌∷◌, ◌++◌, map}
use Rattle.std.specs.List.{range_with_len}
use Rattle.lock_model.specs.declared.plan.Kind.TheVariants.{Mtx}
use Rattle.lock_model.specs.declared.plan.LockDecl.{LockDecl}
use Rattle.lock_model.specs.declared.plan.Mode.TheVariants.{Excl}
use Rattle.lock_model.specs.declared.plan.Op.{Op}
use Rattle.lock_model.specs.declared.plan.Op.TheVariants.{Add, Release, Take}
use Rattle.lock_model.specs.declared.plan.Plan.{Plan}
use Rattle.lock_model.specs.declared.plan.ThreadDecl.{ThreadDecl}

-- 1. Draws

-- the state behind a draw, by Knuth's linear congruential generator of his MMIX
unfoldable pub next_state : ℕ → ℕ
next_state x = (x * 6364136223846793005 + 1442695040888963407) % 2 ^ 64

-- the state behind so many draws
abbrev pub behind : ℕ → ℕ → ℕ
behind zero x = x
behind (suc n) x = behind n (next_state x)

-- what is drawn of k numbers: the upper 31 bits of the state behind the draw, modulo k
unfoldable pub drawn : ℕ → ℕ → ℕ
drawn k x = next_state x / 2 ^ 33 % k

-- 2. Rounds

abbrev pub takes : ℕ → Op
takes l = Take (record { 0 = l }) Excl

-- the key is drawn of 16, and the amount of 1000
abbrev pub adds : ℕ → ℕ → Op
adds x l = Add (record { 0 = l }) (drawn 16 x) (drawn 1000 (behind 1 x))

abbrev pub releases : ℕ → Op
releases l = Release (record { 0 = l })

abbrev pub over_one : ℕ → ℕ → List Op
over_one x l = takes l ∷ adds x l ∷ releases l ∷ []

-- the lock of the greater number is taken last and released first
abbrev pub over_two : ℕ → ℕ → ℕ → List Op
over_two x l k =
    takes l ∷ takes k ∷ adds x l ∷ adds (behind 2 x) k ∷ releases k ∷ releases l ∷ []

-- a round draws two locks of eight, which may be the same
unfoldable pub round_at : ℕ → List Op
round_at x = let i = drawn 8 x in let j = drawn 8 (behind 1 x) in
    if i == j then over_one (behind 2 x) i else over_two (behind 2 x) (min i j) (max i j)

unfoldable pub behind_round : ℕ → ℕ
behind_round x = if drawn 8 x == drawn 8 (behind 1 x) then behind 4 x else behind 6 x

-- the state behind so many rounds
unfoldable pub behind_rounds : ℕ → ℕ → ℕ
behind_rounds x zero = x
behind_rounds x (suc n) = behind_round (behind_rounds x n)

-- the operations of so many rounds
unfoldable pub rounds_at : ℕ → ℕ → List Op
rounds_at x zero = []
rounds_at x (suc n) = rounds_at x n ++ round_at (behind_rounds x n)

-- 3. The plan

-- a letter and a digit
abbrev pub numbered : ℕ → ℕ → List ℕ
numbered letter n = letter ∷ (48 + n) ∷ []

-- `m0` to `m7`, each with a class of its own, `c0` to `c7`
abbrev pub mutex : ℕ → LockDecl
mutex l = record { name = numbered 109 l; kind = Mtx; class = record { 0 = l } }

-- `t0` to `t7`, each with a base priority drawn of 256 and a hundred rounds
unfoldable pub thread_at : ℕ → ℕ → ThreadDecl
thread_at x t = record {
  name = numbered 116 t;
  base = record { 0 = drawn 256 x };
  ops = rounds_at (behind 1 x) 100;
}

-- the state behind so many threads
unfoldable pub behind_threads : ℕ → ℕ → ℕ
behind_threads x zero = x
behind_threads x (suc n) = behind_rounds (behind 1 (behind_threads x n)) 100

-- the plan that a number generates
unfoldable pub generated : ℕ → Plan
generated n = record {
  classes = map (numbered 99) (range_with_len 0 8);
  locks = map mutex (range_with_len 0 8);
  chans = [];
  threads = map (λ t. thread_at (behind_threads n t) t) (range_with_len 0 8);
  schedule = [];
}

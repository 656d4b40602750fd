-- A generated plan is proper and ordered, and no operation of it sets a key: what its rounds do fits what is held, and
-- each round begins and ends with nothing held.
use Rattle.std.proofs.Common.{◌≡◌, ℕ, zero, suc, ◌+◌, ◌*◌, ◌<◌, ◌≤◌, ◌==◌, true, false, min, max, List, [], ◌∷◌, ◌++◌, length, take, map, Some, refl, sym, ap, subst, ◌∙◌, inl, inr, arith}
use Rattle.std.specs.Prelude.{option_map, slice_get, sum, unwrap_or}
use Rattle.std.specs.List.{All, range_with_len}
use Rattle.std.proofs.Math.Nat.{mod-lt}
use Rattle.std.proofs.lemmas.Bool.{eq-eqb, ne_eqb, cases_eq}
use Rattle.std.proofs.lemmas.Bool.Decides.{nat_tests}
use Rattle.std.proofs.lemmas.List.{take_all, length-append}
use Rattle.std.proofs.lemmas.List.Sums.{sum_by-cons}
use Rattle.std.proofs.lemmas.List.Elements.{All-nil, All-cons, All-head, All-tail, All-map}
use Rattle.std.proofs.lemmas.Option.{same_Some, none-some, unwrap_or-slice_get}
use Rattle.std.proofs.lemmas.List.FromFn.{get_or-map-range_with_len}
use Rattle.lock_model.specs.Holds.{Holds, is_unheld}
use Rattle.lock_model.specs.Operations.{held_behind, held_through, hold_in, is_endtry, is_kind, operation_tests, Fit, IsProper}
use Rattle.lock_model.specs.OrderedPlans.{IsOrdered, waits_or_tries}
use Rattle.lock_model.specs.Plans.{lock_class, operations_of}
use Rattle.lock_model.specs.Tests.{Passes, Test, least_code}
use Rattle.lock_model.specs.declared.event.Held.{Held}
use Rattle.lock_model.specs.declared.numbers.LockNo.{LockNo}
use Rattle.lock_model.specs.declared.plan.Kind.TheVariants.{Sx}
use Rattle.lock_model.specs.declared.plan.LockDecl.{LockDecl}
use Rattle.lock_model.specs.declared.plan.Mode.{Mode}
use Rattle.lock_model.specs.declared.plan.Mode.TheVariants.{Excl}
use Rattle.lock_model.specs.declared.plan.Op.{Op}
use Rattle.lock_model.specs.declared.plan.Op.TheVariants.{Add, EndTry, Set, Take, Try}
use Rattle.lock_model.specs.declared.plan.ThreadDecl.{ThreadDecl}
use Rattle.script_read.specs.Generator.{behind, behind_rounds, behind_threads, drawn, generated, mutex, over_one, over_two, releases, round_at, rounds_at, takes, thread_at}

-- 1. Operations that fit what is held

abbrev mutexes : List LockDecl
mutexes = map mutex (range_with_len 0 8)

abbrev holding : ℕ → Held
holding l = record { l = record { 0 = l }; mode = Excl; by_try = false }

-- a take of a lock behind the one that is held, if one is; or an add or a release of a lock that is held
data IsSafe : List Held → Op → Type 0 where
  is_take : {hs : List Held} (l : ℕ) → l < 8 → All (λ h. h.l.0 < l) hs → length hs ≤ 1 → IsSafe hs (takes l)
  is_add : {hs : List Held} (l key amount : ℕ) → hold_in hs l ≡ Holds Excl
      → IsSafe hs (Add (record { 0 = l }) key amount)
  is_release : {hs : List Held} (l : ℕ) → hold_in hs l ≡ Holds Excl → IsSafe hs (releases l)

-- operations that fit, each by what those before it lead to
data Leads : List Held → List Op → List Held → Type 0 where
  nothing : {hs : List Held} → Leads hs [] hs
  more : {hs next last : List Held} {op : Op} {ops : List Op} → IsSafe hs op → held_behind op hs ≡ next
      → Leads next ops last → Leads hs (op ∷ ops) last

leads_on : {hs mid last : List Held} {xs ys : List Op} → Leads hs xs mid → Leads mid ys last → Leads hs (xs ++ ys) last
leads_on nothing b = b
leads_on (more s e a) b = more s e (leads_on a b)

leads_to : {hs last : List Held} {ops : List Op} → Leads hs ops last → held_through ops hs ≡ last
leads_to nothing = refl
leads_to (more {ops = ops} s e a) = ap (held_through ops) e ∙ leads_to a

safe_at : {hs last : List Held} {ops : List Op} (n : ℕ) (op : Op) → Leads hs ops last → slice_get ops n ≡ Some op
    → IsSafe (held_through (take n ops) hs) op
safe_at n op nothing e = absurd (none-some op e)
safe_at zero op (more {hs = hs} {op = x} s e a) is = subst (IsSafe hs) (same_Some x op is) s
safe_at (suc n) op (more {ops = ops} s e a) is =
    subst (λ (h : List Held). IsSafe (held_through (take n ops) h) op) (sym e) (safe_at n op a is)

-- 2. What a round does fits, and leaves nothing held

same : (l : ℕ) → (l == l) ≡ true
same l = eq-eqb l l refl

other : (l k : ℕ) → l < k → (l == k) ≡ false
other l k less = ne_eqb l k (λ e. omega (arith, e, less))

first_held : (l : ℕ) (hs : List Held) → hold_in (holding l ∷ hs) l ≡ Holds Excl
first_held l hs = rw (same l) refl

next_held : (l k : ℕ) → l < k → hold_in (holding l ∷ holding k ∷ []) k ≡ Holds Excl
next_held l k less = rw (other l k less, same k) refl

one_fits : (x l : ℕ) → l < 8 → Leads [] (over_one x l) []
one_fits x l lock =
    more (is_take l lock (All-nil _) (omega arith)) refl
    (more (is_add l _ _ (first_held l [])) refl
    (more (is_release l (first_held l [])) (rw (same l) refl) nothing))

two_fit : (x l k : ℕ) → l < k → k < 8 → Leads [] (over_two x l k) []
two_fit x l k less lock =
    more (is_take l (omega arith) (All-nil _) (omega arith)) refl
    (more (is_take k lock (All-cons (λ (h : Held). h.l.0 < k) (holding l) [] less (All-nil (λ (h : Held). h.l.0 < k)))
    (omega arith)) refl
    (more (is_add l _ _ (first_held l (holding k ∷ []))) refl
    (more (is_add k _ _ (next_held l k less)) refl
    (more {next = holding l ∷ []} (is_release k (next_held l k less)) (rw (other l k less, same k) refl)
    (more (is_release l (first_held l [])) (rw (same l) refl) nothing)))))

drawn_below : (k x : ℕ) → 0 < k → drawn k x < k
unfolding drawn
drawn_below k x some = mod-lt _ some

round_fits : (x : ℕ) → Leads [] (round_at x) []
unfolding round_at
round_fits x =
    let i = drawn 8 x in
    let j = drawn 8 (behind 1 x) in
    let lock : i < 8 = drawn_below 8 x (omega arith) in
    let next : j < 8 = drawn_below 8 (behind 1 x) (omega arith) in
    elim (cases_eq i j) [
      | inl e ↦ rw (eq-eqb i j e) (one_fits (behind 2 x) i lock)
      | inr e ↦
          rw (ne_eqb i j e) (two_fit (behind 2 x) (min i j) (max i j) (omega (arith, e)) (omega (arith, lock, next)))
    ]

rounds_fit : (x n : ℕ) → Leads [] (rounds_at x n) []
unfolding rounds_at
rounds_fit x zero = nothing
rounds_fit x (suc n) = leads_on (rounds_fit x n) (round_fits (behind_rounds x n))

-- a round has six operations at most
round_short : (x : ℕ) → length (round_at x) ≤ 6
unfolding round_at
round_short x = elim (cases_eq (drawn 8 x) (drawn 8 (behind 1 x))) [
  | inl e ↦ rw (eq-eqb _ _ e) (omega arith)
  | inr e ↦ rw (ne_eqb _ _ e) (omega arith)
]

rounds_short : (x n : ℕ) → length (rounds_at x n) ≤ 6 * n
unfolding rounds_at
rounds_short x zero = omega arith
rounds_short x (suc n) =
    let both = length-append (rounds_at x n) (round_at (behind_rounds x n)) in
    omega (arith, both, rounds_short x n, round_short (behind_rounds x n))

-- 3. The threads

its_operations : (x t : ℕ) → (thread_at x t).ops ≡ rounds_at (behind 1 x) 100
unfolding thread_at
its_operations x t = refl

abbrev threads_of : ℕ → List ℕ → List ThreadDecl
threads_of n ts = map (λ t. thread_at (behind_threads n t) t) ts

-- the operations of the thread of each number, of which there may be none
operations_fit : (n : ℕ) (ts : List ℕ) (t : ℕ)
    → Leads [] (unwrap_or (slice_get (map (λ (d : ThreadDecl). d.ops) (threads_of n ts)) t) []) []
operations_fit n [] t = nothing
operations_fit n (k ∷ ts) zero = rw (its_operations (behind_threads n k) k) (rounds_fit _ 100)
operations_fit n (k ∷ ts) (suc t) = operations_fit n ts t

abbrev operations_count : ℕ → List ℕ → ℕ
operations_count n ts = sum (map (λ (d : ThreadDecl). length d.ops) (threads_of n ts))

few_operations : (n : ℕ) (ts : List ℕ) → operations_count n ts ≤ 600 * length ts
few_operations n [] = omega arith
few_operations n (k ∷ ts) =
    let its : length (thread_at (behind_threads n k) k).ops ≤ 600 =
    rw (its_operations (behind_threads n k) k) (rounds_short (behind 1 (behind_threads n k)) 100) in
    let all : operations_count n (k ∷ ts) ≡ length (thread_at (behind_threads n k) k).ops + operations_count n ts =
    sum_by-cons (λ (m : ℕ). m) (length (thread_at (behind_threads n k) k).ops)
    (map (λ (d : ThreadDecl). length d.ops) (threads_of n ts)) in
    omega (arith, its, all, few_operations n ts)

fits_of : (n t : ℕ) → Leads [] (operations_of (generated n) t) []
unfolding generated
fits_of n t = operations_fit n (range_with_len 0 8) t

-- 4. What follows of an operation that fits

-- a test that passes before others that do
passing : (t : Test) (ts : List Test) → t.passes ≡ true → Passes ts → Passes (t ∷ ts)
unfolding least_code
passing t ts e h = rw e h

no_tests : Passes []
unfolding least_code
no_tests = refl

-- no lock is an sx lock
no_sx : (ls : List ℕ) (l : ℕ) → is_kind Sx (option_map (λ (d : LockDecl). d.kind) (slice_get (map mutex ls) l)) ≡ false
no_sx [] l = refl
no_sx (k ∷ ls) zero = refl
no_sx (k ∷ ls) (suc l) = no_sx ls l

unheld : (hs : List Held) (l : ℕ) → All (λ h. h.l.0 < l) hs → is_unheld (hold_in hs l) ≡ true
unheld [] l a = refl
unheld (h ∷ hs) l a =
    let z = All-head (λ (x : Held). x.l.0 < l) h hs a in
    rw (other h.l.0 l z) (unheld hs l (All-tail (λ (x : Held). x.l.0 < l) h hs a))

passes : {hs : List Held} {op : Op} → IsSafe hs op → Passes (operation_tests mutexes [] op hs)
passes (is_take {hs = hs} l lock lower few) =
    passing _ _ (grind (arith, nat_tests)) (passing _ _ (grind (arith, nat_tests)) (passing _ _ (unheld hs l lower)
    (passing _ _ (rw (no_sx (range_with_len 0 8) l) refl) no_tests)))
passes (is_add l key amount held) = passing _ _ (rw held refl) (passing _ _ (rw held refl) no_tests)
passes (is_release l held) = passing _ _ (rw held refl) no_tests

plain : {hs : List Held} {op : Op} → IsSafe hs op → (waits_or_tries op ≡ false) × (is_endtry op ≡ false)
plain (is_take l lock lower few) = (refl, refl)
plain (is_add l key amount held) = (refl, refl)
plain (is_release l held) = (refl, refl)

upward : {hs : List Held} {op : Op} → IsSafe hs op → (l : LockNo) (mode : Mode) → op ≡ Take l mode
    → All (λ h. h.l.0 < l.0) hs
upward (is_take {hs = hs} k lock lower few) l mode e = subst (λ (n : ℕ). All (λ h. h.l.0 < n) hs) (cc) lower
upward (is_add k key amount held) l mode e = absurd cc
upward (is_release k held) l mode e = absurd cc

sets_nothing : {hs : List Held} {op : Op} → IsSafe hs op → (l : LockNo) (key value : ℕ) → op ≡ Set l key value → ⊥
sets_nothing (is_take k lock lower few) l key value e = absurd cc
sets_nothing (is_add k at amount held) l key value e = absurd cc
sets_nothing (is_release k held) l key value e = absurd cc

tries_nothing : {ops : List Op} → Leads [] ops [] → (n : ℕ) (l : LockNo) (mode : Mode) (past : ℕ)
    → slice_get ops n ≡ Some (Try l mode past) → ⊥
tries_nothing a n l mode past e = absurd (let z = (plain (safe_at n (Try l mode past) a e)).0 in cc)

ends_no_try : {ops : List Op} → Leads [] ops [] → (n : ℕ) → slice_get ops n ≡ Some EndTry → ⊥
ends_no_try a n e = absurd (let z = (plain (safe_at n EndTry a e)).1 in cc)

fit : {ops : List Op} → Leads [] ops [] → Fit mutexes [] ops
fit {ops} a = record {
  each = λ n op e. passes (safe_at n op a e);
  blocks = λ n l mode past e. absurd (tries_nothing a n l mode past e);
  endtries = λ n e. absurd (ends_no_try a n e);
  nested = λ n m l k outer inner past next e f b i. absurd (tries_nothing a n l outer past e);
  released = ap (λ (os : List Op). held_through os []) (take_all (length ops) ops (omega arith)) ∙ leads_to a;
}

-- 5. The plan

below : (a n m : ℕ) → a + n ≤ m → All (λ (k : ℕ). k < m) (range_with_len a n)
below a zero m h = All-nil (λ (k : ℕ). k < m)
below a (suc n) m h =
    All-cons (λ (k : ℕ). k < m) a (range_with_len (a + 1) n) (omega (arith, h)) (below (a + 1) n m (omega (arith, h)))

-- each lock has the class of its own number
own_class : (l : ℕ) → l < 8 → unwrap_or (slice_get (map (λ (d : LockDecl). d.class.0) mutexes) l) 0 ≡ l
own_class l lock =
    unwrap_or-slice_get (map (λ (d : LockDecl). d.class.0) mutexes) l 0
    ∙ get_or-map-range_with_len (λ (n : ℕ). n) 0 8 l l 0 lock (omega arith)

pub proper : (n : ℕ) → IsProper (generated n)
unfolding generated
proper n = record {
  threads = omega arith;
  locks = omega arith;
  chans = omega arith;
  classes = omega arith;
  operations = omega (arith, few_operations n (range_with_len 0 8));
  scheduled = omega arith;
  schedule = All-nil _;
  lock_classes = All-map (λ (d : LockDecl). d.class.0 < 8) mutex (range_with_len 0 8) (below 0 8 8 (omega arith));
  chan_locks = All-nil _;
  fits = λ t. fit (fits_of n t);
}

classes_apart : (n l k : ℕ) → l < length (generated n).locks → k < length (generated n).locks
    → lock_class (generated n) l ≡ lock_class (generated n) k → l ≡ k
unfolding generated
classes_apart n l k first second e = sym (own_class l first) ∙ (e ∙ own_class k second)

pub ordered : (n : ℕ) → IsOrdered (generated n)
ordered n = record {
  no_wait_nor_try = λ t k op e. (plain (safe_at k op (fits_of n t) e)).0;
  own_classes = λ l k first second e. classes_apart n l k first second e;
  upward = λ t k l mode e. upward (safe_at k (Take l mode) (fits_of n t) e) l mode refl;
}

pub adds_alone : (n t k : ℕ) (l : LockNo) (key value : ℕ)
    → slice_get (operations_of (generated n) t) k ≡ Some (Set l key value) → ⊥
adds_alone n t k l key value e = sets_nothing (safe_at k (Set l key value) (fits_of n t) e) l key value refl

-- Where the turnstiles and the loan nodes of a lawful state are, and who owns a head.
use Rattle.lock_laws.proofs.Names
use Names.{ℕ, Bool, true, false, ltb, Option, Some, None, refl, sym, ap, inl, inr, arith, cases_lt, sum_below, one}
use Names.{at_option, is_turnstile, Config, State, Loan, Holds, lock_queue, Lawful, OneTurnstileEach, OneNodeEach}
use Names.{OwnersHold, LoansAreWithOwners, LoansAreOnHeads, WordsMatchHolders, OnlyThreadsHold, only, turnstile_places}
use Names.{at_loan, loans_on, Excl}
use Rattle.std.proofs.Common.{◌≡◌, ◌+◌, ◌<◌, ◌≤◌, ◌&&◌, ◌∙◌}
use Rattle.lock_laws.proofs.Kit.{sum_below-zero, sum_below-at, one_same}
use Rattle.lock_laws.proofs.Beyond.{beyond_none}
use Rattle.lock_laws.proofs.Nodes.{some_waiting, heads_differ, head_inside}
use Rattle.lock_laws.proofs.Shown.{owner_from, exclusive_is, owner-owns, lent_held}

-- 1. Owners

pub owner_holds : (c : Config) (s : State) (l o : ℕ) → Lawful c s → s.owner (lock_queue l) ≡ Some o
    → s.held o l ≡ Holds Excl
unfolding OwnersHold WordsMatchHolders
owner_holds c s l o h e =
    let r = owner_from (is_turnstile (c.kind l)) (s.head (lock_queue l)) (s.word l).holder o
    (sym (h.loans.owners_hold l) ∙ e) in
    exclusive_is (s.held o l) ((h.words.words_match_holders l).owner o ∙ owner-owns o (s.word l).holder r.1)

pub owner_thread : (c : Config) (s : State) (l o : ℕ) → Lawful c s → s.owner (lock_queue l) ≡ Some o → o < c.threads
unfolding OnlyThreadsHold
owner_thread c s l o h e = h.words.only_threads_hold o l Excl (owner_holds c s l o h e)

-- 2. Turnstiles

one_le : (b : Bool) → one b ≤ 1
one_le true = omega arith
one_le false = omega arith

-- how often a turnstile is the head of the lock's queue
abbrev at_head : Config → State → ℕ → ℕ → ℕ
at_head c s x l = only (is_turnstile (c.kind l)) (at_option x (s.head (lock_queue l)))

head_once : (c : Config) (s : State) (x l : ℕ) → is_turnstile (c.kind l) ≡ true → s.head (lock_queue l) ≡ Some x
    → at_head c s x l ≡ 1
head_once c s x l k e = rw (k, e) (one_same x)

home_once : (s : State) (x t : ℕ) → s.turnstile t ≡ Some x → at_option x (s.turnstile t) ≡ 1
home_once s x t e = rw e (one_same x)

pub heads_apart : (c : Config) (s : State) (l k x : ℕ) → Lawful c s → l < c.locks → k < c.locks
    → is_turnstile (c.kind l) ≡ true → is_turnstile (c.kind k) ≡ true
    → s.head (lock_queue l) ≡ Some x → s.head (lock_queue k) ≡ Some x → l ≡ k
heads_apart c s l k x h lt kt tl tk el ek = heads_differ c s h l k x lt kt tl tk el ek

pub heads_out : (c : Config) (s : State) (t l x : ℕ) → Lawful c s → t < c.threads → l < c.locks
    → is_turnstile (c.kind l) ≡ true → s.turnstile t ≡ Some x → s.head (lock_queue l) ≡ Some x → ⊥
unfolding OneTurnstileEach turnstile_places
heads_out c s t l x h tt lt k et el =
    let a = sum_below-at c.threads (λ u. at_option x (s.turnstile u)) t tt in
    let b = sum_below-at c.locks (at_head c s x) l lt in
    omega (arith, h.queues.one_turnstile_each x, home_once s x t et, head_once c s x l k el, one_le (ltb x c.threads))

is_one : (b : Bool) → 1 ≤ one b → b ≡ true
is_one true l = refl
is_one false l = absurd (omega arith)

-- a turnstile at home is a thread's
home_inside : (c : Config) (s : State) (t x : ℕ) → Lawful c s → t < c.threads → s.turnstile t ≡ Some x
    → ltb x c.threads ≡ true
unfolding OneTurnstileEach turnstile_places
home_inside c s t x h lt e =
    let a = sum_below-at c.threads (λ u. at_option x (s.turnstile u)) t lt in
    is_one (ltb x c.threads) (omega (arith, h.queues.one_turnstile_each x, home_once s x t e))

-- 3. Loan nodes

-- a thread's node that no loan is on is at home
unused_home : (c : Config) (s : State) (x : ℕ) → Lawful c s → ltb x c.threads ≡ true
    → ((u k : ℕ) (y : Loan) → k < c.locks → s.loan u k ≡ Some y → x ≡ y.number → ⊥) → s.loan_home x ≡ true
unfolding OneNodeEach loans_on
unused_home c s x h inside none =
    let a = sum_below-zero c.threads (λ u. sum_below c.locks (λ k. at_loan x (s.loan u k)))
    (λ u i. sum_below-zero c.locks (λ k. at_loan x (s.loan u k)) (λ k j. unused u k j (s.loan u k) refl)) in
    home (ltb x c.threads) (s.loan_home x) inside (omega (arith, h.queues.one_node_each x))
  where
    unused : (u k : ℕ) → k < c.locks → (o : Option Loan) → s.loan u k ≡ o → at_loan x o ≡ 0
    unused u k j o e = grind arith

    home : (b d : Bool) → b ≡ true → one (b && d) ≡ one b → d ≡ true
    home true true i e = refl
    home true false i e = absurd (omega arith)
    home false d i e = absurd cc

-- the lock of a loan has a turnstile, whose head the loan is on
loan_head : (c : Config) (s : State) (u k : ℕ) (y : Loan) → Lawful c s → s.loan u k ≡ Some y
    → (is_turnstile (c.kind k) ≡ true) × (s.head (lock_queue k) ≡ Some y.number)
unfolding LoansAreOnHeads
loan_head c s u k y h e = ((lent_held c s h u k y e).0, h.loans.loans_are_on_heads u k y e)

pub node_home : (c : Config) (s : State) (t x : ℕ) → Lawful c s → t < c.threads → s.turnstile t ≡ Some x
    → s.loan_home x ≡ true
node_home c s t x h lt e =
    unused_home c s x h (home_inside c s t x h lt e)
    (λ u k y j f i. let r = loan_head c s u k y h f in heads_out c s t k x h lt j r.0 e (r.1 ∙ ap Some (sym i)))

-- the node of a head is at home where nobody has a loan for its lock
unlent_home : (c : Config) (s : State) (l x : ℕ) → Lawful c s → l < c.locks → is_turnstile (c.kind l) ≡ true
    → s.head (lock_queue l) ≡ Some x → ((u : ℕ) (y : Loan) → s.loan u l ≡ Some y → ⊥) → s.loan_home x ≡ true
unlent_home c s l x h lt k e none =
    unused_home c s x h (head_inside c s h l x lt k e) (λ u i y j f n. let r = loan_head c s u i y h f in
    let d = heads_apart c s l i x h lt j k r.0 e (r.1 ∙ ap Some (sym n)) in none u y (ap (s.loan u) d ∙ f))

pub owned_home : (c : Config) (s : State) (l x o : ℕ) → Lawful c s → l < c.locks → is_turnstile (c.kind l) ≡ true
    → s.head (lock_queue l) ≡ Some x → s.owner (lock_queue l) ≡ Some o → s.loan o l ≡ None → s.loan_home x ≡ true
unfolding LoansAreWithOwners
owned_home c s l x o h lt k e w n = unlent_home c s l x h lt k e
    (λ u y f. let i : o ≡ u = (let a = sym w ∙ h.loans.loans_are_with_owners u l y f in cc) in
    let z : None ≡ Some y = sym n ∙ ap (λ j. s.loan j l) i ∙ f in cc)

pub unowned_home : (c : Config) (s : State) (l x : ℕ) → Lawful c s → l < c.locks → is_turnstile (c.kind l) ≡ true
    → s.head (lock_queue l) ≡ Some x → s.owner (lock_queue l) ≡ None → s.loan_home x ≡ true
unfolding LoansAreWithOwners
unowned_home c s l x h lt k e w =
    unlent_home c s l x h lt k e (λ u y f. let z : None ≡ Some u = sym w ∙ h.loans.loans_are_with_owners u l y f in cc)

-- a head is that of a lock of the plan
pub head_lock : (c : Config) (s : State) (l x : ℕ) → Lawful c s → is_turnstile (c.kind l) ≡ true
    → s.head (lock_queue l) ≡ Some x → l < c.locks
head_lock c s l x h k e =
    elim (cases_lt l c.locks) [
      | inl i ↦ i
      | inr i ↦ let a = some_waiting c s h l x e in let b = beyond_none c s h l i k in absurd (omega arith)
    ]

-- so is a loan
pub loan_lock : (c : Config) (s : State) (t l : ℕ) (x : Loan) → Lawful c s → s.loan t l ≡ Some x → l < c.locks
loan_lock c s t l x h e = let r = loan_head c s t l x h e in head_lock c s l x.number h r.0 r.1

pub loan_out : (c : Config) (s : State) (t l : ℕ) (x : Loan) → Lawful c s → s.loan t l ≡ Some x
    → s.loan_home x.number ≡ false
unfolding OneNodeEach loans_on OnlyThreadsHold
loan_out c s t l x h e =
    let n = x.number in
    let a = sum_below-at c.threads (λ u. sum_below c.locks (λ k. at_loan n (s.loan u k))) t
    (h.words.only_threads_hold t l Excl (lent_held c s h t l x e).1) in
    let b = sum_below-at c.locks (λ k. at_loan n (s.loan t k)) l (loan_lock c s t l x h e) in
    let d : at_loan n (s.loan t l) ≡ 1 = rw e (one_same n) in
    out (ltb n c.threads) (s.loan_home n) (loans_on c s.loan n) (h.queues.one_node_each n) (omega arith)
  where
    out : (b home : Bool) (k : ℕ) → one (b && home) + k ≡ one b → 1 ≤ k → home ≡ false
    out b false k i j = refl
    out true true k i j = absurd (omega arith)
    out false true k i j = absurd (omega arith)

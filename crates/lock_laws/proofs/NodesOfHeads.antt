-- Where the loan node of a turnstile with an owner is, and which loans there are beside one that is made.
use Rattle.lock_laws.proofs.Names.{ℕ, Bool, true, false, Option, Some, None, refl, sym, ap, arith, eq-eqb, is_turnstile}
use Rattle.lock_laws.proofs.Names.{prio_of, Config, State, Loan, put, put_at, lock_queue, Lawful, LoansAreOnHeads}
use Rattle.std.proofs.Common.{◌≡◌, ◌≢◌, ◌<◌, ◌≤◌, ◌∙◌}
use Rattle.lock_laws.proofs.Kit.{put_other}
use Rattle.lock_laws.proofs.HeadsAndNodes.{head_lock, heads_apart, loan_lock, loan_out, owned_home}

-- 1. Nodes

-- the number of a loan's node
abbrev pub number_of : Option Loan → Option ℕ
number_of None = None
number_of (Some x) = Some x.number

-- the number of a turnstile's node where that is out
abbrev pub out_of : Bool → ℕ → Option ℕ
out_of true n = None
out_of false n = Some n

-- the node of a turnstile with an owner carries the owner's loan for the lock, or is at home
pub node_carries : (c : Config) (s : State) (l o h : ℕ) → Lawful c s → l < c.locks → is_turnstile (c.kind l) ≡ true
    → s.head (lock_queue l) ≡ Some h → s.owner (lock_queue l) ≡ Some o
    → number_of (s.loan o l) ≡ out_of (s.loan_home h) h
unfolding LoansAreOnHeads
node_carries c s l o h lawful lt k e w = go (s.loan o l) refl
  where
    go : (x : Option Loan) → s.loan o l ≡ x → number_of x ≡ out_of (s.loan_home h) h
    go None i = sym (ap (λ b. out_of b h) (owned_home c s l h o lawful lt k e w i))
    go (Some x) i =
        let n : x.number ≡ h = (let a = sym (lawful.loans.loans_are_on_heads o l x i) ∙ e in cc) in
        let away : s.loan_home h ≡ false = ap s.loan_home (sym n) ∙ loan_out c s o l x lawful i in
        ap Some n ∙ sym (ap (λ b. out_of b h) away)

-- the nodes of other locks' heads have other numbers
pub other_head : (c : Config) (s : State) (l k h x : ℕ) → Lawful c s → is_turnstile (c.kind l) ≡ true
    → is_turnstile (c.kind k) ≡ true → k ≢ l
    → s.head (lock_queue l) ≡ Some h → s.head (lock_queue k) ≡ Some x → h ≢ x
other_head c s l k h x lawful lk kk n e f i =
    let g : s.head (lock_queue k) ≡ Some h = f ∙ ap Some (sym i) in
    n (sym (heads_apart c s l k h lawful (head_lock c s l h lawful lk e) (head_lock c s k h lawful kk g) lk kk e g))

-- 2. Loans by lock

-- the row of a thread in a column with two places
pub put_at_row : {A : Type 0} (f : ℕ → ℕ → A) (i k : ℕ) (v : A) (l : ℕ) → put_at f i k v i l ≡ put (f i) k v l
unfolding put_at put
put_at_row f i k v l = rw (eq-eqb i i refl) refl

-- Laws of loan nodes and of known priorities, where one loan is changed.
use Rattle.lock_laws.proofs.Names
use Names.{ℕ, Bool, true, false, eqb, ltb, List, [], length, Option, Some, None, refl, sym, ap, inl, inr, arith, subst}
use Names.{ne_eqb, cases_eq, one, some, at_option, sum_below, lower, is_turnstile, Config, State, Loan, put, put_at}
use Names.{Waiter, Lists, lock_queue, waiting, least_kept, least_of_two, least_of, effective_of, prio_of, home_after}
use Names.{loan_of, Lawful, OneTurnstileEach, OneNodeEach, HeadsFitWaiters, LoansAreOnHeads, EffectiveIsKnown}
use Names.{LoansAreKnown, BasesReplay, only, turnstile_places, at_loan, loans_on, Each, EachOf, IsKnown, Entry}
use Rattle.std.proofs.Common.{◌≡◌, ◌+◌, ◌<◌, ◌≤◌, ◌&&◌, ◌∷◌, ◌∙◌}
use Rattle.lock_laws.proofs.Kit.{put_same, put_other, put_at_same, put_at_other, put_at_beside, sum_below-same, sum_below-change, sum_below-two, sum_below-zero, sum_below-at, one_same}
use Rattle.lock_laws.proofs.Lending.{by_least}
use Rattle.lock_laws.proofs.Shown.{base_known, lent_held}

-- the loans on a node after one is changed
pub loans_on-put : (c : Config) (loan : ℕ → ℕ → Option Loan) (t l : ℕ) (v : Option Loan) (n : ℕ) → t < c.threads
    → l < c.locks
    → loans_on c (put_at loan t l v) n + at_loan n (loan t l) ≡ loans_on c loan n + at_loan n v
unfolding loans_on
loans_on-put c loan t l v n lt lk =
    let a = sum_below-change c.threads (λ j. sum_below c.locks (λ k. at_loan n (put_at loan t l v j k)))
    (λ j. sum_below c.locks (λ k. at_loan n (loan j k))) t lt
    (λ j ne. sum_below-same c.locks (λ k. at_loan n (put_at loan t l v j k)) (λ k. at_loan n (loan j k))
    (λ k i. ap (at_loan n) (put_at_other loan t l v j k ne))) in
    let b = sum_below-change c.locks (λ k. at_loan n (put_at loan t l v t k)) (λ k. at_loan n (loan t k)) l lk
    (λ k ne. ap (at_loan n) (put_at_beside loan t l v t k ne)) in
    let d : at_loan n (put_at loan t l v t l) ≡ at_loan n v = ap (at_loan n) (put_at_same loan t l v) in
    omega arith

-- where a loan is on a node, the node is a turnstile's, and it is out
on_loan : (b home : Bool) (k : ℕ) → one (b && home) + k ≡ one b → 1 ≤ k → (b ≡ true) × (k ≡ 1)
on_loan true true k e l = absurd (omega arith)
on_loan true false k e l = (refl, omega arith)
on_loan false home k e l = absurd (omega arith)

-- a node with a loan less is at home
returned : (b home : Bool) (k m : ℕ) → one (b && home) + k ≡ one b → m + 1 ≡ k + 0 → one (b && true) + m ≡ one b
returned b home k m e f = let r = on_loan b home k e (omega arith) in rw (r.0) (let z = r.1 in omega arith)

-- a loan that goes home brings its node back
pub node_returned : (c : Config) (home : ℕ → Bool) (loan : ℕ → ℕ → Option Loan) (t l : ℕ) → t < c.threads → l < c.locks
    → OneNodeEach c home loan → OneNodeEach c (home_after home (loan t l)) (put_at loan t l None)
unfolding OneNodeEach
node_returned c home loan t l lt lk h n = go (loan t l) refl
  where
    a : loans_on c (put_at loan t l None) n + at_loan n (loan t l) ≡ loans_on c loan n + 0
    a = loans_on-put c loan t l None n lt lk

    go : (o : Option Loan) → loan t l ≡ o
        → one (ltb n c.threads && home_after home o n) + loans_on c (put_at loan t l None) n ≡ one (ltb n c.threads)
    go None y = let b = ap (at_loan n) y in omega (arith, a, h n)
    go (Some x) y =
        let b = ap (at_loan n) y in
        elim (cases_eq x.number n) [
          | inl e ↦
              let d = one_same x.number in
              let f = rw (← e) at b in
              let m = rw (← e) at a in
              rw (← e, put_same home x.number true) (returned (ltb x.number c.threads) (home x.number)
              (loans_on c loan x.number) (loans_on c (put_at loan t l None) x.number) (h x.number) (omega arith))
          | inr e ↦ rw (put_other home x.number true n e)
              (let d : at_loan n (Some x) ≡ 0 = ap one (ne_eqb n x.number (λ i. e (sym i))) in omega (arith, a, h n))
        ]

module _ (c : Config) (s : State) (h : Lawful c s) where
  -- the effective priority of a thread whose loan is changed is known, where the loan is
  pub loan_known : (t l : ℕ) (v : Option Loan) → ((x : Loan) → v ≡ Some x → IsKnown c s.history x.prio)
      → LoansAreKnown c (put_at s.loan t l v) s.history
  unfolding LoansAreKnown
  loan_known t l v k u j x e =
      grind (arith, put_at_same, put_at_other, put_at_beside, h.loans.loans_are_known u j x, k x)

  pub changed_known : (t l : ℕ) (v : Option Loan) → t < c.threads
      → ((x : Loan) → v ≡ Some x → IsKnown c s.history x.prio)
      → EffectiveIsKnown c (put s.effective t (effective_of c (put (s.loan t) l v) (s.base t))) s.history
  unfolding EffectiveIsKnown LoansAreKnown BasesReplay
  changed_known t l v lt k u lu =
      elim (cases_eq t u) [
        | inl e ↦ rw (← e, put_same s.effective t (effective_of c (put (s.loan t) l v) (s.base t))) here
        | inr e ↦ rw (put_other s.effective t (effective_of c (put (s.loan t) l v) (s.base t)) u e)
            (h.loans.effective_is_known u lu)
      ]
    where
      one_loan : (o : Option Loan) → ((x : Loan) → o ≡ Some x → IsKnown c s.history x.prio) → (p : ℕ)
          → prio_of o ≡ Some p → IsKnown c s.history p
      one_loan o f p e = grind arith

      each_loan : (j : ℕ) (x : Loan) → put (s.loan t) l v j ≡ Some x → IsKnown c s.history x.prio
      each_loan j x e = elim (cases_eq l j) [
        | inl i ↦ k x (sym (put_same (s.loan t) l v) ∙ ap (put (s.loan t) l v) i ∙ e)
        | inr i ↦ h.loans.loans_are_known t j x (sym (put_other (s.loan t) l v j i) ∙ e)
      ]

      here : IsKnown c s.history (effective_of c (put (s.loan t) l v) (s.base t))
      here = by_least (IsKnown c s.history) c.locks (λ j. prio_of (put (s.loan t) l v j)) (s.base t)
          (subst (IsKnown c s.history) (sym (h.books.bases_replay t)) (base_known c s.history t lt))
          (λ j p i e. one_loan (put (s.loan t) l v j) (each_loan j) p e)

-- The loan that is made of a queue with waiters

least_some : (q : Lists) → 1 ≤ waiting q → (p : ℕ) × (least_of q ≡ Some p)
least_some q l = go q.exclusive q.shared l
  where
    go : (a b : List Waiter) → 1 ≤ length a + length b → (p : ℕ) × (least_of_two (least_kept a) (least_kept b) ≡ Some p)
    go [] [] i = absurd (omega arith)
    go [] (w ∷ ws) i = (lower (least_kept ws) w.kept, refl)
    go (v ∷ vs) b i = (lower (least_kept b) (lower (least_kept vs) v.kept), refl)

pub prio_loan_of : (h : ℕ) (o : Option ℕ) → prio_of (loan_of h o) ≡ o
prio_loan_of h o = grind arith

pub number_loan_of : (h : ℕ) (o : Option ℕ) (x : Loan) → loan_of h o ≡ Some x → h ≡ x.number
number_loan_of h None x e = absurd cc
number_loan_of h (Some p) x e = ap (number_or h) e
  where
    number_or : ℕ → Option Loan → ℕ
    number_or d None = d
    number_or d (Some y) = y.number

pub on_node : (h : ℕ) (q : Lists) (n : ℕ) → 1 ≤ waiting q → at_loan n (loan_of h (least_of q)) ≡ one (eqb n h)
on_node h q n l = let r = least_some q l in rw r.1 refl

-- the least kept priority is known where each kept one is
pub least_known : (c : Config) (es : List Entry) (q : Lists) (p : ℕ) → EachOf (λ w. IsKnown c es w.kept) q
    → least_of q ≡ Some p → IsKnown c es p
least_known c es q p k e = both (least_kept q.exclusive) (least_kept q.shared) (λ x i. one_list q.exclusive x k.0 i)
    (λ x i. one_list q.shared x k.1 i) e
  where
    one_list : (ws : List Waiter) (x : ℕ) → Each (λ w. IsKnown c es w.kept) ws → least_kept ws ≡ Some x → IsKnown c es x
    one_list [] x a i = absurd cc
    one_list (w ∷ ws) x a i = go (least_kept ws) (λ y j. one_list ws y a.1 j) i
      where
        go : (o : Option ℕ) → ((y : ℕ) → o ≡ Some y → IsKnown c es y) → Some (lower o w.kept) ≡ Some x → IsKnown c es x
        go o f j = grind arith

    both : (a b : Option ℕ) → ((x : ℕ) → a ≡ Some x → IsKnown c es x) → ((x : ℕ) → b ≡ Some x → IsKnown c es x)
        → least_of_two a b ≡ Some p → IsKnown c es p
    both a b f g i = grind arith

pub loan_of_known : (c : Config) (es : List Entry) (q : Lists) (h : ℕ) → EachOf (λ w. IsKnown c es w.kept) q
    → (x : Loan) → loan_of h (least_of q) ≡ Some x → IsKnown c es x.prio
loan_of_known c es q h k x e = least_known c es q x.prio k (sym (prio_loan_of h (least_of q)) ∙ ap prio_of e)

-- A loan is put on the node of a head

module _ (c : Config) (s : State) (h : Lawful c s) where
  pub some_waiting : (l y : ℕ) → s.head (lock_queue l) ≡ Some y → 1 ≤ waiting (s.lists (lock_queue l))
  unfolding HeadsFitWaiters
  some_waiting l y e = let a = ap some e in omega (arith, (h.queues.heads_fit_waiters (lock_queue l)).balanced)

  -- two turnstiles have different heads
  pub heads_differ : (l k y : ℕ) → l < c.locks → k < c.locks → is_turnstile (c.kind l) ≡ true
      → is_turnstile (c.kind k) ≡ true → s.head (lock_queue l) ≡ Some y → s.head (lock_queue k) ≡ Some y → l ≡ k
  unfolding OneTurnstileEach turnstile_places
  heads_differ l k y lt kt tl tk el ek =
      elim (cases_eq l k) [
        | inl i ↦ i
        | inr i ↦
            let f : ℕ → ℕ = λ j. only (is_turnstile (c.kind j)) (at_option y (s.head (lock_queue j))) in
            let a = sum_below-two c.locks f l k lt kt i in
            let b : f l ≡ 1 = rw (tl, el) (one_same y) in
            let d : f k ≡ 1 = rw (tk, ek) (one_same y) in
            let e = one_le (ltb y c.threads) in
            absurd (omega (arith, h.queues.one_turnstile_each y))
      ]
    where
      one_le : (b : Bool) → one b ≤ 1
      one_le true = omega arith
      one_le false = omega arith

  -- the node of a head is at home where nobody has a loan for its lock
  node_at_home : (l y : ℕ) → l < c.locks → is_turnstile (c.kind l) ≡ true → s.head (lock_queue l) ≡ Some y
      → ((u : ℕ) (x : Loan) → s.loan u l ≡ Some x → ⊥) → loans_on c s.loan y ≡ 0
  unfolding loans_on LoansAreOnHeads
  node_at_home l y lt t e none = sum_below-zero c.threads (λ u. sum_below c.locks (λ k. at_loan y (s.loan u k)))
      (λ u i. sum_below-zero c.locks (λ k. at_loan y (s.loan u k)) (λ k j. go u k j (s.loan u k) refl))
    where
      go : (u k : ℕ) → k < c.locks → (o : Option Loan) → s.loan u k ≡ o → at_loan y o ≡ 0
      go u k j None z = refl
      go u k j (Some x) z =
          elim (cases_eq y x.number) [
            | inl i ↦
                let d = heads_differ l k y lt j t ((lent_held c s h u k x z).0) e
                (h.loans.loans_are_on_heads u k x z ∙ ap Some (sym i)) in
                absurd (none u x (ap (s.loan u) d ∙ z))
            | inr i ↦ ap one (ne_eqb y x.number i)
          ]

  abbrev lent : ℕ → ℕ → Option Loan
  lent l y = loan_of y (least_of (s.lists (lock_queue l)))

  -- a head is a thread's turnstile
  pub head_inside : (l y : ℕ) → l < c.locks → is_turnstile (c.kind l) ≡ true → s.head (lock_queue l) ≡ Some y
      → ltb y c.threads ≡ true
  unfolding OneTurnstileEach turnstile_places
  head_inside l y lt t e =
      let f : ℕ → ℕ = λ j. only (is_turnstile (c.kind j)) (at_option y (s.head (lock_queue j))) in
      let a = sum_below-at c.locks f l lt in
      let b : f l ≡ 1 = rw (t, e) (one_same y) in
      is_one (ltb y c.threads) (omega (arith, h.queues.one_turnstile_each y))
    where
      is_one : (b : Bool) → 1 ≤ one b → b ≡ true
      is_one true k = refl
      is_one false k = absurd (omega arith)

  pub node_lent : (o l y : ℕ) → o < c.threads → l < c.locks → is_turnstile (c.kind l) ≡ true
      → s.head (lock_queue l) ≡ Some y
      → ((u : ℕ) (x : Loan) → s.loan u l ≡ Some x → u ≡ o)
      → OneNodeEach c (put s.loan_home y false) (put_at s.loan o l (lent l y))
  unfolding OneNodeEach LoansAreOnHeads
  node_lent o l y lo lt t e mine n = go (s.loan o l) refl
    where
      changed : loans_on c (put_at s.loan o l (lent l y)) n + at_loan n (s.loan o l) ≡ loans_on c s.loan n
          + one (eqb n y)
      changed =
          let a = loans_on-put c s.loan o l (lent l y) n lo lt in
          let b = on_node y (s.lists (lock_queue l)) n (some_waiting l y e) in
          omega arith

      elsewhere : (y ≡ n → ⊥) → at_loan n (s.loan o l) ≡ 0 → one (ltb n c.threads && put s.loan_home y false n)
          + loans_on c (put_at s.loan o l (lent l y)) n ≡ one (ltb n c.threads)
      elsewhere i z = rw (put_other s.loan_home y false n i)
          (let d : one (eqb n y) ≡ 0 = ap one (ne_eqb n y (λ j. i (sym j))) in
          omega (arith, changed, h.queues.one_node_each n))

      go : (x : Option Loan) → s.loan o l ≡ x → one (ltb n c.threads && put s.loan_home y false n)
          + loans_on c (put_at s.loan o l (lent l y)) n ≡ one (ltb n c.threads)
      go None z =
          let a = ap (at_loan n) z in
          elim (cases_eq y n) [
            | inl i ↦
                let b = node_at_home l y lt t e (λ u x w. let m = mine u x w in
                let f : None ≡ Some x = sym z ∙ ap (λ j. s.loan j l) (sym m) ∙ w in cc) in
                let d = one_same y in
                let f = rw (← i) at changed in
                let f2 = rw (← i) at a in
                rw (← i, put_same s.loan_home y false, head_inside l y lt t e) (omega arith)
            | inr i ↦ elsewhere i a
          ]
      go (Some x) z =
          let k : y ≡ x.number = (let m = sym e ∙ h.loans.loans_are_on_heads o l x z in cc) in
          let a = ap (at_loan n) z in
          let a2 : at_loan n (s.loan o l) ≡ one (eqb n y) = rw k a in
          elim (cases_eq y n) [
            | inl i ↦
                let d = loans_on-put c s.loan o l None y lo lt in
                let a3 = rw (← i) at a2 in
                let f = one_same y in
                let m = rw (← i) at changed in
                let r = on_loan (ltb y c.threads) (s.loan_home y) (loans_on c s.loan y) (h.queues.one_node_each y)
                (omega arith) in
                let r1 = r.1 in
                rw (← i, put_same s.loan_home y false, r.0) (omega arith)
            | inr i ↦ let d : one (eqb n y) ≡ 0 = ap one (ne_eqb n y (λ j. i (sym j))) in elsewhere i (a2 ∙ d)
          ]

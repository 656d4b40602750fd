-- What the definitions of policies mean: who is chosen, and that a policy makes one schedule of a plan.
use Rattle.std.proofs.Common.{◌≡◌, ◌↔◌, ◌⊎◌, ℕ, zero, suc, ◌+◌, ◌<◌, ◌≤◌, ◌%◌, nat_le, Bool, true, false, not, ◌&&◌, cond, List, [], ◌∷◌, ◌++◌, length, take, slice_get, Option, Some, None, All, inl, inr, refl, sym, ap, subst, ◌∙◌, arith}
use Rattle.std.specs.Prelude.{filter, IfSome}
use Rattle.std.specs.List.{find, list_all, range_with_len}
use Rattle.std.specs.Option.{option_or}
use Rattle.std.proofs.lemmas.Bool.{and_from, and_parts, cases_Bool, cases_eq, eq-eqb, eqb-true, le-leb, leb-false, leb-true}
use Rattle.std.proofs.lemmas.List.Elements.{All-cons, All-head, All-nil, All-tail}
use Rattle.std.proofs.lemmas.Option.{same_Some, slice_get-get_or}
use Rattle.lock_model.specs.Counts.{is_empty}
use Rattle.lock_model.specs.Plans.{config_of}
use Rattle.lock_model.specs.declared.numbers.ThreadNo.{ThreadNo}
use Rattle.lock_model.specs.declared.plan.Plan.{Plan}
use Rattle.lock_state.specs.Run.{Run, owes, threads_of, turn_of}
use Rattle.turn_policy.specs.Chance.{draw}
use Rattle.turn_policy.specs.Choosing.{gathered, is_gathered}
use Rattle.turn_policy.specs.Policies.{acts, choice, contenders, drawn_from, has_least, most_important, owing, priority_of, ran_last, runnable}
use Rattle.turn_policy.specs.Schedules.{IsPlanned, next_by}
use Rattle.turn_policy.specs.declared.policy.Policy.{Policy}
use Rattle.turn_policy.specs.declared.policy.Policy.TheVariants.{Chance, Priority}
use Rattle.turn_policy.proofs.Lists.{all_found, either_so, found_passes}

-- 1. Numbers that stand in a list

-- what every test says that all of the list pass
abbrev IsIn : ℕ → List ℕ → Type 0
IsIn x xs = (q : ℕ → Bool) → list_all q xs ≡ true → q x ≡ true

first_in : (x : ℕ) (xs : List ℕ) → IsIn x (x ∷ xs)
first_in x xs q e = (and_parts (q x) (list_all q xs) e).0

later_in : (x y : ℕ) (xs : List ℕ) → IsIn x xs → IsIn x (y ∷ xs)
later_in x y xs i q e = i q (and_parts (q y) (list_all q xs) e).1

-- where none was found, none passes
none_found : (q : ℕ → Bool) (xs : List ℕ) → find q xs ≡ None → list_all (λ x. not (q x)) xs ≡ true
none_found q [] e = refl
none_found q (x ∷ xs) e = go (q x) refl (none_found q xs) e
  where
    go : (b : Bool) → q x ≡ b → (find q xs ≡ None → list_all (λ y. not (q y)) xs ≡ true)
        → cond b (Some x) (find q xs) ≡ None → list_all (λ y. not (q y)) (x ∷ xs) ≡ true
    go true same others i = absurd cc
    go false same others i = rw same (others i)

found_none : (q : ℕ → Bool) (xs : List ℕ) (x : ℕ) → find q xs ≡ None → IsIn x xs → q x ≡ true → ⊥
found_none q xs x e i same = let z : not (q x) ≡ true = i (λ y. not (q y)) (none_found q xs e) in
    absurd (let w = ap not (sym same) ∙ z in cc)

-- 2. The least

all_weaker : (p q : ℕ → Bool) (xs : List ℕ) → ((x : ℕ) → p x ≡ true → q x ≡ true) → list_all p xs ≡ true
    → list_all q xs ≡ true
all_weaker p q [] f e = refl
all_weaker p q (x ∷ xs) f e =
    let parts = and_parts (p x) (list_all p xs) e in
    and_from (q x) (list_all q xs) (f x parts.0) (all_weaker p q xs f parts.1)

module _ (p : ℕ → ℕ) where
  least_below : (ts : List ℕ) (t u : ℕ) → has_least p ts t ≡ true → IsIn u ts → p t ≤ p u
  least_below ts t u e i = leb-true (p t) (p u) (i (λ v. nat_le (p t) (p v)) e)

  also_least : (ts : List ℕ) (t u : ℕ) → has_least p ts t ≡ true → p u ≡ p t → has_least p ts u ≡ true
  also_least ts t u e same = subst (λ n. list_all (λ v. nat_le n (p v)) ts ≡ true) (sym same) e

  -- there is one where there is any
  least_there : (t : ℕ) (us : List ℕ) → (x : ℕ) × (IsIn x (t ∷ us) × (has_least p (t ∷ us) x ≡ true))
  least_there t [] = (t, (first_in t [], and_from (nat_le (p t) (p t)) true (le-leb (p t) (p t) (omega arith)) refl))
  least_there t (u ∷ vs) = go (least_there u vs)
    where
      go : (x : ℕ) × (IsIn x (u ∷ vs) × (has_least p (u ∷ vs) x ≡ true)) → (x : ℕ)
          × (IsIn x (t ∷ u ∷ vs) × (has_least p (t ∷ u ∷ vs) x ≡ true))
      go b = elim (cases_Bool (nat_le (p t) (p b.0))) [
        | inl e ↦ (
          t,
          (
            first_in t (u ∷ vs),
            and_from (nat_le (p t) (p t)) (has_least p (u ∷ vs) t) (le-leb (p t) (p t) (omega arith))
                (all_weaker (λ v. nat_le (p b.0) (p v)) (λ v. nat_le (p t) (p v)) (u ∷ vs)
                (λ v f. le-leb (p t) (p v) (omega (arith, leb-true (p t) (p b.0) e, leb-true (p b.0) (p v) f))) b.1.1),
          ),
        )
        | inr e ↦ (
          b.0,
          (
            later_in b.0 t (u ∷ vs) b.1.0,
            and_from (nat_le (p b.0) (p t)) (has_least p (u ∷ vs) b.0)
                (le-leb (p b.0) (p t) (omega (arith, leb-false (p t) (p b.0) e))) b.1.1,
          ),
        )
      ]

-- 3. The most important of some threads

module _ (p : ℕ → ℕ) (last : Option ℕ) where
  nobody : (ts : List ℕ) → most_important p last ts ≡ None → ts ≡ []
  nobody [] e = refl
  nobody (t ∷ us) e = absurd
      (go (find (λ x. has_least p (t ∷ us) x && ran_last last x) (t ∷ us)) e (least_there p t us))
    where
      go : (o : Option ℕ) → option_or o (find (has_least p (t ∷ us)) (t ∷ us)) ≡ None → (x : ℕ)
          × (IsIn x (t ∷ us) × (has_least p (t ∷ us) x ≡ true)) → ⊥
      go (Some y) i b = absurd cc
      go None i b = found_none (has_least p (t ∷ us)) (t ∷ us) b.0 i b.1.0 b.1.1

  -- whoever it is has the least,
  is_least : (ts : List ℕ) (t : ℕ) → most_important p last ts ≡ Some t → has_least p ts t ≡ true
  is_least ts t e = go (find (λ x. has_least p ts x && ran_last last x) ts) refl e
    where
      go : (o : Option ℕ) → find (λ x. has_least p ts x && ran_last last x) ts ≡ o
          → option_or o (find (has_least p ts) ts) ≡ Some t → has_least p ts t ≡ true
      go (Some y) same i = (and_parts (has_least p ts t) (ran_last last t)
          (found_passes (λ x. has_least p ts x && ran_last last x) ts t (same ∙ i))).0
      go None same i = found_passes (has_least p ts) ts t i

  last_is : (l : Option ℕ) (t : ℕ) → ran_last l t ≡ true → l ≡ Some t
  last_is None t e = absurd cc
  last_is (Some u) t e = ap Some (sym (eqb-true t u e))

  last_ran : (l : Option ℕ) (u : ℕ) → l ≡ Some u → ran_last l u ≡ true
  last_ran l u e = rw e (eq-eqb u u refl)

  -- and of equals it ran last, or none of them did and it is the first found
  of_equals : (ts : List ℕ) (t u : ℕ) → most_important p last ts ≡ Some t → IsIn u ts → p u ≡ p t
      → (last ≡ Some t) ⊎ ((last ≡ Some u → ⊥) × (find (has_least p ts) ts ≡ Some t))
  of_equals ts t u e i same = go (find (λ x. has_least p ts x && ran_last last x) ts) refl e
    where
      go : (o : Option ℕ) → find (λ x. has_least p ts x && ran_last last x) ts ≡ o
          → option_or o (find (has_least p ts) ts) ≡ Some t
          → (last ≡ Some t) ⊎ ((last ≡ Some u → ⊥) × (find (has_least p ts) ts ≡ Some t))
      go (Some y) found j =
          inl (last_is last t (and_parts (has_least p ts t) (ran_last last t)
          (found_passes (λ x. has_least p ts x && ran_last last x) ts t (found ∙ j))).1)
      go None found j = inr (
        (λ l. found_none (λ x. has_least p ts x && ran_last last x) ts u found i
            (and_from (has_least p ts u) (ran_last last u) (also_least p ts t u (is_least ts t e) same)
            (last_ran last u l))),
        j,
      )

-- 4. Threads by number

module _ (g : ℕ → Bool) where
  -- those of a range that pass
  in_range : (a n u : ℕ) → a ≤ u → u < a + n → g u ≡ true → IsIn u (filter g (range_with_len a n))
  in_range a zero u l m e = absurd (omega arith)
  in_range a (suc n) u l m e =
      go (g a) refl (cases_eq a u) (λ k. in_range (a + 1) n u (omega (arith, k)) (omega arith) e)
    where
      go : (b : Bool) → g a ≡ b → (a ≡ u) ⊎ (a ≡ u → ⊥) → ((a ≡ u → ⊥) → IsIn u (filter g (range_with_len (a + 1) n)))
          → IsIn u (cond b (a ∷ filter g (range_with_len (a + 1) n)) (filter g (range_with_len (a + 1) n)))
      go true same (inl i) others =
          subst (λ v. IsIn v (a ∷ filter g (range_with_len (a + 1) n))) i
          (first_in a (filter g (range_with_len (a + 1) n)))
      go true same (inr i) others = later_in u a (filter g (range_with_len (a + 1) n)) (others i)
      go false same (inl i) others = absurd (let z = sym same ∙ ap g i ∙ e in cc)
      go false same (inr i) others = others i

  -- the first that is found among them has the lowest number of those that would be
  lowest : (q : ℕ → Bool) (a n t u : ℕ) → find q (filter g (range_with_len a n)) ≡ Some t → a ≤ u → u < a + n
      → g u ≡ true → q u ≡ true → t ≤ u
  lowest q a zero t u e l m i j = absurd (omega arith)
  lowest q a (suc n) t u e l m i j =
      go (g a) refl (q a) refl (cases_eq a u) (λ f k. lowest q (a + 1) n t u f (omega (arith, k)) (omega arith) i j) e
    where
      go : (b : Bool) → g a ≡ b → (c : Bool) → q a ≡ c → (a ≡ u) ⊎ (a ≡ u → ⊥)
          → (find q (filter g (range_with_len (a + 1) n)) ≡ Some t → (a ≡ u → ⊥) → t ≤ u)
          → find q (cond b (a ∷ filter g (range_with_len (a + 1) n)) (filter g (range_with_len (a + 1) n))) ≡ Some t
          → t ≤ u
      go true same true passes k others f =
          let z : a ≡ t = same_Some a t
          (sym (ap (λ (d : Bool). cond d (Some a) (find q (filter g (range_with_len (a + 1) n)))) passes) ∙ f) in
          omega (arith, z)
      go true same false passes (inl k) others f = absurd (let z = sym passes ∙ ap q k ∙ j in cc)
      go true same false passes (inr k) others f =
          others (sym (ap (λ (d : Bool). cond d (Some a) (find q (filter g (range_with_len (a + 1) n)))) passes) ∙ f) k
      go false same c passes (inl k) others f = absurd (let z = sym same ∙ ap g k ∙ i in cc)
      go false same c passes (inr k) others f = others f k

  -- what is known of each of them
  each_passes : (most a n : ℕ) → a + n ≤ most → All (λ t. (t < most) × (g t ≡ true)) (filter g (range_with_len a n))
  each_passes most a zero l = All-nil (λ t. (t < most) × (g t ≡ true))
  each_passes most a (suc n) l = go (g a) refl (each_passes most (a + 1) n (omega arith))
    where
      go : (b : Bool) → g a ≡ b → All (λ t. (t < most) × (g t ≡ true)) (filter g (range_with_len (a + 1) n))
          → All (λ t. (t < most) × (g t ≡ true))
          (cond b (a ∷ filter g (range_with_len (a + 1) n)) (filter g (range_with_len (a + 1) n)))
      go true same others =
          All-cons (λ t. (t < most) × (g t ≡ true)) a (filter g (range_with_len (a + 1) n)) (omega arith, same) others
      go false same others = others

-- 5. Who contends

module _ (plan : Plan) (r : Run) where
  -- all that contend are gathered in one of two ways: those that owe something, or all where none does
  record Contend : Type 0 where
    pub owing_only : Bool
    pub are : contenders plan r ≡ gathered owing_only plan r
    pub none_owes : owing_only ≡ false → owing plan r ≡ []

  contend : Contend
  contend = go (owing plan r) refl
    where
      go : (ts : List ℕ) → owing plan r ≡ ts → Contend
      go [] e = record {
        owing_only = false;
        are = ap (λ (b : Bool). cond b (runnable plan r) (owing plan r)) (ap is_empty e);
        none_owes = λ _. e;
      }
      go (t ∷ ts) e = record {
        owing_only = true;
        are = ap (λ (b : Bool). cond b (runnable plan r) (owing plan r)) (ap is_empty e);
        none_owes = λ f. absurd cc;
      }

  acts_gathered : (owing_only : Bool) (t : ℕ) → is_gathered owing_only plan r t ≡ true
      → acts (turn_of plan r t).answer ≡ true
  acts_gathered true t e = (and_parts (acts (turn_of plan r t).answer) (owes (config_of plan) r.state t) e).0
  acts_gathered false t e = e

  all_gathered : (owing_only : Bool)
      → All (λ t. (t < length plan.threads) × (is_gathered owing_only plan r t ≡ true)) (gathered owing_only plan r)
  all_gathered owing_only =
      each_passes (is_gathered owing_only plan r) (length plan.threads) 0 (length plan.threads) (omega arith)

  -- what is chosen
  chosen_is : (P : ℕ → Type 0) (o : Option ℕ) (t : ℕ) → IfSome o P → o ≡ Some t → P t
  chosen_is P None t h e = absurd cc
  chosen_is P (Some u) t h e = subst P (same_Some u t e) h

  among : (P : ℕ → Type 0) (p : ℕ → ℕ) (last : Option ℕ) (ts : List ℕ) → All P ts → IfSome (most_important p last ts) P
  among P p last ts a =
      either_so P (find (λ x. has_least p ts x && ran_last last x) ts) (find (has_least p ts) ts)
      (all_found P (λ x. has_least p ts x && ran_last last x) ts a) (all_found P (has_least p ts) ts a)

  drawn : (P : ℕ → Type 0) (ts : List ℕ) (i : ℕ) → All P ts → IfSome (slice_get ts i) P
  drawn P [] i a = tt
  drawn P (t ∷ ts) zero a = All-head P t ts a
  drawn P (t ∷ ts) (suc i) a = drawn P ts i (All-tail P t ts a)

  -- 6. The laws

  pub acting : (policy : Policy) (last : Option ℕ) (n t : ℕ) → choice policy plan r last n ≡ Some t
      → (t < length plan.threads) × (acts (turn_of plan r t).answer ≡ true)
  acting (Priority heeds_loans) last n t e =
      let k = contend in
      let P : ℕ → Type 0 = λ u. (u < length plan.threads) × (is_gathered k.owing_only plan r u ≡ true) in
      let its = chosen_is P _ t
      (among P (priority_of heeds_loans r.state) last (contenders plan r)
      (subst (All P) (sym k.are) (all_gathered k.owing_only))) e in
      (its.0, acts_gathered k.owing_only t its.1)
  acting (Chance seed) last n t e =
      chosen_is (λ u. (u < length plan.threads) × (acts (turn_of plan r u).answer ≡ true)) _ t
      (drawn (λ u. (u < length plan.threads) × (acts (turn_of plan r u).answer ≡ true)) (runnable plan r)
      (draw seed n % length (runnable plan r)) (all_gathered false)) e

  none_drawn : (ts : List ℕ) (x : ℕ) → drawn_from ts x ≡ None → ts ≡ []
  none_drawn [] x e = refl
  none_drawn (t ∷ ts) x e =
      absurd (let z = sym e ∙ slice_get-get_or (t ∷ ts) (x % length (t ∷ ts)) t (omega arith) in cc)

  none_both : (a o : ℕ → Bool) (xs : List ℕ) → filter a xs ≡ [] → filter (λ t. a t && o t) xs ≡ []
  none_both a o [] e = refl
  none_both a o (x ∷ xs) e = go (a x) refl (none_both a o xs) e
    where
      go : (b : Bool) → a x ≡ b → (filter a xs ≡ [] → filter (λ t. a t && o t) xs ≡ [])
          → cond b (x ∷ filter a xs) (filter a xs) ≡ [] → filter (λ t. a t && o t) (x ∷ xs) ≡ []
      go true same others i = absurd cc
      go false same others i = rw same (others i)

  none_contend : contenders plan r ≡ [] → runnable plan r ≡ []
  none_contend e = go (owing plan r) refl
    where
      go : (ts : List ℕ) → owing plan r ≡ ts → runnable plan r ≡ []
      go [] f = sym (ap (λ (b : Bool). cond b (runnable plan r) (owing plan r)) (ap is_empty f)) ∙ e
      go (t ∷ ts) f = absurd
          (let z = sym f ∙ sym (ap (λ (b : Bool). cond b (runnable plan r) (owing plan r)) (ap is_empty f)) ∙ e in cc)

  none_runnable : runnable plan r ≡ [] → contenders plan r ≡ []
  none_runnable e =
      let none = none_both (λ t. acts (turn_of plan r t).answer) (λ t. owes (config_of plan) r.state t)
      (threads_of plan) e in
      ap (λ (b : Bool). cond b (runnable plan r) (owing plan r)) (ap is_empty none) ∙ e

  pub nobody_chosen : (policy : Policy) (last : Option ℕ) (n : ℕ)
      → choice policy plan r last n ≡ None ↔ runnable plan r ≡ []
  nobody_chosen (Priority heeds_loans) last n = (
    λ e. none_contend (nobody (priority_of heeds_loans r.state) last (contenders plan r) e),
    λ e. ap
        (most_important (priority_of heeds_loans r.state) last) (none_runnable e),
  )
  nobody_chosen (Chance seed) last n =
      (λ e. none_drawn (runnable plan r) (draw seed n) e, λ e. ap (λ (ts : List ℕ). drawn_from ts (draw seed n)) e)

  owes_gathered : (t : ℕ) → is_gathered true plan r t ≡ true → owes (config_of plan) r.state t ≡ true
  owes_gathered t e = (and_parts (acts (turn_of plan r t).answer) (owes (config_of plan) r.state t) e).1

  -- where some owe something, all that contend do
  not_none : (ts : List ℕ) (u : ℕ) → IsIn u ts → ts ≡ [] → ⊥
  not_none ts u i e = absurd (let z : false ≡ true = i (λ x. false) (rw e refl) in cc)

  module _ (heeds_loans : Bool) (last : Option ℕ) (n t u : ℕ) (e : choice (Priority heeds_loans) plan r last n ≡ Some t)
      (lt : u < length plan.threads) (act : acts (turn_of plan r u).answer ≡ true) where
    abbrev k : Contend
    k = contend

    abbrev P : ℕ → Type 0
    P x = (x < length plan.threads) × (is_gathered k.owing_only plan r x ≡ true)

    its : P t
    its = chosen_is P _ t
        (among P (priority_of heeds_loans r.state) last (contenders plan r)
        (subst (All P) (sym k.are) (all_gathered k.owing_only))) e

    pub owing_first : owes (config_of plan) r.state u ≡ true → owes (config_of plan) r.state t ≡ true
    owing_first owed = go k.owing_only refl its.1
      where
        go : (b : Bool) → k.owing_only ≡ b → is_gathered k.owing_only plan r t ≡ true
            → owes (config_of plan) r.state t ≡ true
        go true same h = owes_gathered t (subst (λ (c : Bool). is_gathered c plan r t ≡ true) same h)
        go false same h = absurd
            (not_none (owing plan r) u
            (in_range (is_gathered true plan r) 0 (length plan.threads) u (omega arith) (omega (arith, lt))
            (and_from (acts (turn_of plan r u).answer) (owes (config_of plan) r.state u) act owed)) (k.none_owes same))

    gathered_too : owes (config_of plan) r.state u ≡ owes (config_of plan) r.state t
        → is_gathered k.owing_only plan r u ≡ true
    gathered_too same = go k.owing_only its.1
      where
        go : (b : Bool) → is_gathered b plan r t ≡ true → is_gathered b plan r u ≡ true
        go true h = and_from (acts (turn_of plan r u).answer) (owes (config_of plan) r.state u) act
            (same ∙ owes_gathered t h)
        go false h = act

    contends : owes (config_of plan) r.state u ≡ owes (config_of plan) r.state t → IsIn u (contenders plan r)
    contends same = subst (IsIn u) (sym k.are)
        (in_range (is_gathered k.owing_only plan r) 0 (length plan.threads) u (omega arith) (omega (arith, lt))
        (gathered_too same))

    pub least : owes (config_of plan) r.state u ≡ owes (config_of plan) r.state t
        → priority_of heeds_loans r.state t ≤ priority_of heeds_loans r.state u
    least same = least_below (priority_of heeds_loans r.state) (contenders plan r) t u
        (is_least (priority_of heeds_loans r.state) last (contenders plan r) t e) (contends same)

    pub equals : owes (config_of plan) r.state u ≡ owes (config_of plan) r.state t
        → priority_of heeds_loans r.state u ≡ priority_of heeds_loans r.state t
        → (last ≡ Some t) ⊎ ((last ≡ Some u → ⊥) × (t ≤ u))
    equals same alike = elim
        (of_equals (priority_of heeds_loans r.state) last (contenders plan r) t u e (contends same) alike) [
          | inl l ↦ inl l
          | inr h ↦ inr (
            h.0,
            lowest (is_gathered k.owing_only plan r) (has_least (priority_of heeds_loans r.state) (contenders plan r)) 0
                (length plan.threads) t u
                (subst (λ (ts : List ℕ). find (has_least (priority_of heeds_loans r.state) (contenders plan r)) ts ≡
                Some t)
                k.are h.1) (omega arith) (omega (arith, lt)) (gathered_too same)
                (also_least (priority_of heeds_loans r.state) (contenders plan r) t u
                (is_least (priority_of heeds_loans r.state) last (contenders plan r) t e) alike),
          )
        ]

-- 7. One schedule each

-- turns of which each is said by those before it, until none is
same_turns : (f : List ThreadNo → Option ℕ) (xs ys : List ThreadNo)
    → ((n : ℕ) (t : ThreadNo) → slice_get xs n ≡ Some t → f (take n xs) ≡ Some t.0) → f xs ≡ None
    → ((n : ℕ) (t : ThreadNo) → slice_get ys n ≡ Some t → f (take n ys) ≡ Some t.0) → f ys ≡ None → xs ≡ ys
same_turns f [] [] a e b g = refl
same_turns f [] (y ∷ ys) a e b g = absurd (let z = sym e ∙ b 0 y refl in cc)
same_turns f (x ∷ xs) [] a e b g = absurd (let z = sym g ∙ a 0 x refl in cc)
same_turns f (x ∷ xs) (y ∷ ys) a e b g =
    let number : x.0 ≡ y.0 = same_Some x.0 y.0 (sym (a 0 x refl) ∙ b 0 y refl) in
    let same : x ≡ y = ap (λ (n : ℕ). record { 0 = n }) number in
    let others = same_turns (λ ts. f (x ∷ ts)) xs ys (λ n t h. a (suc n) t h) e
    (λ n t h. subst (λ (z : ThreadNo). f (z ∷ take n ys) ≡ Some t.0) (sym same) (b (suc n) t h))
    (subst (λ (z : ThreadNo). f (z ∷ ys) ≡ None) (sym same) g) in
    ap (λ (z : ThreadNo). z ∷ xs) same ∙ ap (λ (ts : List ThreadNo). y ∷ ts) others

pub one_each : (policy : Policy) (plan : Plan) (a b : List ThreadNo) → IsPlanned policy plan a → IsPlanned policy plan b
    → a ≡ b
one_each policy plan a b h g =
    h.begun.behind
    ∙ ap (λ (ts : List ThreadNo). plan.schedule ++ ts)
    (same_turns (next_by policy plan) h.begun.chosen g.begun.chosen h.begun.each h.over g.begun.each g.over)
    ∙ sym g.begun.behind

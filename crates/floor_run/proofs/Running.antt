-- What a run leaves, by what its workers leave.
use Rattle.floor_run.proofs.Names
use Names.{ℕ, zero, suc, Bool, true, false, eqb, List, [], length, map, get_or, take, drop, reverse, refl, sym, ap}
use Names.{subst, arith, inl, inr, entries, range_with_len, list_any, cases_lt, ne_eqb, append-nil, take_all, drop_all}
use Names.{reverse-reverse, get_or-map, length-map, map-id, length-map-range_with_len, get_or-map-range_with_len}
use Names.{IsPermutation-reverse, list_any-IsPermutation, BusyIsExplained, Config, one, times, HaltsAreHonest, base_in}
use Names.{entries_of, LeadsTo, Before, is_halt, FollowsOperations, EntriesFollowOperations, IsLegalSoFar, IsLegal}
use Names.{config_of, operations_of, OrdersAreLegal, is_reversal, has_reversal, Entry, Op, Plan, NobodyIsHalted}
use Names.{threads_of, whole_ending, no_operations, config_in, thread_part, description_of, Description, Share}
use Names.{Knowledge, same_config, IsClosing, Floor, Pass, first_pass, Closing, bases_of, ending_left, outcome_left}
use Names.{IsRunOf, has_halt, ending_of_run, outcome_of, IsWhole}
use Rattle.std.proofs.Common.{◌≡◌, ◌≢◌, ◌+◌, ◌<◌, ◌≤◌, ◌||◌, ◌∷◌, ◌++◌, ◌∙◌}
use Rattle.std.specs.Prelude.{if◌then◌else◌}
use Rattle.lock_model.specs.Law as law
use Rattle.lock_model.specs.Text as text
use Rattle.floor_run.specs.Progress.{IsDone}

-- 1. Threads

-- a number that is no thread's stands nowhere among them
absent_from : (a n t : ℕ) → a + n ≤ t → times t (range_with_len a n) ≡ 0
absent_from a zero t le = refl
absent_from a (suc n) t le =
    let first : one (eqb t a) ≡ 0 = ap one (ne_eqb t a (λ e. absurd (omega arith))) in
    omega (arith, first, absent_from (a + 1) n t (omega arith))

none_of : (es : List Entry) → ((es ≢ []) → ⊥) → es ≡ []
none_of [] h = refl
none_of (e ∷ es) h = absurd (h (λ z. absurd cc))

-- 2. The law of its history

abbrev pub parts : List (Pass Knowledge) → List (ℕ × Share)
parts passes = map (λ p. (p.view.thread, p.view.share)) passes

-- each pass is that of the thread of its place, and its worker is done
abbrev pub AreDone : Plan → Floor Description → List (Pass Knowledge) → Type 0
AreDone plan f passes = (t : ℕ) (d : Pass Knowledge) → t < length passes → IsDone plan f t (get_or passes t d)

-- what is so at each place of a list, by the places
map_same : {A B : Type 0} (xs : List A) (f : A → B) (g : ℕ → B) (a : ℕ)
    → ((k : ℕ) (d : A) → k < length xs → f (get_or xs k d) ≡ g (a + k))
    → map f xs ≡ map g (range_with_len a (length xs))
map_same [] f g a h = refl
map_same (x ∷ xs) f g a h =
    let first : f x ≡ g a = h 0 x (omega arith) ∙ ap g (omega arith) in
    let rest = map_same xs f g (a + 1) (λ k d lt. h (suc k) d (omega arith) ∙ ap g (omega arith)) in
    λ j. first j ∷ rest j

fused : (passes : List (Pass Knowledge)) → map (λ g. g.0) (parts passes) ≡ map (λ p. p.view.thread) passes
fused [] = refl
fused (p ∷ ps) = ap (λ ts. p.view.thread ∷ ts) (fused ps)

pub threads_in_order : (plan : Plan) (f : Floor Description) (passes : List (Pass Knowledge))
    → length passes ≡ length plan.threads → AreDone plan f passes → map (λ g. g.0) (parts passes) ≡ threads_of plan
threads_in_order plan f passes count done =
    fused passes
    ∙ map_same passes (λ p. p.view.thread) (λ t. t) 0 (λ k d lt. omega (arith, (done k d lt).thread))
    ∙ map-id (range_with_len 0 (length passes))
    ∙ ap (range_with_len 0) count

-- where nobody is halted no entry tells of a halt, and a run in which a take was refused or none isn't stuck
none_halted : (c : Config) (history : List Entry) → NobodyIsHalted c history → has_halt history ≡ false
unfolding NobodyIsHalted
none_halted c [] h = refl
none_halted c (e ∷ es) h = ap (λ b. b || has_halt es) h.0 ∙ none_halted c es h.2

not_stuck : (b : Bool) → (if b then text.IsReversed else text.IsDone) ≡ text.IsStuck → ⊥
not_stuck true e = absurd cc
not_stuck false e = absurd cc

-- how threads ended, by their history from its oldest entry on
some_reversal : (es : List Entry) → list_any (λ e. is_reversal e.event) es ≡ has_reversal es
some_reversal [] = refl
some_reversal (e ∷ es) = ap (λ b. is_reversal e.event || b) (some_reversal es)

same_ending : (es : List Entry) → ending_left es ≡ ending_of_run (reverse es)
same_ending es =
    let turned = IsPermutation-reverse es in
    ap (λ (b : Bool). if b then text.IsStuck else
    (if list_any (λ (e : Entry). is_reversal e.event) es then text.IsReversed else text.IsDone))
    (list_any-IsPermutation (λ (e : Entry). is_halt e.event) es (reverse es) turned)
    ∙ ap (λ (b : Bool). if has_halt (reverse es) then text.IsStuck else (if b then text.IsReversed else text.IsDone))
    (list_any-IsPermutation (λ (e : Entry). is_reversal e.event) es (reverse es) turned ∙ some_reversal (reverse es))

-- a thread's base twice, by a history
abbrev pub base_behind : Plan → List Entry → ℕ → ℕ × ℕ
base_behind plan history t = (base_in (config_of plan) history t, base_in (config_of plan) history t)

module _ (plan : Plan) (chains : ℕ) (x : Closing)
    (closing : IsClosing (description_of plan chains) (threads_of plan) x) where
  abbrev floor : Description
  floor = description_of plan chains

  abbrev history : List Entry
  history = closing.history

  same_plan : config_in floor ≡ config_of plan
  same_plan = same_config plan chains

  count : length x.recs.items ≡ length plan.threads
  count = closing.count ∙ length-map plan.threads thread_part

  -- a thread's part of the history, where the logs are those
  its_part : (logs : List (List Entry)) → map (λ b. b.entries) x.logs.items ≡ map reverse logs → (t : ℕ)
      → t < length plan.threads → get_or logs t [] ≡ entries_of history t
  its_part logs same t lt =
      let all : map reverse logs ≡ map (λ u. reverse (entries_of history u)) (threads_of plan) = sym same
      ∙ closing.logs.parts in
      let long : length logs ≡ length plan.threads = sym (length-map logs reverse) ∙ ap length all
      ∙ length-map-range_with_len (λ u. reverse (entries_of history u)) 0 (length plan.threads) in
      let at : reverse (get_or logs t []) ≡ reverse (entries_of history t) =
      sym (get_or-map reverse logs t [] [] (omega (arith, long, lt))) ∙ ap (λ ls. get_or ls t []) all
      ∙ get_or-map-range_with_len (λ u. reverse (entries_of history u)) 0 (length plan.threads) t t [] lt
      (omega arith) in
      sym (reverse-reverse (get_or logs t [])) ∙ ap reverse at ∙ reverse-reverse (entries_of history t)

  follows : (logs : List (List Entry)) → map (λ b. b.entries) x.logs.items ≡ map reverse logs
      → ((t : ℕ) → t < length plan.threads → IsWhole plan floor t (get_or logs t [])) → (t : ℕ)
      → FollowsOperations plan false history t
  follows logs same whole t = elim (cases_lt t (length plan.threads)) [
    | inl lt ↦
        let w : IsWhole plan floor t (entries_of history t) =
        subst (IsWhole plan floor t) (its_part logs same t lt) (whole t lt) in
        record { point = w.point; leads = w.leads; whole = λ e. w.at_end }
    | inr le ↦
        let none : entries_of history t ≡ [] = none_of (entries_of history t) (λ some. absurd
        (omega (arith, closing.logs.no_other t some, absent_from 0 (length plan.threads) t (omega (arith, le))))) in
        let ops : operations_of plan t ≡ [] = no_operations plan t le in
        record {
          point = Before 0;
          leads = subst (λ (es : List Entry). LeadsTo (config_of plan).kind (operations_of plan t) es (Before 0))
              (sym none) law.begins;
          whole = λ e. sym (ap (λ (os : List Op). length os) ops);
        }
  ]

  pub is_legal : (logs : List (List Entry)) → map (λ b. b.entries) x.logs.items ≡ map reverse logs
      → ((t : ℕ) → t < length plan.threads → IsWhole plan floor t (get_or logs t [])) → IsLegal plan true false history
  unfolding EntriesFollowOperations
  is_legal logs same whole =
      record {
        so_far = subst (λ c. IsLegalSoFar c true history) same_plan closing.legal;
        entries_follow_operations = follows logs same whole;
        orders_are_legal = λ e. subst (λ c. OrdersAreLegal c history) same_plan closing.orders_are_legal;
        halts_are_honest = subst (λ c. HaltsAreHonest c history) same_plan closing.halts_are_honest;
        busies_are_explained = λ e. subst (λ c. BusyIsExplained c history) same_plan closing.busies_are_explained;
      }

  -- 3. What is printed

  bases : map bases_of x.recs.items ≡ map (base_behind plan history) (threads_of plan)
  bases =
      map_same x.recs.items bases_of (base_behind plan history) 0
      (λ k d lt. let its = (closing.home k d (omega (arith, lt, closing.count))).base
      ∙ ap (λ c. base_in c history k) same_plan in
      let same : bases_of (get_or x.recs.items k d) ≡ base_behind plan history k = λ j. (its j, its j) in
      same ∙ ap (base_behind plan history) (omega arith))
      ∙ ap (λ n. map (base_behind plan history) (range_with_len 0 n)) count

  -- what floor_ends prints of the floor is the run's outcome
  pub left_same : (es : List Entry) → es ≡ reverse history → outcome_left x es ≡ outcome_of plan history
  left_same es merged =
      let back : reverse es ≡ history = ap reverse merged ∙ reverse-reverse history in
      λ j. record {
        history = merged j;
        queues = [];
        finals = bases j;
        tables = ap entries closing.tables j;
        ending = (same_ending es ∙ ap ending_of_run back) j;
      }

  -- it ended stuck only where the halt word was set
  was_halted : ending_of_run history ≡ text.IsStuck → x.halted ≡ true
  was_halted stuck = go x.halted refl
    where
      ended : has_halt history ≡ false → ⊥
      ended e = not_stuck (has_reversal history)
          (subst (λ (b : Bool). (if b then text.IsStuck else whole_ending history) ≡ text.IsStuck) e stuck)

      go : (b : Bool) → x.halted ≡ b → b ≡ true
      go true e = refl
      go false e = absurd (ended (none_halted (config_in floor) history (closing.unhalted e)))

  pub is_run : (o : text.Outcome) → IsLegal plan true false history → o ≡ outcome_of plan history
      → IsRunOf plan chains o x
  is_run o legal same = record {
    run = record { history = history; legal = legal; outcome = same };
    closing = closing;
    same = refl;
    halted = λ stuck. was_halted (ap (λ (p : text.Outcome). p.ending) (sym same) ∙ stuck);
  }

-- 4. What is gathered

-- a list whose items were changed in their places
pub written_back : {A : Type 0} (xs ys : List A) (n : ℕ) → length ys ≡ length xs → n ≡ length xs
    → take n (ys ++ drop (length ys) xs) ≡ ys
written_back xs ys n same count = ap (λ zs. take n (ys ++ zs)) (drop_all (length ys) xs (omega (arith, same)))
    ∙ ap (take n) (append-nil ys) ∙ take_all n ys (omega (arith, same, count))

logs_in : (passes : List (Pass Knowledge))
    → map (λ g. reverse g.1.log) (parts passes) ≡ map reverse (map (λ p. p.view.share.log) passes)
logs_in [] = refl
logs_in (p ∷ ps) = ap (λ ls. reverse p.view.share.log ∷ ls) (logs_in ps)

-- the passes that the workers leave are taken in as they are
pub all_done : (plan : Plan) (f : Floor Description) (items changed : List (Pass Knowledge)) (n : ℕ)
    → length changed ≡ length items → n ≡ length items → AreDone plan f changed
    → AreDone plan f (take n (changed ++ drop (length changed) items))
all_done plan f items changed n same count done =
    subst (AreDone plan f) (sym (written_back items changed n same count)) done

module _ (plan : Plan) (chains : ℕ) (f : Floor Description) (given : f.description ≡ description_of plan chains)
    (passes : List (Pass Knowledge)) (count : length passes ≡ length plan.threads) (done : AreDone plan f passes)
    (gathered : List (ℕ × Share)) (are : gathered ≡ parts passes) (x : Closing) where
  pub is_closing : IsClosing f.description (map (λ g. g.0) gathered) x
      → IsClosing (description_of plan chains) (threads_of plan) x
  is_closing closing =
      let threads : map (λ g. g.0) gathered ≡ threads_of plan = ap (map (λ g. g.0)) are
      ∙ threads_in_order plan f passes count done in
      subst (λ (z : Description × List ℕ). IsClosing z.0 z.1 x) (λ i. (given i, threads i)) closing

  pub left_legal : map (λ b. b.entries) x.logs.items ≡ map (λ g. reverse g.1.log) gathered
      → (closing : IsClosing (description_of plan chains) (threads_of plan) x) → IsLegal plan true false closing.history
  left_legal logs closing =
      let own : Pass Knowledge → List Entry = λ p. p.view.share.log in
      is_legal plan chains x closing (map own passes)
      (logs ∙ ap (map (λ g. reverse g.1.log)) are ∙ logs_in passes) (λ t lt.
      let d : Pass Knowledge = first_pass f.table f.description t in
      let within : t < length passes = omega (arith, lt, count) in
      subst (λ (z : Description × List Entry). IsWhole plan z.0 t z.1)
      (λ i. (given i, sym (get_or-map own passes t d [] within) i)) (done t d within).whole)

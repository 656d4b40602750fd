-- The most important of candidates is that of their threads.
use Rattle.std.proofs.Common.{◌≡◌, ℕ, min, nat_le, Bool, true, false, ◌&&◌, List, All, Option, Some, option_map, IfSome, inl, inr, refl, sym, ap, subst, ◌∙◌, arith}
use Rattle.std.specs.List.{find, list_all}
use Rattle.std.specs.Option.{option_or}
use Rattle.std.proofs.lemmas.Bool.{cases_Bool, le-leb, leb-true, lt-leb, leb-false}
use Rattle.std.proofs.lemmas.List.Folds.{list_all-map}
use Rattle.turn_policy.specs.Choosing.{threads_in}
use Rattle.turn_policy.specs.Policies.{has_least, most_important, ran_last}
use Rattle.turn_policy.specs.declared.choosing.Candidate.{Candidate}
use Rattle.turn_policy.proofs.Lists.{all_agree, all_found, all_so, either_mapped, either_so, find_agree, find_in_map, found_so}

module _ (priority : ℕ → ℕ) (last : Option ℕ) (cs : List Candidate)
    (known : All (λ c. c.priority.0 ≡ priority c.thread.0) cs) (least : ℕ)
    (is_least : (n : ℕ) → nat_le n least ≡ list_all (λ (c : Candidate). nat_le n c.priority.0) cs) where
  abbrev its : Candidate → ℕ
  its c = c.thread.0

  abbrev IsKnown : Candidate → Type 0
  IsKnown c = c.priority.0 ≡ priority c.thread.0

  of_threads : (n : ℕ) → nat_le n least ≡ list_all (λ u. nat_le n (priority u)) (threads_in cs)
  of_threads n =
      is_least n
      ∙ all_agree (λ (c : Candidate). nat_le n c.priority.0) (λ (c : Candidate). nat_le n (priority (its c))) cs
      (all_so IsKnown (λ (c : Candidate). nat_le n c.priority.0 ≡ nat_le n (priority (its c))) (λ c k. ap (nat_le n) k)
      cs known)
      ∙ sym (list_all-map (λ u. nat_le n (priority u)) its cs)

  -- a candidate has no more than the least where its thread has the least
  here : (c : Candidate) → IsKnown c → nat_le c.priority.0 least ≡ has_least priority (threads_in cs) (its c)
  here c k = ap (λ (n : ℕ). nat_le n least) k ∙ of_threads (priority (its c))

  first_is : option_map its (find (λ (c : Candidate). nat_le c.priority.0 least) cs) ≡ find
      (has_least priority (threads_in cs)) (threads_in cs)
  first_is =
      ap (option_map its) (find_agree (λ (c : Candidate). nat_le c.priority.0 least)
      (λ (c : Candidate). has_least priority (threads_in cs) (its c)) cs
      (all_so IsKnown (λ (c : Candidate). nat_le c.priority.0 least ≡ has_least priority (threads_in cs) (its c)) here
      cs known))
      ∙ find_in_map its (has_least priority (threads_in cs)) cs

  last_is : option_map its (find (λ (c : Candidate). nat_le c.priority.0 least && ran_last last (its c)) cs) ≡ find
      (λ t. has_least priority (threads_in cs) t && ran_last last t) (threads_in cs)
  last_is =
      ap (option_map its) (find_agree (λ (c : Candidate). nat_le c.priority.0 least && ran_last last (its c))
      (λ (c : Candidate). has_least priority (threads_in cs) (its c) && ran_last last (its c)) cs
      (all_so IsKnown (λ (c : Candidate). (nat_le c.priority.0 least && ran_last last (its c)) ≡
      (has_least priority (threads_in cs) (its c) && ran_last last (its c)))
      (λ c k. ap (λ (b : Bool). b && ran_last last (its c)) (here c k)) cs known))
      ∙ find_in_map its (λ t. has_least priority (threads_in cs) t && ran_last last t) cs

  pub important : (a b : Option Candidate)
      → a ≡ find (λ (c : Candidate). nat_le c.priority.0 least && ran_last last (its c)) cs
      → b ≡ find (λ (c : Candidate). nat_le c.priority.0 least) cs
      → option_map its (option_or a b) ≡ most_important priority last (threads_in cs)
  important a b e f =
      either_mapped its a b
      ∙ ap (λ (o : Option ℕ). option_or o (option_map its b)) (ap (option_map its) e ∙ last_is)
      ∙ ap (λ (o : Option ℕ). option_or
      (find (λ t. has_least priority (threads_in cs) t && ran_last last t) (threads_in cs)) o)
      (ap (option_map its) f ∙ first_is)

-- what holds of each candidate holds of the one that is found
pub found_among : (P : Candidate → Type 0) (p q : Candidate → Bool) (cs : List Candidate) (a b : Option Candidate)
    (c : Candidate) → All P cs → a ≡ find p cs → b ≡ find q cs → option_or a b ≡ Some c → P c
found_among P p q cs a b c all e f found =
    found_so P (option_or a b) c
    (either_so P a b (subst (λ (o : Option Candidate). IfSome o P) (sym e) (all_found P p cs all))
    (subst (λ (o : Option Candidate). IfSome o P) (sym f) (all_found P q cs all))) found

-- 3. The least of priorities, one by one

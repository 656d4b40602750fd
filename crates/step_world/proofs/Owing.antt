-- What a thread owes, by what its objects say.
use Rattle.step_world.proofs.Names
use Names.{ℕ, Bool, true, false, not, slice_get, Option, Some, None, is_some, option_map, refl, sym, ap, is_empty}
use Names.{config_of, Plan, places_of, Run, is_walking, owed_release, owes, has_no_walk, Machine, Thread, IsRunOf}
use Names.{arith}
use Rattle.std.proofs.Common.{◌≡◌, ◌||◌, ◌∙◌}
use Rattle.step_world.proofs.Ends.{no_walk, same_empty}

not_not : (b : Bool) → not (not b) ≡ b
not_not true = refl
not_not false = refl

some_mapped : {A B : Type 0} (f : A → B) (o : Option A) → is_some o ≡ is_some (option_map f o)
some_mapped f e = grind arith

module _ {plan : Plan} {m : Machine} {r : Run} {th : Thread} (t : ℕ) (h : IsRunOf plan m r)
    (is : slice_get m.threads.items t ≡ Some th) where
  busy_is : (not (has_no_walk th.walk) || not (is_empty (places_of th.marked))) ≡
      (is_walking (r.state.walk t) || not (is_empty (r.state.marked t)))
  busy_is =
      let i = (h.shows.shows.threads.thread t th is).columns in
      let its_walk : has_no_walk th.walk ≡ not (is_walking (r.state.walk t)) = no_walk th.walk
      ∙ ap (λ w. not (is_walking w)) (ap (λ x. x.walk) i) in
      let its_marked : is_empty (places_of th.marked) ≡ is_empty (r.state.marked t) = same_empty _ (places_of th.marked)
      ∙ ap is_empty (ap (λ x. x.marked) i) in
      ap (λ (b : Bool). not b || not (is_empty (places_of th.marked))) its_walk
      ∙ ap (λ (b : Bool). b || not (is_empty (places_of th.marked))) (not_not (is_walking (r.state.walk t)))
      ∙ ap (λ (b : Bool). is_walking (r.state.walk t) || not b) its_marked

  -- it has a walk or somebody to wake,
  pub by_busy : (b : Bool) → b ≡ (not (has_no_walk th.walk) || not (is_empty (places_of th.marked))) → b ≡ true
      → true ≡ owes (config_of plan) r.state t
  by_busy b e i = sym (ap (λ (c : Bool). c || is_some (owed_release (config_of plan) r.state t))
      (sym busy_is ∙ sym e ∙ i))

  -- or else a release to make
  pub by_release : {A : Type 0} (f : A → ℕ) (o : Option A)
      → (not (has_no_walk th.walk) || not (is_empty (places_of th.marked))) ≡ false
      → option_map f o ≡ owed_release (config_of plan) r.state t
      → is_some o ≡ owes (config_of plan) r.state t
  by_release f o e same =
      some_mapped f o ∙ ap is_some same
      ∙ sym (ap (λ (c : Bool). c || is_some (owed_release (config_of plan) r.state t)) (sym busy_is ∙ e))

-- What the turns of a window show, one turn more; whom a turn names, and which lock.
use Rattle.std.proofs.Common.{◌≡◌, ℕ, zero, suc, ◌+◌, ◌-◌, ◌≤◌, List, [], ◌++◌, append-nil, append_assoc, flat_map, Option, Some, None, sym, ap, arith, ◌∙◌}
use Rattle.std.specs.Prelude.{is_some, option_map}
use Rattle.std.specs.List.{range_with_len}
use Rattle.lock_model.specs.declared.numbers.ThreadNo.{ThreadNo}
use Rattle.lock_model.specs.declared.plan.Plan.{Plan}
use Rattle.lock_model.specs.declared.turn.Turn.{Turn}
use Rattle.lock_state.specs.Run.{course_after, next_turn}
use Rattle.run_chart.specs.Turns.{in_turns, of_some}

module _ {A : Type 0} where
  -- a number more
  pub each_more : (f : ℕ → List A) (a n j : ℕ) → a + n ≡ j
      → flat_map f (range_with_len a (n + 1)) ≡ flat_map f (range_with_len a n) ++ f j
  each_more f a zero j e = append-nil (f a) ∙ ap f (let same : a ≡ j = omega (arith, e) in same)
  each_more f a (suc n) j e =
      ap (λ k. flat_map f (range_with_len a k)) (let next : suc n + 1 ≡ suc (n + 1) = omega arith in next)
      ∙ ap (λ xs. f a ++ xs) (each_more f (a + 1) n j (omega (arith, e)))
      ∙ sym (append_assoc (f a) (flat_map f (range_with_len (a + 1) n)) (f j))

  -- none yet,
  pub no_turns : (shown : Plan → ℕ → ℕ → Turn → List A) (plan : Plan) (n : ℕ) → in_turns shown plan n n ≡ []
  no_turns shown plan n = ap
      (λ k. flat_map (λ m. of_some (λ turn. shown plan m turn.0 turn.1) (next_turn plan (course_after plan m)))
      (range_with_len n k)) (let e : n - n ≡ 0 = omega arith in e)

  -- and a turn more
  pub turns_more : (shown : Plan → ℕ → ℕ → Turn → List A) (plan : Plan) (from n who : ℕ) (answer : Turn) → from ≤ n
      → next_turn plan (course_after plan n) ≡ Some (who, answer)
      → (old new : List A) → old ≡ in_turns shown plan from n → new ≡ old ++ shown plan n who answer
      → new ≡ in_turns shown plan from (n + 1)
  turns_more shown plan from n who answer low made old new before is =
      let f : ℕ → List A = λ m. of_some (λ turn. shown plan m turn.0 turn.1) (next_turn plan (course_after plan m)) in
      is ∙ ap (λ xs. xs ++ shown plan n who answer) before
      ∙ ap (λ o. in_turns shown plan from n ++ of_some (λ turn. shown plan n turn.0 turn.1) o) (sym made)
      ∙ sym (each_more f from (n - from) n (omega (arith, low)))
      ∙ ap (λ k. flat_map f (range_with_len from k)) (let e : n - from + 1 ≡ n + 1 - from = omega arith in e)

-- behind whom, where it is known whether the lock has an owner
pub unowned : (o : Option ThreadNo) (owner : Option ℕ) → option_map (λ t. t.0) o ≡ owner → is_some owner ≡ is_some o
unowned None owner e = ap is_some (sym e)
unowned (Some t) owner e = ap is_some (sym e)

use Rattle.std.proofs.Common.{◌≡◌, ◌⊎◌, inl, inr, [], ◌∷◌, List, length, map, flat_map, refl, arith}
use Rattle.std.proofs.lemmas.Grind.{common_steps}
use Rattle.std.specs.List.{zip}
use Rattle.lock_model.specs.declared.numbers.Prio.{Prio}
use Rattle.lock_model.specs.declared.plan.ThreadDecl.{ThreadDecl}
use Rattle.lock_model.specs.Text.{thread_line}
use Rattle.lock_history.specs.Endings.{numbers_of}
use Rattle.lock_history.proofs.text.push_threads.Goals as goal

-- no line is left where the threads or the priorities have run out
no_lines : (threads : List ThreadDecl) (finals : List (Prio × Prio)) → (length threads ≡ 0) ⊎ (length finals ≡ 0)
    → flat_map thread_line (zip (map (λ d. d.name) threads) (numbers_of finals)) ≡ []
no_lines [] finals h = refl
no_lines (d ∷ ds) [] h = refl
no_lines (d ∷ ds) (p ∷ ps) (inl h) = absurd (omega (arith, h))
no_lines (d ∷ ds) (p ∷ ps) (inr h) = absurd (omega (arith, h))

pub returns : goal.returns
returns c =
    let threads = c.loop-thread.thread-iterator.a.rest.now in
    let finals = c.loop-thread.thread-iterator.b.rest.now in
    let ended : (length threads ≡ 0) ⊎ (length finals ≡ 0) =
    elim c.in-None.ensures.steps [ inl a ↦ inl a.1.0 | inr b ↦ inr b.1.0 ] in
    let none = no_lines threads finals ended in
    grind (arith, common_steps, none, c.loop-thread.invariant)

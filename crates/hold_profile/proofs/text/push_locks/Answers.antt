use Rattle.std.proofs.Common.{◌≡◌, ◌⊎◌, inl, inr, [], ◌∷◌, List, length, flat_map, refl, arith}
use Rattle.std.proofs.lemmas.Grind.{common_steps}
use Rattle.std.specs.List.{zip}
use Rattle.lock_model.specs.declared.plan.LockDecl.{LockDecl}
use Rattle.lock_model.specs.declared.plan.Plan.{Plan}
use Rattle.hold_profile.specs.ProfileText.{lock_text}
use Rattle.hold_profile.specs.declared.lines.LockLine.{LockLine}
use Rattle.hold_profile.proofs.text.push_locks.Goals as goal

-- no text is left where the locks or their lines have run out
no_text : (plan : Plan) (locks : List LockDecl) (lines : List LockLine) → (length locks ≡ 0) ⊎ (length lines ≡ 0)
    → flat_map (lock_text plan) (zip locks lines) ≡ []
no_text plan [] lines h = refl
no_text plan (d ∷ ds) [] h = refl
no_text plan (d ∷ ds) (x ∷ xs) (inl h) = absurd (omega (arith, h))
no_text plan (d ∷ ds) (x ∷ xs) (inr h) = absurd (omega (arith, h))

pub returns : goal.returns
returns c =
    let locks = c.loop-lock.lock-iterator.a.rest.now in
    let lines = c.loop-lock.lock-iterator.b.rest.now in
    let ended : (length locks ≡ 0) ⊎ (length lines ≡ 0) =
    elim c.in-None.ensures.steps [ inl a ↦ inl a.1.0 | inr b ↦ inr b.1.0 ] in
    let none = no_text c.args.plan.now locks lines ended in
    grind (arith, common_steps, none, c.loop-lock.invariant)

use Rattle.std.proofs.Common.{◌≡◌, ◌++◌, ◌∷◌, [], List, ℕ, arith, codes, decimal}
use Rattle.std.proofs.lemmas.Grind.{common_steps, flat_map-append}
use Rattle.lock_model.specs.Text.{spaced, line_of, class_name}
use Rattle.hold_profile.proofs.text.push_lock.Goals as goal

-- a line whose words were added one behind the other
line_made : (first : List ℕ) (xs ys zs : List (List ℕ)) (o o1 o2 o3 o4 : List ℕ) → o1 ≡ o ++ (first ++ spaced xs)
    → o2 ≡ o1 ++ spaced ys → o3 ≡ o2 ++ spaced zs → o4 ≡ o3 ++ 10 ∷ []
    → o4 ≡ o ++ line_of first (xs ++ (ys ++ zs))
line_made first xs ys zs o o1 o2 o3 o4 e1 e2 e3 e4 =
    grind (
      arith,
      common_steps,
      e1,
      e2,
      e3,
      e4,
      flat_map-append (λ word. 32 ∷ word) xs (ys ++ zs),
      flat_map-append
          (λ word. 32 ∷ word) ys zs,
    )

pub returns : goal.returns
returns c =
    let line = c.args.line in
    line_made (codes "lock")
    (c.args.lock.now.name ∷ codes "class" ∷ class_name c.args.plan.now c.args.lock.now.class.0 ∷ [])
    (codes "holds" ∷ decimal line.holds ∷ codes "total" ∷ decimal line.total ∷ codes "longest" ∷ decimal line.longest ∷
    codes "together" ∷ decimal line.together ∷ [])
    (codes "busy" ∷ decimal line.busy ∷ codes "waits" ∷ decimal line.waits ∷ codes "halted" ∷ decimal line.halted ∷ [])
    _ _ _ _ _ c.in_ok-push_names.ensures c.in_ok-push_sections.ensures c.in_ok-push_contests.ensures
    c.in_ok-push.ensures.items

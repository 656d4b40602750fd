use Rattle.std.proofs.Common.{◌≡◌, ◌++◌, ◌∷◌, [], List, ℕ, arith, codes, decimal, length}
use Rattle.std.proofs.lemmas.Grind.{common_steps, flat_map-append}
use Rattle.lock_model.specs.Text.{spaced}
use Rattle.lock_history.proofs.text.push_counts.Goals as goal

-- words that were added one behind the other
added : (xs ys zs : List (List ℕ)) (o o1 o2 o3 : List ℕ) → o1 ≡ o ++ spaced xs → o2 ≡ o1 ++ spaced ys
    → o3 ≡ o2 ++ spaced zs
    → o3 ≡ o ++ spaced (xs ++ (ys ++ zs))
added xs ys zs o o1 o2 o3 e1 e2 e3 =
    grind (
      arith,
      common_steps,
      e1,
      e2,
      e3,
      flat_map-append (λ word. 32 ∷ word) xs (ys ++ zs),
      flat_map-append (λ word. 32 ∷ word) ys zs,
    )

pub returns : goal.returns
returns c =
    let plan = c.args.plan.now in
    added (codes "threads" ∷ decimal (length plan.threads) ∷ codes "locks" ∷ decimal (length plan.locks) ∷ [])
    (codes "channels" ∷ decimal (length plan.chans) ∷ codes "classes" ∷ decimal (length plan.classes) ∷ [])
    (codes "operations" ∷ decimal c.args.operations ∷ []) _ _ _ _ c.in_ok-push_threads_and_locks.ensures
    c.in_ok-push_channels_and_classes.ensures c.in_ok-push_count.ensures

-- The names of a chain differ, and each queue stands there, also where the head of one queue changes.
use Rattle.lock_floor.proofs.Names
use Names.{true, false, List, [], cond, AllByRecursion, IsDistinct, keys_of, All-cons, IsDistinct-cons, IsDistinct-head}
use Names.{IsDistinct-tail, NonePasses, none_passes_from_lookup, is_queue, QueueName, Item, without, All-without}
use Names.{head_of-without_itself, StandsIn, HasNames, Description}
use Rattle.std.proofs.Common.{◌≡◌, ◌∷◌}

module _ {H : Type 0} where
  keys_apart : (q : QueueName) (es : List (QueueName × H)) → NonePasses (is_queue q) es
      → AllByRecursion (λ n. is_queue q n ≡ false) (keys_of es)
  keys_apart q [] h = tt
  keys_apart q (e ∷ es) h = (h.0, keys_apart q es h.1)

  apart_without : (n q : QueueName) (es : List (QueueName × H))
      → AllByRecursion (λ m. is_queue n m ≡ false) (keys_of es)
      → AllByRecursion (λ m. is_queue n m ≡ false) (keys_of (without q es))
  apart_without n q [] h = tt
  apart_without n q (e ∷ es) h =
      elim (is_queue q e.0) as
      (λ b. AllByRecursion (λ m. is_queue n m ≡ false) (keys_of (cond b es (e ∷ without q es))))
      [ true ↦ h.1 | false ↦ (h.0, apart_without n q es h.1) ]

  distinct_without : (q : QueueName) (es : List (QueueName × H)) → IsDistinct is_queue (keys_of es)
      → IsDistinct is_queue (keys_of (without q es))
  distinct_without q [] h = h
  distinct_without q (e ∷ es) h =
      elim (is_queue q e.0) as (λ b. IsDistinct is_queue (keys_of (cond b es (e ∷ without q es)))) [
        | true ↦ IsDistinct-tail is_queue e.0 (keys_of es) h
        | false ↦ IsDistinct-cons is_queue e.0 (keys_of (without q es))
            (apart_without e.0 q es (IsDistinct-head is_queue e.0 (keys_of es) h))
            (distinct_without q es (IsDistinct-tail is_queue e.0 (keys_of es) h))
      ]

  module _ (floor : Description) (i : Item) (q : QueueName) (chain : List (QueueName × H)) (h : HasNames floor i chain)
    where
      pub names_without : HasNames floor i (without q chain)
      names_without = record {
        distinct = distinct_without q chain h.distinct;
        own = All-without (λ e. StandsIn floor i e.0) q chain h.own;
      }

      -- another head in the place of the queue's, or where it had none
      pub names_placed : (head : H) → StandsIn floor i q → HasNames floor i ((q, head) ∷ without q chain)
      names_placed head there =
          let rest = names_without in
          record {
            distinct = IsDistinct-cons is_queue q (keys_of (without q chain))
                (keys_apart q (without q chain)
                (none_passes_from_lookup (is_queue q) (without q chain) (head_of-without_itself q chain h.distinct)))
                rest.distinct;
            own = All-cons (λ e. StandsIn floor i e.0) (q, head) (without q chain) there rest.own;
          }

-- A chain stays a chain: its names differ, and each is that of its head, which has no link.
use Rattle.std.proofs.Common.{◌≡◌, true, false, List, [], ◌∷◌, Option, None, Some, IsSomeAnd, unwrap_or, cond, rules}
use Rattle.std.specs.List.{All, AllByRecursion, IsDistinct}
use Rattle.std.specs.Map.{keys_of}
use Rattle.std.proofs.lemmas.List.Elements.{All-nil, All-cons, All-head, All-tail}
use Rattle.std.proofs.lemmas.Map.Keys.{IsDistinct-cons, IsDistinct-head, IsDistinct-tail}
use Rattle.std.proofs.lemmas.Map.{NonePasses, none_passes_from_lookup}
use Rattle.lock_model.specs.declared.plan.QueueName.{QueueName}
use Rattle.lock_model.specs.declared.plan.QueueName.TheVariants.{Lock}
use Rattle.chain_table.specs.Chains.{entry_of, head_of, without, IsChain}
use Rattle.lock_model.specs.Queues.{is_queue}

module _ {H : Type 0} where
  keys_apart : (q : QueueName) (es : List (QueueName × H)) → NonePasses (is_queue q) es
      → AllByRecursion (λ n. is_queue q n ≡ false) (keys_of es)
  keys_apart q [] h = tt
  keys_apart q (e ∷ es) h = (h.0, keys_apart q es h.1)

  -- ---- without one of the heads
  apart_without : (n q : QueueName) (es : List (QueueName × H)) → AllByRecursion (λ m. is_queue n m ≡ false)
      (keys_of es) → AllByRecursion (λ m. is_queue n m ≡ false) (keys_of (without q es))
  apart_without n q [] h = tt
  apart_without n q (e ∷ es) h =
      elim (is_queue q e.0)
      as (λ b. AllByRecursion (λ m. is_queue n m ≡ false) (keys_of (cond b es (e ∷ without q es))))
      [ true ↦ h.1 | false ↦ (h.0, apart_without n q es h.1) ]

  distinct_without : (q : QueueName) (es : List (QueueName × H)) → IsDistinct is_queue (keys_of es)
      → IsDistinct is_queue (keys_of (without q es))
  distinct_without q [] h = h
  distinct_without q (e ∷ es) h =
      elim (is_queue q e.0) as (λ b. IsDistinct is_queue (keys_of (cond b es (e ∷ without q es)))) [
        | true ↦ IsDistinct-tail is_queue e.0 (keys_of es) h
        | false ↦ IsDistinct-cons is_queue e.0 (keys_of (without q es))
            (apart_without e.0 q es (IsDistinct-head is_queue e.0 (keys_of es) h))
            (distinct_without q es (IsDistinct-tail is_queue e.0 (keys_of es) h))
      ]

  -- what holds of each entry still does
  pub All-without : (P : QueueName × H → Type 0) (q : QueueName) (es : List (QueueName × H)) → All P es
      → All P (without q es)
  All-without P q [] h = h
  All-without P q (e ∷ es) h =
      elim (is_queue q e.0) as (λ b. All P (cond b es (e ∷ without q es))) [
        | true ↦ All-tail P e es h
        | false ↦ All-cons P e (without q es) (All-head P e es h) (All-without P q es (All-tail P e es h))
      ]

  module _ (name_of : H → Option QueueName) (behind : H → List H) where
    pub IsChain-empty : IsChain name_of behind []
    unfolding IsDistinct
    IsChain-empty =
        record { distinct = tt; named = All-nil (λ e. name_of e.1 ≡ Some e.0); bare = All-nil (λ e. behind e.1 ≡ []) }

    pub IsChain-without : (q : QueueName) (es : List (QueueName × H)) → IsChain name_of behind es
        → IsChain name_of behind (without q es)
    IsChain-without q es h = record {
      distinct = distinct_without q es h.distinct;
      named = All-without (λ e. name_of e.1 ≡ Some e.0) q es h.named;
      bare = All-without (λ e. behind e.1 ≡ []) q es h.bare;
    }

    named_by : (o : Option QueueName) (d : QueueName) (P : QueueName → Type 0) → IsSomeAnd o P
        → (o ≡ Some (unwrap_or o d)) × P (unwrap_or o d)
    named_by None d P s = absurd s
    named_by (Some q) d P s = (search rules, s)

    pub IsChain-cons : (h : H) (es : List (QueueName × H)) → IsSomeAnd (name_of h) (λ q. head_of q es ≡ None)
        → behind h ≡ [] → IsChain name_of behind es → IsChain name_of behind (entry_of name_of h ∷ es)
    IsChain-cons h es absent bare s =
        let n = named_by (name_of h) (Lock (record { 0 = 0 })) (λ q. head_of q es ≡ None) absent in record {
          distinct = IsDistinct-cons is_queue (entry_of name_of h).0 (keys_of es)
              (keys_apart (entry_of name_of h).0 es (none_passes_from_lookup (is_queue (entry_of name_of h).0) es n.1))
              s.distinct;
          named = All-cons (λ e. name_of e.1 ≡ Some e.0) (entry_of name_of h) es n.0 s.named;
          bare = All-cons (λ e. behind e.1 ≡ []) (entry_of name_of h) es bare s.bare;
        }

-- What a chain of heads is seen as: a list of names, each with its head without the link.
use Rattle.std.specs.Prelude.{◌≡◌, List, [], ◌∷◌, map, Option, Some, None, unwrap_or}
use Rattle.std.specs.List.{All, IsDistinct}
use Rattle.std.specs.Map.{keys_of, lookup, remove_entry}
use Rattle.std.specs.declared.boxed.Box.{Box}
use Rattle.std.specs.declared.alloc.Global.{Global}
use Rattle.lock_model.specs.declared.plan.QueueName.{QueueName}
use Rattle.lock_model.specs.declared.plan.QueueName.TheVariants.{Lock}
use Rattle.lock_model.specs.Queues.{is_queue}

-- the heads that a link leads to, each without its link
abbrev pub heads_of : {H : Type 0} → (H → H) → (H → List H) → Option (Box H Global) → List H
heads_of unlinked behind None = []
heads_of unlinked behind (Some b) = unlinked b.value ∷ behind b.value

-- a head behind its name; each head of a chain has one
abbrev pub entry_of : {H : Type 0} → (H → Option QueueName) → H → QueueName × H
entry_of name_of h = (unwrap_or (name_of h) (Lock (record { 0 = 0 })), h)

-- heads behind their names
abbrev pub entries_of : {H : Type 0} → (H → Option QueueName) → List H → List (QueueName × H)
entries_of name_of hs = map (entry_of name_of) hs

-- the head of that name
abbrev pub head_of : {H : Type 0} → QueueName → List (QueueName × H) → Option H
head_of q chain = lookup (is_queue q) chain

-- the chain without the head of that name
abbrev pub without : {H : Type 0} → QueueName → List (QueueName × H) → List (QueueName × H)
without q chain = remove_entry (is_queue q) chain

-- each name is that of its head
abbrev pub IsNamed : {H : Type 0} → (H → Option QueueName) → List (QueueName × H) → Type 0
IsNamed name_of chain = All (λ e. name_of e.1 ≡ Some e.0) chain

-- names differ, and each is that of its head, which has no link
pub record IsChain {H : Type 0} (name_of : H → Option QueueName) (behind : H → List H)
    (chain : List (QueueName × H)) : Type 0 where
  pub distinct : IsDistinct is_queue (keys_of chain)
  pub named : IsNamed name_of chain
  pub bare : All (λ e. behind e.1 ≡ []) chain

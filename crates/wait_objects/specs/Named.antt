-- The objects that a link leads to, by the queues whose heads they are.
use Rattle.std.specs.Prelude.{Bool, false, if◌then◌else◌, List, [], ◌∷◌, Option, None, Some}
use Rattle.lock_model.specs.Queues.{is_queue}
use Rattle.lock_model.specs.declared.plan.QueueName.{QueueName}
use Rattle.wait_objects.specs.Seen.{Contents, Object}

-- whether a queue is the one that is named
abbrev pub is_named : QueueName → Option QueueName → Bool
is_named q None = false
is_named q (Some p) = is_queue q p

-- the first of them that is the head of that queue
abbrev pub head_for : {E : Type 0} → (E → Option QueueName) → QueueName → List (Contents E)
    → Option (Contents E)
head_for name_of q [] = None
head_for name_of q (c ∷ cs) =
    if is_named q (name_of c.own) then Some c else head_for name_of q cs

-- all of them but that one
abbrev pub without_head : {E : Type 0} → (E → Option QueueName) → QueueName → List (Contents E)
    → List (Contents E)
without_head name_of q [] = []
without_head name_of q (c ∷ cs) =
    if is_named q (name_of c.own) then cs else c ∷ without_head name_of q cs

-- an object with nothing behind it
abbrev pub bare : {E : Type 0} → Contents E → Object E
bare c = record { contents = c; next = [] }

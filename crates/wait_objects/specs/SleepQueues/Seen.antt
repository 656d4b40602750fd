-- Sleep queues as their callers see them.
use Rattle.std.specs.Prelude.{ℕ, None}
use Rattle.wait_objects.specs.Seen as object
use Rattle.wait_objects.specs.declared.sleeping.Sleeping.{Sleeping}

-- a sleep queue without its link
abbrev pub Contents : Type 0
Contents = object.Contents Sleeping

-- a sleep queue, with those that its link leads to, in order
abbrev pub SleepQueue : Type 0
SleepQueue = object.Object Sleeping

-- no name
abbrev pub home : Sleeping
home = record { name = None }

-- an idle sleep queue by its number
abbrev pub idle : ℕ → SleepQueue
idle n = object.idle_object home n

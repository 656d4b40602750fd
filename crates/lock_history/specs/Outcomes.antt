-- What a run leaves to be printed, as the definition of the text has it.
use Rattle.std.specs.Prelude.{ℕ, List, ◌∷◌, map, flat_map}
use Rattle.std.specs.FinMap.{entries}
use Rattle.lock_model.specs.declared.numbers.Prio.{Prio}
use Rattle.lock_model.specs.declared.numbers.ThreadNo.{ThreadNo}
use Rattle.lock_model.specs.Queues.{Waiter}
use Rattle.lock_model.specs.Text as text
use Rattle.lock_history.specs.Endings.{ending_of, numbers_of}
use Rattle.lock_history.specs.declared.outcome.Outcome.{Outcome}
use Rattle.lock_history.specs.declared.outcome.QueueLine.{QueueLine}

-- a waiter and its kept priority
abbrev pub waiter_seen : ThreadNo × Prio → Waiter
waiter_seen w = record { thread = w.0.0; kept = w.1.0 }

abbrev pub line_seen : QueueLine → text.QueueLine
line_seen q = record {
  queue = q.q;
  slot = q.slot;
  head = q.head.0;
  free = map (λ t. t.0) q.free;
  exclusive = map waiter_seen q.excl;
  shared = map waiter_seen q.shared;
}

abbrev pub outcome_seen : Outcome → text.Outcome
outcome_seen o = record {
  history = o.history;
  queues = map line_seen o.queues;
  finals = numbers_of o.finals;
  tables = entries o.tables.present;
  ending = ending_of o.last;
}

-- items behind another, each behind a comma
abbrev pub others_joined : List (List ℕ) → List ℕ
others_joined items = flat_map (λ item. 44 ∷ item) items

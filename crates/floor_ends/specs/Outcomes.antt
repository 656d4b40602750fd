-- What is printed of what a floor left.
use Rattle.std.specs.Prelude.{◌≡◌, ℕ, if◌then◌else◌, List, [], Some, length, map, slice_get}
use Rattle.std.specs.FinMap.{entries}
use Rattle.std.specs.List.{All, list_any}
use Rattle.std.specs.declared.alloc.Global.{Global}
use Rattle.std.specs.declared.boxed.Box.{Box}
use Rattle.lock_floor.specs.declared.closing.Closing.{Closing}
use Rattle.lock_history.specs.Books.{Book}
use Rattle.lock_history.specs.Tickets.{entries_in}
use Rattle.lock_model.specs.Law.{is_halt}
use Rattle.lock_model.specs.Takes.{is_reversal}
use Rattle.lock_model.specs.Text.{Ending, IsDone, IsReversed, IsStuck, Outcome}
use Rattle.lock_model.specs.declared.event.Entry.{Entry}
use Rattle.thread_records.specs.declared.record.ThreadRec.{ThreadRec}

-- all entries of logs, each at the place of its ticket
pub record IsMerged (logs : List Book) (history : List Entry) : Type 0 where
  pub long : length history ≡ length (entries_in logs)
  pub placed : All (λ e. slice_get history e.ticket ≡ Some e) (entries_in logs)

-- how threads ended, by their history: stuck where somebody was halted, or else reversed where a take was refused
abbrev pub ending_left : List Entry → Ending
ending_left history =
    if list_any (λ e. is_halt e.event) history then IsStuck
    else (if list_any (λ e. is_reversal e.event) history then IsReversed else IsDone)

-- a thread's base priority, and the effective one, which is the same where nobody waits
abbrev pub bases_of : Box ThreadRec Global → ℕ × ℕ
bases_of r = (r.value.base, r.value.base)

-- what is printed of what a floor left, by the history, whose oldest entry is first: no queue is left
abbrev pub outcome_left : Closing → List Entry → Outcome
outcome_left x history = record {
  history = history;
  queues = [];
  finals = map bases_of x.recs.items;
  tables = entries x.tables.present;
  ending = ending_left history;
}

-- Facts of logs, tables and the history, and of what is out.
use Rattle.std.specs.Prelude.{◌≡◌, ℕ, true, List, length, Option, Some, None}
use Rattle.lock_model.specs.History.{value_at, open_in, base_in, entries_of}
use Rattle.lock_state.specs.Steps.Items.{Item, out_with, go_together}
use Rattle.lock_model.specs.Config.{Config}
use Rattle.lock_model.specs.Holds.{Hold, Holds}
use Rattle.lock_model.specs.declared.plan.Mode.{Mode}
use Rattle.lock_model.specs.declared.event.Entry.{Entry}

-- the next ticket is the number of entries
unfoldable pub NextIsNew : ℕ → List Entry → Type 0
NextIsNew next history = next ≡ length history

-- each thread's log is its part of the history
unfoldable pub LogsAreParts : (ℕ → List Entry) → List Entry → Type 0
LogsAreParts log history = (t : ℕ) → log t ≡ entries_of history t

-- each table is what the history leaves
unfoldable pub TablesReplay : (ℕ → ℕ → Option ℕ) → List Entry → Type 0
TablesReplay table history = (l k : ℕ) → table l k ≡ value_at history l k

-- each base priority is what the history leaves
unfoldable pub BasesReplay : Config → (ℕ → ℕ) → List Entry → Type 0
BasesReplay c base history = (t : ℕ) → base t ≡ base_in c history t

-- an open section is of a lock that its thread holds in that mode
unfoldable pub SectionsAreHeld : Config → List Entry → (ℕ → ℕ → Hold) → Type 0
SectionsAreHeld c history held =
    (t l : ℕ) (mode : Mode) → open_in c history t l ≡ Holds mode → held t l ≡ Holds mode

-- all that a thread has out goes together: one chain and one record, or one cell, or the class graph
unfoldable pub OutIsNarrow : (ℕ → Option ℕ) → (ℕ → Option ℕ) → (ℕ → Option ℕ) → (ℕ → ℕ → Option ℕ)
    → Option ℕ → Type 0
OutIsNarrow turnstile_chain sleep_chain of cell graph =
    (t : ℕ) (i j : Item) → out_with turnstile_chain sleep_chain of cell graph i ≡ Some t
    → out_with turnstile_chain sleep_chain of cell graph j ≡ Some t → go_together i j ≡ true

-- nothing is out
unfoldable pub NothingIsOut : (ℕ → Option ℕ) → (ℕ → Option ℕ) → (ℕ → Option ℕ)
    → (ℕ → ℕ → Option ℕ) → Option ℕ → Type 0
NothingIsOut turnstile_chain sleep_chain of cell graph =
    (i : Item) → out_with turnstile_chain sleep_chain of cell graph i ≡ None

-- The tickets of entries, and a list in which each entry stands at the place of its ticket.
use Rattle.std.specs.Prelude.{◌≡◌, ◌≢◌, ℕ, ◌<◌, List, [], ◌∷◌, length, flat_map, slice_index_or, slice_set}
use Rattle.std.specs.List.{All, AllPairs}
use Rattle.lock_model.specs.declared.event.Entry.{Entry}
use Rattle.lock_history.specs.Books.{Book}

-- the entries of all logs, log by log
abbrev pub entries_in : List Book → List Entry
entries_in logs = flat_map (λ g. g.entries) logs

-- the tickets are 0 to n - 1, each once, where n is the number of the entries
pub record TicketsOnce (es : List Entry) : Type 0 where
  pub below : All (λ e. e.ticket < length es) es
  pub once : AllPairs (λ e f. e.ticket ≢ f.ticket) es

-- the entry at each place has the place as its ticket
abbrev pub InOrder : List Entry → Type 0
InOrder es = (k : ℕ) (d : Entry) → k < length es → (slice_index_or es k d).ticket ≡ k

-- a list in which each entry was put at the place of its ticket, one after another
abbrev pub placed_by : List Entry → List Entry → List Entry
placed_by places [] = places
placed_by places (e ∷ es) = placed_by (slice_set places e.ticket e) es

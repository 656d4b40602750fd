-- The sections of locks that a history shows, as pairs of entries: the one that begins it, and the one that ends it.
-- Here a history is in order of its tickets, the oldest entry first. Which events begin and end a section the law of a
-- history says (`lock_model`, `History`).
use Rattle.std.specs.Prelude.{ℕ, ◌-◌, Bool, ◌&&◌, ◌==◌, nat_lt, nat_le, List, [], ◌∷◌, find, filter, Option, Some, None}
use Rattle.lock_model.specs.Config.{Config}
use Rattle.lock_model.specs.Events.{OfSection, NoSection, BeginsIn, EndsFrom, LeftFor, TakenBack, facets}
use Rattle.lock_model.specs.History.{ends}
use Rattle.lock_model.specs.declared.event.Entry.{Entry}
use Rattle.lock_model.specs.declared.event.Event.{Event}

-- a section of a lock: the entry that begins it, and the one that ends it, if there is one
pub record Section : Type 0 where
  pub lock : ℕ
  pub begin : Entry
  pub end : Option Entry

-- the lock of which an event begins a section: that of a take or a try that gained it, or that of the channel of a
-- sleep that has ended
abbrev pub lock_begun : Config → OfSection → Option ℕ
lock_begun c NoSection = None
lock_begun c (BeginsIn l mode) = Some l
lock_begun c (EndsFrom l mode) = None
lock_begun c (LeftFor d) = None
lock_begun c (TakenBack d) = Some (c.chan_lock d)

abbrev pub begins : Config → Event → Option ℕ
begins c e = lock_begun c (facets e).section

-- whether an entry ends a thread's section of a lock: it is the thread's, and ends one of that lock
abbrev pub ends_section : Config → ℕ → ℕ → Entry → Bool
ends_section c t l e = ends c e.event l && (e.thread.0 == t)

-- the section that an entry begins, if it begins one, before those of the entries behind it: it ends at its thread's
-- next entry that ends a section of the lock
abbrev pub section_before : Config → Entry → List Entry → Option ℕ → List Section → List Section
section_before c e es None sections = sections
section_before c e es (Some l) sections =
    record { lock = l; begin = e; end = find (ends_section c e.thread.0 l) es } ∷ sections

-- all sections of a history, in the order in which they begin
unfoldable pub sections_of : Config → List Entry → List Section
sections_of c [] = []
sections_of c (e ∷ es) = section_before c e es (begins c e.event) (sections_of c es)

-- the ticket of a section's end; where it has none, the number of the history's entries stands in its place
abbrev pub ticket_of_end : ℕ → Option Entry → ℕ
ticket_of_end entries None = entries
ticket_of_end entries (Some e) = e.ticket

-- the ticket of its end less that of its begin
abbrev pub length_of : ℕ → Section → ℕ
length_of entries s = ticket_of_end entries s.end - s.begin.ticket

-- whether a section is open behind the entry of a ticket: it has begun by then, and not ended yet
abbrev pub is_open_behind : ℕ → ℕ → Section → Bool
is_open_behind entries ticket s =
    nat_le s.begin.ticket ticket && nat_lt ticket (ticket_of_end entries s.end)

-- whether a section, of the same thread, is open when another begins: it has begun before, and ended no sooner
abbrev pub is_open_at_begin_of : ℕ → Section → Section → Bool
is_open_at_begin_of entries second first =
    (first.begin.thread.0 == second.begin.thread.0)
    && (nat_lt first.begin.ticket second.begin.ticket
    && nat_le second.begin.ticket (ticket_of_end entries first.end))

-- the sections of one lock
abbrev pub sections_at : ℕ → List Section → List Section
sections_at l sections = filter (λ s. s.lock == l) sections

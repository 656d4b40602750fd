-- The part of the law of a history that speaks of the causes of halts: there was a moment at which each thread had
-- nothing more to do, or slept, or waited for a lock that another had. A history is a list of entries, the newest
-- first.
use Rattle.std.specs.Prelude.{◌≡◌, ℕ, ◌<◌, ◌≤◌, Bool, true, false, not, ◌&&◌, ◌||◌, ◌==◌, nat_lt, if◌then◌else◌, List, [], ◌∷◌, Option, Some, None, ⊤}
use Rattle.lock_model.specs.Config.{Config}
use Rattle.lock_model.specs.Counts.{any_below, is_empty}
use Rattle.lock_model.specs.Events.{OfEnd, NoEnd, EndsTakeOf, EndsWaitOn, OfSleep, facets, of_sleep, is_falling, ends_by_halt}
use Rattle.lock_model.specs.History.{entries_of, open_in}
use Rattle.lock_model.specs.Holds.{is_unheld}
use Rattle.lock_model.specs.Law.{is_named, is_halt, passes_over}
use Rattle.lock_model.specs.declared.event.Event.{Event}
use Rattle.lock_model.specs.declared.event.Entry.{Entry}

-- 1. A moment of a history

-- the entries below a ticket,
unfoldable pub entries_below : ℕ → List Entry → List Entry
entries_below p [] = []
entries_below p (e ∷ es) =
    if nat_lt e.ticket p then e ∷ entries_below p es else entries_below p es

-- and those from it on
unfoldable pub entries_since : ℕ → List Entry → List Entry
entries_since p [] = []
entries_since p (e ∷ es) =
    if nat_lt e.ticket p then entries_since p es else e ∷ entries_since p es

-- 2. What a thread was at then

-- whether the newest of a thread's entries is a Sleeps entry
abbrev pub ends_asleep : List Entry → Bool
ends_asleep [] = false
ends_asleep (e ∷ es) = is_falling (of_sleep e.event)

-- whether the thread sleeps behind a history: its last entry is a Sleeps entry, and no waking names it since
abbrev pub is_sleeping : List Entry → ℕ → Bool
is_sleeping es t = ends_asleep (entries_of es t) && not (is_named es t)

-- whether another thread has an open section of the lock
abbrev pub open_with_another : Config → List Entry → ℕ → ℕ → Bool
open_with_another c es t l =
    any_below c.threads (λ u. not (u == t) && not (is_unheld (open_in c es u l)))

-- whether there is a lock, and another thread has an open section of it
abbrev pub waits_for_another : Config → List Entry → ℕ → Option ℕ → Bool
waits_for_another c es t None = false
waits_for_another c es t (Some l) = open_with_another c es t l

-- the lock that the thread of an entry had waited for, where the entry is Locked or HaltedLock of a lock, or Woke of a
-- wait with it
abbrev pub lock_awaited : Config → OfEnd → OfSleep → Option ℕ
lock_awaited c NoEnd sleep = None
lock_awaited c (EndsTakeOf l) sleep = Some l
lock_awaited c (EndsWaitOn d) sleep = if ends_by_halt sleep then None else Some (c.chan_lock d)

abbrev pub awaited_by : Config → Event → Option ℕ
awaited_by c e = lock_awaited c (facets e).end (of_sleep e)

-- whether the first of a thread's entries since then is such an entry, of a lock of which another had an open section
abbrev pub first_was_awaited : Config → List Entry → ℕ → List Entry → Bool
first_was_awaited c past t [] = false
first_was_awaited c past t (e ∷ []) = waits_for_another c past t (awaited_by c e.event)
first_was_awaited c past t (e ∷ d ∷ es) = first_was_awaited c past t (d ∷ es)

-- 3. The law

-- Whether a halt at that moment wrongs no thread: it has made no entry since, or it slept then, or the first entry that
-- it has made since tells that it had waited for a lock that another had
abbrev pub is_honest_to : Config → ℕ → List Entry → ℕ → Bool
is_honest_to c p es t =
    is_empty (entries_of (entries_since p es) t)
    || (is_sleeping (entries_below p es) t
    || first_was_awaited c (entries_below p es) t (entries_of (entries_since p es) t))

-- each halt of a sleep, and each waking that passes over a thread, comes at that moment or later
unfoldable pub HaltsComeSince : Config → ℕ → List Entry → Type 0
HaltsComeSince c p [] = ⊤
HaltsComeSince c p (e ∷ es) =
    (is_halt e.event ≡ true → p ≤ e.ticket)
    × ((t : ℕ) → passes_over c es e.event t ≡ true → p ≤ e.ticket)
    × HaltsComeSince c p es

-- there is such a moment. Where nobody was halted or passed over, the end of the history is one
pub record HaltsAreHonest (c : Config) (history : List Entry) : Type 0 where
  pub moment : ℕ
  pub comes_first : HaltsComeSince c moment history
  pub honest : (t : ℕ) → t < c.threads → is_honest_to c moment history t ≡ true

-- The profile of a history, after LOCK_PROFILING(9): counts of each lock and of each pair of classes, over the whole
-- history and its sections. Which counts these are is this project's own.
use Rattle.std.specs.Prelude.{ℕ, Bool, false, ◌&&◌, ◌==◌, nat_lt, max, List, [], ◌∷◌, length, map, filter, sum_by, count_by, flat_map}
use Rattle.std.specs.List.{range_with_len}
use Rattle.lock_model.specs.Config.{Config}
use Rattle.lock_model.specs.Events.{OfTake, NoTake, GainedBy, FoundBusy, HaltedFor, RefusedBy, facets}
use Rattle.lock_model.specs.History.{sleeps_with}
use Rattle.lock_model.specs.Plans.{config_of}
use Rattle.lock_model.specs.declared.event.Entry.{Entry}
use Rattle.lock_model.specs.declared.event.Event.{Event}
use Rattle.lock_model.specs.declared.plan.Plan.{Plan}
use Rattle.hold_profile.specs.Sections.{Section, sections_of, sections_at, length_of, is_open_behind, is_open_at_begin_of}
use Rattle.hold_profile.specs.declared.lines.LockLine.{LockLine}
use Rattle.hold_profile.specs.declared.lines.OrderLine.{OrderLine}
use Rattle.hold_profile.specs.declared.lines.Profile.{Profile}

-- the greatest number that f has in a list, and 0 where that is empty
abbrev pub greatest_by : {X : Type 0} → (X → ℕ) → List X → ℕ
greatest_by f [] = 0
greatest_by f (x ∷ xs) = max (f x) (greatest_by f xs)

-- whether a try of the lock found it busy
abbrev pub is_busy : OfTake → ℕ → Bool
is_busy NoTake l = false
is_busy (GainedBy k by_try) l = false
is_busy (FoundBusy k seen) l = k == l
is_busy (HaltedFor k) l = false
is_busy (RefusedBy k class) l = false

-- whether a halt ended a take of the lock
abbrev pub is_halted : OfTake → ℕ → Bool
is_halted NoTake l = false
is_halted (GainedBy k by_try) l = false
is_halted (FoundBusy k seen) l = false
is_halted (HaltedFor k) l = k == l
is_halted (RefusedBy k class) l = false

abbrev pub finds_busy : Event → ℕ → Bool
finds_busy e l = is_busy (facets e).take l

abbrev pub is_halted_at : Event → ℕ → Bool
is_halted_at e l = is_halted (facets e).take l

-- how many of a lock's sections are open behind an entry
abbrev pub open_behind : ℕ → List Section → Entry → ℕ
open_behind entries sections e = count_by (is_open_behind entries e.ticket) sections

-- What a history shows of a lock: how many sections it has, the sum of their lengths and the greatest of them, the most
-- of them that are open behind any one entry; how often a try found it busy, how often a wait with it began, and how
-- often a halt ended a take of it.
unfoldable pub lock_line : Config → List Entry → ℕ → LockLine
lock_line c history l =
    let entries = length history in
    let sections = sections_at l (sections_of c history) in
    record {
      holds = length sections;
      total = sum_by (length_of entries) sections;
      longest = greatest_by (length_of entries) sections;
      together = greatest_by (open_behind entries sections) history;
      busy = count_by (λ (e : Entry). finds_busy e.event l) history;
      waits = count_by (λ (e : Entry). sleeps_with c e.event l) history;
      halted = count_by (λ (e : Entry). is_halted_at e.event l) history;
    }

-- whether two sections are of the two classes, and the first is open when the second begins
abbrev pub is_pair : Config → ℕ → ℕ → ℕ → Section → Section → Bool
is_pair c entries a b second first =
    (c.class first.lock == a)
    && ((c.class second.lock == b) && is_open_at_begin_of entries second first)

-- how many pairs of sections are of the two classes, in that order
unfoldable pub pairs_of : Config → List Entry → ℕ → ℕ → ℕ
pairs_of c history a b =
    let entries = length history in
    let sections = sections_of c history in
    sum_by (λ (second : Section). count_by (is_pair c entries a b second) sections) sections

-- the line of a pair of classes
abbrev pub order_line : Config → List Entry → ℕ → ℕ → OrderLine
order_line c history a b =
    record { first = record { 0 = a }; second = record { 0 = b }; count = pairs_of c history a b }

-- whether a pair of classes was seen
abbrev pub is_seen : OrderLine → Bool
is_seen o = nat_lt 0 o.count

-- the pairs of classes that a history shows, by the first and then by the second
abbrev pub order_lines : Config → List Entry → ℕ → List OrderLine
order_lines c history classes =
    flat_map (λ a. filter is_seen (map (order_line c history a) (range_with_len 0 classes)))
    (range_with_len 0 classes)

-- the profile of a history: a line for each lock of the plan, by its number, and one for each pair of classes whose
-- count is above 0
abbrev pub profile_of : Plan → List Entry → Profile
profile_of plan history =
    record {
      locks = map (lock_line (config_of plan) history) (range_with_len 0 (length plan.locks));
      orders = order_lines (config_of plan) history (length plan.classes);
    }

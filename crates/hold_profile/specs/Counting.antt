-- What a pass over a history has counted behind so many of its entries.
use Rattle.std.specs.Prelude.{◌≡◌, ◌≢◌, ℕ, ◌+◌, ◌-◌, ◌*◌, ◌^◌, ◌<◌, ◌≤◌, Bool, not, ◌==◌, if◌then◌else◌, max, List, [], ◌∷◌, ◌++◌, length, map, filter, is_none, sum_by, count_by, slice_index, slice_index_or}
use Rattle.std.specs.Global.{Vec}
use Rattle.std.specs.List.{range_with_len}
use Rattle.lock_model.specs.Config.{Config}
use Rattle.lock_model.specs.Limits.{most_operations}
use Rattle.lock_model.specs.Plans.{config_of, lock_class}
use Rattle.lock_model.specs.declared.numbers.LockNo.{LockNo}
use Rattle.lock_model.specs.declared.event.Entry.{Entry}
use Rattle.lock_model.specs.declared.plan.Plan.{Plan}
use Rattle.hold_profile.specs.Sections.{Section, sections_of, sections_at, length_of}
use Rattle.hold_profile.specs.Profiles.{greatest_by, lock_line, pairs_of, is_seen}
use Rattle.hold_profile.specs.declared.counting.Counting.{Counting}
use Rattle.hold_profile.specs.declared.events.AtLock.{AtLock}
use Rattle.hold_profile.specs.declared.events.AtLock.TheVariants.{Begins, Ends, Leaves, FindsBusy, IsHalted}
use Rattle.hold_profile.specs.declared.lines.LockLine.{LockLine}
use Rattle.hold_profile.specs.declared.lines.OrderLine.{OrderLine}
use Rattle.hold_profile.specs.declared.tally.OpenSection.{OpenSection}
use Rattle.hold_profile.specs.declared.tally.Tally.{Tally}

-- 1. What an entry changes

-- how long an open section has lasted when the entry of that ticket comes,
abbrev pub lasted : ℕ → OpenSection → ℕ
lasted ticket o = ticket - o.since

-- whether it is a thread's,
abbrev pub is_by : ℕ → OpenSection → Bool
is_by t o = t == o.thread.0

-- and how long it has lasted if it is, and else 0
abbrev pub lasted_by : ℕ → ℕ → OpenSection → ℕ
lasted_by t ticket o = if is_by t o then lasted ticket o else 0

-- a line with the lengths of sections that end
abbrev pub with_lengths : (OpenSection → ℕ) → List OpenSection → LockLine → LockLine
with_lengths f xs line =
    record line { total = line.total + sum_by f xs; longest = max line.longest (greatest_by f xs) }

-- a lock's line behind an entry of a thread, by what is counted of the lock
abbrev pub line_after : AtLock → ℕ → ℕ → List OpenSection → LockLine → LockLine
line_after Begins t ticket xs line =
    record line { holds = line.holds + 1; together = max line.together (length xs + 1) }
line_after Ends t ticket xs line = with_lengths (lasted_by t ticket) xs line
line_after Leaves t ticket xs line =
    record (with_lengths (lasted_by t ticket) xs line) { waits = line.waits + 1 }
line_after FindsBusy t ticket xs line = record line { busy = line.busy + 1 }
line_after IsHalted t ticket xs line = record line { halted = line.halted + 1 }

-- and its sections that are open
abbrev pub open_after : AtLock → ℕ → ℕ → List OpenSection → List OpenSection
open_after Begins t ticket xs = xs ++ record { thread = record { 0 = t }; since = ticket } ∷ []
open_after Ends t ticket xs = filter (λ o. not (is_by t o)) xs
open_after Leaves t ticket xs = filter (λ o. not (is_by t o)) xs
open_after FindsBusy t ticket xs = xs
open_after IsHalted t ticket xs = xs

-- the locks of the thread's sections that are open, by what is counted of one
abbrev pub held_after : AtLock → LockNo → List LockNo → List LockNo
held_after Begins l held = held ++ l ∷ []
held_after Ends l held = filter (λ k. not (l.0 == k.0)) held
held_after Leaves l held = filter (λ k. not (l.0 == k.0)) held
held_after FindsBusy l held = held
held_after IsHalted l held = held

-- how many pairs of two classes an entry brings: where a section begins, one for each that is open
abbrev pub pairs_by : Plan → AtLock → LockNo → List LockNo → ℕ → ℕ → ℕ
pairs_by plan Begins l held a b =
    if lock_class plan l.0 == b then count_by (λ k. lock_class plan k.0 == a) held else 0
pairs_by plan Ends l held a b = 0
pairs_by plan Leaves l held a b = 0
pairs_by plan FindsBusy l held a b = 0
pairs_by plan IsHalted l held a b = 0

-- 2. What was counted so far

-- nothing
abbrev pub no_line : LockLine
no_line = record {
  holds = 0;
  total = 0;
  longest = 0;
  together = 0;
  busy = 0;
  waits = 0;
  halted = 0;
}

abbrev pub is_open : Section → Bool
is_open s = is_none s.end

-- a section's length, where it has ended, and else 0
abbrev pub length_so_far : Section → ℕ
length_so_far s = length_of s.begin.ticket s

-- a lock's line, with the lengths of the sections that have ended alone
abbrev pub line_so_far : Config → List Entry → ℕ → LockLine
line_so_far c history l =
    record (lock_line c history l) {
      total = sum_by length_so_far (sections_at l (sections_of c history));
      longest = greatest_by length_so_far (sections_at l (sections_of c history));
    }

abbrev pub open_seen : Section → OpenSection
open_seen s = record { thread = s.begin.thread; since = s.begin.ticket }

-- a lock's sections that are open
abbrev pub open_at : Config → List Entry → ℕ → List OpenSection
open_at c history l = map open_seen (filter is_open (sections_at l (sections_of c history)))

-- what was counted of a lock: its line, and its sections that are open
pub record IsTally (c : Config) (history : List Entry) (l : ℕ) (line : LockLine)
    (sections : List OpenSection) : Type 0 where
  pub its_line : line ≡ line_so_far c history l
  pub its_sections : sections ≡ open_at c history l
  -- as many as are open now have been open together
  pub within : length sections ≤ line.together

abbrev pub lock_seen : Section → LockNo
lock_seen s = record { 0 = s.lock }

-- a thread's sections
abbrev pub sections_by : ℕ → List Section → List Section
sections_by t sections = filter (λ s. s.begin.thread.0 == t) sections

-- the locks of a thread's sections that are open
abbrev pub held_by : Config → List Entry → ℕ → List LockNo
held_by c history t = map lock_seen (filter is_open (sections_by t (sections_of c history)))

-- what a pass has counted behind so many entries
pub record IsCounted (plan : Plan) (history : List Entry) (x : Counting) : Type 0 where
  pub lock_count : length x.locks.items ≡ length plan.locks
  pub locks : (l : ℕ) (d : Tally) → l < length plan.locks
      → IsTally (config_of plan) history l (slice_index_or x.locks.items l d).line
      (slice_index_or x.locks.items l d).sections.items
  pub thread_count : length x.held.items ≡ length plan.threads
  pub held : (t : ℕ) (d : _) → t < length plan.threads
      → (slice_index_or x.held.items t d).items ≡ held_by (config_of plan) history t
  pub class_count : length x.orders.items ≡ length plan.classes
  pub row_counts : (b : ℕ) (d : _) → b < length plan.classes
      → length (slice_index_or x.orders.items b d).items ≡ length plan.classes
  pub orders : (a b : ℕ) (d : _) → a < length plan.classes → b < length plan.classes
      → slice_index (slice_index_or x.orders.items b d).items a
      ≡ pairs_of (config_of plan) history a b

-- an entry was counted, of a lock
pub record IsNoted (plan : Plan) (what : AtLock) (l : LockNo) (e : Entry) (old new : Counting) :
    Type 0 where
  pub lock_count : length new.locks.items ≡ length old.locks.items
  pub other_locks : (k : ℕ) (d : Tally) → k ≢ l.0
      → slice_index_or new.locks.items k d ≡ slice_index_or old.locks.items k d
  pub line : (d : Tally) → l.0 < length old.locks.items
      → (slice_index_or new.locks.items l.0 d).line
      ≡ line_after what e.thread.0 e.ticket (slice_index_or old.locks.items l.0 d).sections.items
      (slice_index_or old.locks.items l.0 d).line
  pub sections : (d : Tally) → l.0 < length old.locks.items
      → (slice_index_or new.locks.items l.0 d).sections.items
      ≡ open_after what e.thread.0 e.ticket (slice_index_or old.locks.items l.0 d).sections.items
  pub thread_count : length new.held.items ≡ length old.held.items
  pub other_threads : (t : ℕ) (d : _) → t ≢ e.thread.0
      → slice_index_or new.held.items t d ≡ slice_index_or old.held.items t d
  pub held : (d : _) → e.thread.0 < length old.held.items
      → (slice_index_or new.held.items e.thread.0 d).items
      ≡ held_after what l (slice_index_or old.held.items e.thread.0 d).items
  pub class_count : length new.orders.items ≡ length old.orders.items
  pub row_counts : (b : ℕ) (d : _) → b < length old.orders.items
      → length (slice_index_or new.orders.items b d).items
      ≡ length (slice_index_or old.orders.items b d).items
  pub orders : (a b : ℕ) (d f : _) → b < length old.orders.items
      → a < length (slice_index_or old.orders.items b d).items
      → slice_index (slice_index_or new.orders.items b d).items a
      ≡ slice_index (slice_index_or old.orders.items b d).items a
      + pairs_by plan what l (slice_index_or old.held.items e.thread.0 f).items a b

-- 3. Lines

-- a row of counts
abbrev pub row_at : List (Vec ℕ) → ℕ → List ℕ
row_at rows b = slice_index_or (map (λ (row : Vec ℕ). row.items) rows) b []

-- the line of a pair of classes, by rows of counts
abbrev pub counted_line : List (Vec ℕ) → ℕ → ℕ → OrderLine
counted_line rows a b = record {
  first = record { 0 = a };
  second = record { 0 = b };
  count = slice_index (row_at rows b) a;
}

-- those above 0 of a class that was held
abbrev pub row_lines : List (Vec ℕ) → ℕ → ℕ → List OrderLine
row_lines rows classes a = filter is_seen (map (counted_line rows a) (range_with_len 0 classes))

-- a lock's line in the end
abbrev pub line_in_end : ℕ → Tally → LockLine
line_in_end entries x = with_lengths (lasted entries) x.sections.items x.line

-- 4. Limits

-- entries of a history: two for each operation
abbrev pub most_entries : ℕ
most_entries = 2 * most_operations

-- the counts of a line fit their types
pub record Fits (line : LockLine) : Type 0 where
  pub holds : line.holds < 2 ^ 32
  pub total : line.total < 2 ^ 64
  pub busy : line.busy < 2 ^ 32
  pub waits : line.waits < 2 ^ 32
  pub halted : line.halted < 2 ^ 32

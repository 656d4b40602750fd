-- The history of a run as a list of entries, the newest first: the tables that it leaves, the sections of locks that
-- are open behind it, each thread's own entries and base priority, and the parts of the law of a history that each
-- state keeps.
use Rattle.std.specs.Prelude.{◌≡◌, ◌≢◌, ℕ, ◌+◌, ◌%◌, ◌^◌, ◌<◌, ◌≤◌, Bool, true, false, ◌&&◌, ◌||◌, ◌==◌, if◌then◌else◌, List, [], ◌∷◌, length, Option, unwrap_or, ⊤}
use Rattle.std.specs.declared.cmp.Ordering.{Ordering}
use Rattle.std.specs.Ordering.{nat_cmp, ordering_then}
use Rattle.std.specs.FinMap.{FinMap, empty, get, insert}
use Rattle.lock_model.specs.Counts.{any_below}
use Rattle.lock_model.specs.Config.{Config}
use Rattle.lock_model.specs.Holds.{Hold, NotHeld, Holds, is_exclusive}
use Rattle.lock_model.specs.Words.{is_turnstile}
use Rattle.lock_model.specs.declared.plan.Mode.{Mode}
use Rattle.lock_model.specs.declared.plan.Mode.TheVariants.{Excl, Shared}
use Rattle.lock_model.specs.declared.event.Event.{Event}
use Rattle.lock_model.specs.Events.{OfSection, NoSection, BeginsIn, EndsFrom, LeftFor, TakenBack, OfPrio, NoPrio, NewBase, ShowsPrios, facets, new_base}
use Rattle.lock_model.specs.declared.event.OfTable.{OfTable}
use Rattle.lock_model.specs.declared.event.OfTable.TheVariants.{NoTable, SetsTo, AddsTo, Reads}
use Rattle.lock_model.specs.declared.event.Entry.{Entry}

-- 1. Tables

-- keys of tables by lock and then by key
abbrev pub place_cmp : ℕ × ℕ → ℕ × ℕ → Ordering
place_cmp p q = ordering_then (nat_cmp p.0 q.0) (nat_cmp p.1 q.1)

-- a value with an amount added modulo 2 ^ 64, where an absent key counts as 0
abbrev pub added : Option ℕ → ℕ → ℕ
added before n = (unwrap_or before 0 + n) % 2 ^ 64

-- what an event makes of the tables
abbrev pub edit : OfTable → FinMap place_cmp ℕ → FinMap place_cmp ℕ
edit NoTable m = m
edit (SetsTo l k v) m = insert m (l.0, k) v
edit (AddsTo l k n) m = insert m (l.0, k) (added (get m (l.0, k)) n)
edit (Reads l k found) m = m

abbrev pub edited : Event → FinMap place_cmp ℕ → FinMap place_cmp ℕ
edited e m = edit (facets e).table m

-- the tables that a history leaves: its edits in the order of their tickets, begun with empty tables
unfoldable pub tables_of : List Entry → FinMap place_cmp ℕ
tables_of [] = empty
tables_of (e ∷ es) = edited e.event (tables_of es)

-- what a history leaves at a key of a lock's table
unfoldable pub value_at : List Entry → ℕ → ℕ → Option ℕ
value_at history l k = get (tables_of history) (l, k)

-- 2. Sections

-- of one thread and lock: the section that is open now, and the one that the last Sleeps entry with that lock ended
pub record Sections : Type 0 where
  pub now : Hold
  pub left : Hold

-- the section of the lock that an event begins. After a wait it begins in the mode that the wait left
abbrev pub section_begun : Config → OfSection → Hold → ℕ → Hold
section_begun c NoSection left l = NotHeld
section_begun c (BeginsIn k mode) left l = if k == l then Holds mode else NotHeld
section_begun c (EndsFrom k mode) left l = NotHeld
section_begun c (LeftFor d) left l = NotHeld
section_begun c (TakenBack d) left l = if c.chan_lock d == l then left else NotHeld

abbrev pub begun_by : Config → Event → Hold → ℕ → Hold
begun_by c e left l = section_begun c (facets e).section left l

-- whether an event ends a section of the lock
abbrev pub is_ended : Config → OfSection → ℕ → Bool
is_ended c NoSection l = false
is_ended c (BeginsIn k mode) l = false
is_ended c (EndsFrom k mode) l = k == l
is_ended c (LeftFor d) l = c.chan_lock d == l
is_ended c (TakenBack d) l = false

abbrev pub ends : Config → Event → ℕ → Bool
ends c e l = is_ended c (facets e).section l

-- whether an event begins a sleep with the lock
abbrev pub is_left : Config → OfSection → ℕ → Bool
is_left c NoSection l = false
is_left c (BeginsIn k mode) l = false
is_left c (EndsFrom k mode) l = false
is_left c (LeftFor d) l = c.chan_lock d == l
is_left c (TakenBack d) l = false

abbrev pub sleeps_with : Config → Event → ℕ → Bool
sleeps_with c e l = is_left c (facets e).section l

-- the section that an event begins, or else the one before
abbrev pub replaced : Hold → Hold → Hold
replaced (Holds mode) before = Holds mode
replaced NotHeld before = before

-- a thread's sections of a lock after an event of its own
abbrev pub sections_by : Config → Event → ℕ → Sections → Sections
sections_by c e l before = record {
  now = replaced (begun_by c e before.left l) (if ends c e l then NotHeld else before.now);
  left = if sleeps_with c e l then before.now else before.left;
}

-- a thread's sections of a lock behind a history
unfoldable pub sections_in : Config → List Entry → ℕ → ℕ → Sections
sections_in c [] t l = record { now = NotHeld; left = NotHeld }
sections_in c (e ∷ es) t l =
    if e.thread.0 == t then sections_by c e.event l (sections_in c es t l) else sections_in c es t l

-- the section of the lock that the thread has open behind a history
abbrev pub open_in : Config → List Entry → ℕ → ℕ → Hold
open_in c history t l = (sections_in c history t l).now

-- the section that the thread's last wait with the lock ended
abbrev pub left_in : Config → List Entry → ℕ → ℕ → Hold
left_in c history t l = (sections_in c history t l).left

-- 3. Threads

-- the thread's own entries, the newest first
abbrev pub entries_of : List Entry → ℕ → List Entry
entries_of [] t = []
entries_of (e ∷ es) t = if e.thread.0 == t then e ∷ entries_of es t else entries_of es t

-- a thread's base priority after an event of its own
abbrev pub base_by : Event → ℕ → ℕ
base_by e before = unwrap_or (new_base e) before

-- the thread's base priority behind a history: that of its last Base entry, or the declared one
abbrev pub base_in : Config → List Entry → ℕ → ℕ
base_in c [] t = c.declared_base t
base_in c (e ∷ es) t = if e.thread.0 == t then base_by e.event (base_in c es t) else base_in c es t

-- whether an event sets a base priority to p
abbrev pub is_base : OfPrio → ℕ → Bool
is_base NoPrio p = false
is_base (NewBase q) p = q == p
is_base (ShowsPrios b e) p = false

abbrev pub sets_base : Event → ℕ → Bool
sets_base e p = is_base (facets e).prio p

-- whether a Base entry has the priority
abbrev pub has_base : List Entry → ℕ → Bool
has_base [] p = false
has_base (e ∷ es) p = sets_base e.event p || has_base es p

-- whether a priority is the declared base of a thread or that of a Base entry
abbrev pub is_known : Config → List Entry → ℕ → Bool
is_known c history p = any_below c.threads (λ t. c.declared_base t == p) || has_base history p

-- 4. The law of a history, as far as it speaks of every history that a run has had so far

-- tickets run from 0 without a gap
unfoldable pub TicketsRun : List Entry → Type 0
TicketsRun [] = ⊤
TicketsRun (e ∷ es) = (e.ticket ≡ length es) × TicketsRun es

-- no thread has a section of the lock open that excludes one in the mode
abbrev pub IsAlone : Config → List Entry → ℕ → Mode → Type 0
IsAlone c es l Shared = (u : ℕ) → open_in c es u l ≢ Holds Excl
IsAlone c es l Excl = (u : ℕ) → open_in c es u l ≡ NotHeld

-- an exclusive section overlaps no other section of its lock
unfoldable pub SectionsExclude : Config → List Entry → Type 0
SectionsExclude c [] = ⊤
SectionsExclude c (e ∷ es) =
    ((l : ℕ) (mode : Mode) → begun_by c e.event (left_in c es e.thread.0 l) l ≡ Holds mode
    → IsAlone c es l mode) × SectionsExclude c es

-- the section that an event of the thread needs
abbrev pub NeedsSection : Config → OfTable → List Entry → ℕ → Type 0
NeedsSection c NoTable es t = ⊤
NeedsSection c (SetsTo l k v) es t = open_in c es t l.0 ≡ Holds Excl
NeedsSection c (AddsTo l k n) es t = open_in c es t l.0 ≡ Holds Excl
NeedsSection c (Reads l k found) es t = open_in c es t l.0 ≢ NotHeld

abbrev pub IsInSection : Config → Event → List Entry → ℕ → Type 0
IsInSection c e es t = NeedsSection c (facets e).table es t

-- edits stand in exclusive sections of their thread, and reads in a section of it
unfoldable pub EditsInSections : Config → List Entry → Type 0
EditsInSections c [] = ⊤
EditsInSections c (e ∷ es) = IsInSection c e.event es e.thread.0 × EditsInSections c es

-- what a read shows
abbrev pub FindsWhatIs : OfTable → List Entry → Type 0
FindsWhatIs NoTable es = ⊤
FindsWhatIs (SetsTo l k v) es = ⊤
FindsWhatIs (AddsTo l k n) es = ⊤
FindsWhatIs (Reads l k found) es = found ≡ value_at es l.0 k

abbrev pub IsReplayed : Event → List Entry → Type 0
IsReplayed e es = FindsWhatIs (facets e).table es

-- each read shows what the entries before it leave at its key
unfoldable pub ReadsReplay : List Entry → Type 0
ReadsReplay [] = ⊤
ReadsReplay (e ∷ es) = IsReplayed e.event es × ReadsReplay es

-- whether the thread has an exclusive section of a mutex or an rw lock open
abbrev pub owns_in : Config → List Entry → ℕ → Bool
owns_in c es t = any_below c.locks (λ l. is_turnstile (c.kind l) && is_exclusive (open_in c es t l))

-- A shown base is the thread's own. A shown effective priority is that, or it is a lesser one that a waiter lends:
-- the thread has an exclusive section of a mutex or an rw lock open, and some thread has or had the priority as its
-- base.
pub record IsExplained (c : Config) (es : List Entry) (t base effective : ℕ) : Type 0 where
  pub its_base : base ≡ base_in c es t
  pub no_worse : effective ≤ base
  pub owns : effective < base → owns_in c es t ≡ true
  pub lent : effective < base → is_known c es effective ≡ true

-- what a thread shows of its priorities
abbrev pub ExplainsPrio : Config → OfPrio → List Entry → ℕ → Type 0
ExplainsPrio c NoPrio es t = ⊤
ExplainsPrio c (NewBase p) es t = ⊤
ExplainsPrio c (ShowsPrios base effective) es t = IsExplained c es t base effective

abbrev pub IsShown : Config → Event → List Entry → ℕ → Type 0
IsShown c e es t = ExplainsPrio c (facets e).prio es t

-- what each thread shows of its priorities is explained
unfoldable pub ShownIsExplained : Config → List Entry → Type 0
ShownIsExplained c [] = ⊤
ShownIsExplained c (e ∷ es) = IsShown c e.event es e.thread.0 × ShownIsExplained c es

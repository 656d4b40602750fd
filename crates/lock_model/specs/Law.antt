-- Parts of the law of a history: what is true of the entries of every run of a plan, however its threads' steps came. A
-- history is a list of entries, the newest first. The parts that speak of tables, sections and priorities stand in
-- `History`, those of orders, halts and busy words in `Takes`, `Halts` and `BusyWords`; `Legal` is the whole.
use Rattle.std.specs.Prelude.{◌≡◌, ℕ, suc, Bool, true, false, not, ◌&&◌, ◌||◌, ◌==◌, nat_lt, if◌then◌else◌, List, [], ◌∷◌, length, reverse, slice_get, Option, Some, ⊤}
use Rattle.lock_model.specs.Counts.{any_below, has_bit}
use Rattle.lock_model.specs.Config.{Config}
pub use Rattle.lock_model.specs.Events.{sleeps_on}
use Rattle.lock_model.specs.Events.{OfSleep, NoSleep, FallsAsleep, WakesUp, IsHalted, IsHaltedAtLock, WakesOne, WakesAll, of_sleep, ends_by_halt, is_by_halt}
use Rattle.lock_model.specs.Holds.{Holds}
use Rattle.lock_model.specs.Words.{word_of, IsWellFormed, is_free, admits}
use Rattle.lock_model.specs.Plans.{config_of, operations_of}
use Rattle.lock_model.specs.Operations.{held_of, hold_in}
use Rattle.lock_model.specs.History.{entries_of, base_in}
use Rattle.lock_model.specs.declared.numbers.LockNo.{LockNo}
use Rattle.lock_model.specs.declared.numbers.ChanNo.{ChanNo}
use Rattle.lock_model.specs.declared.numbers.ClassNo.{ClassNo}
use Rattle.lock_model.specs.declared.numbers.Prio.{Prio}
use Rattle.lock_model.specs.declared.plan.Kind.{Kind}
use Rattle.lock_model.specs.declared.plan.Kind.TheVariants.{Sx}
use Rattle.lock_model.specs.declared.plan.Mode.{Mode}
use Rattle.lock_model.specs.declared.plan.Op.{Op}
use Rattle.lock_model.specs.declared.plan.Op.TheVariants as op
use Rattle.lock_model.specs.declared.plan.Plan.{Plan}
use Rattle.lock_model.specs.declared.event.Event.{Event}
use Rattle.lock_model.specs.declared.event.Event.TheVariants.{Locked, Tried, Busy, Unlocked, Set, Added, Got, Base, Shown, Sleeps, Woke, HaltedChan, HaltedLock, WokeOne, WokeAll, Reversed}
use Rattle.lock_model.specs.declared.event.Entry.{Entry}
use Rattle.lock_model.specs.declared.event.Held.{Held}

-- 1. The entries of each thread follow its operations in order

-- where a thread is in its operations
pub data Point : Type 0 where
  -- the operation of that number is its next
  Before : ℕ → Point
  -- it sleeps in that operation, a wait
  Asleep : ℕ → Point
  -- it was cut short, and gives back what it holds: the locks that are left, the one acquired last first
  Cut : List Held → Point

-- What an operation's first entry is, and where it leads. A take gives Locked, Reversed or, of an sx lock,
-- HaltedLock; a try gives Tried, or Busy with a held word that doesn't admit it, and then the operations behind the
-- block; a wait gives Sleeps; every other operation but an `endtry` gives its one entry.
pub data Gives (kind : ℕ → Kind) (held : List Held) (n : ℕ) : Op → Event → Point → Type 0 where
  locks : (l : LockNo) (mode : Mode)
      → Gives kind held n (op.Take l mode) (Locked l mode) (Before (suc n))
  is_reversed : (l : LockNo) (mode : Mode) (class : ClassNo)
      → Gives kind held n (op.Take l mode) (Reversed l class) (Cut (reverse held))
  is_halted : (l : LockNo) (mode : Mode) → kind l.0 ≡ Sx
      → Gives kind held n (op.Take l mode) (HaltedLock l) (Cut (reverse held))
  tries : (l : LockNo) (mode : Mode) (past : ℕ)
      → Gives kind held n (op.Try l mode past) (Tried l mode) (Before (suc n))
  finds_busy : (l : LockNo) (mode : Mode) (past seen : ℕ) → IsWellFormed (word_of seen)
      → is_free (word_of seen).holder ≡ false → admits (kind l.0) (word_of seen) mode ≡ false
      → Gives kind held n (op.Try l mode past) (Busy l seen) (Before past)
  unlocks : (l : LockNo) (mode : Mode) → hold_in held l.0 ≡ Holds mode
      → Gives kind held n (op.Release l) (Unlocked l mode) (Before (suc n))
  sets : (l : LockNo) (key value : ℕ)
      → Gives kind held n (op.Set l key value) (Set l key value) (Before (suc n))
  adds : (l : LockNo) (key amount : ℕ)
      → Gives kind held n (op.Add l key amount) (Added l key amount) (Before (suc n))
  gets : (l : LockNo) (key : ℕ) (found : Option ℕ)
      → Gives kind held n (op.Get l key) (Got l key found) (Before (suc n))
  changes_base : (prio : Prio) → Gives kind held n (op.Base prio) (Base prio) (Before (suc n))
  shows : (base effective : Prio)
      → Gives kind held n op.Show (Shown base effective) (Before (suc n))
  sleeps : (d : ChanNo) → Gives kind held n (op.Sleep d) (Sleeps d) (Asleep n)
  wakes_one : (d : ChanNo) (woken : ℕ)
      → Gives kind held n (op.WakeOne d) (WokeOne d woken) (Before (suc n))
  wakes_all : (d : ChanNo) (woken : ℕ)
      → Gives kind held n (op.WakeAll d) (WokeAll d woken) (Before (suc n))

-- A thread's own entries, the newest first, lead it from its first operation to a point. After Reversed, HaltedLock
-- or HaltedChan only Unlocked entries follow, of the locks held, last first.
pub data LeadsTo (kind : ℕ → Kind) (ops : List Op) : List Entry → Point → Type 0 where
  begins : LeadsTo kind ops [] (Before 0)
  goes_on : {es : List Entry} {n : ℕ} {o : Op} {p : Point} (e : Entry)
      → LeadsTo kind ops es (Before n) → slice_get ops n ≡ Some o
      → Gives kind (held_of ops n) n o e.event p → LeadsTo kind ops (e ∷ es) p
  skips_endtry : {es : List Entry} {n : ℕ} → LeadsTo kind ops es (Before n)
      → slice_get ops n ≡ Some op.EndTry → LeadsTo kind ops es (Before (suc n))
  wakes_up : {es : List Entry} {n : ℕ} {d : ChanNo} (e : Entry)
      → LeadsTo kind ops es (Asleep n) → slice_get ops n ≡ Some (op.Sleep d)
      → e.event ≡ Woke d → LeadsTo kind ops (e ∷ es) (Before (suc n))
  is_woken_by_a_halt : {es : List Entry} {n : ℕ} {d : ChanNo} (e : Entry)
      → LeadsTo kind ops es (Asleep n) → slice_get ops n ≡ Some (op.Sleep d)
      → e.event ≡ HaltedChan d
      → LeadsTo kind ops (e ∷ es) (Cut (reverse (held_of ops n)))
  gives_back : {es : List Entry} {h : Held} {hs : List Held} (e : Entry)
      → LeadsTo kind ops es (Cut (h ∷ hs)) → e.event ≡ Unlocked h.l h.mode
      → LeadsTo kind ops (e ∷ es) (Cut hs)

-- whether no entry is left to make
abbrev pub IsAtEnd : List Op → Point → Type 0
IsAtEnd ops (Before n) = n ≡ length ops
IsAtEnd ops (Asleep n) = ⊥
IsAtEnd ops (Cut held) = held ≡ []

-- the point to which a thread's entries lead: the end, save in a run that was cut short
pub record FollowsOperations (plan : Plan) (cut_short : Bool) (history : List Entry) (t : ℕ) :
    Type 0 where
  pub point : Point
  pub leads : LeadsTo (config_of plan).kind (operations_of plan t)
      (entries_of history t) point
  pub whole : cut_short ≡ false → IsAtEnd (operations_of plan t) point

-- the entries of each thread follow its operations, and a number that is no thread's has none
unfoldable pub EntriesFollowOperations : Plan → Bool → List Entry → Type 0
EntriesFollowOperations plan cut_short history =
    (t : ℕ) → FollowsOperations plan cut_short history t

-- 2. A waking names sleepers, by their rank

-- whether it is a waking that names the thread
abbrev pub names : OfSleep → ℕ → Bool
names NoSleep t = false
names (FallsAsleep d) t = false
names (WakesUp d) t = false
names (IsHalted d) t = false
names (IsHaltedAtLock l) t = false
names (WakesOne d woken) t = has_bit t woken
names (WakesAll d woken) t = has_bit t woken

abbrev pub wakes : Event → ℕ → Bool
wakes e t = names (of_sleep e) t

-- whether a waking may name the thread: its last entry is a Sleeps entry on the channel, and no waking names it since
unfoldable pub is_asleep : List Entry → ℕ → ℕ → Bool
is_asleep [] d t = false
is_asleep (e ∷ es) d t =
    if e.thread.0 == t then sleeps_on e.event d else not (wakes e.event t) && is_asleep es d t

-- whether a waking names the thread since its last entry
unfoldable pub is_named : List Entry → ℕ → Bool
is_named [] t = false
is_named (e ∷ es) t = if e.thread.0 == t then false else wakes e.event t || is_named es t

-- the number of entries up to the thread's last one
unfoldable pub entries_up_to : List Entry → ℕ → ℕ
entries_up_to [] t = 0
entries_up_to (e ∷ es) t = if e.thread.0 == t then suc (length es) else entries_up_to es t

-- Whether a sleeper t goes before another, u: its base is less, or is the same and it has slept longer.
abbrev pub goes_before : Config → List Entry → ℕ → ℕ → Bool
goes_before c es t u =
    nat_lt (base_in c es t) (base_in c es u)
    || (base_in c es t == base_in c es u) && nat_lt (entries_up_to es t) (entries_up_to es u)

-- whether a waking of one names a thread before which t goes, or nobody
abbrev pub comes_before_named : Config → List Entry → ℕ → ℕ → Bool
comes_before_named c es woken t =
    (woken == 0) || any_below c.threads (λ u. has_bit u woken && goes_before c es t u)

-- Whether a waking passes over the thread, which it may name and doesn't: one of all always does; one of one where it
-- names nobody, or a thread before which t goes.
abbrev pub leaves_asleep : Config → List Entry → OfSleep → ℕ → Bool
leaves_asleep c es NoSleep t = false
leaves_asleep c es (FallsAsleep d) t = false
leaves_asleep c es (WakesUp d) t = false
leaves_asleep c es (IsHalted d) t = false
leaves_asleep c es (IsHaltedAtLock l) t = false
leaves_asleep c es (WakesOne d woken) t =
    is_asleep es d t && not (has_bit t woken) && comes_before_named c es woken t
leaves_asleep c es (WakesAll d woken) t = is_asleep es d t && not (has_bit t woken)

abbrev pub passes_over : Config → List Entry → Event → ℕ → Bool
passes_over c es e t = leaves_asleep c es (of_sleep e) t

-- whether a waking has passed over the thread since its last entry
unfoldable pub is_passed_over : Config → List Entry → ℕ → Bool
is_passed_over c [] t = false
is_passed_over c (e ∷ es) t =
    if e.thread.0 == t then false else passes_over c es e.event t || is_passed_over c es t

abbrev pub is_halted_chan : Event → Bool
is_halted_chan e = ends_by_halt (of_sleep e)

-- What an entry of a waking or of a woken thread needs: a waking names only threads that it may name, and a waking of
-- one at most one; the thread of a Woke entry was named since its Sleeps entry, and that of a HaltedChan entry
-- wasn't.
abbrev pub Fits : OfSleep → List Entry → ℕ → Type 0
Fits NoSleep es t = ⊤
Fits (FallsAsleep d) es t = ⊤
Fits (WakesUp d) es t = is_named es t ≡ true
Fits (IsHalted d) es t = is_named es t ≡ false
Fits (IsHaltedAtLock l) es t = ⊤
Fits (WakesOne d woken) es t =
    ((u : ℕ) → has_bit u woken ≡ true → is_asleep es d u ≡ true)
    × ((u v : ℕ) → has_bit u woken ≡ true → has_bit v woken ≡ true → u ≡ v)
Fits (WakesAll d woken) es t = (u : ℕ) → has_bit u woken ≡ true → is_asleep es d u ≡ true

abbrev pub FitsSleepers : Event → List Entry → ℕ → Type 0
FitsSleepers e es t = Fits (of_sleep e) es t

-- each entry fits the sleepers behind the entries before it, and the next entry of a thread that was passed over is
-- HaltedChan
unfoldable pub WakingsNameSleepers : Config → List Entry → Type 0
WakingsNameSleepers c [] = ⊤
WakingsNameSleepers c (e ∷ es) =
    FitsSleepers e.event es e.thread.0
    × (is_passed_over c es e.thread.0 ≡ true → is_halted_chan e.event ≡ true)
    × WakingsNameSleepers c es

-- 3. Halts stand only in histories of running threads

abbrev pub is_halt : Event → Bool
is_halt e = is_by_halt (of_sleep e)

unfoldable pub HaltsOnlyWhenRunning : Bool → List Entry → Type 0
HaltsOnlyWhenRunning is_run [] = ⊤
HaltsOnlyWhenRunning is_run (e ∷ es) =
    (is_run ≡ false → is_halt e.event ≡ false) × HaltsOnlyWhenRunning is_run es

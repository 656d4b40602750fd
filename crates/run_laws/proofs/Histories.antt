-- Worked histories, held against the law of a history: what it lets through and what it refuses. A law that is turned
-- so that it asks for less is proved all the same, and no scheduled run has halts: nothing else here notices such
-- turns.
use Rattle.run_laws.proofs.Names
use Names.{ℕ, zero, suc, true, false, List, [], slice_get, Some, refl, sym, ap, subst, arith, same_Some, Config}
use Names.{LeadsTo, Gives, Point, Before, Asleep, Cut, is_asleep, is_named, entries_up_to, is_passed_over}
use Names.{WakingsNameSleepers, HaltsOnlyWhenRunning, any_below, has_bit, HaltsAreHonest, HaltsComeSince, is_honest_to}
use Names.{entries_below, entries_since, sections_in, held_of, LockNo, ChanNo, Kind, Mtx, Excl, Op, Take, Try, EndTry}
use Names.{Release, Show, Sleep, Entry, Held, Event, Locked, Busy, Unlocked, Shown, Sleeps, Woke, HaltedChan, WokeOne}
use Names.{WokeAll, Reversed}
use Rattle.std.proofs.Common.{◌≡◌, ◌≤◌, ◌∷◌, ◌∙◌}
use Rattle.lock_model.specs.Law as law

abbrev pub entry : ℕ → ℕ → Event → Entry
entry ticket t e = record { ticket = ticket; thread = record { 0 = t }; event = e }

abbrev pub lock : ℕ → LockNo
lock l = record { 0 = l }

abbrev pub chan : ChanNo
chan = record { 0 = 0 }

abbrev kind : ℕ → Kind
kind l = Mtx

-- 1. Entries that follow operations

-- a try that finds the lock held by thread 1 goes on behind its block
tries : List Op
tries = Try (lock 0) Excl 3 ∷ Release (lock 0) ∷ EndTry ∷ Show ∷ []

busy : Entry
busy = entry 0 0 (Busy (lock 0) 12)

busy_goes_on : LeadsTo kind tries (busy ∷ []) (Before 3)
unfolding busy tries
busy_goes_on = law.goes_on busy law.begins refl (law.finds_busy (lock 0) Excl 3 12 (omega arith) refl refl)

-- and nowhere else
abbrev number : Point → ℕ
number (Before n) = n
number (Asleep n) = n
number (Cut hs) = 0

abbrev past_of : Op → ℕ
past_of (Try l mode past) = past
past_of other = 0

begins_at : (p : Point) → LeadsTo kind tries [] p → p ≡ Before 0
unfolding tries
begins_at p law.begins = refl
begins_at p (law.skips_endtry {n = n} w e) =
    let z : n ≡ 0 = ap number (begins_at (Before n) w) in
    let f : slice_get tries 0 ≡ Some EndTry = subst (λ m. slice_get tries m ≡ Some EndTry) z e in
    absurd cc

given_busy : (held : List Held) (n : ℕ) (o : Op) (p : Point) → Gives kind held n o (Busy (lock 0) 12) p
    → p ≡ Before (past_of o)
given_busy held n o p (law.finds_busy l mode past seen well_formed is_held refused) = refl

busy_goes_only_on : (p : Point) → LeadsTo kind tries (busy ∷ []) p → p ≡ Before 3
unfolding tries busy
busy_goes_only_on p (law.goes_on {n = n} {o = o} e w i g) =
    let z : n ≡ 0 = ap number (begins_at (Before n) w) in
    let f : slice_get tries 0 ≡ Some o = subst (λ m. slice_get tries m ≡ Some o) z i in
    let d : p ≡ Before (past_of o) = given_busy (held_of tries n) n o p g in
    d ∙ sym (ap (λ x. Before (past_of x)) (same_Some (Try (lock 0) Excl 3) o f))
busy_goes_only_on p (law.skips_endtry {n = n} w i) =
    let z : n ≡ 3 = ap number (busy_goes_only_on (Before n) w) in
    let f : slice_get tries 3 ≡ Some EndTry = subst (λ m. slice_get tries m ≡ Some EndTry) z i in
    absurd cc
busy_goes_only_on p (law.wakes_up e w i x) = absurd cc
busy_goes_only_on p (law.is_woken_by_a_halt e w i x) = absurd cc
busy_goes_only_on p (law.gives_back e w x) = absurd cc

abbrev own : Event
own = Shown (record { 0 = 100 }) (record { 0 = 100 })

shows_behind_block : LeadsTo kind tries (entry 1 0 own ∷ busy ∷ []) (Before 4)
unfolding tries
shows_behind_block = law.goes_on (entry 1 0 own) busy_goes_on refl (law.shows (record { 0 = 100 }) (record { 0 = 100 }))

-- a wait is two entries, a sleep and its end
waits : List Op
waits = Take (lock 0) Excl ∷ Sleep chan ∷ Release (lock 0) ∷ []

slept : List Entry
slept = entry 1 0 (Sleeps chan) ∷ entry 0 0 (Locked (lock 0) Excl) ∷ []

sleeps_in_wait : LeadsTo kind waits slept (Asleep 1)
unfolding waits slept
sleeps_in_wait = law.goes_on (entry 1 0 (Sleeps chan))
    (law.goes_on (entry 0 0 (Locked (lock 0) Excl)) law.begins refl (law.locks (lock 0) Excl)) refl (law.sleeps chan)

wakes_from_wait : LeadsTo kind waits (entry 3 0 (Woke chan) ∷ slept) (Before 2)
unfolding waits
wakes_from_wait = law.wakes_up (entry 3 0 (Woke chan)) sleeps_in_wait refl refl

-- a halted wait gives its lock back, and that is all
halted_gives_back : LeadsTo kind waits (entry 3 0 (Unlocked (lock 0) Excl) ∷ entry 2 0 (HaltedChan chan) ∷ slept)
    (Cut [])
unfolding waits
halted_gives_back = law.gives_back (entry 3 0 (Unlocked (lock 0) Excl))
    (law.is_woken_by_a_halt (entry 2 0 (HaltedChan chan)) sleeps_in_wait refl refl) refl

-- a refused take gives back what is held, the last first
three_locks : List Op
three_locks = Take (lock 0) Excl ∷ Take (lock 1) Excl ∷ Take (lock 2) Excl ∷ []

first : List Entry
first = entry 0 0 (Locked (lock 0) Excl) ∷ []

holds_first : LeadsTo kind three_locks first (Before 1)
unfolding first three_locks
holds_first = law.goes_on (entry 0 0 (Locked (lock 0) Excl)) law.begins refl (law.locks (lock 0) Excl)

holds_both : LeadsTo kind three_locks (entry 1 0 (Locked (lock 1) Excl) ∷ first) (Before 2)
unfolding three_locks
holds_both = law.goes_on (entry 1 0 (Locked (lock 1) Excl)) holds_first refl (law.locks (lock 1) Excl)

abbrev pub held : ℕ → Held
held l = record { l = lock l; mode = Excl; by_try = false }

abbrev refused : List Entry
refused = entry 2 0 (Reversed (lock 2) (record { 0 = 0 })) ∷ entry 1 0 (Locked (lock 1) Excl) ∷ first

was_refused : LeadsTo kind three_locks refused (Cut (held 1 ∷ held 0 ∷ []))
unfolding three_locks
was_refused = law.goes_on (entry 2 0 (Reversed (lock 2) (record { 0 = 0 }))) holds_both refl
    (law.is_reversed (lock 2) Excl (record { 0 = 0 }))

gives_back : LeadsTo kind three_locks
    (entry 4 0 (Unlocked (lock 0) Excl) ∷ entry 3 0 (Unlocked (lock 1) Excl) ∷ refused) (Cut [])
gives_back = law.gives_back (entry 4 0 (Unlocked (lock 0) Excl))
    (law.gives_back (entry 3 0 (Unlocked (lock 1) Excl)) was_refused refl) refl

-- 2. Sleepers. Thread 0, of base 100, sleeps first, then thread 1, of base 50, then thread 2, of base 50; thread 3
--    wakes them

bases : ℕ → ℕ
bases zero = 100
bases (suc n) = 50

sleepers : Config
sleepers =
    record { threads = 4; locks = 1; chans = 1; kind = kind; class = λ l. l; chan_lock = λ d. 0; declared_base = bases }

asleep : List Entry
asleep = entry 2 2 (Sleeps chan) ∷ entry 1 1 (Sleeps chan) ∷ entry 0 0 (Sleeps chan) ∷ []

-- a waking of one names at most one
names_two : WakingsNameSleepers sleepers (entry 3 3 (WokeOne chan 6) ∷ asleep) → ⊥
unfolding WakingsNameSleepers has_bit
names_two w = let z : 1 ≡ 2 = w.0.1 1 2 refl refl in omega (arith, z)

-- and only sleepers,
names_the_waker : WakingsNameSleepers sleepers (entry 3 3 (WokeAll chan 8) ∷ asleep) → ⊥
unfolding WakingsNameSleepers has_bit is_asleep asleep
names_the_waker w = let z : false ≡ true = w.0 3 refl in cc

-- once
names_twice : WakingsNameSleepers sleepers (entry 4 3 (WokeOne chan 2) ∷ entry 3 3 (WokeOne chan 2) ∷ asleep) → ⊥
unfolding WakingsNameSleepers has_bit is_asleep asleep
names_twice w = let z : false ≡ true = w.0.0 1 refl in cc

-- nobody wakes unnamed,
wakes_unnamed : WakingsNameSleepers sleepers (entry 3 0 (Woke chan) ∷ asleep) → ⊥
unfolding WakingsNameSleepers is_named asleep
wakes_unnamed w = let z : false ≡ true = w.0 in cc

-- and no halt takes a thread that was named
halts_named : WakingsNameSleepers sleepers (entry 4 1 (HaltedChan chan) ∷ entry 3 3 (WokeOne chan 2) ∷ asleep) → ⊥
unfolding WakingsNameSleepers is_named has_bit asleep
halts_named w = let z : true ≡ false = w.0 in cc

-- of the sleepers the one of the least base is named, and of equals the one that has slept longest
best_is_named : is_passed_over sleepers (entry 3 3 (WokeOne chan 2) ∷ asleep) 0 ≡ false
unfolding is_passed_over is_asleep has_bit entries_up_to any_below sleepers bases asleep
best_is_named = refl

passes_over_lesser_base : is_passed_over sleepers (entry 3 3 (WokeOne chan 1) ∷ asleep) 1 ≡ true
unfolding is_passed_over is_asleep has_bit entries_up_to any_below sleepers bases asleep
passes_over_lesser_base = refl

passes_over_longer_sleep : is_passed_over sleepers (entry 3 3 (WokeOne chan 4) ∷ asleep) 1 ≡ true
unfolding is_passed_over is_asleep has_bit entries_up_to any_below sleepers bases asleep
passes_over_longer_sleep = refl

passes_over_with_nobody : is_passed_over sleepers (entry 3 3 (WokeOne chan 0) ∷ asleep) 0 ≡ true
unfolding is_passed_over is_asleep has_bit entries_up_to any_below sleepers bases asleep
passes_over_with_nobody = refl

passes_over_one_of_all : is_passed_over sleepers (entry 3 3 (WokeAll chan 3) ∷ asleep) 2 ≡ true
unfolding is_passed_over is_asleep has_bit entries_up_to any_below sleepers bases asleep
passes_over_one_of_all = refl

-- and a thread that was passed over isn't woken any more
wakes_passed_over : WakingsNameSleepers sleepers
    (entry 5 1 (Woke chan) ∷ entry 4 3 (WokeOne chan 2) ∷ entry 3 3 (WokeOne chan 1) ∷ asleep) → ⊥
unfolding WakingsNameSleepers is_passed_over is_asleep has_bit entries_up_to any_below sleepers bases asleep
wakes_passed_over w = let z : false ≡ true = w.1 refl in cc

-- 3. Halts

halts_in_scheduled_run : HaltsOnlyWhenRunning false (entry 3 0 (HaltedChan chan) ∷ asleep) → ⊥
unfolding HaltsOnlyWhenRunning
halts_in_scheduled_run h = let z : true ≡ false = h.0 refl in cc

-- and where nobody was halted no waking passes over a sleeper: here at no moment had thread 3, which wakes, slept or
-- waited for a lock
passes_over_unhalted : HaltsAreHonest sleepers (entry 3 3 (WokeAll chan 3) ∷ asleep) → ⊥
unfolding HaltsComeSince entries_below entries_since is_named is_asleep has_bit any_below sections_in sleepers asleep
passes_over_unhalted h = go h.moment (h.comes_first.1 2 refl) (h.honest 3 (omega arith))
  where
    go : (p : ℕ) → p ≤ 3 → is_honest_to sleepers p (entry 3 3 (WokeAll chan 3) ∷ asleep) 3 ≡ true → ⊥
    go zero le e = cc
    go (suc zero) le e = cc
    go (suc (suc zero)) le e = cc
    go (suc (suc (suc zero))) le e = cc
    go (suc (suc (suc (suc n)))) le e = omega (arith, le)

-- Worked histories and runs of lock orders: which histories the law lets through and which it refuses, which plans are
-- ordered, and what turns make of plans. A definition that is changed so that it asks for less, or a table
-- whose refusals name another class, is proved all the same: nothing else here notices such changes.
use Rattle.run_laws.proofs.Names
use Names.{ℕ, zero, suc, true, false, List, [], map, slice_get, Some, None, refl, subst, arith, rules, All-nil}
use Names.{All-cons, Config, any_below, sum_below, least, sections_in, held_of, IsOrdered, waits_or_tries, edge, then}
use Names.{HasNoCycle, edges_behind, is_edge, forbids, first_to_forbid, operations_of, lock_class, lock_queue}
use Names.{classes_open, take_edges, ReversalsHaveCause, OrdersAreLegal, IsDone, IsStuck, IsReversed, IsTooLong, LockNo}
use Names.{Mtx, Mode, Excl, Op, Take, Try, EndTry, Release, Sleep, Plan, Note, Gain, Drop, Enter, Entry, Held, Event}
use Names.{Locked, Tried, Unlocked, HaltedLock, Reversed, Sleeps, none_found, stays_without_cycle, start_state, put}
use Names.{put_at, put_queue, after_gain, after_drop, after_stamp, after_ready, after_enter, after_open, after_mark}
use Names.{after_resume, after_add, after_lend, after_shift, after_end_walk, after_admit, after_refuse, Step, Drops}
use Names.{Stamps, Readies, Enters, Admits, Refuses, Run, Course, course_after, ending_of, turn_of, run_behind}
use Names.{has_ended, no_path}
use Rattle.std.proofs.Common.{◌≡◌, ◌<◌, ◌∷◌}
use Rattle.std.specs.List.{All}
use Rattle.lock_state.specs.Run as run
use Rattle.run_laws.proofs.Histories.{entry, lock, chan, held}
use Rattle.run_laws.proofs.Rows.{at, plan, takes}

-- 1. Histories. Lock a has the class 1, b the class 0, and d the class 2

three_locks : Config
three_locks = record (plan Mtx 3 (100 ∷ 100 ∷ [])) { class = at (1 ∷ 0 ∷ 2 ∷ []) 0 }

abbrev locks : ℕ → Event
locks l = Locked (lock l) Excl

abbrev unlocks : ℕ → Event
unlocks l = Unlocked (lock l) Excl

abbrev is_refused : ℕ → ℕ → Event
is_refused l k = Reversed (lock l) (record { 0 = k })

-- p takes b behind a,
a_then_b : List Entry
a_then_b = entry 3 0 (unlocks 0) ∷ entry 2 0 (unlocks 1) ∷ entry 1 0 (locks 1) ∷ entry 0 0 (locks 0) ∷ []

-- and q a behind b: a cycle,
cycle_is_illegal : OrdersAreLegal three_locks
    (entry 7 1 (unlocks 1) ∷ entry 6 1 (unlocks 0) ∷ entry 5 1 (locks 0) ∷ entry 4 1 (locks 1) ∷ a_then_b) → ⊥
unfolding three_locks a_then_b plan at HasNoCycle take_edges classes_open sections_in
cycle_is_illegal h = h.no_cycle 1 (then {b = 0} refl (edge refl))

-- as it is where a halt ends the wait for a
halted_cycle_is_illegal : OrdersAreLegal three_locks
    (entry 6 1 (unlocks 1) ∷ entry 5 1 (HaltedLock (lock 0)) ∷ entry 4 1 (locks 1) ∷ a_then_b) → ⊥
unfolding three_locks a_then_b plan at HasNoCycle take_edges classes_open sections_in
halted_cycle_is_illegal h = h.no_cycle 1 (then {b = 0} refl (edge refl))

-- two locks of one class are one too
one_class : Config
one_class = record three_locks { class = λ l. 0 }

twins_are_illegal : OrdersAreLegal one_class (entry 1 0 (locks 1) ∷ entry 0 0 (locks 0) ∷ []) → ⊥
unfolding three_locks one_class plan HasNoCycle take_edges classes_open sections_in
twins_are_illegal h = h.no_cycle 0 (edge refl)

-- a take gives an edge from each lock of which a section is open
gives_both :
    let edges = take_edges three_locks (entry 2 0 (locks 2) ∷ entry 1 0 (locks 1) ∷ entry 0 0 (locks 0) ∷ []) in
    (is_edge edges 1 2 ≡ true) × (is_edge edges 0 2 ≡ true)
unfolding three_locks plan at take_edges classes_open sections_in
gives_both = (refl, refl)

-- a take that is admitted brings no cycle
admitted : (es : List (ℕ × ℕ)) (held : List ℕ) (w : ℕ) → first_to_forbid es held w ≡ None → HasNoCycle es
    → HasNoCycle (edges_behind es held w)
admitted es held w e h = stays_without_cycle es held w (none_found es w held e) h

none : HasNoCycle []
unfolding HasNoCycle
none a r = no_path r

from_a_to_b : HasNoCycle ((1, 0) ∷ [])
unfolding forbids
from_a_to_b = admitted [] (1 ∷ []) 0 refl none

-- where q tries a behind b, there is none
tries_a : List Entry
tries_a =
    entry 7 1 (unlocks 1) ∷ entry 6 1 (unlocks 0) ∷ entry 5 1 (Tried (lock 0) Excl) ∷ entry 4 1 (locks 1) ∷ a_then_b

try_is_legal : OrdersAreLegal three_locks tries_a
unfolding three_locks a_then_b tries_a plan at take_edges classes_open sections_in ReversalsHaveCause
try_is_legal = record { no_cycle = from_a_to_b; reversals_have_cause = search rules }

-- q is refused a for b, by the path from a to b that p's take has given and has yet to note
later_path : List Entry
later_path =
    entry 6 0 (unlocks 0) ∷ entry 5 0 (unlocks 1) ∷ entry 4 0 (locks 1) ∷ entry 3 1 (unlocks 1)
    ∷ entry 2 1 (is_refused 0 0)
    ∷ entry 1 1 (locks 1) ∷ entry 0 0 (locks 0) ∷ []

later_path_is_legal : OrdersAreLegal three_locks later_path
unfolding three_locks later_path plan at take_edges classes_open sections_in ReversalsHaveCause any_below forbids
later_path_is_legal = record { no_cycle = from_a_to_b; reversals_have_cause = search rules }

-- It isn't for a class of which it has no open section,
names_unheld : OrdersAreLegal three_locks (entry 2 1 (is_refused 0 1) ∷ entry 1 1 (locks 1) ∷ entry 0 0 (locks 0) ∷ [])
    → ⊥
unfolding three_locks plan at take_edges classes_open sections_in ReversalsHaveCause any_below forbids
names_unheld h = let z : false ≡ true = h.reversals_have_cause.0.0 in cc

-- for one to which no path leads,
names_unreached : OrdersAreLegal three_locks (entry 1 1 (is_refused 0 0) ∷ entry 0 1 (locks 1) ∷ []) → ⊥
unfolding three_locks plan at take_edges classes_open sections_in ReversalsHaveCause any_below forbids
names_unreached h = let z : false ≡ true = h.reversals_have_cause.0.1 in cc

-- or for one from which the path leads
names_other_end : OrdersAreLegal three_locks (entry 5 1 (is_refused 1 1) ∷ entry 4 1 (locks 0) ∷ a_then_b) → ⊥
unfolding three_locks a_then_b plan at take_edges classes_open sections_in ReversalsHaveCause any_below forbids
names_other_end h = let z : false ≡ true = h.reversals_have_cause.0.1 in cc

-- 2. The first held class that forbids a wanted one. From 2 edges lead to 0 and to 1

abbrev from_two : List (ℕ × ℕ)
from_two = (2, 0) ∷ (2, 1) ∷ []

-- of two that do it is the class of the lock gained first,
first_gained : first_to_forbid from_two (0 ∷ 1 ∷ []) 2 ≡ Some 0
unfolding forbids
first_gained = refl

first_gained_too : first_to_forbid from_two (1 ∷ 0 ∷ []) 2 ≡ Some 1
unfolding forbids
first_gained_too = refl

-- one that doesn't is passed over, and a path may have two edges;
first_that_does : first_to_forbid ((3, 2) ∷ from_two) (4 ∷ 1 ∷ []) 3 ≡ Some 1
unfolding forbids
first_that_does = refl

-- a class forbids itself,
own_class : first_to_forbid [] (1 ∷ 0 ∷ []) 0 ≡ Some 0
unfolding forbids
own_class = refl

-- and no path to the wanted class forbids it
path_to_wanted : first_to_forbid from_two (2 ∷ []) 1 ≡ None
unfolding forbids
path_to_wanted = refl

-- 3. Plans of mutexes with these classes and of threads with these operations

unfoldable of_classes : List ℕ → List (List Op) → List ℕ → Plan
of_classes classes threads schedule = record {
  classes = map (λ k. []) classes;
  locks = map (λ k. record { name = []; kind = Mtx; class = record { 0 = k } }) classes;
  chans = [];
  threads = map (λ ops. record { name = []; base = record { 0 = 100 }; ops = ops }) threads;
  schedule = map (λ t. record { 0 = t }) schedule;
}

abbrev take : ℕ → Op
take l = Take (lock l) Excl

abbrev give : ℕ → Op
give l = Release (lock l)

-- a take whose lock is free, in its first turn, and a release
unfoldable first_turn : ℕ → ℕ → List Step
first_turn t l = Admits t l ∷ takes t l Excl

unfoldable drops : ℕ → ℕ → List Step
drops t l = Stamps t (unlocks l) ∷ Drops t l Excl ∷ []

-- 4. A refusal. Lock a has the class 2, b the class 0, and c the class 1. p takes a behind c, and then b behind c. q
--    takes b, then a, and then it wants c

reversal : Plan
reversal = of_classes (2 ∷ 0 ∷ 1 ∷ []) ((take 2 ∷ take 0 ∷ give 0 ∷ take 1 ∷ give 1 ∷ give 2 ∷ [])
    ∷ (take 1 ∷ take 0 ∷ take 2 ∷ give 2 ∷ give 0 ∷ give 1 ∷ []) ∷ []) (0 ∷ 0 ∷ 0 ∷ 0 ∷ 0 ∷ 0 ∷ [])

-- a take gains its lock in the turn in which that is admitted;
admitted_and_gained : (r : Run) → r ≡ (course_after reversal 7).run
    → turn_of reversal r 1 ≡ run.ends r 1 Gain (first_turn 1 0)
unfolding reversal of_classes first_turn takes course_after turn_of run_behind has_ended start_state after_admit
    after_gain after_drop after_stamp put put_at forbids any_below
admitted_and_gained r e = rw e refl

-- one that is refused names the class of b, which q gained first
refused_for_first : (r : Run) → r ≡ (course_after reversal 8).run
    → turn_of reversal r 1 ≡ run.does Note (Refuses 1 2 0 ∷ Stamps 1 (is_refused 2 0) ∷ [])
unfolding reversal of_classes course_after turn_of run_behind has_ended start_state after_admit after_gain after_drop
    after_stamp put put_at forbids any_below
refused_for_first r e = rw e refl

-- and q gives back a, which it gained last
gives_last_back : (r : Run) → r ≡ (course_after reversal 9).run → turn_of reversal r 1 ≡ run.does Drop (drops 1 0)
unfolding reversal of_classes drops course_after turn_of run_behind has_ended start_state after_admit after_refuse
    after_gain after_drop after_stamp put put_at forbids any_below
gives_last_back r e = rw e refl

-- then b, and that is the end
reversed_run : (k : Course) → k ≡ course_after reversal 11
    → (k.run.state.log 1 ≡ entry 10 1 (unlocks 1) ∷ entry 9 1 (unlocks 0) ∷ entry 8 1 (is_refused 2 0)
    ∷ entry 7 1 (locks 0) ∷ entry 6 1 (locks 1) ∷ []) × (ending_of reversal k ≡ IsReversed)
unfolding reversal of_classes course_after turn_of run_behind has_ended start_state after_admit after_refuse after_gain
    after_drop after_stamp put put_at forbids any_below sum_below least
reversed_run k e = rw e (refl, refl)

-- locks of one class, which none of them is the number of: the second is refused for it, though no take has given an
-- edge
twins : Plan
twins = of_classes (2 ∷ 2 ∷ 0 ∷ []) ((take 0 ∷ take 1 ∷ give 1 ∷ give 0 ∷ []) ∷ []) []

twins_run : (k : Course) → k ≡ course_after twins 3
    → (k.run.state.history ≡ entry 2 0 (unlocks 0) ∷ entry 1 0 (is_refused 1 2) ∷ entry 0 0 (locks 0) ∷ [])
    × (k.run.state.edges ≡ []) × (ending_of twins k ≡ IsReversed)
unfolding twins of_classes course_after turn_of run_behind has_ended start_state after_admit after_refuse after_gain
    after_drop after_stamp put put_at forbids any_below sum_below least
twins_run k e = rw e (refl, refl, refl)

-- a try of the second isn't checked, and gives no edge either
tried_twin : Plan
tried_twin = of_classes (2 ∷ 2 ∷ []) ((take 0 ∷ Try (lock 1) Excl 4 ∷ give 1 ∷ EndTry ∷ give 0 ∷ []) ∷ []) []

tried_run : (k : Course) → k ≡ course_after tried_twin 4
    → (k.run.state.history ≡ entry 3 0 (unlocks 0) ∷ entry 2 0 (unlocks 1) ∷ entry 1 0 (Tried (lock 1) Excl)
    ∷ entry 0 0 (locks 0) ∷ []) × (k.run.state.edges ≡ []) × (ending_of tried_twin k ≡ IsDone)
unfolding tried_twin of_classes course_after turn_of run_behind has_ended start_state after_admit after_gain after_drop
    after_stamp put put_at forbids any_below sum_below least
tried_run k e = rw e (refl, refl, refl)

-- 5. Two threads that cross. p takes a, q takes b, p wants b and blocks, and q wants a

crossing : Plan
crossing = of_classes (1 ∷ 0 ∷ [])
    ((take 0 ∷ take 1 ∷ give 1 ∷ give 0 ∷ []) ∷ (take 1 ∷ take 0 ∷ give 0 ∷ give 1 ∷ []) ∷ []) (0 ∷ 1 ∷ [])

-- p blocks in the turn in which its take is admitted,
admitted_and_blocks : (r : Run) → r ≡ (course_after crossing 2).run
    → turn_of crossing r 0 ≡ run.does Enter (Admits 0 1 ∷ Readies 0 (lock_queue 1) ∷ Enters 0 1 Excl 0 ∷ [])
unfolding crossing of_classes course_after turn_of run_behind has_ended start_state after_admit after_gain after_stamp
    put put_at forbids any_below
admitted_and_blocks r e = rw e refl

-- and gains the lock, once q has given it back, without a second admission
gains_what_it_wanted : (r : Run) → r ≡ (course_after crossing 9).run
    → turn_of crossing r 0 ≡ run.ends r 0 Gain (takes 0 1 Excl)
unfolding crossing of_classes takes course_after turn_of run_behind has_ended start_state after_admit after_refuse
    after_gain after_stamp after_ready after_enter after_open after_mark after_resume after_lend after_shift
    after_end_walk put put_at put_queue forbids any_below sum_below least
gains_what_it_wanted r e = rw e refl

crossing_run : (k : Course) → k ≡ course_after crossing 12
    → (k.run.state.history ≡ later_path) × (ending_of crossing k ≡ IsReversed)
unfolding crossing of_classes later_path course_after turn_of run_behind has_ended start_state after_admit after_refuse
    after_gain after_drop after_stamp after_ready after_enter after_open after_mark after_resume after_lend after_shift
    after_end_walk put put_at put_queue forbids any_below sum_below least
crossing_run k e = rw e (refl, refl)

-- 6. A refusal in a run that doesn't come to its end: p sleeps on a channel, and nobody wakes it; q takes two locks
--    of one class

sleeping : Plan
sleeping =
    record (of_classes (0 ∷ 1 ∷ 1 ∷ []) ((take 0 ∷ Sleep chan ∷ give 0 ∷ []) ∷ (take 1 ∷ take 2 ∷ give 2 ∷ give 1 ∷ [])
    ∷ []) []) { chans = record { name = []; cond = true; lock = lock 0 } ∷ [] }

too_long_run : (k : Course) → k ≡ course_after sleeping 5
    → (k.run.state.log 1 ≡ entry 3 1 (is_refused 2 1) ∷ entry 1 1 (locks 1) ∷ []) × (ending_of sleeping k ≡ IsTooLong)
unfolding sleeping of_classes course_after turn_of run_behind has_ended start_state after_admit after_refuse after_gain
    after_drop after_stamp after_ready after_add put put_at put_queue forbids any_below sum_below least
too_long_run k e = rw e (refl, refl)

stuck_run : (k : Course) → k ≡ course_after sleeping 7
    → (k.run.state.log 0 ≡ entry 2 0 (Sleeps chan) ∷ entry 0 0 (locks 0) ∷ []) × (ending_of sleeping k ≡ IsStuck)
unfolding sleeping of_classes course_after turn_of run_behind has_ended start_state after_admit after_refuse after_gain
    after_drop after_stamp after_ready after_add put put_at put_queue forbids any_below sum_below least
stuck_run k e = rw e (refl, refl)

-- 7. Ordered plans: a thread that takes its locks in the order in which they are declared, whatever their classes are

both : ℕ → ℕ → Plan
both k l = of_classes (1 ∷ 0 ∷ []) ((take k ∷ take l ∷ give l ∷ give k ∷ []) ∷ []) []

ascending : Plan
ascending = both 0 1

waits_not : (t n : ℕ) (op : Op) → slice_get (operations_of ascending t) n ≡ Some op → waits_or_tries op ≡ false
unfolding ascending both of_classes
waits_not zero zero op e = grind arith
waits_not zero (suc zero) op e = grind arith
waits_not zero (suc (suc zero)) op e = grind arith
waits_not zero (suc (suc (suc zero))) op e = grind arith
waits_not zero (suc (suc (suc (suc n)))) op e = cc
waits_not (suc t) n op e = cc

upward : (t n : ℕ) (l : LockNo) (mode : Mode) → slice_get (operations_of ascending t) n ≡ Some (Take l mode)
    → All (λ h. h.l.0 < l.0) (held_of (operations_of ascending t) n)
unfolding ascending both of_classes
upward zero zero l mode e = All-nil _
upward zero (suc zero) l mode e =
    let z : lock 1 ≡ l = cc in
    subst (λ k. All (λ h. h.l.0 < k.0) (held 0 ∷ [])) z
    (All-cons (λ (h : Held). h.l.0 < 1) (held 0) [] (omega arith) (All-nil _))
upward zero (suc (suc zero)) l mode e = absurd cc
upward zero (suc (suc (suc zero))) l mode e = absurd cc
upward zero (suc (suc (suc (suc n)))) l mode e = absurd cc
upward (suc t) n l mode e = absurd cc

own : (l k : ℕ) → l < 2 → k < 2 → lock_class ascending l ≡ lock_class ascending k → l ≡ k
unfolding ascending both of_classes
own zero zero i j e = refl
own zero (suc zero) i j e = absurd cc
own (suc zero) zero i j e = absurd cc
own (suc zero) (suc zero) i j e = refl
own zero (suc (suc k)) i j e = absurd (omega (arith, j))
own (suc zero) (suc (suc k)) i j e = absurd (omega (arith, j))
own (suc (suc l)) k i j e = absurd (omega (arith, i))

ascending_is_ordered : IsOrdered ascending
unfolding ascending both of_classes
ascending_is_ordered = record { no_wait_nor_try = waits_not; own_classes = own; upward = upward }

-- taken the other way they aren't in order
descending_is_not : IsOrdered (both 1 0) → ⊥
unfolding both of_classes
descending_is_not h = let z : 1 < 0 = h.upward 0 1 (lock 0) Excl refl 0 (held 1) (omega arith) in omega (arith, z)

-- nor is a plan with locks of one class, with a wait or with a try
twins_are_not : IsOrdered twins → ⊥
unfolding twins of_classes
twins_are_not h = let z : 0 ≡ 1 = h.own_classes 0 1 (omega arith) (omega arith) refl in omega (arith, z)

wait_is_not : IsOrdered sleeping → ⊥
unfolding sleeping of_classes
wait_is_not h = let z : true ≡ false = h.no_wait_nor_try 0 1 (Sleep chan) refl in cc

try_is_not : IsOrdered (of_classes (0 ∷ []) ((Try (lock 0) Excl 3 ∷ give 0 ∷ []) ∷ []) []) → ⊥
unfolding of_classes
try_is_not h = let z : true ≡ false = h.no_wait_nor_try 0 0 (Try (lock 0) Excl 3) refl in cc

ascending_run : (k : Course) → k ≡ course_after ascending 4 → ending_of ascending k ≡ IsDone
unfolding ascending both of_classes course_after turn_of run_behind has_ended start_state after_admit after_gain
    after_drop after_stamp put put_at forbids any_below
ascending_run k e = rw e refl

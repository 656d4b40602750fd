-- Worked runs, replayed on the definitions: what queues, records and words hold after the steps is what the runs
-- print. Locks, threads and turnstiles are numbered in the order of their declaration, and a turnstile has the number
-- of its thread.
use Rattle.run_laws.proofs.Names
use Names.{ℕ, zero, suc, true, false, List, [], length, Some, None, refl, sum_below, least, word_of, bits_of, Config}
use Names.{State, NoWalk, AtThread, start_state, put, put_at, put_queue, Waiter, Mark, BySignal, lock_queue, chan_queue}
use Names.{stands, after_look, after_gain, after_drop, after_stamp, after_ready, after_enter, after_open, after_mark}
use Names.{after_resume, after_enter_sleep, after_open_sleep, after_add, after_wake, after_claim, after_lend}
use Names.{after_shift, after_end_walk, RecordOf, after_take, after_give, Step, Looks, TakesItem, GivesItem, Gains}
use Names.{Stamps, Readies, Enters, Opens, Marks, Resumes, Claims, Lends, Shifts, after_all, EntersSleepQueue}
use Names.{OpensSleepQueue, Adds, Wakes, Drops, Run, Kind, Mtx, Rw, Sx, Mode, Excl, Shared, Claim, OpenUp, Note, Did}
use Names.{Locked, Busy, Unlocked, Sleeps, WokeOne, WokeAll}
use Rattle.std.proofs.Common.{◌≡◌, ◌∷◌, ◌++◌}
use Rattle.lock_state.specs.Run as run
use Rattle.lock_model.specs.declared.turn.StepKind.TheVariants.{Wake}

unfoldable pub at : {A : Type 0} → List A → A → ℕ → A
at [] d n = d
at (x ∷ xs) d zero = x
at (x ∷ xs) d (suc n) = at xs d n

-- a plan of locks of one kind, and the base priorities of its threads
unfoldable pub plan : Kind → ℕ → List ℕ → Config
plan kind locks bases = record {
  threads = length bases;
  locks = locks;
  chans = 0;
  kind = λ l. kind;
  class = λ l. l;
  chan_lock = λ d. 0;
  declared_base = at bases 0;
}

-- a thread takes a lock
unfoldable pub takes : ℕ → ℕ → Mode → List Step
takes t l mode = Gains t l mode false ∷ Stamps t (Locked (record { 0 = l }) mode) ∷ []

-- a thread stands on a lock's turnstile with its own turnstile x
unfoldable pub blocks : ℕ → ℕ → Mode → ℕ → List Step
blocks t l mode x =
    TakesItem t (RecordOf t) ∷ Readies t (lock_queue l) ∷ Enters t l mode x ∷ GivesItem t (RecordOf t) ∷ []

-- a thread releases a lock, and a side is woken
unfoldable pub opens : ℕ → ℕ → Mode → List Step
opens t l mode = Stamps t (Unlocked (record { 0 = l }) mode) ∷ Opens t l mode ∷ []

unfoldable pub mark : ℕ → ℕ → ℕ → Mark
mark u x l = record { thread = u; object = x; queue = lock_queue l; cause = BySignal }

-- the waiter t with the kept priority p
abbrev waits : ℕ → ℕ → Waiter
waits t p = record { thread = t; kept = p }

-- 1. Lending and handing back: p of priority 100 owns the lock, and q of priority 50 waits

unfoldable pub lending : Config
lending = plan Mtx 1 (100 ∷ 50 ∷ [])

unfoldable pub lent : List Step
lent = takes 0 0 Excl ++ blocks 1 0 Excl 1 ++ Lends 1 0 0 1 ∷ []

unfoldable pub handed_back : List Step
handed_back = lent ++ opens 0 0 Excl ++ Marks 0 (mark 1 1 0) [] ∷ Resumes 1 (lock_queue 0) BySignal ∷ takes 1 0 Excl

-- q is the head and stands alone; p has its priority, and the walk has ended
lent_is : (s : State) → s ≡ after_all lending (start_state lending) lent → (s.head (lock_queue 0) ≡ Some 1)
    × (s.free_list (lock_queue 0) ≡ []) × (s.lists (lock_queue 0) ≡ record { exclusive = waits 1 50 ∷ []; shared = [] })
    × (s.effective 0 ≡ 50) × (s.loan 0 0 ≡ Some (record { number = 1; prio = 50 })) × (s.walk 1 ≡ NoWalk)
unfolding lending lent start_state after_look after_gain after_stamp after_drop after_take after_give after_ready
    after_enter after_open after_mark after_resume after_claim after_lend after_shift after_end_walk put put_at
    put_queue least sum_below at plan takes blocks opens mark
lent_is s e = rw e (refl, refl, refl, refl, refl, refl)

-- q has its turnstile back and the lock, and p its own priority
handed_back_is : (s : State) → s ≡ after_all lending (start_state lending) handed_back → (s.head (lock_queue 0) ≡ None)
    × (s.effective 0 ≡ 100) × (s.turnstile 1 ≡ Some 1) × (bits_of (s.word 0) ≡ 12) × (s.loan_home 1 ≡ true)
unfolding lending lent handed_back start_state after_look after_gain after_stamp after_drop after_take after_give
    after_ready after_enter after_open after_mark after_resume after_claim after_lend after_shift after_end_walk put
    put_at put_queue least sum_below at plan takes blocks opens mark
handed_back_is s e = rw e (refl, refl, refl, refl, refl)

-- 2. Ties and the free list: o of 200 owns; a of 100, b of 50 and c of 50 come in this order

ties : Config
ties = plan Mtx 1 (200 ∷ 100 ∷ 50 ∷ 50 ∷ [])

tied : List Step
tied = takes 0 0 Excl ++ blocks 1 0 Excl 1 ++ Lends 1 0 0 1 ∷ blocks 2 0 Excl 2 ++ Lends 2 0 0 1 ∷ blocks 3 0 Excl 3
    ++ Lends 3 0 0 1 ∷ []

-- equals stand in order of arrival, and the free list gives out what was put last
tied_is : (s : State) → s ≡ after_all ties (start_state ties) tied
    → (s.head (lock_queue 0) ≡ Some 1) × (s.free_list (lock_queue 0) ≡ 3 ∷ 2 ∷ [])
    × (s.lists (lock_queue 0) ≡ record { exclusive = waits 2 50 ∷ waits 3 50 ∷ waits 1 100 ∷ []; shared = [] })
    × (s.effective 0 ≡ 50)
unfolding ties tied start_state after_look after_gain after_stamp after_drop after_take after_give after_ready
    after_enter after_open after_mark after_resume after_claim after_lend after_shift after_end_walk put put_at
    put_queue least sum_below at plan takes blocks opens mark
tied_is s e = rw e (refl, refl, refl, refl)

-- at the open b takes turnstile c, c takes turnstile b, and a takes the head
dealt_is : (s : State) → s ≡ after_all ties (start_state ties) (tied ++ opens 0 0 Excl)
    → (s.marked 0 ≡ mark 2 3 0 ∷ mark 3 2 0 ∷ mark 1 1 0 ∷ []) × (s.effective 0 ≡ 200) × (bits_of (s.word 0) ≡ 0)
unfolding ties tied start_state after_look after_gain after_stamp after_drop after_take after_give after_ready
    after_enter after_open after_mark after_resume after_claim after_lend after_shift after_end_walk put put_at
    put_queue least sum_below at plan takes blocks opens mark
dealt_is s e = rw e (refl, refl, refl)

-- 3. A chain of owners: t1 of 200 owns a, t2 of 150 owns b and waits for a, t3 of 50 waits for b

owners : Config
owners = plan Mtx 2 (200 ∷ 150 ∷ 50 ∷ [])

first_hop : List Step
first_hop =
    takes 0 0 Excl ++ takes 1 1 Excl ++ blocks 1 0 Excl 1 ++ Lends 1 0 0 1 ∷ blocks 2 1 Excl 2 ++ Lends 2 1 1 2 ∷ []

-- t3's walk stands at t2, and t1 has t2's own priority yet
first_hop_is : (s : State) → s ≡ after_all owners (start_state owners) first_hop
    → (s.walk 2 ≡ AtThread 1) × (s.effective 1 ≡ 50) × (s.effective 0 ≡ 150)
unfolding owners first_hop start_state after_look after_gain after_stamp after_drop after_take after_give after_ready
    after_enter after_open after_mark after_resume after_claim after_lend after_shift after_end_walk put put_at
    put_queue least sum_below at plan takes blocks opens mark
first_hop_is s e = rw e (refl, refl, refl)

-- after the shift it stands at a, and after the next hop t1 has t3's priority
last_hop_is : (s : State) → s ≡ after_all owners (start_state owners) (first_hop ++ Shifts 2 1 0 ∷ Lends 2 0 0 1 ∷ [])
    → (s.walk 2 ≡ NoWalk) × (s.effective 0 ≡ 50)
    × (s.lists (lock_queue 0) ≡ record { exclusive = waits 1 50 ∷ []; shared = [] })
unfolding owners first_hop start_state after_look after_gain after_stamp after_drop after_take after_give after_ready
    after_enter after_open after_mark after_resume after_claim after_lend after_shift after_end_walk put put_at
    put_queue least sum_below at plan takes blocks opens mark
last_hop_is s e = rw e (refl, refl, refl)

-- Where t1 releases a before the second hop, t2 is marked and stands on no queue, so t3's walk ends there
owner_gone_is : (s : State) → s ≡ after_all owners (start_state owners) (first_hop ++ opens 0 0 Excl)
    → (s.walk 2 ≡ AtThread 1) × (s.blocked_on 1 ≡ Some (lock_queue 0)) × (s.marked 0 ≡ mark 1 1 0 ∷ [])
    × (stands 1 (s.lists (lock_queue 0)) ≡ 0) × (s.effective 0 ≡ 200)
unfolding owners first_hop start_state after_look after_gain after_stamp after_drop after_take after_give after_ready
    after_enter after_open after_mark after_resume after_claim after_lend after_shift after_end_walk put put_at
    put_queue least sum_below at plan takes blocks opens mark
owner_gone_is s e = rw e (refl, refl, refl, refl, refl)

-- 4. Two loans: o of 200 owns a and b; p of 60 waits for a, q of 40 for b

loans : Config
loans = plan Mtx 2 (200 ∷ 60 ∷ 40 ∷ [])

two_loans : List Step
two_loans =
    takes 0 0 Excl ++ takes 0 1 Excl ++ blocks 1 0 Excl 1 ++ Lends 1 0 0 1 ∷ blocks 2 1 Excl 2 ++ Lends 2 1 0 2 ∷ []

two_loans_are : (s : State) → s ≡ after_all loans (start_state loans) two_loans → s.effective 0 ≡ 40
unfolding loans two_loans start_state after_look after_gain after_stamp after_drop after_take after_give after_ready
    after_enter after_open after_mark after_resume after_claim after_lend after_shift after_end_walk put put_at
    put_queue least sum_below at plan takes blocks opens mark
two_loans_are s e = rw e refl

one_loan_is : (s : State) → s ≡ after_all loans (start_state loans) (two_loans ++ opens 0 1 Excl) → s.effective 0 ≡ 60
unfolding loans two_loans start_state after_look after_gain after_stamp after_drop after_take after_give after_ready
    after_enter after_open after_mark after_resume after_claim after_lend after_shift after_end_walk put put_at
    put_queue least sum_below at plan takes blocks opens mark
one_loan_is s e = rw e refl

no_loan_is : (s : State) → s ≡ after_all loans (start_state loans)
    (two_loans ++ opens 0 1 Excl ++ Marks 0 (mark 2 2 1) [] ∷ opens 0 0 Excl) → s.effective 0 ≡ 200
unfolding loans two_loans start_state after_look after_gain after_stamp after_drop after_take after_give after_ready
    after_enter after_open after_mark after_resume after_claim after_lend after_shift after_end_walk put put_at
    put_queue least sum_below at plan takes blocks opens mark
no_loan_is s e = rw e refl

-- 5. A release wakes the writer v of 70; the readers r1 of 90 and r2 of 80 stay. w of 100 owned the lock, and n comes

readers : ℕ → Config
readers n = plan Rw 1 (100 ∷ 90 ∷ 80 ∷ 70 ∷ n ∷ [])

woken_writer : List Step
woken_writer = takes 0 0 Excl ++ blocks 1 0 Shared 1 ++ Lends 1 0 0 1 ∷ blocks 2 0 Shared 2 ++ Lends 2 0 0 1
    ∷ blocks 3 0 Excl 3 ++ Lends 3 0 0 1 ∷ opens 0 0 Excl

-- a reader gains before the woken writer
gained_is : (s : State) → s ≡ after_all (readers 60) (start_state (readers 60)) (woken_writer ++ takes 4 0 Shared)
    → (s.head (lock_queue 0) ≡ Some 1) × (s.free_list (lock_queue 0) ≡ 2 ∷ [])
    × (s.lists (lock_queue 0) ≡ record { exclusive = []; shared = waits 2 80 ∷ waits 1 90 ∷ [] })
    × (s.marked 0 ≡ mark 3 3 0 ∷ []) × (bits_of (s.word 0) ≡ 10)
unfolding readers woken_writer start_state after_look after_gain after_stamp after_drop after_take after_give
    after_ready after_enter after_open after_mark after_resume after_claim after_lend after_shift after_end_walk put
    put_at put_queue least sum_below at plan takes blocks opens mark
gained_is s e = rw e (refl, refl, refl, refl, refl)

-- a writer claims before it: the owner, the loan and the word
claimed_is : (s : State)
    → s ≡ after_all (readers 95) (start_state (readers 95)) (woken_writer ++ Claims 4 0 1 false ∷ [])
    → (s.owner (lock_queue 0) ≡ Some 4) × (s.effective 4 ≡ 80) × (s.base 4 ≡ 95) × (bits_of (s.word 0) ≡ 38)
unfolding readers woken_writer start_state after_look after_gain after_stamp after_drop after_take after_give
    after_ready after_enter after_open after_mark after_resume after_claim after_lend after_shift after_end_walk put
    put_at put_queue least sum_below at plan takes blocks opens mark
claimed_is s e = rw e (refl, refl, refl, refl)

-- so its turn is a claim
makes_claim : (r : Run) → r.state ≡ after_all (readers 95) (start_state (readers 95)) woken_writer
    → run.gains (readers 95) r 4 (record { 0 = 0 }) Excl false (Locked (record { 0 = 0 }) Excl)
    ≡ run.ends r 4 Claim (Claims 4 0 1 false ∷ Stamps 4 (Locked (record { 0 = 0 }) Excl) ∷ [])
unfolding readers woken_writer start_state after_look after_gain after_stamp after_drop after_take after_give
    after_ready after_enter after_open after_mark after_resume after_claim after_lend after_shift after_end_walk put
    put_at put_queue least sum_below at plan takes blocks opens mark
makes_claim r e = rw e refl

-- 6. A reader behind a waiting writer: r of 100 reads, w of 90 waits to write, n of 80 tries to read and then waits to

behind : Config
behind = plan Rw 1 (100 ∷ 90 ∷ 80 ∷ [])

tried : List Step
tried = takes 0 0 Shared ++ blocks 1 0 Excl 1 ++ Looks 2 0 false ∷ Stamps 2 (Busy (record { 0 = 0 }) 9)
    ∷ blocks 2 0 Shared 2

-- the try saw the word that stands in its entry
tried_is : (s : State)
    → s ≡ after_all behind (start_state behind) (takes 0 0 Shared ++ blocks 1 0 Excl 1 ++ Looks 2 0 false ∷ [])
    → (s.last_look 2 ≡ Some (record { lock = 0; word = word_of 9 })) × (bits_of (s.word 0) ≡ 9)
unfolding behind start_state after_look after_gain after_stamp after_drop after_take after_give after_ready after_enter
    after_open after_mark after_resume after_claim after_lend after_shift after_end_walk put put_at put_queue least
    sum_below at plan takes blocks opens mark
tried_is s e = rw e (refl, refl)

-- its turn finds the lock busy, and it goes on behind its block
finds_busy_is : (r : Run) (past : ℕ)
    → r.state ≡ after_all behind (start_state behind) (takes 0 0 Shared ++ blocks 1 0 Excl 1)
    → run.tries behind r 2 (record { 0 = 0 }) Shared past ≡ record {
      answer = Did Note;
      steps = Looks 2 0 false ∷ Stamps 2 (Busy (record { 0 = 0 }) 9) ∷ [];
      next = Some past;
    }
unfolding behind start_state after_look after_gain after_stamp after_drop after_take after_give after_ready after_enter
    after_open after_mark after_resume after_claim after_lend after_shift after_end_walk put put_at put_queue least
    sum_below at plan takes blocks opens mark
finds_busy_is r past e = rw e refl

-- at the end w has turnstile n, and n has turnstile w
exchanged_is : (s : State) → s ≡ after_all behind (start_state behind)
    (tried ++ opens 0 0 Shared ++ Marks 0 (mark 1 2 0) [] ∷ Resumes 1 (lock_queue 0) BySignal ∷ Claims 1 0 1 false
    ∷ Stamps 1 (Locked (record { 0 = 0 }) Excl) ∷ opens 1 0 Excl ++ Marks 1 (mark 2 1 0) [] ∷ [])
    → (s.turnstile 1 ≡ Some 2) × (s.turnstile 2 ≡ Some 1) × (s.head (lock_queue 0) ≡ None) × (s.effective 1 ≡ 90)
unfolding behind tried start_state after_look after_gain after_stamp after_drop after_take after_give after_ready
    after_enter after_open after_mark after_resume after_claim after_lend after_shift after_end_walk put put_at
    put_queue least sum_below at plan takes blocks opens mark
exchanged_is s e = rw e (refl, refl, refl, refl)

-- 7. Releases of an sx lock: o owns, x of 50 waits to own, y of 60 to share

exclusive : Config
exclusive = plan Sx 1 (100 ∷ 50 ∷ 60 ∷ [])

sleeps : ℕ → ℕ → Mode → ℕ → List Step
sleeps t l mode x =
    TakesItem t (RecordOf t) ∷ Readies t (lock_queue l) ∷ EntersSleepQueue t l mode x ∷ GivesItem t (RecordOf t) ∷ []

opens_sleep : ℕ → Mode → List Step
opens_sleep t mode = Stamps t (Unlocked (record { 0 = 0 }) mode) ∷ OpensSleepQueue t 0 mode ∷ []

both_wait : List Step
both_wait = takes 0 0 Excl ++ sleeps 1 0 Excl 1 ++ sleeps 2 0 Shared 2

-- an exclusive release wakes the shared waiter first, and the head stays with x
shared_first_is : (s : State) → s ≡ after_all exclusive (start_state exclusive) (both_wait ++ opens_sleep 0 Excl)
    → (s.head (lock_queue 0) ≡ Some 1) × (s.free_list (lock_queue 0) ≡ [])
    × (s.lists (lock_queue 0) ≡ record { exclusive = waits 1 50 ∷ []; shared = [] }) × (s.marked 0 ≡ mark 2 2 0 ∷ [])
    × (s.effective 0 ≡ 100)
unfolding exclusive sleeps opens_sleep both_wait start_state after_look after_gain after_stamp after_drop after_take
    after_give after_ready after_enter after_open after_mark after_resume after_claim after_lend after_shift
    after_end_walk after_enter_sleep after_open_sleep after_add after_wake put put_at put_queue least sum_below at plan
    takes blocks opens mark
shared_first_is s e = rw e (refl, refl, refl, refl, refl)

-- the last shared release wakes the exclusive one
exclusive_next_is : (s : State) → s ≡ after_all exclusive (start_state exclusive) (both_wait ++ opens_sleep 0 Excl
    ++ Marks 0 (mark 2 2 0) [] ∷ Resumes 2 (lock_queue 0) BySignal ∷ takes 2 0 Shared ++ opens_sleep 2 Shared)
    → (s.head (lock_queue 0) ≡ None) × (s.marked 2 ≡ mark 1 1 0 ∷ []) × (bits_of (s.word 0) ≡ 0)
unfolding exclusive sleeps opens_sleep both_wait start_state after_look after_gain after_stamp after_drop after_take
    after_give after_ready after_enter after_open after_mark after_resume after_claim after_lend after_shift
    after_end_walk after_enter_sleep after_open_sleep after_add after_wake put put_at put_queue least sum_below at plan
    takes blocks opens mark
exclusive_next_is s e = rw e (refl, refl, refl)

-- so the owner's turn opens the sleep queue
opens_sleep_queue : (r : Run) → r.state ≡ after_all exclusive (start_state exclusive) both_wait
    → run.releases exclusive r 0 (record { 0 = 0 }) Excl ≡ run.ends r 0 OpenUp (opens_sleep 0 Excl)
unfolding exclusive sleeps opens_sleep both_wait start_state after_look after_gain after_stamp after_drop after_take
    after_give after_ready after_enter after_open after_mark after_resume after_claim after_lend after_shift
    after_end_walk after_enter_sleep after_open_sleep after_add after_wake put put_at put_queue least sum_below at plan
    takes blocks opens mark
opens_sleep_queue r e = rw e refl

-- 8. Signals: a and b of 100 sleep on a condition variable, and a came first

signals : Config
signals = record (plan Mtx 1 (100 ∷ 100 ∷ 50 ∷ [])) { chans = 1 }

goes_to_sleep : ℕ → List Step
goes_to_sleep t = takes t 0 Excl ++ TakesItem t (RecordOf t) ∷ Readies t (chan_queue 0)
    ∷ Stamps t (Sleeps (record { 0 = 0 })) ∷ Adds t 0 t ∷ GivesItem t (RecordOf t) ∷ Drops t 0 Excl ∷ []

-- of equals the one that has slept longest is signalled; it takes the free object, and the head stays with b
signalled_is : (s : State) → s ≡ after_all signals (start_state signals)
    (goes_to_sleep 0 ++ goes_to_sleep 1 ++ Wakes 2 0 false ∷ Stamps 2 (WokeOne (record { 0 = 0 }) 1) ∷ [])
    → (s.marked 2 ≡ record { thread = 0; object = 1; queue = chan_queue 0; cause = BySignal } ∷ [])
    × (s.head (chan_queue 0) ≡ Some 0) × (s.lists (chan_queue 0) ≡ record { exclusive = waits 1 100 ∷ []; shared = [] })
    × (s.unstamped 2 ≡ None)
unfolding signals goes_to_sleep start_state after_look after_gain after_stamp after_drop after_take after_give
    after_ready after_enter after_open after_mark after_resume after_claim after_lend after_shift after_end_walk
    after_enter_sleep after_open_sleep after_add after_wake put put_at put_queue least sum_below at plan takes blocks
    opens mark
signalled_is s e = rw e (refl, refl, refl, refl)

-- so a signal names a, and a wake of all names both
names_longest : (r : Run) → r.state ≡ after_all signals (start_state signals) (goes_to_sleep 0 ++ goes_to_sleep 1)
    → (run.wakes r 2 (record { 0 = 0 }) false (WokeOne (record { 0 = 0 }))
    ≡ run.ends r 2 Wake (Wakes 2 0 false ∷ Stamps 2 (WokeOne (record { 0 = 0 }) 1) ∷ []))
    × (run.wakes r 2 (record { 0 = 0 }) true (WokeAll (record { 0 = 0 }))
    ≡ run.ends r 2 Wake (Wakes 2 0 true ∷ Stamps 2 (WokeAll (record { 0 = 0 }) 3) ∷ []))
unfolding signals goes_to_sleep start_state after_look after_gain after_stamp after_drop after_take after_give
    after_ready after_enter after_open after_mark after_resume after_claim after_lend after_shift after_end_walk
    after_enter_sleep after_open_sleep after_add after_wake put put_at put_queue least sum_below at plan takes blocks
    opens mark
names_longest r e = rw e (refl, refl)

-- 9. A sleeper with a loan: o of 100 owns a mutex, for which w of 50 waits; v owns an sx lock, on which o sleeps, and
--    then n of 60

mixed : Config
mixed = record (plan Mtx 2 (100 ∷ 50 ∷ 90 ∷ 60 ∷ [])) { kind = at (Mtx ∷ Sx ∷ []) Sx }

sleeps_with_loan : List Step
sleeps_with_loan =
    takes 0 0 Excl ++ takes 2 1 Excl ++ blocks 1 0 Excl 1 ++ Lends 1 0 0 1 ∷ sleeps 0 1 Excl 0 ++ sleeps 3 1 Excl 3

-- each is kept by its base priority, in the order in which they came
sleeps_by_base_is : (s : State) → s ≡ after_all mixed (start_state mixed) sleeps_with_loan
    → (s.effective 0 ≡ 50)
    × (s.lists (lock_queue 1) ≡ record { exclusive = waits 0 100 ∷ waits 3 60 ∷ []; shared = [] })
unfolding mixed sleeps_with_loan sleeps start_state after_look after_gain after_stamp after_drop after_take after_give
    after_ready after_enter after_open after_mark after_resume after_claim after_lend after_shift after_end_walk
    after_enter_sleep after_open_sleep after_add after_wake put put_at put_queue least sum_below at plan takes blocks
    opens mark
sleeps_by_base_is s e = rw e (refl, refl)

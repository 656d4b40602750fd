-- The guards of a running floor can be met: p takes a free mutex by its first exchange, and q, whose first exchange
-- misses, seeks it, looks, takes its chain and enters. And they refuse exchanges outside a round that are no first
-- ones, but for the second one of a call of an rw lock.
use Rattle.lock_laws.proofs.Names
use Names.{ℕ, Bool, true, false, List, [], arith, sum_below, least, Config, sections_in, lock_queue, Mtx, Rw, Shared}
use Names.{Excl, Locked, State, start_state, put, put_at, put_queue, after_seek, after_look, after_gain, after_stamp}
use Names.{after_ready, after_enter, TurnstileChain, RecordOf, after_take, after_give, Step, Seeks, Looks, TakesItem}
use Names.{GivesItem, Gains, Stamps, Readies, Enters, after_all, EachStep, FitsFloor}
use Rattle.std.proofs.Common.{◌∷◌, ◌++◌}

-- each step of a list may be made on a floor of so many chains, where it comes
abbrev pub FloorAll : ℕ → Config → State → List Step → Type 0
FloorAll chains c s steps = EachStep (FitsFloor chains c) c s steps

-- two threads, a mutex and a channel with it
unfoldable pub floor_plan : Config
floor_plan = record {
  threads = 2;
  locks = 1;
  chans = 1;
  kind = λ l. Mtx;
  class = λ l. l;
  chan_lock = λ d. 0;
  declared_base = λ t. 100;
}

-- p gains the free mutex by its first exchange, and notes that
unfoldable pub taking : List Step
taking = Seeks 0 0 false ∷ Gains 0 0 Excl false ∷ Stamps 0 (Locked (record { 0 = 0 }) Excl) ∷ []

-- q's first exchange misses, and it blocks on the mutex
unfoldable entering : List Step
entering =
    Looks 1 0 true ∷ Seeks 1 0 false ∷ Looks 1 0 true ∷ TakesItem 1 (TurnstileChain 0) ∷ TakesItem 1 (RecordOf 1) ∷
    Looks 1 0 false
    ∷ Readies 1 (lock_queue 0) ∷ Enters 1 0 Excl 1 ∷ GivesItem 1 (RecordOf 1) ∷ GivesItem 1 (TurnstileChain 0) ∷ []

entering_may : FloorAll 16 floor_plan (start_state floor_plan) (taking ++ entering)
unfolding floor_plan taking entering start_state after_seek after_look after_gain after_stamp after_take after_give
    after_ready after_enter put put_at put_queue least sum_below sections_in
entering_may = grind arith

-- A blocking call doesn't gain outside a round,
blocking_gain_refused : FitsFloor 16 floor_plan (start_state floor_plan) (Gains 0 0 Excl false) → ⊥
unfolding floor_plan start_state
blocking_gain_refused f = grind arith

-- nor does a call make a second exchange there: q's first one missed,
unfoldable missing : List Step
missing = taking ++ Looks 1 0 true ∷ []

second_exchange_refused : (counts : Bool)
    → FitsFloor 16 floor_plan (after_all floor_plan (start_state floor_plan) missing) (Looks 1 0 counts) → ⊥
unfolding floor_plan taking missing start_state after_seek after_look after_gain after_stamp put put_at put_queue least
    sum_below sections_in
second_exchange_refused counts f = grind arith

-- and who holds a lock doesn't go on behind one: p holds the mutex 1 and missed the mutex 0
unfoldable two_mutexes : Config
two_mutexes = record floor_plan { locks = 2 }

unfoldable missing_with : List Step
missing_with =
    Seeks 0 1 false ∷ Gains 0 1 Excl false ∷ Stamps 0 (Locked (record { 0 = 1 }) Excl) ∷ Looks 0 0 true ∷ []

call_with_lock_refused : FitsFloor 16 two_mutexes (after_all two_mutexes (start_state two_mutexes) missing_with)
    (Seeks 0 0 false) → ⊥
unfolding floor_plan two_mutexes missing_with start_state after_seek after_look after_gain after_stamp put put_at
    put_queue least sum_below sections_in
call_with_lock_refused f = grind arith

-- But of an rw lock a second one may be made: p reads the first of two, q's first exchange missed, and so does the
-- second, from the word that it found.
unfoldable two_rw_locks : Config
two_rw_locks = record two_mutexes { kind = λ l. Rw }

unfoldable reading : List Step
reading = Seeks 0 0 false ∷ Gains 0 0 Shared false ∷ Stamps 0 (Locked (record { 0 = 0 }) Shared) ∷ []

unfoldable missing_twice : List Step
missing_twice = Looks 1 0 true ∷ Looks 1 0 true ∷ []

second_exchange_may : FloorAll 16 two_rw_locks (after_all two_rw_locks (start_state two_rw_locks) reading) missing_twice
unfolding floor_plan two_mutexes two_rw_locks reading missing_twice start_state after_seek after_look after_gain
    after_stamp put put_at put_queue least sum_below sections_in
second_exchange_may = grind arith

-- no third one,
third_exchange_refused : (counts : Bool) → FitsFloor 16 two_rw_locks
    (after_all two_rw_locks (start_state two_rw_locks) (reading ++ missing_twice)) (Looks 1 0 counts) → ⊥
unfolding floor_plan two_mutexes two_rw_locks reading missing_twice start_state after_seek after_look after_gain
    after_stamp put put_at put_queue least sum_below sections_in
third_exchange_refused counts f = grind arith

-- none at another lock than the first,
unfoldable missing_once : List Step
missing_once = Looks 1 0 true ∷ []

other_exchange_refused : (counts : Bool) → FitsFloor 16 two_rw_locks
    (after_all two_rw_locks (start_state two_rw_locks) (reading ++ missing_once)) (Looks 1 1 counts) → ⊥
unfolding floor_plan two_mutexes two_rw_locks reading missing_once start_state after_seek after_look after_gain
    after_stamp put put_at put_queue least sum_below sections_in
other_exchange_refused counts f = grind arith

-- and none of a thread that holds a lock: p holds the lock 1 and missed the lock 0
second_with_lock_refused : (counts : Bool) → FitsFloor 16 two_rw_locks
    (after_all two_rw_locks (start_state two_rw_locks) missing_with) (Looks 0 0 counts) → ⊥
unfolding floor_plan two_mutexes two_rw_locks missing_with start_state after_seek after_look after_gain after_stamp put
    put_at put_queue least sum_below sections_in
second_with_lock_refused counts f = grind arith

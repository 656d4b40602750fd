-- The guards of sleeps can be met: p takes a mutex and sleeps on a channel with it, q wakes it, and p takes the mutex
-- back. And they refuse a sleeper with a closed section, a gain before the add, and a look at another lock in a round
-- or in a release's section.
use Rattle.sleep_laws.proofs.Names
use Names.{ℕ, Bool, true, false, List, [], refl, inl, inr, arith, Config, sum_below, least, NotHeld, Holds, sections_in}
use Names.{BySignal, Mark, chan_queue, Excl, Locked, Unlocked, Sleeps, Woke, WokeOne, start_state, put, put_at}
use Names.{put_queue, after_seek, after_look, after_gain, after_drop, after_stamp, after_ready, after_mark}
use Names.{after_resume, after_add, after_wake, TurnstileChain, SleepChain, RecordOf, after_take, after_give, Step}
use Names.{FitsFloor, Seeks, Looks, TakesItem, GivesItem, Gains, Drops, Stamps, Readies, Adds, Wakes, Marks, Resumes}
use Names.{after_all, FloorAll, floor_plan, taking}
use Rattle.std.proofs.Common.{◌≡◌, ◌∷◌, ◌++◌}

unfoldable pub sleeping : List Step
sleeping =
    TakesItem 0 (SleepChain 0) ∷ TakesItem 0 (RecordOf 0) ∷ Readies 0 (chan_queue 0) ∷ Stamps 0
    (Sleeps (record { 0 = 0 })) ∷ Adds 0 0 0
    ∷ GivesItem 0 (RecordOf 0) ∷ GivesItem 0 (SleepChain 0) ∷ Drops 0 0 Excl ∷ []

abbrev p_marked : Mark
p_marked = record { thread = 0; object = 0; queue = chan_queue 0; cause = BySignal }

unfoldable waking : List Step
waking =
    TakesItem 1 (SleepChain 0) ∷ Wakes 1 0 false ∷ Stamps 1 (WokeOne (record { 0 = 0 }) 1) ∷ GivesItem 1 (SleepChain 0)
    ∷ TakesItem 1 (RecordOf 0) ∷ Marks 1 p_marked [] ∷ GivesItem 1 (RecordOf 0)
    ∷ Resumes 0 (chan_queue 0) BySignal ∷ Looks 0 0 true ∷ Gains 0 0 Excl false ∷ Stamps 0 (Woke (record { 0 = 0 })) ∷
    []

sleeping_may : FloorAll 16 floor_plan (start_state floor_plan) (taking ++ sleeping)
unfolding floor_plan taking sleeping start_state after_seek after_look after_gain after_drop after_stamp after_take
    after_give after_ready after_add put put_at put_queue least sum_below sections_in
sleeping_may = grind arith

waking_may : FloorAll 16 floor_plan (after_all floor_plan (start_state floor_plan) (taking ++ sleeping)) waking
unfolding floor_plan taking sleeping waking start_state after_seek after_look after_gain after_drop after_stamp
    after_take after_give after_ready after_add after_wake after_mark after_resume put put_at put_queue least sum_below
    sections_in
waking_may = grind arith

-- Guards refuse what no procedure makes. The plan has two mutexes, m and s, and a channel with s.
unfoldable two_locks : Config
two_locks = record floor_plan { locks = 2; chan_lock = λ d. 1 }

-- p gains s, notes that, and is made ready to sleep with it
unfoldable going : List Step
going =
    Seeks 0 1 false ∷ Gains 0 1 Excl false ∷ Stamps 0 (Locked (record { 0 = 1 }) Excl) ∷ TakesItem 0 (SleepChain 0) ∷
    TakesItem 0
    (RecordOf 0) ∷ Readies 0 (chan_queue 0) ∷ []

-- 1. A sleeper with a closed section: p gains m, notes that, does the same with s, notes the release of m and keeps m's
-- word
unfoldable closing : List Step
closing =
    Seeks 0 0 false ∷ Gains 0 0 Excl false ∷ Stamps 0 (Locked (record { 0 = 0 }) Excl) ∷ Seeks 0 1 false ∷
    Gains 0 1 Excl false ∷ Stamps 0 (Locked (record { 0 = 1 }) Excl)
    ∷ Stamps 0 (Unlocked (record { 0 = 0 }) Excl) ∷ TakesItem 0 (SleepChain 0) ∷ TakesItem 0 (RecordOf 0) ∷ Readies 0
    (chan_queue 0) ∷ []

-- each step of this may be made,
closing_may : FloorAll 16 two_locks (start_state two_locks) closing
unfolding floor_plan two_locks closing start_state after_seek after_gain after_stamp after_take after_ready put put_at
    put_queue
    least sum_below sections_in
closing_may = grind arith

-- but then p can't go to sleep
closed_sleeper_refused : FitsFloor 16 two_locks (after_all two_locks (start_state two_locks) closing)
    (Stamps 0 (Sleeps (record { 0 = 0 }))) → ⊥
unfolding floor_plan two_locks closing start_state after_seek after_gain after_stamp after_take after_ready put put_at
    put_queue
    least sum_below sections_in
closed_sleeper_refused f = let x : NotHeld ≡ Holds Excl = f.may.asks.sections 0 Excl refl (λ e. cc) in cc

-- 2. A gain between a Sleeps entry and its add: p goes to sleep with s, and can't gain m before it stands on the
-- channel
gain_before_add_refused : FitsFloor 16 two_locks
    (after_all two_locks (start_state two_locks) (going ++ Stamps 0 (Sleeps (record { 0 = 0 })) ∷ []))
    (Gains 0 0 Excl false) → ⊥
unfolding floor_plan two_locks going start_state after_seek after_gain after_stamp after_take after_ready put put_at
    put_queue
    least sum_below sections_in
gain_before_add_refused f = grind arith

-- 3. A look at another lock in a round: p seeks m, and can't look at s
other_look_refused : (counts : Bool)
    → FitsFloor 16 two_locks (after_all two_locks (start_state two_locks) (Seeks 0 0 false ∷ [])) (Looks 0 1 counts)
    → ⊥
unfolding floor_plan two_locks start_state after_seek put
other_look_refused counts f = grind arith

-- 4. A look at another lock in a release's section: p gains m, notes that and the release, takes m's chain, and can't
-- look at s, also where s has the same chain
unfoldable releasing : List Step
releasing =
    Seeks 0 0 false ∷ Gains 0 0 Excl false ∷ Stamps 0 (Locked (record { 0 = 0 }) Excl) ∷ Stamps 0
    (Unlocked (record { 0 = 0 }) Excl) ∷
    TakesItem 0 (TurnstileChain 0) ∷ []

other_look_in_release_refused : (chains : ℕ) (counts : Bool)
    → FitsFloor chains two_locks (after_all two_locks (start_state two_locks) releasing) (Looks 0 1 counts) → ⊥
unfolding floor_plan two_locks releasing start_state after_seek after_gain after_stamp after_take put put_at put_queue
    least
    sum_below sections_in
other_look_in_release_refused chains counts f = elim (f.has_seen.outside (TurnstileChain 0) refl refl refl) [
  | inl unheld ↦ unheld refl
  | inr e ↦ cc
]

-- Each step of a running floor that keeps the count keeps the facts of counting.
use Rattle.std.proofs.Common.{◌≡◌, ◌⊎◌, ℕ, true, false, Bool, inl, inr, ap}
use Rattle.lock_model.specs.Config.{Config}
use Rattle.lock_state.specs.State.{State, Phase, is_parked}
use Rattle.lock_state.specs.Facts.{LawfulFloor, Counted}
use Rattle.lock_state.specs.Steps.{Step, Seeks, Looks, TakesItem, GivesItem, Gains, Drops, Stamps, Readies, Unreadies, Enters, Opens, EntersSleepQueue, OpensSleepQueue, Adds, Wakes, Marks, Resumes, Claims, Lends, Shifts, EndsWalk, Admits, Refuses, CountsOut, CountsIn, CountsSelfIn, CountsEnd, Halts, Aborts, IsRunnable, IsHalting, is_halting, FitsFloor, KeepsCount, after}
use Rattle.count_laws.proofs.Counted as counted
use Rattle.count_laws.proofs.Countings as counts
use Rattle.std.proofs.Common.{arith}

halting_unparked : (p : Phase) → is_halting p ≡ true → is_parked p ≡ false
halting_unparked p e = grind arith

-- a thread that is awake, or at halting others, isn't parked
unparked : (s : State) (t : ℕ) → IsRunnable s t ⊎ IsHalting s t → is_parked (s.phase t) ≡ false
unparked s t e = grind arith

taking_unparked : (s : State) (t : ℕ) (b : Bool) → IsRunnable s t ⊎ (IsHalting s t × (b ≡ true))
    → is_parked (s.phase t) ≡ false
taking_unparked s t b (inl a) = ap is_parked a.phase
taking_unparked s t b (inr e) = halting_unparked (s.phase t) e.0

pub keeps : (chains : ℕ) (c : Config) (s : State) (step : Step) → FitsFloor chains c s step → KeepsCount s step
    → LawfulFloor c s
    → Counted c s → Counted c (after c s step)
keeps chains c s (Seeks t l by_try) f k w h = counted.seek c s h t l by_try
keeps chains c s (Looks t l counts) f k w h = counted.look c s h t l counts
keeps chains c s (TakesItem t i) f k w h = counted.take c s t (taking_unparked s t _ f.asks_of_thread.runs) h i f.may
keeps chains c s (GivesItem t i) f k w h = counted.give c s t f.asks_of_thread.unparked h i f.may k
keeps chains c s (Gains t l mode by_try) f k w h = counted.gain c s t f.asks_of_thread.runs h l mode by_try
keeps chains c s (Drops t l mode) f k w h = counted.drop c s t f.asks_of_thread.runs h l
keeps chains c s (Stamps t e) f k w h = counted.stamp c s h t e
keeps chains c s (Readies t q) f k w h = counted.ready c s t f.asks_of_thread.runs h f.may
keeps chains c s (Unreadies t q) f k w h = counted.unready c s t f.asks_of_thread.runs h f.may
keeps chains c s (Enters t l mode x) f k w h = counted.enter c s t f.asks_of_thread.runs h l mode x
keeps chains c s (Opens t l mode) f k w h = counted.opens c s t f.asks_of_thread.runs h l mode f.may
keeps chains c s (EntersSleepQueue t l mode x) f k w h = counted.enter_sleep c s t f.asks_of_thread.runs h l mode x
keeps chains c s (OpensSleepQueue t l mode) f k w h = counted.open_sleep c s t f.asks_of_thread.runs h l mode f.may
keeps chains c s (Adds t d x) f k w h = counted.add c s t f.asks_of_thread h d x
keeps chains c s (Wakes t d all) f k w h = counted.wake c s t f.asks_of_thread.runs h d all f.may
keeps chains c s (Marks t m ms) f k w h =
    counted.mark c s t m ms f.may (unparked s t f.asks_of_thread.runs) k w.lawful h
keeps chains c s (Resumes t q cause) f k w h = counted.resume c s t q cause f.may k h
keeps chains c s (Claims t l x by_try) f k w h = counted.claim c s t f.asks_of_thread.runs h l x by_try
keeps chains c s (Lends t l o x) f k w h = counted.lend c s t f.asks_of_thread.runs h l o x
keeps chains c s (Shifts t o l) f k w h = counted.shift c s t f.asks_of_thread.runs h o l
keeps chains c s (EndsWalk t) f k w h = counted.end_walk c s t f.asks_of_thread.runs h
keeps chains c s (Admits t l) f k w h = counted.admit c s t f.asks_of_thread.runs h l
keeps chains c s (Refuses t l class) f k w h = counted.refuse c s h t l class
keeps chains c s (CountsOut t) f k w h = counts.out_counted c s t f.may f.has_out w h
keeps chains c s (CountsIn t u) f k w h = counts.in_counted c s t u f.may f.has_out w.lawful h
keeps chains c s (CountsSelfIn t) f k w h = counts.back_counted c s t f.may h
keeps chains c s (CountsEnd t) f k w h = counts.end_counted c s t f.may h
keeps chains c s (Halts t) f k w h = counts.halt_counted c s t f.may h
keeps chains c s (Aborts t q side u) f k w h = counted.abort c s t q side u f.may h

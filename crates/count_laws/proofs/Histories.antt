-- Worked histories, held against the law's part on the causes of halts: what it lets through and what it refuses. The
-- plan has two threads, a mutex, and two channels with it.
use Rattle.std.proofs.Common.{◌≡◌, ℕ, zero, suc, ◌<◌, ◌≤◌, true, List, [], ◌∷◌, refl, arith}
use Rattle.lock_model.specs.Config.{Config}
use Rattle.lock_model.specs.Counts.{any_below, has_bit}
use Rattle.lock_model.specs.Halts.{HaltsAreHonest, HaltsComeSince, is_honest_to, entries_below, entries_since}
use Rattle.lock_model.specs.History.{sections_in}
use Rattle.lock_model.specs.Law.{is_asleep, is_named}
use Rattle.lock_model.specs.declared.numbers.LockNo.{LockNo}
use Rattle.lock_model.specs.declared.numbers.ChanNo.{ChanNo}
use Rattle.lock_model.specs.declared.plan.Kind.TheVariants.{Mtx}
use Rattle.lock_model.specs.declared.plan.Mode.TheVariants.{Excl}
use Rattle.lock_model.specs.declared.event.Entry.{Entry}
use Rattle.lock_model.specs.declared.event.Event.{Event}
use Rattle.lock_model.specs.declared.event.Event.TheVariants.{Locked, Base, Sleeps, HaltedChan}

abbrev entry : ℕ → ℕ → Event → Entry
entry ticket t e = record { ticket = ticket; thread = record { 0 = t }; event = e }

abbrev mutex : LockNo
mutex = record { 0 = 0 }

abbrev chan : ChanNo
chan = record { 0 = 0 }

two : Config
two = record {
  threads = 2;
  locks = 1;
  chans = 1;
  kind = λ l. Mtx;
  class = λ l. l;
  chan_lock = λ d. 0;
  declared_base = λ t. 100;
}

-- p takes the mutex and sleeps with it
slept : List Entry
slept = entry 1 0 (Sleeps chan) ∷ entry 0 0 (Locked mutex Excl) ∷ []

-- a halt comes since the moment: not later than the first
since_halt : (c : Config) (p : ℕ) (es : List Entry) → HaltsComeSince c p (entry 2 0 (HaltedChan chan) ∷ es) → p ≤ 2
unfolding HaltsComeSince
since_halt c p es h = h.0 refl

-- 1. q has made no entry: p is halted, and the history is legal

lone_halt : HaltsAreHonest two (entry 2 0 (HaltedChan chan) ∷ slept)
unfolding HaltsComeSince entries_below entries_since is_named has_bit is_asleep any_below sections_in two slept
lone_halt = record {
  moment = 2;
  comes_first = (
    (λ e. omega arith),
    (λ t e. absurd cc),
    ((λ e. absurd cc), (λ t e. absurd cc), ((λ e. absurd cc), (λ t e. absurd cc), tt)),
  );
  honest = λ t lt. by_thread t lt;
}
  where
    by_thread : (t : ℕ) → t < 2 → is_honest_to two 2 (entry 2 0 (HaltedChan chan) ∷ slept) t ≡ true
    by_thread zero lt = refl
    by_thread (suc zero) lt = refl
    by_thread (suc (suc n)) lt = absurd (omega (arith, lt))

-- 2. q makes an entry of its own behind the halt: it was awake, so the halt was wrong

woken_halt : List Entry
woken_halt = entry 3 1 (Base (record { 0 = 5 })) ∷ entry 2 0 (HaltedChan chan) ∷ slept

refuses_awake : HaltsAreHonest two woken_halt → ⊥
unfolding HaltsComeSince entries_below entries_since is_named has_bit any_below sections_in two slept woken_halt
refuses_awake h = grind arith

-- 3. q takes the mutex behind the halt of p, which had left it: nobody had it, so q did not wait for it

free_halt : List Entry
free_halt = entry 3 1 (Locked mutex Excl) ∷ entry 2 0 (HaltedChan chan) ∷ slept

refuses_unheld : HaltsAreHonest two free_halt → ⊥
unfolding HaltsComeSince entries_below entries_since is_named has_bit any_below sections_in two slept free_halt
refuses_unheld h = grind arith

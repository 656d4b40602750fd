-- Worked histories, held against the law of a run of threads as its text has it: what no run prints. There are two
-- threads, p and q, and two sx locks, a and b, each with a class of its own, and a channel c of a. What the threads'
-- operations are is left open: with none does a run print such a history.
use Rattle.floor_run.proofs.Names
use Names.{ℕ, zero, suc, true, false, List, [], reverse, refl, sym, ap, subst, arith, reverse-reverse}
use Names.{BusyWordsHaveHolders, has_section, Config, any_below, has_bit, HaltsAreHonest, HaltsComeSince, is_honest_to}
use Names.{entries_below, entries_since, sections_in, WakingsNameSleepers, is_asleep, is_named, IsLegal, forbids}
use Names.{config_of, ReversalsHaveCause, classes_open, take_edges, Outcome, ChanNo, Sx, LockDecl, Excl, Op, Plan}
use Names.{ThreadDecl, Entry, Locked, Busy, Unlocked, Sleeps, Woke, HaltedChan, HaltedLock, WokeOne, Reversed, entry}
use Names.{lock, IsOutcome, outcome_of}
use Rattle.std.proofs.Common.{◌≡◌, ◌≤◌, ◌∷◌, ◌∙◌}

abbrev chan : ℕ → ChanNo
chan k = record { 0 = k }

abbrev lock_of : ℕ → LockDecl
lock_of k = record { name = []; kind = Sx; class = record { 0 = k } }

abbrev thread_of : List Op → ThreadDecl
thread_of ops = record { name = []; base = record { 0 = 100 }; ops = ops }

abbrev two : List Op → List Op → Plan
two ps qs = record {
  classes = [] ∷ [] ∷ [];
  locks = lock_of 0 ∷ lock_of 1 ∷ [];
  chans = record { name = []; cond = false; lock = lock 0 } ∷ [];
  threads = thread_of ps ∷ thread_of qs ∷ [];
  schedule = [];
}

-- a run prints the history
abbrev Prints : List Op → List Op → List Entry → Type 0
Prints ps qs history = IsOutcome (two ps qs) (outcome_of (two ps qs) history)

-- which is then legal
printed : (ps qs : List Op) (history : List Entry) → Prints ps qs history → IsLegal (two ps qs) true false history
printed ps qs history run =
    let same : run.history ≡ history = sym (reverse-reverse run.history)
    ∙ ap (λ (o : Outcome). reverse o.history) (sym run.outcome) ∙ reverse-reverse history in
    subst (IsLegal (two ps qs) true false) same run.legal

-- 1. Q finds a busy with p's word, and p never has it

invented_word : (ps qs : List Op) → Prints ps qs (entry 0 1 (Busy (lock 0) 4) ∷ []) → ⊥
unfolding BusyWordsHaveHolders has_section any_below
invented_word ps qs run =
    let z : false ≡ true = ((printed ps qs _ run).busies_are_explained refl).0 in cc

-- nor are all tries busy, each with the other's word
all_busy : (ps qs : List Op) → Prints ps qs (entry 1 1 (Busy (lock 0) 4) ∷ entry 0 0 (Busy (lock 0) 12) ∷ []) → ⊥
unfolding BusyWordsHaveHolders has_section any_below
all_busy ps qs run = let z : false ≡ true = ((printed ps qs _ run).busies_are_explained refl).0 in cc

-- 2. P is halted in its wait for a, which nobody has

lone_halt : List Entry
lone_halt = entry 0 0 (HaltedLock (lock 0)) ∷ []

unheld_halt : (ps qs : List Op) → Prints ps qs lone_halt → ⊥
unfolding lone_halt HaltsComeSince entries_below entries_since any_below sections_in
unheld_halt ps qs run = go h.moment (h.comes_first.0 refl) (h.honest 0 (omega arith))
  where
    h : HaltsAreHonest (config_of (two ps qs)) lone_halt
    h = (printed ps qs lone_halt run).halts_are_honest

    go : (p : ℕ) → p ≤ 0 → is_honest_to (config_of (two ps qs)) p lone_halt 0 ≡ true → ⊥
    go zero le e = cc
    go (suc n) le e = omega (arith, le)

-- or which q has, who is awake: its next entry gives a back
awake_halt : List Entry
awake_halt =
    entry 2 1 (Unlocked (lock 0) Excl) ∷ entry 1 0 (HaltedLock (lock 0)) ∷ entry 0 1 (Locked (lock 0) Excl) ∷ []

holder_goes_on : (ps qs : List Op) → Prints ps qs awake_halt → ⊥
unfolding awake_halt HaltsComeSince entries_below entries_since any_below sections_in
holder_goes_on ps qs run = go h.moment (h.comes_first.2.0 refl) (h.honest 0 (omega arith)) (h.honest 1 (omega arith))
  where
    c : Config
    c = config_of (two ps qs)

    h : HaltsAreHonest c awake_halt
    h = (printed ps qs awake_halt run).halts_are_honest

    go : (p : ℕ) → p ≤ 1 → is_honest_to c p awake_halt 0 ≡ true → is_honest_to c p awake_halt 1 ≡ true → ⊥
    go zero le e f = cc
    go (suc zero) le e f = cc
    go (suc (suc n)) le e f = omega (arith, le)

-- nor is each wait halted: p sleeps on c, and is halted, and q takes b behind that
every_wait : List Entry
every_wait =
    entry 3 1 (Locked (lock 1) Excl) ∷ entry 2 0 (HaltedChan (chan 0)) ∷ entry 1 0 (Sleeps (chan 0))
    ∷ entry 0 0 (Locked (lock 0) Excl) ∷ []

other_goes_on : (ps qs : List Op) → Prints ps qs every_wait → ⊥
unfolding every_wait HaltsComeSince entries_below entries_since any_below sections_in
other_goes_on ps qs run = go h.moment (h.comes_first.2.0 refl) (h.honest 1 (omega arith))
  where
    c : Config
    c = config_of (two ps qs)

    h : HaltsAreHonest c every_wait
    h = (printed ps qs every_wait run).halts_are_honest

    go : (p : ℕ) → p ≤ 2 → is_honest_to c p every_wait 1 ≡ true → ⊥
    go zero le f = cc
    go (suc zero) le f = cc
    go (suc (suc zero)) le f = cc
    go (suc (suc (suc n))) le f = omega (arith, le)

-- 3. P's sleep on c is over, and nobody woke it

without_sleeping : (ps qs : List Op)
    → Prints ps qs (entry 2 0 (Woke (chan 0)) ∷ entry 1 0 (Sleeps (chan 0)) ∷ entry 0 0 (Locked (lock 0) Excl) ∷ []) → ⊥
unfolding WakingsNameSleepers is_named
without_sleeping ps qs run =
    let z : false ≡ true = (printed ps qs _ run).so_far.wakings_name_sleepers.0 in cc

-- nor does a wake name a thread that doesn't sleep there
not_asleep : (ps qs : List Op) → Prints ps qs (entry 0 1 (WokeOne (chan 0) 1) ∷ []) → ⊥
unfolding WakingsNameSleepers is_asleep has_bit
not_asleep ps qs run =
    let z : false ≡ true = (printed ps qs _ run).so_far.wakings_name_sleepers.0.0 0 refl in cc

-- 4. Q is refused a for b, and no take has given an edge from a to b

without_an_edge : (ps qs : List Op)
    → Prints ps qs (entry 1 1 (Reversed (lock 0) (record { 0 = 1 })) ∷ entry 0 1 (Locked (lock 1) Excl) ∷ []) → ⊥
unfolding take_edges classes_open sections_in ReversalsHaveCause any_below forbids
without_an_edge ps qs run =
    let z : false ≡ true = ((printed ps qs _ run).orders_are_legal refl).reversals_have_cause.0.1 in cc

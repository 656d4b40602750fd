-- What a turn finds in a lawful state: words that can be, and objects where they are.
use Rattle.lock_laws.proofs.Names
use Names.{ℕ, true, false, not, Option, Some, None, refl, arith, some, IsWellFormed, word_of, bits_of, is_turnstile}
use Names.{owner_of, shows_waiters, is_drop, Holds, Config, State, lock_queue, stands, Lawful, TurnstileIsLent}
use Names.{SleepQueueIsLent, WordsMatchHolders, OnlyThreadsStand, HeadsFitWaiters, BitsShowWaiters, OwnersHold, Excl}
use Names.{QueueName}
use Rattle.std.proofs.Common.{◌≡◌, ◌⊎◌, ◌+◌, ◌≤◌, ◌||◌}
use Rattle.lock_laws.proofs.Words.{word_again}
use Rattle.lock_laws.proofs.WordsAndHeads.{possible_holder, headless_bare}

-- 1. Words

-- the word of a lock, where there are few threads
pub well_formed : (c : Config) (s : State) (l : ℕ) → Lawful c s → c.threads ≤ 64 → IsWellFormed (s.word l)
well_formed c s l h few = possible_holder c s l h few

-- its bits say it again
pub seen_again : (c : Config) (s : State) (l : ℕ) → Lawful c s → word_of (bits_of (s.word l)) ≡ s.word l
unfolding WordsMatchHolders
seen_again c s l h = word_again (s.word l) (h.words.words_match_holders l).some_sharer

-- 2. Objects

at_home : (o : Option ℕ) → some o ≡ 1 → (x : ℕ) × (o ≡ Some x)
at_home o e = grind arith

-- a thread that stands on no queue has its turnstile
pub has_turnstile : (c : Config) (s : State) (t : ℕ) → Lawful c s → s.blocked_on t ≡ None
    → (x : ℕ) × (s.turnstile t ≡ Some x)
unfolding TurnstileIsLent
has_turnstile c s t h e =
    let a = h.queues.turnstile_is_lent t in
    let b : some (s.turnstile t) + 0 ≡ 1 = rw e at a in
    at_home (s.turnstile t) (omega (arith, b))

-- and its sleep queue
pub has_sleep_queue : (c : Config) (s : State) (t : ℕ) → Lawful c s → s.blocked_on t ≡ None
    → (x : ℕ) × (s.sleep_queue t ≡ Some x)
unfolding SleepQueueIsLent
has_sleep_queue c s t h e =
    let a = h.queues.sleep_queue_is_lent t in
    let b : some (s.sleep_queue t) + 0 ≡ 1 = rw e at a in
    at_home (s.sleep_queue t) (omega (arith, b))

-- a lock's queue has a head where its word shows waiters
pub shown_head : (c : Config) (s : State) (l : ℕ) → Lawful c s → shows_waiters (s.word l) ≡ true
    → (x : ℕ) × (s.head (lock_queue l) ≡ Some x)
unfolding BitsShowWaiters
shown_head c s l h e = go (s.head (lock_queue l)) refl
  where
    go : (o : Option ℕ) → s.head (lock_queue l) ≡ o → (x : ℕ) × (s.head (lock_queue l) ≡ Some x)
    go None i =
        let bare = headless_bare c s (lock_queue l) h i in
        let shown = h.queues.bits_show_waiters l in
        absurd
        (let z : (false || false) ≡ true = rw (shown.exclusive, shown.shared, bare.no_exclusive, bare.no_shared) at e in
        cc)
    go (Some x) i = (x, i)

-- a queue without a head has no waiter,
pub none_stands : (c : Config) (s : State) (q : QueueName) (t : ℕ) → Lawful c s → s.head q ≡ None
    → stands t (s.lists q) ≡ 0
none_stands c s q t h e = let bare = headless_bare c s q h e in rw (bare.no_exclusive, bare.no_shared) refl

-- and no owner
pub no_owner : (c : Config) (s : State) (q : QueueName) → Lawful c s → s.head q ≡ None → s.owner q ≡ None
unfolding HeadsFitWaiters
no_owner c s q h e = (h.queues.heads_fit_waiters q).no_owner e

-- a queue with an owner has a head, and its lock's word says the owner
pub owner_found : (c : Config) (s : State) (l o : ℕ) → Lawful c s → is_turnstile (c.kind l) ≡ true
    → s.owner (lock_queue l) ≡ Some o
    → (x : ℕ) × (s.head (lock_queue l) ≡ Some x) × (owner_of (s.word l).holder ≡ Some o)
unfolding OwnersHold
owner_found c s l o h k e = grind arith

-- where it has none, there is no head or the word says none
pub no_owner_found : (c : Config) (s : State) (l : ℕ) → Lawful c s → is_turnstile (c.kind l) ≡ true
    → s.owner (lock_queue l) ≡ None
    → (s.head (lock_queue l) ≡ None) ⊎ (owner_of (s.word l).holder ≡ None)
unfolding OwnersHold
no_owner_found c s l h k e = grind arith

-- the record of a number beyond the plan's threads names nothing
pub beyond_unnamed : (c : Config) (s : State) (t : ℕ) → Lawful c s → c.threads ≤ t → s.blocked_on t ≡ None
unfolding OnlyThreadsStand
beyond_unnamed c s t h l = grind arith

-- The chain of a lock's queue where the turnstile of the lock changes, and what the columns say of the other chains
-- then: so it is in an enter, an open, a claim and each hop of a walk.
use Rattle.lock_floor.proofs.Names
use Names.{ℕ, Bool, true, false, cond, Option, None, List, refl, sym, ap, head_of, without, head_of-without_itself}
use Names.{lock_queue, is_turnstile, QueueName, Lock, Chan, RepresentsHead, RepresentsQueue, queue_in, all_placed}
use Names.{all_gone, SameQueue, queue_stays, State, Item, TurnstileChain, SleepChain, Turnstile, config_in, StandsIn}
use Names.{RepresentsTurnstiles, objects_in, sleepers, Description, SaySame, its_chain}
use Rattle.std.proofs.Common.{◌≡◌, ◌≢◌, ◌%◌, ◌∷◌, ◌∙◌}
use Rattle.lock_floor.proofs.ChainNames.{names_placed, names_without}

-- what stands in a chain of turnstiles is the queue of a lock with one
pub stands_by : (b : Bool) (k j : ℕ) → cond b (TurnstileChain k) (SleepChain k) ≡ TurnstileChain j → b ≡ true
stands_by true k j e = refl
stands_by false k j e = absurd (let z : SleepChain k ≡ TurnstileChain j = e in cc)

module _ (floor : Description) (l : ℕ) (turnstile : is_turnstile ((config_in floor).kind l) ≡ true) where
  abbrev pub chain_of_lock : Item
  chain_of_lock = TurnstileChain (l % floor.chains)

  -- it is one of turnstiles
  pub its_own : its_chain floor (lock_queue l) ≡ chain_of_lock
  its_own = ap (λ b. cond b (TurnstileChain (l % floor.chains)) (SleepChain (l % floor.chains))) turnstile

  -- in another chain another queue stands
  elsewhere : (i : Item) (q : QueueName) → i ≢ chain_of_lock → StandsIn floor i q → q ≢ lock_queue l
  elsewhere i q ne there e = ne (sym there ∙ ap (its_chain floor) e ∙ its_own)

  module _ (s n : State) where
    -- where the sleepers of every other queue stay, the chains of sleep queues say what they said
    pub sleepers_same : ((q : QueueName) → q ≢ lock_queue l → sleepers (queue_in n q) ≡ sleepers (queue_in s q))
        → (k : ℕ) → SaySame floor (objects_in s) (objects_in n) (SleepChain k)
    sleepers_same others k q there = others q (elsewhere (SleepChain k) q (λ e. cc) there)

    -- the columns of every other queue with a turnstile stay, and that of its node
    module _ (others : (k : ℕ) → k ≢ l → is_turnstile ((config_in floor).kind k) ≡ true
        → SameQueue (queue_in s) (queue_in n) s.loan_home n.loan_home (lock_queue k)) where
      others_there : (k : ℕ) (q : QueueName) → StandsIn floor (TurnstileChain k) q → q ≢ lock_queue l
          → SameQueue (queue_in s) (queue_in n) s.loan_home n.loan_home q
      others_there k (Lock j) there ne =
          others j.0 (λ e. ne (ap lock_queue e))
          (stands_by (is_turnstile ((config_in floor).kind j.0)) (j.0 % floor.chains) k there)
      others_there k (Chan d) there ne =
          absurd (let z : SleepChain (d.0 % floor.chains) ≡ TurnstileChain k = there in cc)

      -- so the other chains say what they said
      pub turnstiles_same : (k : ℕ) → TurnstileChain k ≢ chain_of_lock
          → SaySame floor (objects_in s) (objects_in n) (TurnstileChain k)
      turnstiles_same k ne q there = others_there k q there (elsewhere (TurnstileChain k) q ne there)

      module _ (chain : List (QueueName × Turnstile))
          (shows : RepresentsTurnstiles floor (l % floor.chains) chain (objects_in s)) where
        abbrev Shown : QueueName → Option Turnstile → Type 0
        Shown r o = StandsIn floor chain_of_lock r → RepresentsQueue o (queue_in n r) n.loan_home

        others_shown : (r : QueueName) → r ≢ lock_queue l → Shown r (head_of r chain)
        others_shown r ne there =
            queue_stays (head_of r chain) {qs = queue_in s} {ns = queue_in
            n} {homes = s.loan_home} {homes_then = n.loan_home}
            {q = r} (others_there (l % floor.chains) r there ne) (shows.queue r there)

        -- another turnstile is in the place of the lock's, or where it had none
        pub chain_placed : (h : Turnstile) → RepresentsHead h.contents (queue_in n (lock_queue l)) n.loan_home
            → RepresentsTurnstiles floor (l % floor.chains) ((lock_queue l, h) ∷ without (lock_queue l) chain)
            (objects_in n)
        chain_placed h new = record {
          names = names_placed floor chain_of_lock (lock_queue l) chain shows.names h its_own;
          queue = all_placed Shown (lock_queue l) chain others_shown h (λ _. new);
        }

        -- the lock has none any more
        pub chain_gone : (queue_in n (lock_queue l)).head ≡ None
            → RepresentsTurnstiles floor (l % floor.chains) (without (lock_queue l) chain) (objects_in n)
        chain_gone none = record {
          names = names_without floor chain_of_lock (lock_queue l) chain shows.names;
          queue = all_gone Shown (lock_queue l) chain others_shown
              (head_of-without_itself (lock_queue l) chain shows.names.distinct) (λ _. none);
        }

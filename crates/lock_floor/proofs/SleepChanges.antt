-- The chain of sleep queues in which a queue stands, where the sleep queue of that one changes, and what the columns
-- say of the other values then: so it is in an add and a wake of a channel, and in an enter and an open of an sx lock.
use Rattle.lock_floor.proofs.Names
use Names.{ℕ, Bool, true, false, not, cond, ltb, Option, Some, None, List, [], IfSome, sym, ap, head_of, without}
use Names.{Config, is_empty, Waiter, is_turnstile_queue, stands, QueueName, Side, put_queue_other, standing_named}
use Names.{asleep_out, zero_unless, CanStand, SleepColumns, RepresentsSleepQueue, sleepers_in, head_asleep}
use Names.{chain_asleep, chain_woken, is_queue-other, ShowsSleepers, somebody_stands, Lawful, State, put_queue, Item}
use Names.{TurnstileChain, SleepChain, SleepQueue, all_waiters, without_woken, config_in, StandsIn, HasNames}
use Names.{RepresentsSleepChain, objects_in, Description, SaySame, its_chain}
use Rattle.std.proofs.Common.{◌≡◌, ◌≢◌, ◌∷◌, ◌∙◌}
use Rattle.lock_floor.proofs.ChainNames.{names_placed, names_without}

-- 1. The other values

module _ (floor : Description) (k : ℕ) (q : QueueName) (there : StandsIn floor (SleepChain k) q) (s n : State)
    (v : SleepColumns) (changes : (r : QueueName) → sleepers_in n r ≡ put_queue (sleepers_in s) q v r) where
  -- in another chain another queue stands
  elsewhere : (i : Item) (r : QueueName) → i ≢ SleepChain k → StandsIn floor i r → r ≢ q
  elsewhere i r ne at e = ne (sym at ∙ ap (its_chain floor) e ∙ there)

  sleepers_other : (r : QueueName) → r ≢ q → sleepers_in n r ≡ sleepers_in s r
  sleepers_other r ne = changes r ∙ put_queue_other (sleepers_in s) q v r (is_queue-other q r (λ e. ne (sym e)))

  -- the chains of turnstiles say what they said
  pub turnstiles_same : n.owner ≡ s.owner → n.loan_home ≡ s.loan_home → (j : ℕ)
      → SaySame floor (objects_in s) (objects_in n) (TurnstileChain j)
  turnstiles_same owner home j r at =
      let e = sleepers_other r (elsewhere (TurnstileChain j) r (λ z. cc) at) in
      record {
        queue = λ i. record {
          head = (e i).head;
          lists = (e i).lists;
          free_list = (e i).free_list;
          owner = owner i r;
        };
        loan_home = λ x z. ap (λ (f : ℕ → Bool). f x) home;
      }

  -- and the other chains of sleep queues
  pub sleepers_same : (j : ℕ) → SleepChain j ≢ SleepChain k
      → SaySame floor (objects_in s) (objects_in n) (SleepChain j)
  sleepers_same j ne r at = sleepers_other r (elsewhere (SleepChain j) r ne at)

-- 2. The names of the chain

module _ (floor : Description) (k : ℕ) (q : QueueName) (there : StandsIn floor (SleepChain k) q)
    (chain : List (QueueName × SleepQueue)) (names : HasNames floor (SleepChain k) chain) where
  pub names_asleep : (side : Side) (x : ℕ) (w : Waiter)
      → HasNames floor (SleepChain k) (chain_asleep q side x w chain)
  names_asleep side x w =
      names_placed floor (SleepChain k) q chain names (head_asleep q side x w (head_of q chain)) there

  pub names_woken : (all : Bool) (side : Side) (o : Option SleepQueue)
      → HasNames floor (SleepChain k) (chain_woken q all side o chain)
  names_woken all side None = names
  names_woken all side (Some h) = by (is_empty (all_waiters (without_woken all side h.contents)))
    where
      by : (b : Bool) → HasNames floor (SleepChain k)
          (cond b (without q chain) ((q, record h { contents = without_woken all side h.contents }) ∷ without q chain))
      by true = names_without floor (SleepChain k) q chain names
      by false =
          names_placed floor (SleepChain k) q chain names (record h { contents = without_woken all side h.contents })
          there

-- 3. Who sleeps there

-- somebody sleeps where a sleep queue is
pub somebody_there : (floor : Description) (s : State) (q : QueueName) → Lawful (config_in floor) s
    → (o : Option SleepQueue) → RepresentsSleepQueue o (sleepers_in s q)
    → IfSome o (λ h. all_waiters h.contents ≢ [])
somebody_there floor s q lawful None h = tt
somebody_there floor s q lawful (Some d) h =
    somebody_stands (config_in floor) s q lawful d.contents (ap (λ (a : SleepColumns). a.head) h)
    (ap (λ (a : SleepColumns). a.lists) h)

-- and a thread that has its sleep queue at home can go to sleep there
pub can_sleep_there : (floor : Description) (s : State) (q : QueueName) → Lawful (config_in floor) s
    → is_turnstile_queue (config_in floor) q ≡ false → (t x : ℕ) → s.sleep_queue t ≡ Some x → (o : Option SleepQueue)
    → RepresentsSleepQueue o (sleepers_in s q) → CanStand t o
can_sleep_there floor s q lawful sleeps t x own None h = tt
can_sleep_there floor s q lawful sleeps t x own (Some d) h =
    let c : Config = config_in floor in
    let awake : stands t (s.lists q) ≡ 0 = zero_unless (stands t (s.lists q))
    (λ a. let n = asleep_out c s t q lawful (standing_named c s t q lawful a) (ap not sleeps) in
    let f : None ≡ Some x = sym n ∙ own in cc) in (
      somebody_there floor s q lawful (Some d) h,
      ap (ltb 0) (ap (λ (a : SleepColumns). stands t a.lists) (sym h) ∙ awake),
    )

-- what a chain shows of the queues that stand there
pub sleep_chain_shown : (floor : Description) (k : ℕ) (n : State) (new : List (QueueName × SleepQueue))
    → HasNames floor (SleepChain k) new → ShowsSleepers (StandsIn floor (SleepChain k)) new (sleepers_in n)
    → RepresentsSleepChain floor k new (objects_in n)
sleep_chain_shown floor k n new names shows = record { names = names; queue = shows }

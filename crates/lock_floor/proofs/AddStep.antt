-- An add: a load of the latch of a channel's chain, by which the thread comes to stand on the channel's queue. Its
-- record and the chain, which it has out, are then what the work on them will make of them.
use Rattle.lock_floor.proofs.Names
use Names.{ℕ, Some, None, List, [], refl, sym, ap, subst, inl, with_value, Global, Box, Me, keeps, Allows, head_of}
use Names.{put_same, put_other, Config, Waiter, chan_queue, QueueName, X, CanStand, RecordColumns, RepresentsRecord}
use Names.{record_in, sleepers_in, sleeper_of, record_asleep, chain_asleep, slept, chain_slept, balanced, sleeper_is}
use Names.{add_changes, Lawful, State, Step, Adds, Item, TurnstileChain, SleepChain, RecordOf, CellOf, ClassGraph}
use Names.{after_add, SleepQueue, ThreadRec, config_in, Description, Slot, SleepQueues, spot, latch_line, latch_word}
use Names.{Board, RepresentsSleepChain, IsPosed, StandsIn, objects_in, FloorHolds, share_in, FitAll, Makes, Knowledge}
use Names.{OfThread, seeing, Finds, Steps, allows, OwnSteps, SaySame, one_own, MayAddItself, added, out_asleep}
use Names.{chain_place}
use Rattle.std.proofs.Common.{◌≡◌, ◌≢◌, ◌%◌, ◌∷◌}
use Rattle.lock_floor.proofs.BothChanged.{record_says, chain_says, both_seen}
use Rattle.lock_floor.proofs.SleepChanges.{turnstiles_same, sleepers_same, names_asleep, can_sleep_there, sleep_chain_shown}

-- 1. What the columns say behind it

module _ (floor : Description) (s : State) (t d x : ℕ) where
  abbrev n : State
  n = after_add s t d x

  abbrev q : QueueName
  q = chan_queue d

  abbrev k : ℕ
  k = d % floor.chains

  record_other : (u : ℕ) → u ≢ t → record_in n u ≡ record_in s u
  unfolding after_add
  record_other u ne = λ i. record (record_in s u) {
    sleep_queue = put_other s.sleep_queue t None u (λ e. ne (sym e)) i;
    blocked_on = put_other s.blocked_on t (Some q) u (λ e. ne (sym e)) i;
  }

  its_record : (b : Box ThreadRec Global) → RepresentsRecord b.value (record_in s t)
      → RepresentsRecord (record_asleep q b.value) (record_in n t)
  unfolding after_add
  its_record b h = record {
    columns = λ i. record (h.columns i) {
      sleep_queue = sym (put_same s.sleep_queue t None) i;
      blocked_on = sym (put_same s.blocked_on t (Some q)) i;
    };
    one_loan_each = h.one_loan_each;
  }

  says_same : (i : Item) → i ≢ RecordOf t → i ≢ SleepChain k → SaySame floor (objects_in s) (objects_in n) i
  unfolding after_add
  says_same (TurnstileChain m) no_record no_chain = turnstiles_same floor k q refl s n
      (slept X x (record { thread = t; kept = s.base t }) (sleepers_in s q)) (add_changes s t d x) refl refl m
  says_same (SleepChain m) no_record no_chain = sleepers_same floor k q refl s n
      (slept X x (record { thread = t; kept = s.base t }) (sleepers_in s q)) (add_changes s t d x) m no_chain
  says_same (RecordOf u) no_record no_chain = record_other u (λ e. no_record (ap RecordOf e))
  says_same (CellOf l key) no_record no_chain = refl
  says_same ClassGraph no_record no_chain = refl

  chain_shown : Lawful (config_in floor) s → (b : Box ThreadRec Global) → RepresentsRecord b.value (record_in s t)
      → (chain : List (QueueName × SleepQueue)) → RepresentsSleepChain floor k chain (objects_in s)
      → RepresentsSleepChain floor k (chain_asleep q X x (sleeper_of b.value) chain) (objects_in n)
  chain_shown lawful b rec chain shows =
      let w : Waiter = record { thread = t; kept = s.base t } in
      subst (λ (z : Waiter). RepresentsSleepChain floor k (chain_asleep q X x z chain) (objects_in n))
      (sym (sleeper_is s t rec))
      (sleep_chain_shown floor k n (chain_asleep q X x w chain) (names_asleep floor k q refl chain shows.names X x w)
      (chain_slept (StandsIn floor (SleepChain k)) chain (sleepers_in s) (sleepers_in n) q
      (slept X x w (sleepers_in s q)) (add_changes s t d x) shows.queue (balanced (config_in floor) s q lawful) refl X x
      w refl))

add_others : (s : State) (t u : ℕ) → (d x : ℕ) → share_in (after_add s t d x) u ≡ share_in s u
unfolding after_add
add_others s t u d x = refl

-- 2. The step

-- what it tells: the thread made it, and its record and the chain are such that the work on them can be done
pub record AddedTo (floor : Description) (d : ℕ) (me behind : Me Slot Knowledge) : Type 0 where
  pub may : MayAddItself floor d me.0
  pub can : CanStand may.sleeper.box.value.thread (head_of (chan_queue d) may.sleeper.chain)
  pub is : behind ≡ (
    seeing behind.0.seen (added me.0 d
        (out_asleep floor me.0.thread (chan_queue d) X may.own may.sleeper.box may.sleeper.chain)),
    me.1,
  )
  pub step : Makes floor (Adds me.0.thread d may.own ∷ []) me.0 behind.0

abbrev pub ToldAdded : Description → ℕ → Me Slot Knowledge → ℕ → Me Slot Knowledge → Type 0
ToldAdded floor d me found behind = AddedTo floor d me behind

module _ (floor : Description) (me : Me Slot Knowledge) (was : me.0.role ≡ OfThread) (d : ℕ)
    (may : MayAddItself floor d me.0) where
  abbrev v : Knowledge
  v = me.0

  abbrev its_queue : QueueName
  its_queue = chan_queue d

  abbrev m : ℕ
  m = d % floor.chains

  abbrev j : ℕ
  j = chain_place floor its_queue

  abbrev box : Box ThreadRec Global
  box = may.sleeper.box

  abbrev chain : List (QueueName × SleepQueue)
  chain = may.sleeper.chain

  adds : (b : Board) (f : Finds floor v b) → FitAll floor f.state (Adds v.thread d may.own ∷ [])
      → Steps floor me (spot (latch_line j)) (latch_word b.words j) (latch_word b.words j) (ToldAdded floor d me) b
  unfolding after_add
  adds b f allowed =
      let c : Config = config_in floor in
      let s : State = f.state in
      let t : ℕ = v.thread in
      let x : ℕ = may.own in
      let now : State = after_add s t d x in
      let step : Step = Adds t d x in
      let g = allowed.0.fits.may in
      let lawful : Lawful c s = f.sound.facts.lawful in
      let rec : RepresentsRecord box.value (record_in s t) = record_says floor b v f its_queue (SleepChain m) refl box
      (SleepQueues chain) may.sleeper.out in
      let shows : RepresentsSleepChain floor m chain (objects_in s) =
      chain_says floor b v f its_queue (SleepChain m) refl box (SleepQueues chain) may.sleeper.out in
      let after : List (ℕ × Slot) = out_asleep floor t its_queue X x box chain in
      let w : Knowledge = seeing (step ∷ f.past) (added v d after) in
      let own : OwnSteps v w f.past (step ∷ []) s now = record {
        role = was;
        seen = refl;
        makers = one_own t step refl;
        seat = record {
          thread = refl;
          share = assumption f.fits.share;
        };
        others = λ u ne. add_others s t u d x;
        pose = inl (g.queued, put_same s.blocked_on t (Some its_queue));
        other_poses = λ u ne p z. subst (λ on. IsPosed p (s.wait u) on)
            (sym (put_other s.blocked_on t (Some its_queue) u (λ e. ne (sym e)))) z;
      } in
      let made = both_seen floor b v f its_queue (SleepChain m) refl box (SleepQueues chain) may.sleeper.out step w was
      allowed own me.1 (with_value box (record_asleep its_queue box.value))
      (SleepQueues (chain_asleep its_queue X x (sleeper_of box.value) chain)) refl refl refl refl
      (says_same floor s t d x) refl (its_record floor s t d x box rec)
      (chain_shown floor s t d x lawful box rec chain shows) in
      let told : AddedTo floor d me (w, me.1) = record {
        may = may;
        can = subst (λ u. CanStand u (head_of its_queue chain))
            (sym (ap (λ (a : RecordColumns). a.thread) rec.columns))
            (can_sleep_there floor s its_queue lawful refl t x g.own (head_of its_queue chain)
            (shows.queue its_queue refl));
        is = refl {a = (w, me.1)};
        step = made.1;
      } in
      (w, keeps, tt, made.0, told)

  pub add_allowed : (slots id : ℕ)
      → Allows (FloorHolds floor) slots id me (spot (latch_line j)) (λ n. n) (ToldAdded floor d me)
  add_allowed slots id =
      allows floor slots id me (spot (latch_line j)) (λ n. n) (ToldAdded floor d me) was
      (λ b f small. adds b f (may.may f.state f.fits tt))

-- An enter on a sleep queue: an exchange of an sx lock's word by which the thread comes to stand on the lock's queue.
-- Its record and the chain, which it has out, are then what the work on them will make of them.
use Rattle.lock_floor.proofs.Names
use Names.{ℕ, eqb, false, cond, Some, None, List, [], length, refl, sym, ap, subst, inl, with_value, Global, Box, Me}
use Names.{keeps, Allows, head_of, put_same, put_other, Config, Waiter, lock_queue, side_of, word_of, is_turnstile}
use Names.{Mode, QueueName, CanStand, RecordColumns, RepresentsRecord, record_in, sleepers_in, sleeper_of}
use Names.{record_asleep, chain_asleep, slept, chain_slept, balanced, sleeper_is, enter_sleep_changes, Lawful, State}
use Names.{Step, Looks, EntersSleepQueue, Item, TurnstileChain, SleepChain, RecordOf, CellOf, ClassGraph}
use Names.{after_enter_sleep, SleepQueue, ThreadRec, config_in, Description, Slot, SleepQueues, spot, lock_line}
use Names.{lock_word, Board, RepresentsSleepChain, RepresentsShare, IsPosed, StandsIn, objects_in, FloorHolds}
use Names.{columns_of, share_in, MayMake, Makes, Knowledge, OfThread, seeing, Finds, Steps, exchange_allows, OwnSteps}
use Names.{SaySame, one_own, MayEnterAsleep, entered_asleep, out_asleep, counts, chain_place}
use Rattle.std.proofs.Common.{◌≡◌, ◌≢◌, ◌<◌, ◌%◌, ◌∷◌, ◌∙◌}
use prog.Atomic.{either}
use Rattle.lock_model.specs.Words as words
use Rattle.lock_floor.proofs.BothChanged.{record_says, chain_says, both_made}
use Rattle.lock_floor.proofs.Looking.{Looked, looks, found_word}
use Rattle.lock_floor.proofs.SleepChanges.{turnstiles_same, sleepers_same, names_asleep, can_sleep_there, sleep_chain_shown}

-- 1. The shares behind it

enter_own : (s : State) (v : Knowledge) → RepresentsShare v.share s v.thread → (l : ℕ) (mode : Mode) (x : ℕ)
    (out : List (ℕ × Slot))
    → RepresentsShare (entered_asleep v l out).share (after_enter_sleep s v.thread l mode x) v.thread
unfolding after_enter_sleep
enter_own s v fit l mode x out =
    let its : columns_of v.share ≡ share_in s v.thread = fit.columns in
    record {
      columns = λ i. record (its i) {
        doing = record (its i).doing {
          wanted = sym (put_same s.wanted v.thread (Some l)) i;
          called = sym (put_same s.called v.thread None) i;
          round = sym (put_same s.round v.thread None) i;
          last_look = sym (put_same s.last_look v.thread None) i;
        };
      };
      held_once = fit.held_once;
    }

enter_others : (s : State) (t u : ℕ) → u ≢ t → (l : ℕ) (mode : Mode) (x : ℕ)
    → share_in (after_enter_sleep s t l mode x) u ≡ share_in s u
unfolding after_enter_sleep
enter_others s t u other l mode x =
    let ne : t ≡ u → ⊥ = λ q. other (sym q) in
    λ i. record (share_in s u) {
      doing = record (share_in s u).doing {
        wanted = put_other s.wanted t (Some l) u ne i;
        called = put_other s.called t None u ne i;
        round = put_other s.round t None u ne i;
        last_look = put_other s.last_look t None u ne i;
      };
    }

-- 2. What the columns say behind it

-- an sx lock's queue stands in a chain of sleep queues
pub stands_asleep : (floor : Description) (l : ℕ) → is_turnstile ((config_in floor).kind l) ≡ false
    → StandsIn floor (SleepChain (l % floor.chains)) (lock_queue l)
stands_asleep floor l sleeps =
    ap (λ b. cond b (TurnstileChain (l % floor.chains)) (SleepChain (l % floor.chains))) sleeps

module _ (floor : Description) (s : State) (t l : ℕ) (mode : Mode) (x : ℕ)
    (sleeps : is_turnstile ((config_in floor).kind l) ≡ false) where
  abbrev n : State
  n = after_enter_sleep s t l mode x

  abbrev q : QueueName
  q = lock_queue l

  abbrev k : ℕ
  k = l % floor.chains

  record_other : (u : ℕ) → u ≢ t → record_in n u ≡ record_in s u
  unfolding after_enter_sleep
  record_other u ne = λ i. record (record_in s u) {
    sleep_queue = put_other s.sleep_queue t None u (λ e. ne (sym e)) i;
    blocked_on = put_other s.blocked_on t (Some q) u (λ e. ne (sym e)) i;
  }

  its_record : (b : Box ThreadRec Global) → RepresentsRecord b.value (record_in s t)
      → RepresentsRecord (record_asleep q b.value) (record_in n t)
  unfolding after_enter_sleep
  its_record b h = record {
    columns = λ i. record (h.columns i) {
      sleep_queue = sym (put_same s.sleep_queue t None) i;
      blocked_on = sym (put_same s.blocked_on t (Some q)) i;
    };
    one_loan_each = h.one_loan_each;
  }

  says_same : (i : Item) → i ≢ RecordOf t → i ≢ SleepChain k → SaySame floor (objects_in s) (objects_in n) i
  unfolding after_enter_sleep
  says_same (TurnstileChain m) no_record no_chain = turnstiles_same floor k q (stands_asleep floor l sleeps) s n
      (slept (side_of mode) x (record { thread = t; kept = s.base t }) (sleepers_in s q))
      (enter_sleep_changes s t l mode x) refl refl m
  says_same (SleepChain m) no_record no_chain = sleepers_same floor k q (stands_asleep floor l sleeps) s n
      (slept (side_of mode) x (record { thread = t; kept = s.base t }) (sleepers_in s q))
      (enter_sleep_changes s t l mode x) m no_chain
  says_same (RecordOf u) no_record no_chain = record_other u (λ e. no_record (ap RecordOf e))
  says_same (CellOf m key) no_record no_chain = refl
  says_same ClassGraph no_record no_chain = refl

  chain_shown : Lawful (config_in floor) s → (b : Box ThreadRec Global) → RepresentsRecord b.value (record_in s t)
      → (chain : List (QueueName × SleepQueue)) → RepresentsSleepChain floor k chain (objects_in s)
      → RepresentsSleepChain floor k (chain_asleep q (side_of mode) x (sleeper_of b.value) chain) (objects_in n)
  chain_shown lawful b rec chain shows =
      let w : Waiter = record { thread = t; kept = s.base t } in
      subst (λ (z : Waiter). RepresentsSleepChain floor k (chain_asleep q (side_of mode) x z chain) (objects_in n))
      (sym (sleeper_is s t rec))
      (sleep_chain_shown floor k n (chain_asleep q (side_of mode) x w chain)
      (names_asleep floor k q (stands_asleep floor l sleeps) chain shows.names (side_of mode) x w)
      (chain_slept (StandsIn floor (SleepChain k)) chain (sleepers_in s) (sleepers_in n) q
      (slept (side_of mode) x w (sleepers_in s q)) (enter_sleep_changes s t l mode x) shows.queue
      (balanced (config_in floor) s q lawful) (stands_asleep floor l sleeps) (side_of mode) x w refl))

-- 3. The step

-- what it tells where the seen word was found: the thread stands on the queue, and its record and the chain are such
-- that the work on them can be done
pub record EntersWord (floor : Description) (l : ℕ) (mode : Mode) (seen : ℕ) (me behind : Me Slot Knowledge) : Type 0
  where
    pub may : MayEnterAsleep floor l mode (word_of seen) me.0
    pub can : CanStand may.sleeper.box.value.thread (head_of (lock_queue l) may.sleeper.chain)
    pub is : behind ≡ (
      seeing behind.0.seen (entered_asleep me.0 l
          (out_asleep floor me.0.thread (lock_queue l) (side_of mode) may.own may.sleeper.box may.sleeper.chain)),
      me.1,
    )
    pub step : Makes floor (EntersSleepQueue me.0.thread l mode may.own ∷ []) me.0 behind.0

abbrev pub ToldEntered : Description → ℕ → Mode → ℕ → Me Slot Knowledge → ℕ → Me Slot Knowledge → Type 0
ToldEntered floor l mode seen me found behind =
    (found ≡ seen → EntersWord floor l mode seen me behind) × (found ≢ seen → Looked floor l me found behind)

module _ (floor : Description) (me : Me Slot Knowledge) (was : me.0.role ≡ OfThread) (slots id seen new l : ℕ)
    (mode : Mode) (low : l < length floor.locks) (may : MayEnterAsleep floor l mode (word_of seen) me.0) where
  abbrev v : Knowledge
  v = me.0

  abbrev its_queue : QueueName
  its_queue = lock_queue l

  abbrev m : ℕ
  m = l % floor.chains

  abbrev j : ℕ
  j = chain_place floor its_queue

  abbrev box : Box ThreadRec Global
  box = may.sleeper.box

  abbrev chain : List (QueueName × SleepQueue)
  chain = may.sleeper.chain

  enters : word_of new ≡ words.entered (word_of seen) (side_of mode)
      → (b : Board) (h : Finds floor v b) → lock_word b.words l ≡ seen
      → Steps floor me (spot (lock_line l)) (lock_word b.words l) new (ToldEntered floor l mode seen me) b
  unfolding after_enter_sleep
  enters says b h same =
      let c : Config = config_in floor in
      let s : State = h.state in
      let t : ℕ = v.thread in
      let x : ℕ = may.own in
      let now : State = after_enter_sleep s t l mode x in
      let step : Step = EntersSleepQueue t l mode x in
      let its_word : s.word l ≡ word_of seen = sym (found_word floor b v h l low).0 ∙ ap word_of same in
      let allowed = may.may s h.fits its_word in
      let g = allowed.0.fits.may in
      let lawful : Lawful c s = h.sound.facts.lawful in
      let there = stands_asleep floor l g.sleeps in
      let rec : RepresentsRecord box.value (record_in s t) = record_says floor b v h its_queue (SleepChain m) there box
      (SleepQueues chain) may.sleeper.out in
      let shows : RepresentsSleepChain floor m chain (objects_in s) =
      chain_says floor b v h its_queue (SleepChain m) there box (SleepQueues chain) may.sleeper.out in
      let after : List (ℕ × Slot) = out_asleep floor t its_queue (side_of mode) x box chain in
      let w : Knowledge = seeing (step ∷ h.past) (entered_asleep v l after) in
      let own : OwnSteps v w h.past (step ∷ []) s now = record {
        role = was;
        seen = refl;
        makers = one_own t step refl;
        seat = record { thread = refl; share = enter_own s v h.fits.share l mode x after };
        others = λ u ne. enter_others s t u ne l mode x;
        pose = inl (g.waits.queued, put_same s.blocked_on t (Some its_queue));
        other_poses = λ u ne p z. subst (λ on. IsPosed p (s.wait u) on)
            (sym (put_other s.blocked_on t (Some its_queue) u (λ e. ne (sym e)))) z;
      } in
      let says_now : word_of new ≡ words.entered (s.word l) (side_of mode) = says
      ∙ ap (λ y. words.entered y (side_of mode)) (sym its_word) in
      let made = both_made floor b v h its_queue (SleepChain m) there box (SleepQueues chain) may.sleeper.out step w was
      allowed own me.1 (with_value box (record_asleep its_queue box.value))
      (SleepQueues (chain_asleep its_queue (side_of mode) x (sleeper_of box.value) chain)) refl l new
      (words.entered (s.word l) (side_of mode)) low says_now refl refl refl
      (says_same floor s t l mode x g.sleeps) refl (its_record floor s t l mode x g.sleeps box rec)
      (chain_shown floor s t l mode x g.sleeps lawful box rec chain shows) in
      let told : EntersWord floor l mode seen me (w, me.1) = record {
        may = may;
        can = subst (λ u. CanStand u (head_of its_queue chain))
            (sym (ap (λ (a : RecordColumns). a.thread) rec.columns))
            (can_sleep_there floor s its_queue lawful g.sleeps t x g.own (head_of its_queue chain)
            (shows.queue its_queue there));
        is = refl {a = (w, me.1)};
        step = made.1;
      } in (
        w,
        keeps,
        tt,
        made.0,
        (λ e. told, λ ne. absurd {A = Looked floor l me (lock_word b.words l) (w, me.1)} (ne same)),
      )

  pub enter_allowed : word_of new ≡ words.entered (word_of seen) (side_of mode)
      → MayMake floor v (λ s. Unit {0}) (Looks v.thread l (counts v l) ∷ [])
      → Allows (FloorHolds floor) slots id me (spot (lock_line l)) (λ n. either (eqb n seen) new n)
      (ToldEntered floor l mode seen me)
  enter_allowed says may_look =
      exchange_allows floor slots id me (spot (lock_line l)) seen new (ToldEntered floor l mode seen me) was
      (enters says)
      (λ b h ne small. let look = looks floor me l was low b h (may_look h.state h.fits tt) in
      (look.0, look.1, look.2, look.3, (λ e. absurd (ne e), λ _. look.4)))

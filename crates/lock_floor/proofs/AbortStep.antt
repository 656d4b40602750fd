-- An abort: a load of the latch of a queue's chain, by which one sleeper is taken off the queue. The chain, which the
-- thread has out, is then what the work on it will make of it. The word of an sx lock stays, since another sleeper
-- stays on that side.
use Rattle.lock_floor.proofs.Names
use Names.{ℕ, Bool, true, false, cond, lt-ltb, Option, Some, IsSome, List, [], map, length, refl, sym, ap, subst, arith}
use Names.{All, Me, keeps, rest, Allows, head_of, without, head_of-without_itself, some_there, word_stays, once}
use Names.{put_same, put_other, Config, is_empty, Waiter, ByAbort, is_turnstile_queue, list_of, times_waiting}
use Names.{without_waiter, QueueName, Lock, Chan, Side, X, S, IsSleeper, aborted_from, chain_aborted, aborted}
use Names.{without_sleeper, SleepColumns, RepresentsSleepQueue, mark_by, sleepers_in, sleepers_of, shows_aborted}
use Names.{marks_aborted, balanced, abort_changes, Lawful, BitsShowWaiters, State, Look, put, Step, Aborts, Item}
use Names.{TurnstileChain, SleepChain, RecordOf, CellOf, ClassGraph, after_abort, look_leaving, phase_aborting, sleeper}
use Names.{word_showing, all_waiters, waiters, waits, SleepQueue, Place, config_in, Description, Slot, SleepQueues}
use Names.{spot, latch_line, latch_word, slots_for, slot_of, home_at, Board, HasNames, RepresentsSleepChain}
use Names.{RepresentsObjects, RepresentsShare, StandsIn, objects_in, thread_in, words_in, FloorHolds, ShareColumns}
use Names.{columns_of, share_in, Shelves, found, FitAll, IsSound, MayMake, Makes, Knowledge, OfThread, seeing}
use Names.{place_low, Finds, Steps, allows, latch_seen_with, own_out, OwnSteps, SaySame, one_own, found_first}
use Names.{shelf_changed, sound_kept, IsSleeping, KeepsWord, aborted_off, out_aborted, HasSleepersOut, its_chain}
use Names.{chain_place}
use Rattle.std.proofs.Common.{◌≡◌, ◌≢◌, ◌<◌, ◌%◌, ◌∷◌, ◌∙◌}
use Rattle.lock_floor.proofs.Changing.{OnlyChanges, object_changed}
use Rattle.lock_floor.proofs.ChainPlaces.{chain_at}
use Rattle.lock_floor.proofs.OpenStep.{marked_low}
use Rattle.lock_floor.proofs.ChainNames.{names_placed, names_without}
use Rattle.lock_floor.proofs.SleepChanges.{turnstiles_same, sleepers_same, sleep_chain_shown}

-- 1. The shares behind it

pub abort_own : (s : State) (v : Knowledge) → RepresentsShare v.share s v.thread → (q : QueueName) (side : Side) (u : ℕ)
    (ps : List Place) (look : Option Look) (out : List (ℕ × Slot))
    → map (mark_by ByAbort q) ps ≡ (after_abort s v.thread q side u).marked v.thread
    → look ≡ look_leaving q (without_waiter u (list_of side (s.lists q))) v.share.doing.last_look
    → RepresentsShare (aborted_off v q ps look out).share (after_abort s v.thread q side u) v.thread
unfolding after_abort
abort_own s v fit q side u ps look out marks look_is =
    let its : columns_of v.share ≡ share_in s v.thread = fit.columns in
    record {
      columns = λ i. record (its i) {
        doing = record (its i).doing {
          marked = marks i;
          last_look = (look_is
              ∙ ap (λ (x : ShareColumns). look_leaving q (without_waiter u (list_of side (s.lists q)))
              x.doing.last_look) its ∙ sym (put_same s.last_look v.thread _)) i;
          phase = (ap (λ (x : ShareColumns). phase_aborting x.doing.phase) its ∙ sym (put_same s.phase v.thread _)) i;
        };
      };
      held_once = fit.held_once;
    }

pub abort_others : (s : State) (t w : ℕ) → w ≢ t → (q : QueueName) (side : Side) (u : ℕ)
    → share_in (after_abort s t q side u) w ≡ share_in s w
unfolding after_abort
abort_others s t w other q side u =
    let ne : t ≡ w → ⊥ = λ e. other (sym e) in
    let marked_is : (after_abort s t q side u).marked w ≡ s.marked w = put_other s.marked t _ w ne in
    let look_is : (after_abort s t q side u).last_look w ≡ s.last_look w = put_other s.last_look t _ w ne in
    let phase_is : (after_abort s t q side u).phase w ≡ s.phase w = put_other s.phase t _ w ne in
    λ i. record (share_in s w) {
      doing = record (share_in s w).doing { marked = marked_is i; last_look = look_is i; phase = phase_is i };
    }

-- 2. Where the word stays, the last look does

some_left : (ws : List Waiter) → ws ≢ [] → is_empty ws ≡ false
some_left e ne = grind arith

words_stay : (s : State) (q : QueueName) (side : Side) (u : ℕ) → BitsShowWaiters s.word s.lists
    → 0 < times_waiting u (list_of side (s.lists q)) → KeepsWord q (without_waiter u (list_of side (s.lists q)))
    → word_showing q side (without_waiter u (list_of side (s.lists q))) s.word ≡ s.word
words_stay s (Lock l) side u bits here stay =
    word_stays s l side bits (some_there u (list_of side (s.lists (Lock l))) here)
    (without_waiter u (list_of side (s.lists (Lock l)))) (some_left _ stay)
words_stay s (Chan d) side u bits here stay = refl

look_stays : (q : QueueName) (left : List Waiter) (look : Option Look) → KeepsWord q left
    → look ≡ look_leaving q left look
look_stays e left look stay = grind arith

-- 3. What else the columns say

-- the chain of a queue that is no turnstile
pub sleep_chain_of : (floor : Description) (q : QueueName) → is_turnstile_queue (config_in floor) q ≡ false
    → (k : ℕ) × (its_chain floor q ≡ SleepChain k)
sleep_chain_of floor (Lock l) e = (
  l.0 % floor.chains,
  ap (λ b. cond b (TurnstileChain (l.0 % floor.chains)) (SleepChain (l.0 % floor.chains))) e,
)
sleep_chain_of floor (Chan d) e = (d.0 % floor.chains, refl)

module _ (floor : Description) (s : State) (t : ℕ) (q : QueueName) (side : Side) (u k : ℕ)
    (in_chain : StandsIn floor (SleepChain k) q) where
  pub abort_changes_only : OnlyChanges floor (objects_in s) (objects_in (after_abort s t q side u)) (SleepChain k)
  unfolding after_abort
  abort_changes_only = record { others = go; tables = λ l key ne. refl }
    where
      go : (i : Item) → i ≢ SleepChain k → SaySame floor (objects_in s) (objects_in (after_abort s t q side u)) i
      go (TurnstileChain j) ne = turnstiles_same floor k q in_chain s (after_abort s t q side u)
          (aborted side (sleeper s u) (sleepers_in s q)) (abort_changes s t q side u) refl refl j
      go (SleepChain j) ne = sleepers_same floor k q in_chain s (after_abort s t q side u)
          (aborted side (sleeper s u) (sleepers_in s q)) (abort_changes s t q side u) j ne
      go (RecordOf w) ne = refl
      go (CellOf l key) ne = refl
      go ClassGraph ne = refl

pub names_aborted : (floor : Description) (k : ℕ) (q : QueueName) → StandsIn floor (SleepChain k) q
    → (chain : List (QueueName × SleepQueue)) → HasNames floor (SleepChain k) chain → (u : ℕ) (h : SleepQueue)
    → HasNames floor (SleepChain k) (chain_aborted q u h chain)
names_aborted floor k q there chain names u h = by (is_empty (all_waiters (without_sleeper u h.contents)))
  where
    by : (b : Bool) → HasNames floor (SleepChain k)
        (cond b (without q chain) ((q, record h { contents = without_sleeper u h.contents }) ∷ without q chain))
    by true = names_without floor (SleepChain k) q chain names
    by false = names_placed floor (SleepChain k) q chain names (record h { contents = without_sleeper u h.contents })
        there

-- who sleeps there waits there
pub waits_there : (side : Side) (u : ℕ) (h : SleepQueue) → 0 < times_waiting u (waiters side h.contents)
    → waits u h.contents ≡ true
waits_there X u h here = lt-ltb 0 _ (omega (arith, here))
waits_there S u h here = lt-ltb 0 _ (omega (arith, here))

-- 4. What an abort makes of all but the words, and tells

-- the chain without the sleeper, and what the thread knows then
abbrev pub chain_off : QueueName → ℕ → SleepQueue → List (QueueName × SleepQueue) → Slot
chain_off q u head chain = SleepQueues (chain_aborted q u head chain)

abbrev pub view_off : Description → Knowledge → QueueName → ℕ → SleepQueue → Option Look
    → List (QueueName × SleepQueue) → Knowledge
view_off floor v q u head look chain =
    aborted_off v q (aborted_from u head.contents) look (out_aborted floor q u head chain v.out)

-- what it tells: the thread made it, and has that last look; the chain is such that the work on it can be done, and
-- whom it took has its sleep queue with it
pub record TakenOff (floor : Description) (q : QueueName) (side : Side) (u : ℕ) (look : Option Look)
    (me behind : Me Slot Knowledge) : Type 0 where
  pub sleepers : HasSleepersOut floor q me.0
  pub head : SleepQueue
  pub there : head_of q sleepers.chain ≡ Some head
  pub stands : 0 < times_waiting u (waiters side head.contents)
  pub can : waits u head.contents ≡ true
  pub is : behind ≡ (seeing behind.0.seen (view_off floor me.0 q u head look sleepers.chain), me.1)
  pub step : Makes floor (Aborts me.0.thread q side u ∷ []) me.0 behind.0
  pub sleeps_there : is_turnstile_queue (config_in floor) q ≡ false
  pub held : All (λ p. IsSome p.object) (aborted_from u head.contents)
  pub of_floor : All (λ m. m.thread < length floor.threads) (map (mark_by ByAbort q) (aborted_from u head.contents))

module _ (floor : Description) (me : Me Slot Knowledge) (q : QueueName) (side : Side) (u : ℕ) (look : Option Look)
    (sleepers : HasSleepersOut floor q me.0) (head : SleepQueue) (b : Board) (f : Finds floor me.0 b) where
  abbrev step : Step
  step = Aborts me.0.thread q side u

  abbrev j : ℕ
  j = chain_place floor q

  abbrev chain : List (QueueName × SleepQueue)
  chain = sleepers.chain

  abbrev ps : List Place
  ps = aborted_from u head.contents

  -- the state, what the thread knows and the values behind it
  abbrev n : State
  n = after_abort f.state me.0.thread q side u

  abbrev w : Knowledge
  w = seeing (step ∷ f.past) (view_off floor me.0 q u head look chain)

  abbrev content : ℕ → Slot
  content = put f.represents.content j (chain_off q u head chain)

  pub record LosesSleeper : Type 0 where
    pub own : OwnSteps me.0 w f.past (step ∷ []) f.state n
    pub low : j < slots_for floor
    pub list : list_of side (f.state.lists q) ≡ waiters side head.contents
    pub shelves : Shelves (slots_for floor) (latch_word b.words) (home_at b.homes)
        (put (λ x. (thread_in b.views x).out) me.0.thread w.out) content
    pub objects : RepresentsObjects floor content (objects_in n)
    pub told : Makes floor (step ∷ []) me.0 w → (off : TakenOff floor q side u look me (w, me.1)) × (off.head ≡ head)

  pub loses_sleeper : me.0.role ≡ OfThread → head_of q chain ≡ Some head
      → 0 < times_waiting u (waiters side head.contents)
      → look ≡ look_leaving q (without_waiter u (waiters side head.contents)) me.0.share.doing.last_look
      → FitAll floor f.state (step ∷ []) → LosesSleeper
  unfolding after_abort
  loses_sleeper was there stands look_is allowed =
      let c : Config = config_in floor in
      let s : State = f.state in
      let t : ℕ = me.0.thread in
      let g = allowed.0.fits.may in
      let lawful : Lawful c s = f.sound.facts.lawful in
      let which = sleep_chain_of floor q g.sleeps in
      let k : ℕ = which.0 in
      let in_chain : StandsIn floor (SleepChain k) q = which.1 in
      let at : slot_of floor (SleepChain k) ≡ Some j =
      subst (λ i. slot_of floor i ≡ Some j) in_chain (chain_at floor f.represents.sizes.sized.some_chains q) in
      let shows : RepresentsSleepChain floor k chain (objects_in s) =
      (f.fits.out.each (SleepChain k) j (SleepQueues chain) at
      (ap (found j) sleepers.last ∙ found_first j (SleepQueues chain) (rest me.0.out))).1 in
      let old : sleepers_in s q ≡ sleepers_of head.contents =
      subst (λ o. RepresentsSleepQueue o (sleepers_in s q)) there (shows.queue q in_chain) in
      let is : IsSleeper c s q side (sleeper s u) = record {
        sleeps = g.sleeps;
        balanced = balanced c s q lawful;
        there = g.stands;
        once = once c s u q lawful;
      } in
      let marks = marks_aborted (StandsIn floor (SleepChain k)) c s q side (sleeper s u) is in_chain chain shows.queue
      head there refl in
      let marked : map (mark_by ByAbort q) ps ≡ n.marked t = marks.0 ∙ sym (put_same s.marked t _) in
      let list : list_of side (s.lists q) ≡ waiters side head.contents =
      ap (λ (a : SleepColumns). list_of side a.lists) old in
      let looked : look ≡ look_leaving q (without_waiter u (list_of side (s.lists q))) me.0.share.doing.last_look =
      look_is ∙ ap (λ ws. look_leaving q (without_waiter u ws) me.0.share.doing.last_look) (sym list) in
      let own : OwnSteps me.0 w f.past (step ∷ []) s n = record {
        role = was;
        seen = refl;
        makers = one_own t step refl;
        seat = record { thread = refl; share = abort_own s me.0 f.fits.share q side u ps look w.out marked looked };
        others = λ x ne. abort_others s t x ne q side u;
        pose = f.fits.pose;
        other_poses = λ x ne p z. z;
      } in
      let r = f.represents in
      let chain_then : RepresentsSleepChain floor k (chain_aborted q u head chain) (objects_in n) =
      sleep_chain_shown floor k n (chain_aborted q u head chain)
      (names_aborted floor k q in_chain chain shows.names u head)
      (shows_aborted (StandsIn floor (SleepChain k)) c s q side (sleeper s u) is in_chain chain shows.queue head there n
      (abort_changes s t q side u) (head_of-without_itself q chain shows.names.distinct) refl) in
      let behind : IsSound floor (step ∷ f.past) n = sound_kept floor s (step ∷ []) allowed f.sound in
      record {
        own = own;
        low = place_low floor (SleepChain k) j at;
        list = list;
        shelves = shelf_changed (slots_for floor) (latch_word b.words) (home_at b.homes)
            (λ x. (thread_in b.views x).out) r.content r.shelves j t (SleepQueues chain) (chain_off q u head chain)
            (rest me.0.out)
            (own_out floor (step ∷ []) b me.0 w f was allowed own me.1 ∙ sleepers.last);
        objects = object_changed floor r.content (objects_in s) (objects_in n) (SleepChain k) j
            (chain_off q u head chain) at (abort_changes_only floor s t q side u k in_chain) chain_then r.objects;
        told = λ made. (
          record {
            sleepers = sleepers;
            head = head;
            there = there;
            stands = stands;
            can = waits_there side u head stands;
            is = refl {a = (w, me.1)};
            step = made;
            sleeps_there = g.sleeps;
            held = marks.1;
            of_floor = marked_low floor n t behind.facts.lawful f.fits.thread (map (mark_by ByAbort q) ps) marked;
          },
          refl,
        );
      }

-- 5. The step

-- the thread took one off a side on which another stays, where that is an sx lock's
pub record AbortedOff (floor : Description) (q : QueueName) (u : ℕ) (me behind : Me Slot Knowledge) : Type 0 where
  pub side : Side
  pub off : TakenOff floor q side u me.0.share.doing.last_look me behind
  pub keeps_word : KeepsWord q (without_waiter u (waiters side off.head.contents))

abbrev pub ToldAborted : Description → QueueName → ℕ → Me Slot Knowledge → ℕ → Me Slot Knowledge → Type 0
ToldAborted floor q u me found behind = AbortedOff floor q u me behind

module _ (floor : Description) (me : Me Slot Knowledge) (was : me.0.role ≡ OfThread) (q : QueueName) (side : Side)
    (u : ℕ) (sleepers : HasSleepersOut floor q me.0) (sleeps : IsSleeping q side u sleepers.chain) where
  abbrev v : Knowledge
  v = me.0

  abbrev place : ℕ
  place = chain_place floor q

  aborts : (b : Board) (f : Finds floor v b) → FitAll floor f.state (Aborts v.thread q side u ∷ [])
      → Steps floor me (spot (latch_line place)) (latch_word b.words place) (latch_word b.words place)
      (ToldAborted floor q u me) b
  unfolding after_abort
  aborts b f allowed =
      let s : State = f.state in
      let head : SleepQueue = sleeps.head in
      let look : Option Look = v.share.doing.last_look in
      let lost = loses_sleeper floor me q side u look sleepers head b f was sleeps.there sleeps.stands
      (look_stays q (without_waiter u (waiters side head.contents)) look sleeps.keeps_word) allowed in
      let behind : Knowledge =
      seeing (Aborts v.thread q side u ∷ f.past) (view_off floor v q u head look sleepers.chain) in
      let words = words_stay s q side u f.sound.facts.lawful.queues.bits_show_waiters allowed.0.fits.may.stands
      (subst (λ ws. KeepsWord q (without_waiter u ws)) (sym lost.list) sleeps.keeps_word) in
      let made = latch_seen_with floor (Aborts v.thread q side u ∷ []) b v behind f was allowed lost.own me.1 place
      (put f.represents.content place (chain_off q u head sleepers.chain)) lost.low
      (λ i. record (words_in s) { word = words i }) refl refl lost.shelves lost.objects in
      let told = lost.told made.1 in (
        behind,
        keeps,
        tt,
        made.0,
        record {
          side = side;
          off = told.0;
          keeps_word = subst (λ (h : SleepQueue). KeepsWord q (without_waiter u (waiters side h.contents))) (sym told.1)
              sleeps.keeps_word;
        },
      )

  pub abort_allowed : (slots id : ℕ) → MayMake floor v (λ s. Unit {0}) (Aborts v.thread q side u ∷ [])
      → Allows (FloorHolds floor) slots id me (spot (latch_line place)) (λ n. n) (ToldAborted floor q u me)
  abort_allowed slots id may =
      allows floor slots id me (spot (latch_line place)) (λ n. n) (ToldAborted floor q u me) was
      (λ b f small. aborts b f (may f.state f.fits tt))

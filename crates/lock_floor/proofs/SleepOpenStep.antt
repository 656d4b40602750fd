-- An open of a sleep queue: an exchange of an sx lock's word by which its last holder releases it and takes all
-- sleepers of a side off its sleep queue. The chain, which the thread has out behind its record, is then what the work
-- on it will make of it. The record stays.
use Rattle.lock_floor.proofs.Names
use Names.{ℕ, eqb, false, true, None, IfSome, IsSome, List, [], map, length, refl, sym, ap, All, Global, Box, Me, keeps}
use Names.{Allows, head_of, head_of-without_itself, gained_order-without, put_same, put_other, put_at_row, Config}
use Names.{NotHeld, hold_in, without_lock, lock_queue, dealt, list_of, word_of, side_woken, is_turnstile, QueueName}
use Names.{Side, RepresentsRecord, mark_of, record_in, sleepers_in, chain_woken, woken, apart_once, once_without}
use Names.{column_without, marks_woken, chain_woken_shown, balanced, open_sleep_changes, Lawful, State, gained_order}
use Names.{put, Step, Looks, OpensSleepQueue, Item, TurnstileChain, SleepChain, RecordOf, CellOf, ClassGraph}
use Names.{without_held, after_open_sleep, all_waiters, SleepQueue, Place, ThreadRec, config_in, Description, Slot}
use Names.{SleepQueues, spot, lock_line, lock_word, Board, RepresentsSleepChain, RepresentsShare, StandsIn, objects_in}
use Names.{FloorHolds, ShareColumns, columns_of, share_in, IsSound, MayMake, Makes, Knowledge, OfThread, seeing, Finds}
use Names.{Steps, exchange_allows, OwnSteps, SaySame, one_own, sound_kept, MayOpenSleepers, opened_sleepers}
use Names.{sleepers_opened, HasSleeperOut, counts, chain_place}
use Rattle.std.proofs.Common.{◌≡◌, ◌≢◌, ◌<◌, ◌%◌, ◌∷◌, ◌∙◌}
use prog.Atomic.{either}
use Rattle.lock_model.specs.Words as words
use Rattle.lock_floor.proofs.BothChanged.{record_says, chain_says, both_made}
use Rattle.lock_floor.proofs.Looking.{Looked, looks, found_word}
use Rattle.lock_floor.proofs.OpenStep.{marked_low}
use Rattle.lock_floor.proofs.SleepChanges.{turnstiles_same, sleepers_same, names_woken, somebody_there, sleep_chain_shown}
use Rattle.lock_floor.proofs.SleepEnterStep.{stands_asleep}

-- 1. The shares behind it

open_own : (floor : Description) (s : State) (v : Knowledge) → RepresentsShare v.share s v.thread → (c : Config) (l : ℕ)
    (side : Side) (both : HasSleeperOut floor (lock_queue l) v)
    → map (mark_of (lock_queue l)) (sleepers_opened floor l side v both)
    ≡ (after_open_sleep c s v.thread l).marked v.thread
    → RepresentsShare (opened_sleepers floor l side v both).share (after_open_sleep c s v.thread l) v.thread
unfolding after_open_sleep
open_own floor s v fit c l side both marks =
    let its : columns_of v.share ≡ share_in s v.thread = fit.columns in
    let t : ℕ = v.thread in
    let held : (k : ℕ) → hold_in v.share.held k ≡ s.held t k = λ k. ap (λ (x : ShareColumns). x.held k) its in
    let listed : gained_order (without_lock l v.share.held) ≡ put s.held_locks t (without_held l (s.held_locks t)) t =
    sym (gained_order-without l v.share.held (apart_once v.share.held fit.held_once))
    ∙ ap (λ (x : ShareColumns). without_held l x.held_locks) its ∙ sym (put_same s.held_locks t _) in
    record {
      columns = λ i. record (its i) {
        held = λ k. column_without s.held t l v.share.held fit.held_once held k i;
        held_locks = listed i;
        doing = record (its i).doing { marked = marks i; last_look = sym (put_same s.last_look t None) i };
      };
      held_once = once_without l v.share.held fit.held_once;
    }

open_others : (s : State) (t u : ℕ) → u ≢ t → (c : Config) (l : ℕ)
    → share_in (after_open_sleep c s t l) u ≡ share_in s u
unfolding after_open_sleep
open_others s t u other c l =
    let ne : t ≡ u → ⊥ = λ q. other (sym q) in
    let held_locks_is : (after_open_sleep c s t l).held_locks u ≡ s.held_locks u = put_other s.held_locks t _ u ne in
    let marked_is : (after_open_sleep c s t l).marked u ≡ s.marked u = put_other s.marked t _ u ne in
    λ i. record (share_in s u) {
      held = put_at_row s.held t l NotHeld u ne i;
      held_locks = held_locks_is i;
      doing = record (share_in s u).doing { marked = marked_is i; last_look = put_other s.last_look t None u ne i };
    }

-- 2. What the columns say behind it

module _ (floor : Description) (s : State) (t l : ℕ) (sleeps : is_turnstile ((config_in floor).kind l) ≡ false) where
  abbrev c : Config
  c = config_in floor

  abbrev n : State
  n = after_open_sleep c s t l

  abbrev q : QueueName
  q = lock_queue l

  abbrev k : ℕ
  k = l % floor.chains

  abbrev its_side : Side
  its_side = side_woken (c.kind l) (s.word l)

  says_same : (i : Item) → i ≢ RecordOf t → i ≢ SleepChain k → SaySame floor (objects_in s) (objects_in n) i
  unfolding after_open_sleep
  says_same (TurnstileChain m) no_record no_chain = turnstiles_same floor k q (stands_asleep floor l sleeps) s n
      (woken true its_side (sleepers_in s q)) (open_sleep_changes s t l c) refl refl m
  says_same (SleepChain m) no_record no_chain = sleepers_same floor k q (stands_asleep floor l sleeps) s n
      (woken true its_side (sleepers_in s q)) (open_sleep_changes s t l c) m no_chain
  says_same (RecordOf u) no_record no_chain = refl
  says_same (CellOf m key) no_record no_chain = refl
  says_same ClassGraph no_record no_chain = refl

  record_shown : (b : Box ThreadRec Global) → RepresentsRecord b.value (record_in s t)
      → RepresentsRecord b.value (record_in n t)
  unfolding after_open_sleep
  record_shown b h = assumption h

  chain_shown : Lawful c s → (side : Side) → side ≡ its_side → (chain : List (QueueName × SleepQueue))
      → RepresentsSleepChain floor k chain (objects_in s)
      → RepresentsSleepChain floor k (chain_woken q true side (head_of q chain) chain) (objects_in n)
  chain_shown lawful side is chain shows =
      sleep_chain_shown floor k n (chain_woken q true side (head_of q chain) chain)
      (names_woken floor k q (stands_asleep floor l sleeps) chain shows.names true side (head_of q chain))
      (chain_woken_shown (StandsIn floor (SleepChain k)) chain (sleepers_in s) (sleepers_in n) q
      (woken true its_side (sleepers_in s q)) (open_sleep_changes s t l c) shows.queue (balanced c s q lawful)
      (stands_asleep floor l sleeps) (head_of-without_itself q chain shows.names.distinct) true side (head_of q chain)
      refl (ap (λ d. woken true d (sleepers_in s q)) (sym is)))

-- 3. The step

-- what it tells where the seen word was found: the thread released the lock, and the chain is such that the work on it
-- can be done
pub record OpensWord (floor : Description) (l : ℕ) (side : Side) (seen : ℕ) (me behind : Me Slot Knowledge) : Type 0
  where
    pub may : MayOpenSleepers floor l (word_of seen) me.0
    pub can : IfSome (head_of (lock_queue l) may.both.chain) (λ h. all_waiters h.contents ≢ [])
    pub is : behind ≡ (seeing behind.0.seen (opened_sleepers floor l side me.0 may.both), me.1)
    pub step : Makes floor (OpensSleepQueue me.0.thread l may.mode ∷ []) me.0 behind.0
    pub held : All (λ p. IsSome p.object) (sleepers_opened floor l side me.0 may.both)
    pub of_floor : All (λ m. m.thread < length floor.threads)
        (map (mark_of (lock_queue l)) (sleepers_opened floor l side me.0 may.both))

abbrev pub ToldOpened : Description → ℕ → Side → ℕ → Me Slot Knowledge → ℕ → Me Slot Knowledge → Type 0
ToldOpened floor l side seen me found behind =
    (found ≡ seen → OpensWord floor l side seen me behind) × (found ≢ seen → Looked floor l me found behind)

module _ (floor : Description) (me : Me Slot Knowledge) (was : me.0.role ≡ OfThread) (slots id seen new l : ℕ)
    (side : Side) (low : l < length floor.locks) (may : MayOpenSleepers floor l (word_of seen) me.0)
    (its : side ≡ side_woken ((config_in floor).kind l) (word_of seen)) where
  abbrev v : Knowledge
  v = me.0

  abbrev its_queue : QueueName
  its_queue = lock_queue l

  abbrev m : ℕ
  m = l % floor.chains

  abbrev j : ℕ
  j = chain_place floor its_queue

  abbrev box : Box ThreadRec Global
  box = may.both.box

  abbrev chain : List (QueueName × SleepQueue)
  chain = may.both.chain

  opens : word_of new ≡ words.opened ((config_in floor).kind l) (word_of seen)
      → (b : Board) (f : Finds floor v b) → lock_word b.words l ≡ seen
      → Steps floor me (spot (lock_line l)) (lock_word b.words l) new (ToldOpened floor l side seen me) b
  unfolding after_open_sleep
  opens says b f same =
      let c : Config = config_in floor in
      let s : State = f.state in
      let t : ℕ = v.thread in
      let now : State = after_open_sleep c s t l in
      let step : Step = OpensSleepQueue t l may.mode in
      let its_word : s.word l ≡ word_of seen = sym (found_word floor b v f l low).0 ∙ ap word_of same in
      let allowed = may.may s f.fits its_word in
      let g = allowed.0.fits.may in
      let lawful : Lawful c s = f.sound.facts.lawful in
      let side_is : side ≡ side_woken (c.kind l) (s.word l) = its ∙ ap (side_woken (c.kind l)) (sym its_word) in
      let there = stands_asleep floor l g.sleeps in
      let rec : RepresentsRecord box.value (record_in s t) = record_says floor b v f its_queue (SleepChain m) there box
      (SleepQueues chain) may.both.out in
      let shows : RepresentsSleepChain floor m chain (objects_in s) =
      chain_says floor b v f its_queue (SleepChain m) there box (SleepQueues chain) may.both.out in
      let ps : List Place = sleepers_opened floor l side v may.both in
      let marks = marks_woken its_queue true side (head_of its_queue chain) (sleepers_in s its_queue)
      (balanced c s its_queue lawful) (shows.queue its_queue there) in
      let marked : map (mark_of its_queue) ps ≡ now.marked t = marks.0
      ∙ (λ i. dealt its_queue (list_of (side_is i) (s.lists its_queue)) (s.free_list its_queue) (s.head its_queue))
      ∙ sym (put_same s.marked t _) in
      let second : Slot = SleepQueues (chain_woken its_queue true side (head_of its_queue chain) chain) in
      let w : Knowledge = seeing (step ∷ f.past) (opened_sleepers floor l side v may.both) in
      let own : OwnSteps v w f.past (step ∷ []) s now = record {
        role = was;
        seen = refl;
        makers = one_own t step refl;
        seat = record { thread = refl; share = open_own floor s v f.fits.share c l side may.both marked };
        others = λ u ne. open_others s t u ne c l;
        pose = f.fits.pose;
        other_poses = λ u ne p z. z;
      } in
      let says_now : word_of new ≡ words.opened (c.kind l) (s.word l) = says
      ∙ ap (words.opened (c.kind l)) (sym its_word) in
      let made = both_made floor b v f its_queue (SleepChain m) there box (SleepQueues chain) may.both.out step w was
      allowed own me.1 box second refl l new (words.opened (c.kind l) (s.word l)) low says_now refl refl refl
      (says_same floor s t l g.sleeps) refl (record_shown floor s t l g.sleeps box rec)
      (chain_shown floor s t l g.sleeps lawful side side_is chain shows) in
      let behind : IsSound floor (step ∷ f.past) now = sound_kept floor s (step ∷ []) allowed f.sound in
      let told : OpensWord floor l side seen me (w, me.1) = record {
        may = may;
        can = somebody_there floor s its_queue lawful (head_of its_queue chain) (shows.queue its_queue there);
        is = refl {a = (w, me.1)};
        step = made.1;
        held = marks.1;
        of_floor = marked_low floor now t behind.facts.lawful f.fits.thread (map (mark_of its_queue) ps) marked;
      } in (
        w,
        keeps,
        tt,
        made.0,
        (λ e. told, λ ne. absurd {A = Looked floor l me (lock_word b.words l) (w, me.1)} (ne same)),
      )

  pub open_allowed : word_of new ≡ words.opened ((config_in floor).kind l) (word_of seen)
      → MayMake floor v (λ s. Unit {0}) (Looks v.thread l (counts v l) ∷ [])
      → Allows (FloorHolds floor) slots id me (spot (lock_line l)) (λ n. either (eqb n seen) new n)
      (ToldOpened floor l side seen me)
  open_allowed says may_look =
      exchange_allows floor slots id me (spot (lock_line l)) seen new (ToldOpened floor l side seen me) was (opens says)
      (λ b f ne small. let look = looks floor me l was low b f (may_look f.state f.fits tt) in
      (look.0, look.1, look.2, look.3, (λ e. absurd (ne e), λ _. look.4)))

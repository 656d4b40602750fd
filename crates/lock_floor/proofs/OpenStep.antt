-- An open: an exchange of a lock's word by which its last holder releases it and takes those of a side off its
-- turnstile. The thread's record and the chain of the lock's queue, which it has out, are then what the work on them
-- will make of them: what was lent goes home with it.
use Rattle.lock_floor.proofs.Names
use Names.{ℕ, zero, suc, eqb, eq-eqb, Bool, true, false, cond, Option, Some, None, List, [], length, get_or, refl, sym}
use Names.{ap, subst, arith, All, IsSomeAnd, with_value, Global, Box, Me, keeps, Allows, head_of, without, put_same}
use Names.{put_other, put_at_other, put_at_row, put_queue_other, is_queue_same, gained_order-without, times_named}
use Names.{Config, is_empty, NotHeld, hold_in, without_lock, Mark, lock_queue, word_of, side_woken, is_turnstile, Mode}
use Names.{QueueName, Side, RepresentsRecord, RepresentsQueue, RepresentsHead, record_in, queue_in, CanOpen, CanRelease}
use Names.{record_opened, chain_opened, left_open, woken_of, is_queue-other, apart_once, once_without, column_without}
use Names.{can_release, can_open_there, record_shown, marks_shown, stays, gone, Lawful, OnlyThreadsStand, times_marked}
use Names.{State, gained_order, put, Step, Looks, Opens, Item, TurnstileChain, SleepChain, RecordOf, CellOf, ClassGraph}
use Names.{without_held, after_open, ThreadRec, Turnstile, config_in, Description, Slot, Turnstiles, spot, lock_line}
use Names.{lock_word, Board, RepresentsTurnstiles, RepresentsShare, objects_in, sleepers, FloorHolds, ShareColumns}
use Names.{columns_of, share_in, found, IsSound, MayMake, Makes, Knowledge, OfThread, seeing, Finds, Steps}
use Names.{exchange_allows, OwnSteps, SaySame, one_own, sound_kept, HasBothOut, out_opened, marks_opened, opened_up}
use Names.{counts}
use Rattle.std.proofs.Common.{◌≡◌, ◌≢◌, ◌<◌, ◌≤◌, ◌%◌, ◌∷◌, ◌∙◌}
use Rattle.std.specs.Prelude.{IsSome}
use prog.Atomic.{either}
use Rattle.lock_model.specs.Words as words
use Rattle.lock_objects.proofs.Opens.{others}
use Rattle.turnstile_core.specs.Changes.{all_waiters}
use Rattle.lock_floor.proofs.BothChanged.{record_says, chain_says, both_made}
use Rattle.lock_floor.proofs.ChainChanges.{chain_of_lock, its_own, turnstiles_same, sleepers_same, chain_placed, chain_gone}
use Rattle.lock_floor.proofs.Looking.{Looked, looks, found_word}

-- 1. The shares behind it

module _ (s : State) (v : Knowledge) (fit : RepresentsShare v.share s v.thread) where
  abbrev its : columns_of v.share ≡ share_in s v.thread
  its = fit.columns

  open_own : (c : Config) (l : ℕ) (ms : List Mark) (out : List (ℕ × Slot))
      → ms ≡ (after_open c s v.thread l).marked v.thread
      → RepresentsShare (opened_up v l ms out).share (after_open c s v.thread l) v.thread
  unfolding after_open
  open_own c l ms out marks =
      let t : ℕ = v.thread in
      let held : (k : ℕ) → hold_in v.share.held k ≡ s.held t k = λ k. ap (λ (x : ShareColumns). x.held k) its in
      let listed : gained_order (without_lock l v.share.held) ≡ put s.held_locks t (without_held l (s.held_locks t)) t =
      sym (gained_order-without l v.share.held (apart_once v.share.held fit.held_once))
      ∙ ap (λ (x : ShareColumns). without_held l x.held_locks) its ∙ sym (put_same s.held_locks t _) in
      record {
        columns = λ i. record (its i) {
          held = λ k. column_without s.held t l v.share.held fit.held_once held k i;
          held_locks = listed i;
          doing = record (its i).doing { marked = marks i; last_look = sym (put_same s.last_look t None) i };
        };
        held_once = once_without l v.share.held fit.held_once;
      }

open_others : (s : State) (t u : ℕ) → u ≢ t → (c : Config) (l : ℕ) → share_in (after_open c s t l) u ≡ share_in s u
unfolding after_open
open_others s t u other c l =
    let ne : t ≡ u → ⊥ = λ q. other (sym q) in
    let held_locks_is : (after_open c s t l).held_locks u ≡ s.held_locks u = put_other s.held_locks t _ u ne in
    let marked_is : (after_open c s t l).marked u ≡ s.marked u = put_other s.marked t _ u ne in
    λ i. record (share_in s u) {
      held = put_at_row s.held t l NotHeld u ne i;
      held_locks = held_locks_is i;
      doing = record (share_in s u).doing { marked = marked_is i; last_look = put_other s.last_look t None u ne i };
    }

-- 2. The chain of the lock's queue

module _ (floor : Description) (l : ℕ) (turnstile : is_turnstile ((config_in floor).kind l) ≡ true) (s : State) (t : ℕ)
  where
    abbrev c : Config
    c = config_in floor

    abbrev n : State
    n = after_open c s t l

    sleepers_stay : (q : QueueName) → q ≢ lock_queue l → sleepers (queue_in n q) ≡ sleepers (queue_in s q)
    unfolding after_open
    sleepers_stay q ne =
        let other = is_queue-other (lock_queue l) q (λ e. ne (sym e)) in
        let head_is : n.head q ≡ s.head q = put_queue_other s.head (lock_queue l) _ q other in
        let lists_are : n.lists q ≡ s.lists q = put_queue_other s.lists (lock_queue l) _ q other in
        let free_list_is : n.free_list q ≡ s.free_list q = put_queue_other s.free_list (lock_queue l) _ q other in
        λ i. record { head = head_is i; lists = lists_are i; free_list = free_list_is i }

    record_other : (u : ℕ) → u ≢ t → record_in n u ≡ record_in s u
    unfolding after_open
    record_other u ne =
        let effective_is : n.effective u ≡ s.effective u = put_other s.effective t _ u (λ e. ne (sym e)) in
        λ i. record (record_in s u) {
          loan = λ k. put_at_other s.loan t l None u k (λ e. ne (sym e)) i;
          effective = effective_is i;
        }

    module _ (can : CanRelease c s t l) where
      says_same : (k : Item) → k ≢ RecordOf t → k ≢ chain_of_lock floor l turnstile
          → SaySame floor (objects_in s) (objects_in n) k
      unfolding after_open
      says_same (TurnstileChain k) no_record no_chain =
          turnstiles_same floor l turnstile s n (others c s t l can) k no_chain
      says_same (SleepChain k) no_record no_chain = sleepers_same floor l turnstile s n sleepers_stay k
      says_same (RecordOf u) no_record no_chain = record_other u (λ e. no_record (ap RecordOf e))
      says_same (CellOf k key) no_record no_chain = refl
      says_same ClassGraph no_record no_chain = refl

      module _ (box : Box ThreadRec Global) (rec : RepresentsRecord box.value (record_in s t)) (side : Side)
          (side_is : side ≡ side_woken (c.kind l) (s.word l)) (h : Turnstile) (chain : List (QueueName × Turnstile))
          (shows : RepresentsTurnstiles floor (l % floor.chains) chain (objects_in s))
          (there : head_of (lock_queue l) chain ≡ Some h) where
        its_head : RepresentsHead h.contents (queue_in s (lock_queue l)) s.loan_home
        its_head = subst (λ o. RepresentsQueue o (queue_in s (lock_queue l)) s.loan_home) there
            (shows.queue (lock_queue l) (its_own floor l turnstile))

        abbrev left : Turnstile
        left = record h { contents = left_open l side box.value h.contents }

        abbrev chain_by : Bool → List (QueueName × Turnstile)
        chain_by b = cond b (without (lock_queue l) chain) ((lock_queue l, left) ∷ without (lock_queue l) chain)

        shown_by : (b : Bool) → is_empty (all_waiters left.contents) ≡ b
            → RepresentsTurnstiles floor (l % floor.chains) (chain_by b) (objects_in n)
        shown_by true nobody =
            chain_gone floor l turnstile s n (others c s t l can) chain shows
            (gone c s t l can rec side side_is h its_head nobody)
        shown_by false some_wait =
            chain_placed floor l turnstile s n (others c s t l can) chain shows left
            (stays c s t l can rec side side_is h its_head some_wait)

        chain_shown : RepresentsTurnstiles floor (l % floor.chains) (chain_opened l side box.value h chain)
            (objects_in n)
        chain_shown = shown_by (is_empty (all_waiters left.contents)) refl

-- 3. Those who are marked

-- each of a marked list is counted there
counted : (ms : List Mark) (i : ℕ) (d : Mark) → i < length ms
    → 1 ≤ times_marked (get_or ms i d).thread (get_or ms i d).queue ms
counted [] i d low = absurd (omega (arith, low))
counted (m ∷ ms) zero d low = rw (is_queue_same m.queue, eq-eqb m.thread m.thread refl) (omega arith)
counted (m ∷ ms) (suc i) d low = let more = counted ms i d (omega (arith, low)) in omega (arith, more)

-- and is a thread of the floor
pub marked_low : (floor : Description) (n : State) (t : ℕ) → Lawful (config_in floor) n → t < length floor.threads
    → (ms : List Mark) → ms ≡ n.marked t → All (λ m. m.thread < length floor.threads) ms
unfolding OnlyThreadsStand
marked_low floor n t lawful low ms is i d inside =
    let m : Mark = get_or ms i d in
    let there : 1 ≤ times_marked m.thread m.queue (n.marked t) =
    subst (λ ks. 1 ≤ times_marked m.thread m.queue ks) is (counted ms i d inside) in
    lawful.waits.only_threads_stand m.thread m.queue
    (times_named (config_in floor) n m.thread t m.queue lawful low there)

-- 4. The step

-- what it tells where the seen word was found: the thread released the lock, and its record and the chain are such
-- that the work on them can be done
pub record OpensWord (floor : Description) (l : ℕ) (side : Side) (me behind : Me Slot Knowledge) : Type 0 where
  pub mode : Mode
  pub both : HasBothOut floor l me.0
  pub turnstile : Turnstile
  pub there : head_of (lock_queue l) both.chain ≡ Some turnstile
  pub can : CanOpen l side both.box.value turnstile
  pub is : behind ≡ (
    seeing behind.0.seen
        (opened_up me.0 l (marks_opened l side both.box turnstile)
        (out_opened floor me.0.thread l side both.box both.chain turnstile)),
    me.1,
  )
  pub step : Makes floor (Opens me.0.thread l mode ∷ []) me.0 behind.0
  pub held : All (λ p. IsSome p.object) (woken_of l side both.box.value turnstile.contents)
  pub of_floor : All (λ m. m.thread < length floor.threads) (marks_opened l side both.box turnstile)

abbrev pub Opened : Description → ℕ → Side → ℕ → Me Slot Knowledge → ℕ → Me Slot Knowledge → Type 0
Opened floor l side seen me found behind =
    (found ≡ seen → OpensWord floor l side me behind) × (found ≢ seen → Looked floor l me found behind)

-- what is found in a chain of which something holds
there_is : {A : Type 0} (o : Option A) (P : A → Type 0) → IsSomeAnd o P → (x : A) × (o ≡ Some x) × P x
there_is e P h = grind arith

module _ (floor : Description) (me : Me Slot Knowledge) (was : me.0.role ≡ OfThread) (slots id seen new : ℕ) (l : ℕ)
    (mode : Mode) (side : Side) (low : l < length floor.locks) (both : HasBothOut floor l me.0)
    (turnstile : is_turnstile ((config_in floor).kind l) ≡ true)
    (its_side : side ≡ side_woken ((config_in floor).kind l) (word_of seen)) where
  abbrev v : Knowledge
  v = me.0

  abbrev box : Box ThreadRec Global
  box = both.box

  abbrev chain : List (QueueName × Turnstile)
  chain = both.chain

  opens : word_of new ≡ words.opened ((config_in floor).kind l) (word_of seen)
      → MayMake floor v (λ s. s.word l ≡ word_of seen) (Opens v.thread l mode ∷ [])
      → (b : Board) (f : Finds floor v b) → lock_word b.words l ≡ seen
      → Steps floor me (spot (lock_line l)) (lock_word b.words l) new (Opened floor l side seen me) b
  unfolding after_open
  opens says may b f same =
      let c : Config = config_in floor in
      let s : State = f.state in
      let t : ℕ = v.thread in
      let n : State = after_open c s t l in
      let step : Step = Opens t l mode in
      let its_word : s.word l ≡ word_of seen = sym (found_word floor b v f l low).0 ∙ ap word_of same in
      let allowed = may s f.fits its_word in
      let g = allowed.0.fits.may in
      let lawful : Lawful c s = f.sound.facts.lawful in
      let side_is : side ≡ side_woken (c.kind l) (s.word l) = its_side ∙ ap (side_woken (c.kind l)) (sym its_word) in
      let rec : RepresentsRecord box.value (record_in s t) =
      record_says floor b v f (lock_queue l) (chain_of_lock floor l turnstile) (its_own floor l turnstile) box
      (Turnstiles chain) both.out in
      let shows : RepresentsTurnstiles floor (l % floor.chains) chain (objects_in s) =
      chain_says floor b v f (lock_queue l) (chain_of_lock floor l turnstile) (its_own floor l turnstile) box
      (Turnstiles chain) both.out in
      let can = can_release c s t l mode lawful g in
      let its = there_is (head_of (lock_queue l) chain) (CanOpen l (side_woken (c.kind l) (s.word l)) box.value)
      (can_open_there c s t l mode lawful g rec (head_of (lock_queue l) chain)
      (shows.queue (lock_queue l) (its_own floor l turnstile))) in
      let h : Turnstile = its.0 in
      let old : RepresentsHead h.contents (queue_in s (lock_queue l)) s.loan_home =
      subst (λ o. RepresentsQueue o (queue_in s (lock_queue l)) s.loan_home) its.1
      (shows.queue (lock_queue l) (its_own floor l turnstile)) in
      let after : List (ℕ × Slot) = out_opened floor t l side box chain h in
      let ms : List Mark = marks_opened l side box h in
      let w : Knowledge = seeing (step ∷ f.past) (opened_up v l ms after) in
      let shown = marks_shown c s t l can rec side side_is h old {ps = woken_of l side box.value h.contents} refl in
      let own : OwnSteps v w f.past (step ∷ []) s n = record {
        role = was;
        seen = refl;
        makers = one_own t step refl;
        seat = record { thread = refl; share = open_own s v f.fits.share c l ms after shown.0 };
        others = λ u ne. open_others s t u ne c l;
        pose = f.fits.pose;
        other_poses = λ u ne p z. z;
      } in
      let says_now : word_of new ≡ words.opened (c.kind l) (s.word l) = says
      ∙ ap (words.opened (c.kind l)) (sym its_word) in
      let made = both_made floor b v f (lock_queue l) (chain_of_lock floor l turnstile) (its_own floor l turnstile) box
      (Turnstiles chain) both.out step w was allowed own me.1 (with_value box (record_opened l box.value))
      (Turnstiles (chain_opened l side box.value h chain)) refl l new (words.opened (c.kind l) (s.word l)) low
      says_now refl refl refl (says_same floor l turnstile s t can) refl (record_shown can rec)
      (chain_shown floor l turnstile s t can box rec side side_is h chain shows its.1) in
      let behind : IsSound floor (step ∷ f.past) n = sound_kept floor s (step ∷ []) allowed f.sound in
      let told : OpensWord floor l side me (w, me.1) = record {
        mode = mode;
        both = both;
        turnstile = h;
        there = its.1;
        can = subst (λ k. CanOpen l k box.value h) (sym side_is) its.2;
        is = refl {a = (w, me.1)};
        step = made.1;
        held = shown.1;
        of_floor = marked_low floor n t behind.facts.lawful f.fits.thread ms shown.0;
      } in (
        w,
        keeps,
        tt,
        made.0,
        (λ e. told, λ ne. absurd {A = Looked floor l me (lock_word b.words l) (w, me.1)} (ne same)),
      )

  pub open_allowed : word_of new ≡ words.opened ((config_in floor).kind l) (word_of seen)
      → MayMake floor v (λ s. s.word l ≡ word_of seen) (Opens v.thread l mode ∷ [])
      → MayMake floor v (λ s. Unit {0}) (Looks v.thread l (counts v l) ∷ [])
      → Allows (FloorHolds floor) slots id me (spot (lock_line l)) (λ n. either (eqb n seen) new n)
      (Opened floor l side seen me)
  open_allowed says may may_look =
      exchange_allows floor slots id me (spot (lock_line l)) seen new (Opened floor l side seen me) was (opens says may)
      (λ b f ne small. let look = looks floor me l was low b f (may_look f.state f.fits tt) in
      (look.0, look.1, look.2, look.3, (λ e. absurd (ne e), λ _. look.4)))

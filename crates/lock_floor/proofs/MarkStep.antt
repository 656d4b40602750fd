-- A mark: the first of those whom a thread took off a queue has its object back, and its wait word says that it was
-- woken. The work on its record is done first, where nobody else can see it.
use Rattle.lock_floor.proofs.Names
use Names.{ℕ, Bool, true, false, cond, Option, Some, None, List, [], length, refl, sym, ap, subst, inl, inr, with_value}
use Names.{slice_index, cases_eq, same_Some, Me, keeps, rest, Allows, put_same, put_other, marked_named, marked_thread}
use Names.{Config, Mark, Cause, is_turnstile_queue, QueueName, RecordColumns, RepresentsRecord, record_in}
use Names.{StandingIsQueued, Lawful, State, Wait, Running, Queued, Woken, put, Step, Marks, RecordOf, after_mark}
use Names.{phase_marked, RecordSeen, config_in, Description, Slot, Record, spot, wait_line, slots_for, slot_of}
use Names.{latch_word, home_at, Board, IsPosed, RepresentsObjects, RepresentsShare, objects_in, thread_in, wait_number}
use Names.{FloorHolds, ShareColumns, columns_of, share_in, Shelves, found, FitAll, MayMake, Makes, Knowledge, OfThread}
use Names.{Pose, Runs, StandsOn, seeing, Finds, Steps, allows, wait_made, own_out, OwnSteps, one_own, found_first}
use Names.{shelf_changed, marked_first, record_marked, out_marked, HasFirstOut, arith}
use Rattle.std.proofs.Common.{◌≡◌, ◌≢◌, ◌<◌, ◌∷◌, ◌∙◌}
use Rattle.floor_table.specs.Views.{IsReady}
use Rattle.lock_floor.proofs.Changing.{object_changed, record_changes}
use Rattle.lock_floor.proofs.Marked.{head_or, tail_of}
use Rattle.lock_floor.proofs.Taking.{record_at}

-- 1. The shares behind it

module _ (s : State) (v : Knowledge) (fit : RepresentsShare v.share s v.thread) where
  abbrev its : columns_of v.share ≡ share_in s v.thread
  its = fit.columns

  pub mark_own : (c : Config) (m : Mark) (ms : List Mark) (out : List (ℕ × Slot))
      → RepresentsShare (marked_first v m ms out).share (after_mark c s v.thread m ms) v.thread
  unfolding after_mark
  mark_own c m ms out = record {
    columns = λ i. record (its i) {
      doing = record (its i).doing {
        marked = sym (put_same s.marked v.thread ms) i;
        counting = sym (put_same s.counting v.thread None) i;
        phase = (ap (λ (x : ShareColumns). phase_marked v.thread m.thread x.doing.phase) its
            ∙ sym (put_same s.phase v.thread (phase_marked v.thread m.thread (s.phase v.thread)))) i;
      };
    };
    held_once = fit.held_once;
  }

pub mark_others : (s : State) (t u : ℕ) → u ≢ t → (c : Config) (m : Mark) (ms : List Mark)
    → share_in (after_mark c s t m ms) u ≡ share_in s u
unfolding after_mark
mark_others s t u other c m ms =
    let ne : t ≡ u → ⊥ = λ q. other (sym q) in
    let phase_is : (after_mark c s t m ms).phase u ≡ s.phase u = put_other s.phase t _ u ne in
    λ i. record (share_in s u) {
      doing = record (share_in s u).doing {
        marked = put_other s.marked t ms u ne i;
        counting = put_other s.counting t None u ne i;
        phase = phase_is i;
      };
    }

-- 2. Where seats know that their threads are

-- what a thread that stands on a queue knows stays so where it is woken
woken_pose : (q : QueueName) (cause : Cause) (p : Pose) (wait : Wait) (on : Option QueueName) → wait ≡ Queued
    → on ≡ Some q → IsPosed p wait on → IsPosed p (Woken q cause) None
woken_pose q cause g wait on e f z = grind arith

-- who stands on a queue knows it
pub standing_pose : (q : QueueName) (p : Pose) (wait : Wait) (on : Option QueueName) → wait ≡ Queued → on ≡ Some q
    → IsPosed p wait on → p ≡ StandsOn q
standing_pose q g wait on e f z = grind arith

-- A mark changes what no seat knows of where its thread is, neither that of the thread that is woken nor that of
-- another.
pub poses_stay : (c : Config) (s : State) (t : ℕ) (m : Mark) (ms : List Mark) → s.wait m.thread ≡ Queued
    → s.blocked_on m.thread ≡ Some m.queue → (u : ℕ) (p : Pose) → IsPosed p (s.wait u) (s.blocked_on u)
    → IsPosed p ((after_mark c s t m ms).wait u) ((after_mark c s t m ms).blocked_on u)
unfolding after_mark
poses_stay c s t m ms queued named u p z =
    elim (cases_eq m.thread u) [
      | inl e ↦ subst (λ k. IsPosed p (put s.wait m.thread (Woken m.queue m.cause) k)
          (put s.blocked_on m.thread None k)) e
          (subst (λ (w : Wait × Option QueueName). IsPosed p w.0 w.1)
          (λ i. (
            sym (put_same s.wait m.thread (Woken m.queue m.cause)) i,
            sym (put_same s.blocked_on m.thread None)
                i,
          ))
          (woken_pose m.queue m.cause p (s.wait m.thread) (s.blocked_on m.thread) queued named
          (subst (λ k. IsPosed p (s.wait k) (s.blocked_on k)) (sym e) z)))
      | inr ne ↦ subst (λ (w : Wait × Option QueueName). IsPosed p w.0 w.1)
          (λ i. (
            sym (put_other s.wait m.thread (Woken m.queue m.cause) u ne) i,
            sym
                (put_other s.blocked_on m.thread None u ne) i,
          )) z
    ]

-- 3. The records behind it

module _ (c : Config) (s : State) (t : ℕ) (m : Mark) (ms : List Mark) where
  abbrev n : State
  n = after_mark c s t m ms

  -- by whether the queue is a turnstile
  abbrev turnstile_by : Bool → ℕ → Option ℕ
  turnstile_by b = cond b (put s.turnstile m.thread (Some m.object)) s.turnstile

  abbrev sleep_queue_by : Bool → ℕ → Option ℕ
  sleep_queue_by b = cond b s.sleep_queue (put s.sleep_queue m.thread (Some m.object))

  abbrev record_by : Bool → RecordSeen → RecordSeen
  record_by b r = cond b (record r { turnstile = Some m.object; on = None })
      (record r { sleep_queue = Some m.object; on = None })

  abbrev columns_by : Bool → ℕ → RecordColumns
  columns_by b u = record (record_in s u) {
    turnstile = turnstile_by b u;
    sleep_queue = sleep_queue_by b u;
    blocked_on = put s.blocked_on m.thread None u;
  }

  its_record_by : (b : Bool) (r : RecordSeen) → RepresentsRecord r (record_in s m.thread)
      → RepresentsRecord (record_by b r) (columns_by b m.thread)
  its_record_by true r h = record {
    columns = λ i. record (h.columns i) {
      turnstile = sym (put_same s.turnstile m.thread (Some m.object)) i;
      blocked_on = sym (put_same s.blocked_on m.thread None) i;
    };
    one_loan_each = h.one_loan_each;
  }
  its_record_by false r h = record {
    columns = λ i. record (h.columns i) {
      sleep_queue = sym (put_same s.sleep_queue m.thread (Some m.object)) i;
      blocked_on = sym (put_same s.blocked_on m.thread None) i;
    };
    one_loan_each = h.one_loan_each;
  }

  its_record : (r : RecordSeen) → RepresentsRecord r (record_in s m.thread)
      → RepresentsRecord (record_marked c m r) (record_in n m.thread)
  unfolding after_mark
  its_record = its_record_by (is_turnstile_queue c m.queue)

  stays_by : (b : Bool) (u : ℕ) → m.thread ≢ u → columns_by b u ≡ record_in s u
  stays_by true u ne = λ i. record (record_in s u) {
    turnstile = put_other s.turnstile m.thread (Some m.object) u ne i;
    blocked_on = put_other s.blocked_on m.thread None u ne i;
  }
  stays_by false u ne = λ i. record (record_in s u) {
    sleep_queue = put_other s.sleep_queue m.thread (Some m.object) u ne i;
    blocked_on = put_other s.blocked_on m.thread None u ne i;
  }

  record_stays : (u : ℕ) → m.thread ≢ u → record_in n u ≡ record_in s u
  unfolding after_mark
  record_stays = stays_by (is_turnstile_queue c m.queue)

-- 4. The step

-- what it tells: the thread made it with the values that it has out, and who wakes itself stands on that queue
abbrev pub MarkedFirst : Description → Me Slot Knowledge → ℕ → Me Slot Knowledge → Type 0
MarkedFirst floor me found behind =
    (m : Mark) (ms : List Mark) → me.0.share.doing.marked ≡ m ∷ ms
    → (behind ≡ (seeing behind.0.seen (marked_first me.0 m ms me.1), me.1))
    × Makes floor (Marks me.0.thread m ms ∷ []) me.0 behind.0
    × (m.thread ≡ me.0.thread → me.0.pose ≡ StandsOn m.queue)

module _ (floor : Description) (me : Me Slot Knowledge) (was : me.0.role ≡ OfThread) (first : HasFirstOut me.0) (x : ℕ)
    (says : x ≡ wait_number (Woken first.mark.queue first.mark.cause))
    (worked : me.1 ≡ out_marked (config_in floor) first.mark first.box me.0.out) where
  abbrev v : Knowledge
  v = me.0

  abbrev m : Mark
  m = first.mark

  abbrev ms : List Mark
  ms = first.others

  abbrev u : ℕ
  u = m.thread

  marks : (b : Board) (h : Finds floor v b) → FitAll floor h.state (Marks v.thread m ms ∷ [])
      → Steps floor me (spot (wait_line u)) (slice_index b.words (spot (wait_line u))) x (λ k. MarkedFirst floor me x) b
  unfolding after_mark StandingIsQueued
  marks b h allowed =
      let c : Config = config_in floor in
      let s : State = h.state in
      let t : ℕ = v.thread in
      let n : State = after_mark c s t m ms in
      let lawful : Lawful c s = h.sound.facts.lawful in
      let g = allowed.0.fits.may in
      let step : Step = Marks t m ms in
      let w : Knowledge = seeing (step ∷ h.past) (marked_first v m ms me.1) in
      let low : u < length floor.threads = marked_thread c s t m ms lawful g.thread g.marked in
      let named : s.blocked_on u ≡ Some m.queue = marked_named c s t m ms lawful g.thread g.marked in
      let queued : s.wait u ≡ Queued = lawful.waits.standing_is_queued u m.queue named in
      let place : slot_of floor (RecordOf u) ≡ Some u = record_at floor u low in
      let rec : RepresentsRecord first.box.value (record_in s u) =
      (h.fits.out.each (RecordOf u) u (Record first.box) place
      (ap (found u) first.last ∙ found_first u (Record first.box) (rest v.out))).1 in
      let poses = poses_stay c s t m ms queued named in
      let own : OwnSteps v w h.past (step ∷ []) s n = record {
        role = was;
        seen = refl;
        makers = one_own t step refl;
        seat = record { thread = refl; share = mark_own s v h.fits.share c m ms me.1 };
        others = λ k ne. mark_others s t k ne c m ms;
        pose = poses t v.pose h.fits.pose;
        other_poses = λ k ne p z. poses k p z;
      } in
      let r = h.represents in
      let outs : ℕ → List (ℕ × Slot) = λ k. (thread_in b.views k).out in
      let new : Slot = Record (with_value first.box (record_marked c m first.box.value)) in
      let shelves : Shelves (slots_for floor) (latch_word b.words) (home_at b.homes) (put outs t me.1)
      (put r.content u new) =
      subst (λ o. Shelves (slots_for floor) (latch_word b.words) (home_at b.homes) (put outs t o) (put r.content u new))
      (sym worked)
      (shelf_changed (slots_for floor) (latch_word b.words) (home_at b.homes) outs r.content r.shelves u t
      (Record first.box) new (rest v.out) (own_out floor (step ∷ []) b v w h was allowed own me.1 ∙ first.last)) in
      let objects : RepresentsObjects floor (put r.content u new) (objects_in n) =
      object_changed floor r.content (objects_in s) (objects_in n) (RecordOf u) u new place
      (record_changes floor (objects_in s) (record_in n) u (record_stays c s t m ms))
      (its_record c s t m ms first.box.value rec) r.objects in
      let made = wait_made floor (step ∷ []) b v w h was allowed own me.1 u x (Woken m.queue m.cause)
      (put r.content u new) low says refl refl refl shelves objects in
      let itself : u ≡ t → v.pose ≡ StandsOn m.queue =
      λ e. standing_pose m.queue v.pose (s.wait t) (s.blocked_on t) (ap s.wait (sym e) ∙ queued)
      (ap s.blocked_on (sym e) ∙ named) h.fits.pose in
      (w, keeps, tt, made.0, λ k ks is. only k ks is (w, me.1) ((refl, made.1, itself)))
    where
      -- the first and the others are those of the seat
      only : (k : Mark) (ks : List Mark) → v.share.doing.marked ≡ k ∷ ks → (behind : Me Slot Knowledge)
          → (behind ≡ (seeing behind.0.seen (marked_first v m ms me.1), me.1))
          × Makes floor (Marks v.thread m ms ∷ []) v behind.0 × (u ≡ v.thread → v.pose ≡ StandsOn m.queue)
          → (behind ≡ (seeing behind.0.seen (marked_first v k ks me.1), me.1))
          × Makes floor (Marks v.thread k ks ∷ []) v behind.0 × (k.thread ≡ v.thread → v.pose ≡ StandsOn k.queue)
      only k ks is behind h =
          let same : ◌≡◌ {A = List Mark} (m ∷ ms) (k ∷ ks) = sym first.marked ∙ is in
          let heads : m ≡ k = ap (head_or m) same in
          let tails : ms ≡ ks = ap tail_of same in
          subst (λ (z : Mark × List Mark). (behind ≡ (seeing behind.0.seen (marked_first v z.0 z.1 me.1), me.1))
          × Makes floor (Marks v.thread z.0 z.1 ∷ []) v behind.0
          × (z.0.thread ≡ v.thread → v.pose ≡ StandsOn z.0.queue))
          (λ i. (heads i, tails i)) h

  pub mark_allowed : (slots id : ℕ) → MayMake floor v (λ s. Unit {0}) (Marks v.thread m ms ∷ [])
      → Allows (FloorHolds floor) slots id me (spot (wait_line u)) (λ k. x) (λ k. MarkedFirst floor me x)
  mark_allowed slots id may =
      allows floor slots id me (spot (wait_line u)) (λ k. x) (λ k. MarkedFirst floor me x) was
      (λ b h small. marks b h (may h.state h.fits tt))

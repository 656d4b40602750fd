-- The run of an ordered plan: each edge of the class graph leads from the class of a lock to that of one declared
-- behind it, so no take is refused. And no thread waits on a channel, so the run isn't stuck.
use Rattle.run_laws.proofs.Names
use Names.{ℕ, zero, suc, Bool, true, false, cond, List, [], length, Some, None, All, refl, sym, ap, inl, inr, arith}
use Names.{subst, list_all, range_with_len, cases_eq, ne_eqb, All-head, All-tail, Config, Holds, IsProper, hold_in}
use Names.{IsOrdered, IsEdge, Reaches, edge, then, Forbids, config_of, lock_class, chan_queue, stands, is_reversal}
use Names.{has_reversal, IsDone, IsStuck, IsReversed, IsTooLong, new_or_old, first_found, first_forbids, LockNo, ChanNo}
use Names.{Mode, Op, Take, Sleep, Plan, Event, Entry, Held, State, start_state, after_all, after_look, after_gain}
use Names.{after_drop, after_stamp, after_ready, after_enter, after_open, after_mark, after_resume, after_enter_sleep}
use Names.{after_open_sleep, after_add, after_wake, after_claim, after_lend, after_shift, after_end_walk, classes_held}
use Names.{after_admit, after_refuse, SleepersSlept, Run, Action, Course, waits_on, has_ended, turn_of, run_behind}
use Names.{round_of, with_turn, after_turn, go_on, is_over, all_ended, is_stuck, course_after, ending_of, held_before}
use Names.{held_now, IsOnTrack, BeginsTake, admitted, first_against, gain_passes, has_held, first_among, standing_named}
use Rattle.std.proofs.Common.{◌≡◌, ◌≢◌, ◌+◌, ◌<◌, ◌&&◌, ◌∷◌, ◌∙◌}
use Rattle.run_laws.proofs.Stuck.{stuck_on_channels}
use Rattle.run_laws.proofs.Turning.{behind_course}
use Rattle.run_laws.proofs.TurnsOfWaits.{slept_waits}
use Rattle.run_laws.proofs.Actions as actions

-- 1. Edges that lead from each lock to those declared behind it

-- two classes, of a lock and of one declared behind it
pub record GoesUp (plan : Plan) (a b : ℕ) : Type 0 where
  pub lower : ℕ
  pub upper : ℕ
  pub less : lower < upper
  pub lock : upper < length plan.locks
  pub from : lock_class plan lower ≡ a
  pub to : lock_class plan upper ≡ b

-- each edge leads up, and no refusal is noted
pub record IsUpward (plan : Plan) (edges : List (ℕ × ℕ)) (history : List Entry) : Type 0 where
  pub up : (a b : ℕ) → IsEdge edges a b → GoesUp plan a b
  pub unrefused : has_reversal history ≡ false

module _ (plan : Plan) (o : IsOrdered plan) where
  -- so does each path
  path_up : (es : List (ℕ × ℕ)) → ((a b : ℕ) → IsEdge es a b → GoesUp plan a b) → {a b : ℕ} → Reaches es a b
      → GoesUp plan a b
  path_up es h {a} {b} (edge i) = h a b i
  path_up es h {a} {b = d} (then {b = b} i r) =
      let x = h a b i in
      let y = path_up es h r in
      let e = o.own_classes x.upper y.lower x.lock (omega (arith, y.less, y.lock)) (x.to ∙ sym y.from) in
      record {
        lower = x.lower;
        upper = y.upper;
        less = omega (arith, x.less, y.less, e);
        lock = y.lock;
        from = x.from;
        to = y.to;
      }

  -- the class of a lock doesn't forbid that of one behind it
  not_forbidden : (es : List (ℕ × ℕ)) → ((a b : ℕ) → IsEdge es a b → GoesUp plan a b) → (j l : ℕ) → j < l
      → l < length plan.locks → Forbids es (lock_class plan j) (lock_class plan l) → ⊥
  not_forbidden es h j l less lock f = elim f [
    | inl x ↦ let e = o.own_classes j l (omega (arith, less, lock)) lock x in omega (arith, e, less)
    | inr x ↦
        let y = path_up es h x in
        let a = o.own_classes y.lower l (omega (arith, y.less, y.lock)) lock y.from in
        let b = o.own_classes y.upper j y.lock (omega (arith, less, lock)) y.to in
        omega (arith, a, b, y.less, less)
  ]

  -- 2. A take's first turn

  lower_in : (hs : List Held) (l j : ℕ) (mode : Mode) → All (λ h. h.l.0 < l) hs → hold_in hs j ≡ Holds mode → j < l
  lower_in [] l j mode a e = absurd cc
  lower_in (h ∷ hs) l j mode a e = elim (cases_eq h.l.0 j) [
    | inl x ↦ let z = All-head (λ (x : Held). x.l.0 < l) h hs a in omega (arith, x, z)
    | inr x ↦ lower_in hs l j mode (All-tail (λ (x : Held). x.l.0 < l) h hs a) (let z = rw (ne_eqb h.l.0 j x) at e in z)
  ]

  module _ (p : IsProper plan) (r : Run) (k : IsOnTrack plan r) (t : ℕ) where
    abbrev c : Config
    c = config_of plan

    abbrev s : State
    s = r.state

    module _ {l : LockNo} {mode : Mode} (g : BeginsTake plan r t l mode) where
      its_lock : l.0 < length plan.locks
      its_lock = (gain_passes plan l mode false _ _ ((p.fits t).each (r.next_op t) (Take l mode) g.at.next) refl).lock

      -- it waits on nothing, so it holds what its operations so far lead to
      awake : waits_on (s.log t) ≡ None
      awake = grind arith

      holds_all : held_now plan r t ≡ held_before plan r t
      holds_all = rw (g.at.uncut, awake) refl

      -- and each held lock stands before the one that is taken
      lower_lock : (j : ℕ) (m : Mode) → s.held t j ≡ Holds m → j < l.0
      lower_lock j m e = lower_in (held_before plan r t) l.0 j m (o.upward t (r.next_op t) l mode g.at.next)
          (ap (λ (hs : List Held). hold_in hs j) (sym holds_all) ∙ sym (k.holds t j) ∙ e)

      -- so an admission adds edges that lead up,
      admits_up : IsUpward plan s.edges s.history
          → IsUpward plan (admitted plan r t l).state.edges (admitted plan r t l).state.history
      unfolding after_admit
      admits_up u = record {
        up = λ a b i. elim (new_or_old s.edges (classes_held c s t) (c.class l.0) a b i) [
          | inl x ↦
              let h = has_held c s t a k.lawful.lawful x.0 in
              record {
                lower = h.lock;
                upper = l.0;
                less = lower_lock h.lock h.mode h.holds;
                lock = its_lock;
                from = h.from;
                to = x.1;
              }
          | inr x ↦ u.up a b x
        ];
        unrefused = u.unrefused;
      }

      -- and there is no refusal
      none_forbids : IsUpward plan s.edges s.history → (i : ℕ) → first_against plan r t l ≡ Some i → ⊥
      none_forbids u i e =
          let f = first_found s.edges (c.class l.0) (classes_held c s t) i e in
          let h = has_held c s t i k.lawful.lawful (first_among s.edges (classes_held c s t) (c.class l.0) i f) in
          not_forbidden s.edges u.up h.lock l.0 (lower_lock h.lock h.mode h.holds) its_lock
          (subst (λ a. Forbids s.edges a (c.class l.0)) (sym h.from)
          (first_forbids s.edges (classes_held c s t) (c.class l.0) i f))

-- 3. Action by action

-- the state behind the steps of an action
abbrev IsUpBehind : Plan → Run → Action → Type 0
IsUpBehind plan r action =
    IsUpward plan (after_all (config_of plan) r.state action.steps).edges
    (after_all (config_of plan) r.state action.steps).history

-- an entry that is no refusal
one_more : {plan : Plan} {edges : List (ℕ × ℕ)} {history : List Entry} (e : Entry) → is_reversal e.event ≡ false
    → IsUpward plan edges history → IsUpward plan edges (e ∷ history)
one_more e i u = record { up = u.up; unrefused = rw (i, u.unrefused) refl }

-- as that of a wake is none
no_refusal : (d : ChanNo) {op : Op} {all : Bool} {noted : ℕ → Event} (woken : ℕ) → actions.Waking d op all noted
    → is_reversal (noted woken) ≡ false
no_refusal d woken e = grind arith

acquired : (plan : Plan) (r : Run) (t : ℕ) (action : Action) → actions.Acquires plan r t action
    → IsUpward plan r.state.edges r.state.history → IsUpBehind plan r action
unfolding after_gain after_stamp after_ready after_enter after_enter_sleep after_claim
acquired plan r t _ (actions.gains (actions.by_taking (actions.anew l mode j w)) i a f) u = one_more _ refl u
acquired plan r t _ (actions.gains (actions.by_taking (actions.back d e w)) i a f) u = one_more _ refl u
acquired plan r t _ (actions.gains (actions.by_trying l mode past) i a f) u = one_more _ refl u
acquired plan r t _ (actions.claims (actions.by_taking (actions.anew l mode j w)) i a f) u = one_more _ refl u
acquired plan r t _ (actions.claims (actions.by_taking (actions.back d e w)) i a f) u = one_more _ refl u
acquired plan r t _ (actions.claims (actions.by_trying l mode past) i a f) u = one_more _ refl u
acquired plan r t _ (actions.enters by i a (actions.on_turnstile x)) u = u
acquired plan r t _ (actions.enters by i a (actions.on_sleep_queue x)) u = u

module _ (plan : Plan) (o : IsOrdered plan) (p : IsProper plan) (r : Run) (k : IsOnTrack plan r) (t : ℕ)
    (u : IsUpward plan r.state.edges r.state.history) where
  made : (action : Action) → actions.Fits plan r t action → IsUpBehind plan r action
  unfolding after_look after_stamp after_drop after_ready after_open after_mark after_resume after_open_sleep after_add
      after_wake after_lend after_shift after_end_walk after_refuse
  made _ (actions.is_over e) = u
  made _ (actions.lends l o h w e f) = u
  made _ (actions.ends_at_lock l w e) = u
  made _ (actions.shifts o l w e f) = u
  made _ (actions.ends_at_thread o w f) = u
  made _ (actions.marks m ms w e) = u
  made _ (actions.gives_up w e f (actions.drops x)) = u
  made _ (actions.gives_up w e f (actions.opens x y)) = u
  made _ (actions.gives_up w e f (actions.opens_sleep_queue x y)) = u
  made _ (actions.is_queued e f i) = u
  made _ (actions.resumes q cause f e) = u
  made action (actions.acquires by) = acquired plan r t action by u
  made _ (actions.is_admitted {l} {action = action} g e by) =
      acquired plan (admitted plan r t l) t action by (admits_up plan o p r k t g u)
  made _ (actions.is_refused i g e) = absurd (none_forbids plan o p r k t g u i e)
  made _ (actions.finds_busy l mode past i e) = one_more _ refl u
  made _ (actions.releases l i (actions.drops x)) = one_more _ refl u
  made _ (actions.releases l i (actions.opens x y)) = one_more _ refl u
  made _ (actions.releases l i (actions.opens_sleep_queue x y)) = one_more _ refl u
  made _ (actions.sleeps d i e) = one_more _ refl u
  made _ (actions.wakes d by i) = one_more _ (no_refusal d _ by) u
  made _ (actions.makes_entry _ _ i (actions.sets l key value)) = one_more _ refl u
  made _ (actions.makes_entry _ _ i (actions.adds l key amount)) = one_more _ refl u
  made _ (actions.makes_entry _ _ i (actions.gets l key)) = one_more _ refl u
  made _ (actions.makes_entry _ _ i (actions.changes_base prio)) = one_more _ refl u
  made _ (actions.makes_entry _ _ i actions.shows) = one_more _ refl u
  made _ (actions.gives_last_back h hs i e (actions.drops x)) = one_more _ refl u
  made _ (actions.gives_last_back h hs i e (actions.opens x y)) = one_more _ refl u
  made _ (actions.gives_last_back h hs i e (actions.opens_sleep_queue x y)) = one_more _ refl u
  made _ (actions.has_nothing_left e i f) = u
  made _ (actions.has_no_operation e i) = u
  made _ (actions.is_at_endtry i) = u

  turned : IsUpward plan (run_behind plan r t).state.edges (run_behind plan r t).state.history
  unfolding run_behind
  turned = made (turn_of plan r t) (actions.fits plan r t)

-- 4. The scheduled run

-- somebody is left where not all pass
one_left : (f : ℕ → Bool) (a n : ℕ) → list_all f (range_with_len a n) ≡ false → (t : ℕ) × (t < a + n) × (f t ≡ false)
one_left f a zero e = absurd cc
one_left f a (suc n) e = go (f a) refl e (one_left f (a + 1) n)
  where
    rest : Bool
    rest = list_all f (range_with_len (a + 1) n)

    go : (b : Bool) → f a ≡ b → (b && rest) ≡ false → (rest ≡ false → (t : ℕ) × (t < (a + 1) + n) × (f t ≡ false))
        → (t : ℕ) × (t < a + suc n) × (f t ≡ false)
    go true i j later = let r = later j in (r.0, omega (arith, r.1), r.2)
    go false i j later = (a, omega arith, i)

abbrev IsUp : Plan → Run → Type 0
IsUp plan r = IsUpward plan r.state.edges r.state.history

module _ (plan : Plan) (o : IsOrdered plan) (p : IsProper plan) where
  with_turn_up : (r : Run) (ts : List ℕ) (idle : Bool) → IsOnTrack plan r → IsUp plan r
      → IsUp plan (with_turn plan r ts idle).run
  with_turn_up r [] idle k u = u
  with_turn_up r (t ∷ ts) idle k u = turned plan o p r k t u

  after_turn_up : (k : Course) (ts : List ℕ) → IsOnTrack plan k.run → IsUp plan k.run
      → IsUp plan (after_turn plan k ts).run
  after_turn_up k [] h u = with_turn_up k.run (round_of plan k.run) true h u
  after_turn_up k (t ∷ ts) h u = with_turn_up k.run (t ∷ ts) k.idle h u

  go_on_up : (k : Course) → IsOnTrack plan k.run → IsUp plan k.run → IsUp plan (go_on plan k).run
  go_on_up k h u = go (is_over plan k)
    where
      go : (b : Bool) → IsUp plan (cond b k (after_turn plan k k.coming)).run
      go true = u
      go false = after_turn_up k k.coming h u

  course_up : (n : ℕ) → IsUp plan (course_after plan n).run
  unfolding course_after start_state
  course_up zero = record { up = λ a b i. absurd cc; unrefused = refl }
  course_up (suc n) = go_on_up (course_after plan n) (behind_course plan n p) (course_up n)

  -- nobody sleeps on a channel
  none_sleep : (r : Run) → IsOnTrack plan r → (t d : ℕ) → 0 < stands t (r.state.lists (chan_queue d)) → ⊥
  unfolding SleepersSlept
  none_sleep r k t d i =
      let named = standing_named (config_of plan) r.state t (chan_queue d) k.lawful.lawful i in
      let waits = slept_waits d (r.state.log t) (k.sleepers.sleepers_slept t d named) in
      let z = o.no_wait_nor_try t (r.next_op t) (Sleep (record { 0 = d })) (k.waiting t d waits) in
      cc

  not_stuck : (n : ℕ) → ending_of plan (course_after plan n) ≢ IsStuck
  not_stuck n e = go (all_ended plan k.run) refl (has_reversal k.run.state.history) (is_stuck k) refl e
    where
      k : Course
      k = course_after plan n

      go : (ended : Bool) → all_ended plan k.run ≡ ended → (reversed stuck : Bool) → is_stuck k ≡ stuck
          → cond ended (cond reversed IsReversed IsDone) (cond stuck IsStuck IsTooLong) ≡ IsStuck → ⊥
      go true a true stuck i f = absurd cc
      go true a false stuck i f = absurd cc
      go false a reversed false i f = absurd cc
      go false a reversed true i f =
          let t = one_left (has_ended plan k.run) 0 (length plan.threads) a in
          let z = stuck_on_channels plan n t.0 p i (omega (arith, t.1)) t.2 in
          none_sleep k.run (behind_course plan n p) z.0 z.1.0 z.1.1.1

  not_reversed : (n : ℕ) → ending_of plan (course_after plan n) ≢ IsReversed
  not_reversed n e = go (all_ended plan k.run) (has_reversal k.run.state.history) (course_up n).unrefused (is_stuck k) e
    where
      k : Course
      k = course_after plan n

      go : (ended reversed : Bool) → reversed ≡ false → (stuck : Bool)
          → cond ended (cond reversed IsReversed IsDone) (cond stuck IsStuck IsTooLong) ≡ IsReversed → ⊥
      go true true a stuck f = absurd cc
      go true false a stuck f = absurd cc
      go false reversed a true f = absurd cc
      go false reversed a false f = absurd cc

pub ordered_unrefused : (plan : Plan) (n : ℕ) → IsProper plan → IsOrdered plan
    → has_reversal (course_after plan n).run.state.history ≡ false
ordered_unrefused plan n p o = (course_up plan o p n).unrefused

pub ordered_not_stuck : (plan : Plan) (n : ℕ) → IsProper plan → IsOrdered plan
    → ending_of plan (course_after plan n) ≢ IsStuck
ordered_not_stuck plan n p o = not_stuck plan o p n

pub ordered_not_reversed : (plan : Plan) (n : ℕ) → IsProper plan → IsOrdered plan
    → ending_of plan (course_after plan n) ≢ IsReversed
ordered_not_reversed plan n p o = not_reversed plan o p n

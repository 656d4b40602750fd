-- Whether a thread's objects say that it has ended, as the run says it.
use Rattle.step_world.proofs.Names
use Names.{ℕ, Bool, true, false, not, nat_le, List, [], length, map, slice_get, Some, None, option_map, IsSomeAnd, refl}
use Names.{sym, ap, subst, inl, inr, eq-eqb, cases_Bool, not_from_false, leb-true, or_cases, config_of, operations_of}
use Names.{any_below, is_empty, is_unheld, Hold, Holds, IsProper, hold_in, Run, is_walking, has_ended, holds_none}
use Names.{waits_on, was_cut, held_now, OnlyLocksAreHeld, Plan, Mode, Held, true-any_below, any_below-true, done_awake}
use Names.{cut_no_wait, places_of, Machine, Thread, walk_of, has_no_walk, thread_has_ended, progress_of, IsRunOf}
use Names.{IsAsFar, arith}
use Rattle.std.proofs.Common.{◌≡◌, ◌<◌, ◌&&◌, ◌||◌, ◌∷◌, ◌∙◌}
use Rattle.prio_lending.specs.declared.walk.Walk as walks
use Rattle.prio_lending.specs.declared.walk.Walk.TheVariants as walk

-- 1. What is held

abbrev none_held_by : ℕ → (ℕ → Hold) → Bool
none_held_by n f = not (any_below n (λ l. not (is_unheld (f l))))

-- a list of locks of the plan is empty exactly where none of them is held
none_where_empty : (plan : Plan) (hs : List Held)
    → ((l : ℕ) (mode : Mode) → hold_in hs l ≡ Holds mode → l < length plan.locks)
    → is_empty hs ≡ none_held_by (length plan.locks) (hold_in hs)
none_where_empty plan [] a = sym (not_from_false (any_below n f) (elim (cases_Bool (any_below n f)) [
  | inl e ↦ absurd (let x = any_below-true n f e in let z : false ≡ true = x.2 in cc)
  | inr e ↦ e
]))
  where
    n : ℕ
    n = length plan.locks

    f : ℕ → Bool
    f l = not (is_unheld (hold_in [] l))
none_where_empty plan (h ∷ hs) a =
    let some : ℕ → Bool = λ l. not (is_unheld (hold_in (h ∷ hs) l)) in
    sym (ap not
    (true-any_below (length plan.locks) some h.l.0 (a h.l.0 h.mode first) (ap (λ (x : Hold). not (is_unheld x)) first)))
  where
    first : hold_in (h ∷ hs) h.l.0 ≡ Holds h.mode
    first = rw (eq-eqb h.l.0 h.l.0 refl)

-- 2. What is owed

pub no_walk : (w : walks.Walk) → has_no_walk w ≡ not (is_walking (walk_of w))
no_walk e = grind arith

pub same_empty : {A B : Type 0} (f : A → B) (xs : List A) → is_empty xs ≡ is_empty (map f xs)
same_empty f e = grind arith

-- where no release is owed, neither of the two others is
neither : (b c d : Bool) → (not b && c && d) ≡ (not (b || not c || false) && d)
neither true c d = refl
neither false true d = refl
neither false false d = refl

-- 3. The end

-- the thread of a run is as far as the run says
pub aside_is : (plan : Plan) (m : Machine) (r : Run) (t : ℕ) (th : Thread) → IsRunOf plan m r → t < length plan.threads
    → slice_get m.threads.items t ≡ Some th
    → IsAsFar plan r t (progress_of th)
aside_is plan m r t th h lt e =
    subst (λ o. IsSomeAnd (option_map progress_of o) (IsAsFar plan r t)) e (h.shows.progress t lt)

module _ (plan : Plan) (m : Machine) (r : Run) (t : ℕ) (th : Thread) (p : IsProper plan) (h : IsRunOf plan m r)
    (lt : t < length plan.threads) (e : slice_get m.threads.items t ≡ Some th) where
  abbrev count : ℕ
  count = length (operations_of plan t)

  -- what it holds are locks of the plan
  pub are_locks : (l : ℕ) (mode : Mode) → hold_in (held_now plan r t) l ≡ Holds mode → l < length plan.locks
  unfolding OnlyLocksAreHeld
  are_locks l mode i = h.on_track.taken.only_locks_are_held t l mode (h.on_track.holds t l ∙ i)

  -- a thread whose operations are done, or that was cut, waits no more
  awake_at_end : (nat_le count (r.next_op t) || was_cut r.state t) ≡ true → waits_on (r.state.log t) ≡ None
  awake_at_end all = elim (or_cases (nat_le count (r.next_op t)) (was_cut r.state t) all) [
    | inl done ↦ done_awake plan r t h.on_track (leb-true count (r.next_op t) done)
    | inr cut ↦ cut_no_wait plan r t h.on_track cut
  ]

  -- so no release is owed
  done : (nat_le count (r.next_op t) || was_cut r.state t) ≡ true
      → (has_no_walk th.walk && is_empty (places_of th.marked) && is_empty th.held.items) ≡ has_ended plan r t
  unfolding has_ended
  done all =
      let old = h.shows.shows.threads.thread t th e in
      let awake = awake_at_end all in
      let hs : List Held = held_now plan r t in
      let held : th.held.items ≡ hs = (aside_is plan m r t th h lt e).held in
      let its_walk : has_no_walk th.walk ≡ not (is_walking (r.state.walk t)) = no_walk th.walk
      ∙ ap (λ w. not (is_walking w)) (ap (λ x. x.walk) old.columns) in
      let its_marked : is_empty (places_of th.marked) ≡ is_empty (r.state.marked t) = same_empty _ (places_of th.marked)
      ∙ ap is_empty (ap (λ x. x.marked) old.columns) in
      let same : r.state.held t ≡ hold_in hs = λ i l. h.on_track.holds t l i in
      let its_held : is_empty th.held.items ≡ holds_none (config_of plan) r.state t = ap is_empty held
      ∙ none_where_empty plan hs are_locks ∙ sym (ap (none_held_by (length plan.locks)) same) in
      rw (its_walk, its_marked, its_held, all, awake)
      (neither (is_walking (r.state.walk t)) (is_empty (r.state.marked t)) (holds_none (config_of plan) r.state t))

  -- and one that has operations left hasn't ended
  left : (nat_le count (r.next_op t) || was_cut r.state t) ≡ false → false ≡ has_ended plan r t
  unfolding has_ended
  left more = rw more refl

  pub ends_as_said : thread_has_ended count th ≡ has_ended plan r t
  ends_as_said =
      ap (λ i. (nat_le count i || th.cut) && has_no_walk th.walk && is_empty (places_of th.marked)
      && is_empty th.held.items) (aside_is plan m r t th h lt e).next_op
      ∙ ap (λ b. (nat_le count (r.next_op t) || b) && has_no_walk th.walk && is_empty (places_of th.marked)
      && is_empty th.held.items) (ap (λ x. x.cut) (h.shows.shows.threads.thread t th e).columns)
      ∙ elim (cases_Bool (nat_le count (r.next_op t)
      || was_cut r.state t)) [ inl all ↦ rw all (done all) | inr more ↦ rw more (left more) ]

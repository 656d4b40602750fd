-- A take as it leaves the section of the lock's chain: it gained the lock there, runs on and gives both back; or it
-- stands on the lock's queue, and gives both back.
use Rattle.lock_calls.proofs.Names
use Names.{ℕ, Bool, true, false, Option, Some, None, [], length, refl, sym, ap, subst, lock_queue, is_turnstile, Held}
use Names.{LockNo, Mode, walk_of, Looks, Unreadies, is_bound, is_taking_back, walk_up, Description, config_in, Record}
use Names.{Makes, MakesEach, MayMake, Runs, IsReady, StandsOn, Knowledge, seeing, Contends, Walks, IsGoing, gained}
use Names.{readied, entered, IsOnFloor, CanWalk, HasRecordAndChain, IsCovered, as_taken, gives_both, IsStanding}
use Names.{TakesOn, TakeEnd, in_section, enters, looks_there, kept_of, CanAcquire, IsThere, GainsStep, EntersStep}
use Names.{MissesThere, HasGained, with_none_out}
use Rattle.std.proofs.Common.{◌≡◌, ◌<◌, ◌≤◌, ◌∷◌, ◌∙◌}
use Rattle.prio_lending.specs.declared.walk.Walk as run_time
use Rattle.lock_floor.proofs.MayWait as wait
use Rattle.lock_calls.proofs.There.{quiet_there, contends}

-- 1. It gained the lock

module _ (floor : Description) (l : LockNo) (mode : Mode) (a b : Knowledge) (calls : CanAcquire floor (kept_of a))
    (there : IsThere floor l.0 a) (g : GainsStep floor l mode a b) where
  abbrev hold : Held
  hold = as_taken l mode

  its_gained : b.thread ≡ a.thread
  its_gained = ap (λ (k : Knowledge). k.thread) g.view

  gained_going : IsGoing b
  gained_going = rw g.view (assumption calls.going)

  pub may_run_on : MayMake floor b (λ s. Unit {0}) (Unreadies b.thread (lock_queue l.0) ∷ [])
  may_run_on =
      wait.may_unready floor b (lock_queue l.0) (Record g.both.box) g.both.chain g.both.out
      (ap (λ (k : Knowledge). k.pose) g.view ∙ there.ready) gained_going
      (λ back e f h. calls.awake (sym (ap (λ (k : Knowledge). is_taking_back k.share.log) g.view) ∙ back)
      (sym (ap (λ (k : Knowledge). k.share.doing.woken_from) g.view) ∙ f)
      (λ d x. h d (ap (λ (k : Knowledge). k.share.doing.noted) g.view ∙ x)))

  module _ (w : Knowledge) (view : w ≡ seeing w.seen (readied false b)) where
    ran_is : w ≡ seeing w.seen (readied false (record (gained a hold) { out = g.out }))
    ran_is = view ∙ ap (λ (k : Knowledge). seeing w.seen (readied false k)) g.view

    pub both_ran : HasRecordAndChain floor l.0 w
    both_ran = subst (HasRecordAndChain floor l.0) (sym view)
        (record { box = g.both.box; chain = g.both.chain; of_lock = g.both.of_lock; out = g.both.out })

    pub runs_on : w.pose ≡ Runs
    runs_on = ap (λ (k : Knowledge). k.pose) view

    pub unbound_on : is_bound w.share.doing.round ≡ false
    unbound_on = ap (λ (k : Knowledge). is_bound k.share.doing.round) ran_is

    pub going_on : IsGoing w
    going_on = rw ran_is (assumption calls.going)

    module _ (z : Knowledge) (given : z ≡ seeing z.seen (with_none_out w)) where
      pub gained_there : HasGained l mode a z
      gained_there = record {
        before = with_none_out (readied false a);
        kept = refl;
        gaining = assumption there;
        view = given ∙ ap (λ (k : Knowledge). seeing z.seen (with_none_out k)) ran_is;
      }

      pub ends_there : (seen : ℕ) → Makes floor (Unreadies b.thread (lock_queue l.0) ∷ []) b w
          → MakesEach floor (gives_both floor w.thread l.0) w z → TakeEnd floor l mode (Contends seen) a z
      ends_there seen runs gives =
          let run_step : Makes floor (Unreadies a.thread (lock_queue l.0) ∷ []) b w =
          subst (λ t. Makes floor (Unreadies t (lock_queue l.0) ∷ []) b w) its_gained runs in
          let give_steps : MakesEach floor (gives_both floor a.thread l.0) w z =
          subst (λ t. MakesEach floor (gives_both floor t l.0) w z) (ap (λ (k : Knowledge). k.thread) ran_is) gives in
          in_section seen g.gain g.is_gain (b, g.step, (w, run_step, give_steps))

-- 2. It stands on the lock's queue

-- where a walk begins at an owner, the lock has a turnstile
on_floor : (floor : Description) (l : ℕ) → l < length floor.locks → (o : Option ℕ)
    → (is_turnstile ((config_in floor).kind l) ≡ false → o ≡ None) → IsOnFloor floor (walk_up l o)
on_floor floor l low None ownerless = tt
on_floor floor l low (Some t) ownerless = (low, go (is_turnstile ((config_in floor).kind l)) refl)
  where
    go : (b : Bool) → is_turnstile ((config_in floor).kind l) ≡ b → is_turnstile ((config_in floor).kind l) ≡ true
    go true e = e
    go false e = absurd (let z : Some t ≡ None = ownerless e in cc)

module _ (floor : Description) (l : LockNo) (mode : Mode) (covered : IsCovered floor l.0 mode)
    (one_chain : floor.chains ≡ 1) (a b : Knowledge) (calls : CanAcquire floor (kept_of a))
    (there : IsThere floor l.0 a)
    (to : run_time.Walk) (e : EntersStep floor l.0 mode (walk_of to) a b) where
  abbrev stands : Knowledge
  stands = entered a l.0 e.owner e.out

  its_stands : b.thread ≡ a.thread
  its_stands = ap (λ (k : Knowledge). k.thread) e.view

  pub both_stands : HasRecordAndChain floor l.0 b
  both_stands = e.both

  pub stands_on : b.pose ≡ StandsOn (lock_queue l.0)
  stands_on = ap (λ (k : Knowledge). k.pose) e.view

  pub unbound_stands : is_bound b.share.doing.round ≡ false
  unbound_stands = ap (λ (k : Knowledge). is_bound k.share.doing.round) e.view

  pub going_stands : IsGoing b
  going_stands = rw e.view (assumption calls.going)

  module _ (w : Knowledge) (given : w ≡ seeing w.seen (with_none_out b)) where
    given_is : w ≡ seeing w.seen (with_none_out stands)
    given_is = given ∙ ap (λ (k : Knowledge). seeing w.seen (with_none_out k)) e.view

    walk_there : w.share.doing.walk ≡ walk_up l.0 e.owner
    walk_there = ap (λ (k : Knowledge). k.share.doing.walk) given_is

    is_standing : IsStanding l.0 to w
    is_standing = subst (IsStanding l.0 to) (sym given_is) (assumption (there, e))

    can_walk : CanWalk floor w
    can_walk = record {
      one_chain = one_chain;
      on_floor = subst (IsOnFloor floor) (sym walk_there) (on_floor floor l.0 covered.lock e.owner e.ownerless);
      settled = λ ready. let z : StandsOn (lock_queue l.0) ≡ IsReady = sym (ap (λ (k : Knowledge). k.pose) given_is)
          ∙ ready in cc;
      nothing_out = ap (λ (k : Knowledge). k.out) given_is;
      no_round = ap (λ (k : Knowledge). k.share.doing.round) given_is;
      going = rw given_is (assumption calls.going);
    }

    pub enters_on : (seen : ℕ) → MakesEach floor (gives_both floor b.thread l.0) b w
        → TakesOn floor l mode (Contends seen) (Walks to) a w
    enters_on seen gives =
        let give_steps : MakesEach floor (gives_both floor a.thread l.0) b w =
        subst (λ t. MakesEach floor (gives_both floor t l.0) b w) its_stands gives in
        record {
          there = (is_standing, can_walk);
          kept = ap kept_of given_is;
          leg = enters seen e.object to (b, e.step, give_steps);
        }

-- 3. Its exchange missed

pub misses_on : (floor : Description) (l : LockNo) (mode : Mode) (seen found : ℕ) (v w : Knowledge)
    → IsCovered floor l.0 mode → v.description ≡ floor → floor.chains ≡ 1 → 1 ≤ floor.chains → IsThere floor l.0 v
    → MissesThere floor l.0 seen found v w
    → TakesOn floor l mode (Contends seen) (Contends found) v w
misses_on floor l mode seen found v w covered mine one some_chains m x = record {
  there = contends floor l.0 mode found v w covered mine some_chains m x.view x.step;
  kept = ap kept_of x.view;
  leg = looks_there seen found x.other
      (subst (λ c. Makes floor (Looks v.thread l.0 c ∷ []) v w)
      (quiet_there floor l.0 mode v covered m mine some_chains) x.step);
}

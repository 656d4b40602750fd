-- A release from its first exchange on: it comes to the section of the lock's chain, makes the lock free there, gives
-- both back, and wakes those whom it took off. Where it stands behind each part.
use Rattle.lock_calls.proofs.Names
use Names.{ℕ, suc, Bool, true, false, cond, Option, Some, None, List, [], length, inl, inr, refl, sym, ap, subst}
use Names.{All-tail, All, NotHeld, Holds, hold_in, Mark, lock_queue, Word, word_of, IsWellFormed, is_drop, LockNo, Mode}
use Names.{Excl, Shared, Look, Step, Looks, TakesItem, IsOfRound, RecordOf, item_with, in_its_chain, is_bound}
use Names.{config_in, Description, Makes, MakesEach, MayMake, Knowledge, seeing, ReleaseAt, ComesTo, Frees, Wakes}
use Names.{FindsOut, Takes, CanMark, WakesFirst, opened_up, IsGoing, IsAtRest, IsOffTheWay, MayGiveUp, counts, looked}
use Names.{its_chain, chain_place, is_a_chain, counts_not, runners_mark, sleepers_mark, outside, LeavesWithChain}
use Names.{LeavesWithBoth, HasPutDown, IsReleasing, IsUnderRelease, IsReleased, HasWokenOne, ReleasesOn, held_once}
use Names.{once_released, makes_free, HasRecordAndChain, gives_both, with_looks, with_none_out, MayPutDown, MayLetGo}
use Names.{IsOwn, LetsGo, MissesOwn}
use Rattle.std.proofs.Common.{◌≡◌, ◌≢◌, ◌<◌, ◌∷◌, ◌∙◌}
use Rattle.std.specs.Prelude.{if◌then◌else◌}
use Rattle.lock_floor.specs.declared.calls.ReleaseAt.TheVariants as places
use Rattle.lock_floor.specs.declared.calls.ReleaseAt.TheVariants.{ComesIn}
use Rattle.lock_floor.proofs.MayWait as wait
use Rattle.lock_calls.specs.Releases.{takes_chain, comes_in, looks, finds_out}
use Rattle.lock_calls.proofs.Looks.{look_knows, wants_none}
use Rattle.lock_calls.proofs.Owned.{off_the_way, saw_own}
use Rattle.lock_calls.proofs.Sections.{chain_out, both_out}

-- 1. What stays

module _ (floor : Description) (l : ℕ) (mode : Mode) (v : Knowledge) (m : MayPutDown floor l mode v) where
  leaving_seeing : (steps : List Step) → MayPutDown floor l mode (seeing steps v)
  leaving_seeing steps = assumption m

  pub leaving_looked : (all : ℕ) (last seen : Option Look) → MayPutDown floor l mode (with_looks v all last seen)
  leaving_looked all last seen = assumption m

pub leaving_still : (floor : Description) (l : ℕ) (mode : Mode) (v w : Knowledge) → w ≡ seeing w.seen v
    → MayPutDown floor l mode v → MayPutDown floor l mode w
leaving_still floor l mode v w view m = subst (MayPutDown floor l mode) (sym view)
    (leaving_seeing floor l mode v m w.seen)

-- a look at a lock that it holds changes only what it saw last
pub looks_on : (floor : Description) (l : ℕ) (mode : Mode) (v w : Knowledge) (word : Word)
    → w ≡ seeing w.seen (looked v l word) → v.share.doing.round ≡ None → hold_in v.share.held l ≡ Holds mode
    → w ≡ seeing w.seen (with_looks v (suc v.share.doing.looks_in_all)
    (Some (record { lock = l; word = word })) (Some (record { lock = l; word = word })))
looks_on floor l mode v w word view no_round held =
    view ∙ ap (seeing w.seen) (look_knows floor v l (counts_not floor v l mode no_round held) word)

-- behind a look too
pub leaving_behind : (floor : Description) (l : ℕ) (mode : Mode) (v w : Knowledge) (word : Word)
    → w ≡ seeing w.seen (looked v l word) → MayPutDown floor l mode v → MayPutDown floor l mode w
leaving_behind floor l mode v w word view m =
    let saw : Option Look = Some (record { lock = l; word = word }) in
    let all : ℕ = suc v.share.doing.looks_in_all in
    leaving_still floor l mode (with_looks v all saw saw) w
    (looks_on floor l mode v w word view m.no_round m.held) (leaving_looked floor l mode v m all saw saw)

-- outside the section it has yet to put the lock down
pub holds_outside : (l : ℕ) (mode : Mode) (found : ℕ) (v : Knowledge)
    → once_released l (outside mode found) v ≡ once_released l ComesTo v
holds_outside l Excl found v = refl
holds_outside l Shared found v = go (is_drop (word_of found))
  where
    go : (b : Bool) → once_released l (if b then places.Drops found else ComesTo) v ≡ once_released l ComesTo v
    go true = refl
    go false = refl

-- so it may drop the lock still, or goes to its chain
pub stands_outside : (floor : Description) (l : ℕ) (mode : Mode) (found : ℕ) (v : Knowledge) → MayPutDown floor l mode v
    → IsOwn v.thread mode found → IsReleasing floor l mode (outside mode found) v
stands_outside floor l Excl found v m own = m
stands_outside floor l Shared found v m own = go (is_drop (word_of found)) refl
  where
    go : (b : Bool) → is_drop (word_of found) ≡ b
        → IsReleasing floor l Shared (if b then places.Drops found else ComesTo) v
    go true e = record { may = m; own = own; drops = e }
    go false e = m

-- with both out it may let go
pub may_let : (floor : Description) (l : ℕ) (mode : Mode) (v : Knowledge) → MayPutDown floor l mode (with_none_out v)
    → HasRecordAndChain floor l v → MayLetGo floor l mode v
may_let floor l mode v m both = assumption (both, m)

-- 2. The chain

module _ (floor : Description) (l : LockNo) (mode : Mode) (v : Knowledge) (m : MayPutDown floor l.0 mode v) where
  pub may_take_there : MayMake floor v (λ s. item_with s (its_chain floor (lock_queue l.0)) ≡ None)
      (TakesItem v.thread (its_chain floor (lock_queue l.0)) ∷ [])
  may_take_there =
      wait.may_take_chain_settled floor v (lock_queue l.0) (off_the_way v m.there) m.nothing_out m.going
      (subst (λ r. IsOfRound floor.chains (config_in floor) r (its_chain floor (lock_queue l.0)))
      (sym m.no_round) tt) (wants_none v m.no_round)

  pub comes_on : (a : Knowledge)
      → Takes floor (its_chain floor (lock_queue l.0)) (chain_place floor (lock_queue l.0)) v a
      → ReleasesOn floor l mode ComesTo ComesIn v a
  comes_on a one =
      let round : cond true (in_its_chain v.share.doing.round) v.share.doing.round ≡ v.share.doing.round =
      ap in_its_chain m.no_round ∙ sym m.no_round in
      let bare : with_none_out a
      ≡ seeing a.seen (with_looks v v.share.doing.looks_in_all v.share.doing.last_look None) =
      ap with_none_out one.view
      ∙ (λ i. seeing a.seen (record v {
        share = record v.share {
          doing = record v.share.doing {
            seen_in_section = None;
            round = cond (is_a_chain floor (lock_queue l.0) i) (in_its_chain v.share.doing.round) v.share.doing.round;
          };
        };
        out = sym m.nothing_out i;
      }))
      ∙ (λ i. seeing a.seen (record v {
        share = record v.share {
          doing = record v.share.doing { seen_in_section = None; round = round i };
        };
      })) in
      record {
        there = record {
          may = subst (MayPutDown floor l.0 mode) (sym bare)
              (leaving_seeing floor l.0 mode (with_looks v v.share.doing.looks_in_all v.share.doing.last_look None)
              (leaving_looked floor l.0 mode v m v.share.doing.looks_in_all v.share.doing.last_look None) a.seen);
          chain = one.value;
          of_lock = one.kind;
          out = chain_out floor l.0 v a one m.nothing_out;
        };
        kept = ap (once_released l.0 ComesIn) bare;
        leg = takes_chain (ap (λ (k : Knowledge). k.share.held) one.view) one.step;
      }

  pub stays_coming_to : (a : Knowledge) → a ≡ seeing a.seen v
      → FindsOut floor (its_chain floor (lock_queue l.0)) v a → ReleasesOn floor l mode ComesTo ComesTo v a
  stays_coming_to a view finds = record {
    there = leaving_still floor l.0 mode v a view m;
    kept = ap (once_released l.0 ComesTo) view;
    leg = finds_out ComesTo (its_chain floor (lock_queue l.0)) refl view finds;
  }

-- 3. The own record

module _ (floor : Description) (l : LockNo) (mode : Mode) (a : Knowledge) (m : LeavesWithChain floor l.0 mode a)
    (who : ℕ) (is : who ≡ a.thread) where
  pub may_take_own : who < length floor.threads
      → MayMake floor a (λ s. s.record_with who ≡ None) (TakesItem a.thread (RecordOf who) ∷ [])
  may_take_own low =
      wait.may_take_record_settled floor a (lock_queue l.0) m.chain m.out who low
      (off_the_way (with_none_out a) m.may.there)
      (record { awake = m.may.going.awake; unended = m.may.going.unended; stamped = m.may.going.stamped })

  pub stays_coming_in : (b : Knowledge) → b ≡ seeing b.seen a → FindsOut floor (RecordOf who) a b
      → ReleasesOn floor l mode ComesIn ComesIn a b
  stays_coming_in b view finds = record {
    there = subst (LeavesWithChain floor l.0 mode) (sym view) record {
      may = leaving_seeing floor l.0 mode (with_none_out a) m.may b.seen;
      chain = m.chain;
      of_lock = m.of_lock;
      out = m.out;
    };
    kept = ap (once_released l.0 ComesIn) view;
    leg = finds_out ComesIn (RecordOf who) (ap RecordOf is) view finds;
  }

  module _ (b : Knowledge) (two : Takes floor (RecordOf who) who a b) where
    own : Takes floor (RecordOf a.thread) a.thread a b
    own = subst (λ t. Takes floor (RecordOf t) t a b) is two

    its : b.thread ≡ a.thread
    its = ap (λ (k : Knowledge). k.thread) own.view

    both_now : HasRecordAndChain floor l.0 b
    both_now = both_out floor l.0 a b m.chain m.of_lock own m.out

    leaving_now : MayPutDown floor l.0 mode (with_none_out b)
    leaving_now = subst (MayPutDown floor l.0 mode) (sym (ap with_none_out own.view))
        (leaving_seeing floor l.0 mode (with_none_out a) m.may b.seen)

    pub may_let_now : MayLetGo floor l.0 mode b
    may_let_now = may_let floor l.0 mode b leaving_now both_now

    pub comes_in_on : (seen : ℕ) (c : Knowledge) → IsWellFormed (word_of seen)
        → c ≡ seeing c.seen (looked b l.0 (word_of seen)) → Makes floor (Looks b.thread l.0 (counts b l.0) ∷ []) b c
        → ReleasesOn floor l mode ComesIn (Frees seen) a c
    comes_in_on seen c formed view look =
        let quiet : counts b l.0 ≡ false = counts_not floor b l.0 mode leaving_now.no_round leaving_now.held in
        let saw : Option Look = Some (record { lock = l.0; word = word_of seen }) in
        let all : ℕ = suc b.share.doing.looks_in_all in
        let knows : c ≡ seeing c.seen (with_looks b all saw saw) =
        looks_on floor l.0 mode b c (word_of seen) view leaving_now.no_round leaving_now.held in
        let same : c.thread ≡ b.thread = ap (λ (k : Knowledge). k.thread) view in
        record {
          there = record {
            may = subst (MayPutDown floor l.0 mode) (sym (ap with_none_out knows))
                (leaving_seeing floor l.0 mode (with_looks (with_none_out b) all saw None)
                (leaving_looked floor l.0 mode (with_none_out b) leaving_now all saw None) c.seen);
            both = subst (HasRecordAndChain floor l.0) (sym view)
                (record {
                  box = both_now.box;
                  chain = both_now.chain;
                  of_lock = both_now.of_lock;
                  out = both_now.out;
                });
            own = subst (λ t. IsOwn t mode seen) (sym same)
                (saw_own floor l.0 mode seen (counts b l.0) b c leaving_now.held formed view look);
          };
          kept = ap (once_released l.0 (Frees seen)) knows ∙ ap (once_released l.0 ComesIn) own.view;
          leg = comes_in seen
              (ap (λ (k : Knowledge). k.share.held) view ∙ ap (λ (k : Knowledge). k.share.held) own.view) (
                b,
                own.step,
                (
                  c,
                  subst (λ (p : ℕ × Bool). Makes floor (Looks p.0 l.0 p.1 ∷ []) b c) (λ i. (its i, quiet i)) look,
                  refl,
                ),
              );
        }

-- 4. The lock is free

module _ (floor : Description) (l : LockNo) (mode : Mode) (seen : ℕ) (v w : Knowledge)
    (m : LeavesWithBoth floor l.0 mode seen v) where
  pub misses_on : (found : ℕ) → MissesOwn floor l.0 mode seen found v w
      → ReleasesOn floor l mode (Frees seen) (Frees found) v w
  misses_on found x =
      let quiet : counts v l.0 ≡ false = counts_not floor v l.0 mode m.may.no_round m.may.held in
      let saw : Option Look = Some (record { lock = l.0; word = word_of found }) in
      let all : ℕ = suc v.share.doing.looks_in_all in
      let knows : w ≡ seeing w.seen (with_looks v all saw saw) =
      looks_on floor l.0 mode v w (word_of found) x.view m.may.no_round m.may.held in
      record {
        there = record {
          may = subst (MayPutDown floor l.0 mode) (sym (ap with_none_out knows))
              (leaving_seeing floor l.0 mode (with_looks (with_none_out v) all saw None)
              (leaving_looked floor l.0 mode (with_none_out v) m.may all saw None) w.seen);
          both = subst (HasRecordAndChain floor l.0) (sym x.view)
              (record { box = m.both.box; chain = m.both.chain; of_lock = m.both.of_lock; out = m.both.out });
          own = subst (λ t. IsOwn t mode found) (sym (ap (λ (k : Knowledge). k.thread) x.view)) x.own;
        };
        kept = ap (once_released l.0 (Frees found)) knows;
        leg = looks seen found x.other (ap (λ (k : Knowledge). k.share.held) x.view)
            (subst (λ c. Makes floor (Looks v.thread l.0 c ∷ []) v w) quiet x.step);
      }

  module _ (g : LetsGo floor l.0 mode v w) where
    pub settled_freed : IsOffTheWay w.pose
    settled_freed = subst IsOffTheWay (sym (ap (λ (k : Knowledge). k.pose) g.view))
        (off_the_way (with_none_out v) m.may.there)

    pub unbound_freed : is_bound w.share.doing.round ≡ false
    unbound_freed = ap (λ (k : Knowledge). is_bound k.share.doing.round) g.view ∙ ap is_bound m.may.no_round

    pub going_freed : IsGoing w
    going_freed = rw g.view (assumption m.may.going)

    module _ (y : Knowledge) (given : y ≡ seeing y.seen (with_none_out w)) where
      freed : y ≡ seeing y.seen (with_none_out (opened_up v l.0 g.marks g.out))
      freed = given ∙ ap (λ (k : Knowledge). seeing y.seen (with_none_out k)) g.view

      going_on : IsGoing y
      going_on = rw freed (assumption m.may.going)

      -- it may wake those whom it took off: they stood on the lock's queue
      marks_on : MayGiveUp (with_none_out v) → CanMark y
      marks_on (inl runs) =
          runners_mark y (ap (λ (k : Knowledge). k.pose) freed ∙ runs) (ap (λ (k : Knowledge). k.out) freed) going_on
          (ap (λ (k : Knowledge). k.share.doing.counting) freed ∙ m.may.uncounted)
      marks_on (inr (d, stands)) =
          sleepers_mark y d l.0 g.places (ap (λ (k : Knowledge). k.pose) freed ∙ stands)
          (ap (λ (k : Knowledge). k.share.doing.marked) freed ∙ g.of_queue)
          (ap (λ (k : Knowledge). k.out) freed) going_on
          (ap (λ (k : Knowledge). k.share.doing.counting) freed ∙ m.may.uncounted)

      pub frees_on : MakesEach floor (gives_both floor w.thread l.0) w y
          → ReleasesOn floor l mode (Frees seen) Wakes v y
      frees_on gives =
          let give_steps : MakesEach floor (gives_both floor v.thread l.0) w y =
          subst (λ t. MakesEach floor (gives_both floor t l.0) w y) (ap (λ (k : Knowledge). k.thread) g.view) gives in
          record {
            there = record {
              unheld = ap (λ (k : Knowledge). hold_in k.share.held l.0) freed ∙ g.unheld;
              unseen = ap (λ (k : Knowledge). k.share.doing.last_look) freed;
              may = marks_on m.may.there;
            };
            kept = ap (once_released l.0 Wakes) freed;
            leg = makes_free seen g.opens (ap (λ (k : Knowledge). k.share.held) freed) (w, g.step, give_steps);
          }

-- 5. Those who are left are woken

module _ (l : ℕ) (v w : Knowledge) (h : HasPutDown l v) where
  pub down_still : w ≡ seeing w.seen v → HasPutDown l w
  down_still view = subst (HasPutDown l) (sym view) (assumption h)

  pub down_woken : (floor : Description) (t : ℕ) → WakesFirst floor t v w → HasPutDown l w
  down_woken floor t x = subst (HasPutDown l) (sym x.view) record {
    unheld = h.unheld;
    unseen = h.unseen;
    may = record {
      settled = h.may.settled;
      elsewhere = λ q stands. All-tail (λ (m : Mark). m.queue ≢ q) x.mark x.others
          (subst (All (λ (m : Mark). m.queue ≢ q)) x.marked (h.may.elsewhere q stands));
      nothing_out = h.may.nothing_out;
      going = record { awake = h.may.going.awake; unended = h.may.going.unended; stamped = h.may.going.stamped };
      uncounted = h.may.uncounted;
    };
  }

-- 6. The end

-- where nobody is left and nothing is out a thread is at rest, that is so once the release is done
pub rests : (floor : Description) (l : ℕ) (v : Knowledge) → IsAtRest floor (once_released l Wakes v) → HasPutDown l v
    → v.share.doing.marked ≡ [] → IsAtRest floor v
rests floor l v r h nobody = assumption (nobody, h.unseen, r, h.may)

module _ (floor : Description) (l : LockNo) (mode : Mode) (at : ReleaseAt) (v w : Knowledge)
    (u : IsUnderRelease floor l mode at v) where
  pub rest_kept : (to : ReleaseAt) → once_released l.0 to w ≡ once_released l.0 at v
      → hold_in (held_once l.0 to w.share.held) l.0 ≡ NotHeld → IsAtRest floor (once_released l.0 to w)
  rest_kept to kept unheld = subst (IsAtRest floor) (sym kept)
      (u.rest_then (sym (ap (λ (k : Knowledge). hold_in k.share.held l.0) kept) ∙ unheld))

  pub under_on : (to : ReleaseAt) → ReleasesOn floor l mode at to v w → IsUnderRelease floor l mode to w
  under_on to on = record { covered = u.covered; there = on.there; rest_then = rest_kept to on.kept }

  pub rests_then : IsReleased floor l mode at v w → IsAtRest floor w
  rests_then d = rests floor l.0 w (rest_kept Wakes d.kept d.down.unheld) d.down d.nobody

  pub under_woken : (t : ℕ) → HasWokenOne floor l.0 at t v w → IsUnderRelease floor l mode Wakes w
  under_woken t x = assumption (
    x.down,
    rest_kept Wakes (subst (λ a. once_released l.0 Wakes w ≡ once_released l.0 a v) (sym x.at_end) x.kept),
    u,
  )

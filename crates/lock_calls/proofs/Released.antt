-- A release is noted, and then it makes one exchange: each step may be made. Where the exchange hits, the thread is at
-- rest again; where it misses, the release is under way.
use Rattle.lock_calls.proofs.Names
use Names.{ℕ, Bool, true, false, [], length, inl, refl, sym, ap, subst, arith, NotHeld, Holds, hold_in, without_lock}
use Names.{Word, word_of, IsWellFormed, is_drop, Event, Unlocked, LockNo, Mode, Excl, Shared, State, Looks, Drops}
use Names.{Stamps, HasOutForEntry, NotesInRound, Asks, config_in, Description, Fits, Makes, MakesEach, MayMake}
use Names.{Knowledge, seeing, ComesTo, Pass, IsAtRest, MakesEntry, counts, looked, entry_by, stamped, put_down}
use Names.{dropped_unheld, own_log, counts_not, may_drop_settled, may_stamp, leaves, rest_left, rest_seeing, IsHeldIn}
use Names.{outside, IsReleasing, BeginsRelease, ReleasesAtOnce, held_once, once_released, MayRelease, IsOwn, MayPutDown}
use Rattle.std.proofs.Common.{◌≡◌, ◌≢◌, ◌+◌, ◌<◌, ◌≤◌, ◌∷◌, ◌∙◌}
use Rattle.lock_model.specs.Words.{gained}
use Rattle.lock_floor.specs.declared.calls.Call.TheVariants as calls
use Rattle.lock_calls.proofs.Calls.{call_noted, view_noted}
use Rattle.lock_calls.proofs.Leaving.{leaving_behind, stands_outside, looks_on, holds_outside}
use Rattle.lock_calls.proofs.Owned.{off_the_way, saw_own}
use Rattle.lock_calls.proofs.Words.{other_word}

-- 1. The entry

module _ (floor : Description) (v : Knowledge) (l : LockNo) (mode : Mode) (r : IsAtRest floor v)
    (held : hold_in v.share.held l.0 ≡ Holds mode) where
  asks : (s : State) → Fits floor v s → Asks (config_in floor) s v.thread (Unlocked l mode)
      × HasOutForEntry floor.chains s v.thread (Unlocked l mode)
  asks s f = (own_log floor v s f l.0 ∙ r.sections l.0 ∙ held, tt)

  pub may_note_release : MayMake floor v (λ s. Unit {0}) (Stamps v.thread (Unlocked l mode) ∷ [])
  may_note_release =
      may_stamp floor v (Unlocked l mode) asks (subst (λ o. NotesInRound o (Unlocked l mode)) (sym r.no_round) tt)
      (λ e. absurd (let z : false ≡ true = sym r.no_wait ∙ e in cc))
      r.runs r.going r.takes_nothing

  pub may_put_down : (ticket : ℕ) (w : Knowledge)
      → w ≡ seeing w.seen (stamped (config_in floor) v (entry_by v.thread ticket (Unlocked l mode)))
      → MayPutDown floor l.0 mode w
  may_put_down ticket w is =
      let x = leaves floor v l mode ticket r held in
      subst (MayPutDown floor l.0 mode) (sym is)
      record {
        held = held;
        closed = x.closed;
        begun = r.begun l.0 (λ q. absurd (let z : Holds mode ≡ NotHeld = sym held ∙ q in cc));
        unmarked = r.unmarked;
        uncounted = r.uncounted;
        there = inl r.runs;
        nothing_out = r.nothing_out;
        takes_nothing = r.takes_nothing;
        no_round = r.no_round;
        going = r.going;
      }

-- the thread's number is one of the floor's, which are few
pub few_threads : (floor : Description) (l : LockNo) (mode : Mode) (v w : Knowledge) (ticket : ℕ)
    → w ≡ seeing w.seen (stamped (config_in floor) v (entry_by v.thread ticket (Unlocked l mode)))
    → Makes floor (Stamps v.thread (Unlocked l mode) ∷ []) v w → w.thread ≤ 63
few_threads floor l mode v w ticket is m =
    omega (arith, ap (λ (k : Knowledge). k.thread) is, m.may.0.fits.may.thread, m.represents.sizes.sized.threads)

-- 2. The exchange

-- the word of a lock that the thread alone holds, and for which nobody is shown
pub own_drops : (own t : ℕ) (mode : Mode) → word_of own ≡ gained (word_of 0) t mode → is_drop (word_of own) ≡ true
own_drops own t Excl is = ap (λ (w : Word). is_drop w) is
own_drops own t Shared is = ap (λ (w : Word). is_drop w) is

pub own_is_held : (own t : ℕ) (mode : Mode) → word_of own ≡ gained (word_of 0) t mode
    → IsHeldIn (word_of own).holder mode
own_is_held own t Excl is = subst (λ (w : Word). IsHeldIn w.holder Excl) (sym is) tt
own_is_held own t Shared is = subst (λ (w : Word). IsHeldIn w.holder Shared) (sym is) tt

pub may_drop_own : (floor : Description) (l : ℕ) (mode : Mode) (own t : ℕ) (v : Knowledge) → l < length floor.locks
    → word_of own ≡ gained (word_of 0) t mode → MayPutDown floor l mode v
    → MayMake floor v (λ s. s.word l ≡ word_of own) (Drops v.thread l mode ∷ [])
may_drop_own floor l mode own t v low is m =
    may_drop_settled floor v l mode (word_of own) low m.held (own_drops own t mode is) m.closed m.begun m.takes_nothing
    (off_the_way v m.there) m.going

-- another word is another than that one
pub other_own : (found own t s : ℕ) (mode : Mode) → found ≢ own → word_of own ≡ gained (word_of 0) t mode → t ≡ s
    → word_of found ≢ gained (word_of 0) s mode
other_own found own t s mode other is same e =
    other_word found own other (e ∙ ap (λ n. gained (word_of 0) n mode) (sym same) ∙ sym is)

-- 3. Where the release stands then

module _ (floor : Description) (l : LockNo) (mode : Mode) (ticket : ℕ) (old v new : Knowledge) (r : IsAtRest floor old)
    (held : hold_in old.share.held l.0 ≡ Holds mode) (room : 1 ≤ old.spare) where
  abbrev e : Event
  e = Unlocked l mode

  abbrev noted : Knowledge
  noted = stamped (config_in floor) old (entry_by old.thread ticket e)

  module _ (says : v ≡ seeing v.seen noted) where
    its : v.thread ≡ old.thread
    its = ap (λ (k : Knowledge). k.thread) says

    pub leaving_noted : MayPutDown floor l.0 mode v
    leaving_noted = may_put_down floor old l mode r held ticket v says

    -- it is at rest once it has put the lock down
    rest_then : hold_in (without_lock l.0 v.share.held) l.0 ≡ NotHeld → IsAtRest floor (put_down v l.0)
    rest_then = subst (λ k. hold_in (without_lock l.0 k.share.held) l.0 ≡ NotHeld → IsAtRest floor (put_down k l.0))
        (sym says) (rest_left floor l.0 mode noted (leaves floor old l mode ticket r held) v.seen)

    pub rest_once : hold_in (without_lock l.0 v.share.held) l.0 ≡ NotHeld → IsAtRest floor (once_released l.0 ComesTo v)
    rest_once unheld =
        let k : IsAtRest floor (put_down v l.0) = rest_then unheld in
        assumption k

    -- it put the lock down
    pub at_once : Makes floor (Stamps old.thread e ∷ []) old v → new ≡ seeing new.seen (put_down v l.0)
        → Makes floor (Drops v.thread l.0 mode ∷ []) v new → ReleasesAtOnce floor l mode old new
    at_once step view drops =
        let is : new ≡ seeing new.seen (put_down noted l.0) =
        view ∙ ap (λ (k : Knowledge). seeing new.seen (put_down k l.0)) says in
        let unheld : hold_in (without_lock l.0 v.share.held) l.0 ≡ NotHeld =
        subst (λ hs. hold_in hs l.0 ≡ NotHeld) (ap (λ (k : Knowledge). k.share.held) view)
        (dropped_unheld floor v new l.0 mode drops) in
        record {
          rest = subst (IsAtRest floor) (sym view)
              (rest_seeing floor (put_down v l.0) new.seen (rest_then unheld));
          entry = record {
            ticket = ticket;
            log = ap (λ (k : Knowledge). k.share.log) is;
            held = ap (λ (k : Knowledge). k.share.held) is;
            spare = ap (λ (k : Knowledge). k.spare + 1) is ∙ omega (arith, room);
            thread = ap (λ (k : Knowledge). k.thread) is;
            before = old;
            behind = v;
            of = refl;
            step = step;
            log_before = refl;
            log_behind = ap (λ (k : Knowledge). k.share.log) says ∙ sym (ap (λ (k : Knowledge). k.share.log) is);
          };
          steps = (v, step, (new, subst (λ t. Makes floor (Drops t l.0 mode ∷ []) v new) its drops, refl));
        }

    -- or its exchange missed
    module _ (word : Word) (view : new ≡ seeing new.seen (looked v l.0 word)) where
      pub noted_so_far : Makes floor (Stamps old.thread e ∷ []) old v
          → MakesEntry floor e old.share.held old new
      noted_so_far step =
          let is : new ≡ seeing new.seen (looked noted l.0 word) =
          view ∙ ap (λ (k : Knowledge). seeing new.seen (looked k l.0 word)) says in
          record {
            ticket = ticket;
            log = ap (λ (k : Knowledge). k.share.log) is;
            held = ap (λ (k : Knowledge). k.share.held) is;
            spare = ap (λ (k : Knowledge). k.spare + 1) is ∙ omega (arith, room);
            thread = ap (λ (k : Knowledge). k.thread) is;
            before = old;
            behind = v;
            of = refl;
            step = step;
            log_before = refl;
            log_behind = ap (λ (k : Knowledge). k.share.log) says ∙ sym (ap (λ (k : Knowledge). k.share.log) is);
          }

      pub begin_steps : Makes floor (Stamps old.thread e ∷ []) old v
          → Makes floor (Looks v.thread l.0 (counts v l.0) ∷ []) v new
          → MakesEach floor ((Stamps old.thread e ∷ []) ∷ (Looks old.thread l.0 false ∷ []) ∷ []) old new
      begin_steps step look =
          let quiet : counts v l.0 ≡ false =
          counts_not floor v l.0 mode leaving_noted.no_round leaving_noted.held in (
            v,
            step,
            (
              new,
              subst (λ (p : ℕ × Bool). Makes floor (Looks p.0 l.0 p.1 ∷ []) v new) (λ i. (its i, quiet i)) look,
              refl,
            ),
          )

pub begins : (floor : Description) (l : LockNo) (mode : Mode) (ticket : ℕ) (old v : Knowledge) (r : IsAtRest floor old)
    (held : hold_in old.share.held l.0 ≡ Holds mode) (room : 1 ≤ old.spare) (p u q : Pass Knowledge)
    → MayRelease floor l.0 mode p.view → p.view ≡ old
    → (says : v ≡ seeing v.seen (stamped (config_in floor) old (entry_by old.thread ticket (Unlocked l mode))))
    → Makes floor (Stamps old.thread (Unlocked l mode) ∷ []) old v → (found : ℕ) → IsWellFormed (word_of found)
    → word_of found ≢ gained (word_of 0) old.thread mode → u.view ≡ seeing u.view.seen (looked v l.0 (word_of found))
    → Makes floor (Looks v.thread l.0 (counts v l.0) ∷ []) v u.view
    → q ≡ record u { call = calls.Release l mode (outside mode found) } → BeginsRelease floor l mode p q
begins floor l mode ticket old v r held room p u q may is says step found formed other view look noted =
    subst (λ k. BeginsRelease floor l mode (record p { view = k }) q) (sym is) record {
      found = found;
      call = call_noted u q (calls.Release l mode (outside mode found)) noted;
      there = assumption (
        subst (IsReleasing floor l.0 mode (outside mode found)) same (stands_outside floor l.0 mode found u.view
            (leaving_behind floor l.0 mode v u.view (word_of found) view leaving)
            (subst (λ t. IsOwn t mode found) (sym (ap (λ (k : Knowledge). k.thread) view))
            (saw_own floor l.0 mode found (counts v l.0) v u.view leaving.held formed view look))),
        subst (λ k. hold_in (held_once l.0 (outside mode found) k.share.held) l.0 ≡ NotHeld
            → IsAtRest floor (once_released l.0 (outside mode found) k)) same
            (λ unheld. subst (IsAtRest floor) (sym kept) (rest_once floor l mode ticket old v u.view r held room says
            (sym (ap (λ (k : Knowledge). hold_in k.share.held l.0) kept) ∙ unheld))),
        may,
      );
      saw = ap (λ (k : Knowledge). k.share.doing.last_look) (sym same ∙ view);
      other = other;
      entry = subst (λ k. MakesEntry floor (Unlocked l mode) old.share.held old k) same
          (noted_so_far floor l mode ticket old v u.view r held room says (word_of found) view step);
      steps = subst (λ k. MakesEach floor
          ((Stamps old.thread (Unlocked l mode) ∷ []) ∷ (Looks old.thread l.0 false ∷ [])
          ∷ []) old k) same (begin_steps floor l mode ticket old v u.view r held room says (word_of found) view step
          look);
    }
  where
    same : u.view ≡ q.view
    same = sym (view_noted u q (calls.Release l mode (outside mode found)) noted)

    leaving : MayPutDown floor l.0 mode v
    leaving = leaving_noted floor l mode ticket old v u.view r held room says

    kept : once_released l.0 (outside mode found) u.view ≡ once_released l.0 ComesTo v
    kept = holds_outside l.0 mode found u.view
        ∙ ap (once_released l.0 ComesTo)
        (looks_on floor l.0 mode v u.view (word_of found) view leaving.no_round leaving.held)

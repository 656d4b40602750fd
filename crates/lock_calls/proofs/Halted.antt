-- A take whose sleep an abort ended: it notes that, and the thread is at rest again. No sleep on a turnstile is ended
-- so.
use Rattle.lock_calls.proofs.Names
use Names.{ℕ, Bool, true, false, None, [], refl, sym, ap, subst, arith, same_Some, Config, Cause, BySignal, ByAbort}
use Names.{lock_queue, is_turnstile, Event, HaltedLock, LockNo, QueueName, NoSleepIsHalted, State, Awake, Stamps}
use Names.{Resumes, HasOutForEntry, Asks, called_after, wanted_after, noted_after, taking_by, woken_from_by, round_for}
use Names.{config_in, Description, Doing, Fits, Makes, MayMake, Runs, StandsOn, Knowledge, seeing, Sleeps, IsAtRest}
use Names.{cause_of, resumed, RunsAgain, entry_by, stamped, doing_it, holds_it, may_stamp_end, rest_noted, rest_seeing}
use Names.{IsParked, IsHalted, kept_at, IsCalling}
use Rattle.std.proofs.Common.{◌≡◌, ◌+◌, ◌≤◌, ◌∷◌, ◌∙◌}
use Rattle.lock_calls.proofs.Standing.{by_signal}

-- at the moment of such an entry the halt word is 1
pub halt_is_set : (floor : Description) (l : LockNo) (t : ℕ) (v w : Knowledge)
    (m : Makes floor (Stamps t (HaltedLock l) ∷ []) v w) → m.state.halted ≡ true
unfolding NoSleepIsHalted
halt_is_set floor l t v w m = go m.state.halted refl
  where
    go : (b : Bool) → m.state.halted ≡ b → m.state.halted ≡ true
    go true e = e
    go false e = absurd
        (m.sound.sleepers.no_sleep_is_halted e t (lock_queue l.0) m.may.0.fits.may.asks.0)

module _ (floor : Description) (l : LockNo) (z : Knowledge) (m : IsParked l.0 z)
    (calls : IsCalling floor (kept_at Sleeps z)) (w : Knowledge) (aborted : Bool) (is : aborted ≡ true)
    (r : RunsAgain floor (cause_of aborted) z w) where
  abbrev c : Config
  c = config_in floor

  abbrev q : QueueName
  q = lock_queue l.0

  abbrev e : Event
  e = HaltedLock l

  its_queue : r.queue ≡ q
  its_queue = let same : StandsOn r.queue ≡ StandsOn q = sym r.stands ∙ m.standing.stands in cc

  its_cause : cause_of aborted ≡ ByAbort
  its_cause = ap cause_of is

  sleeps : is_turnstile (c.kind l.0) ≡ false
  sleeps = go (is_turnstile (c.kind l.0)) refl
    where
      go : (b : Bool) → is_turnstile (c.kind l.0) ≡ b → is_turnstile (c.kind l.0) ≡ false
      go false out = out
      go true turnstile = absurd
          (let x : ByAbort ≡ BySignal = sym its_cause
          ∙ by_signal floor l.0 turnstile z w r.queue (cause_of aborted) its_queue r.step in cc)

  -- what it knows then, in a wait or not
  abbrev aborted_in : Bool → Knowledge
  aborted_in back =
      let x : Doing = z.share.doing in
      let after : Doing = record x {
        called = called_after q ByAbort x.called;
        wanted = wanted_after c q ByAbort back x.wanted;
        noted = noted_after q ByAbort back x.noted;
        taking = taking_by c q x.taking;
        woken_from = woken_from_by q ByAbort x.woken_from;
        looks = 0;
        round = round_for (wanted_after c q ByAbort back x.wanted);
        phase = Awake;
      } in
      record z { share = record z.share { doing = after }; pose = Runs }

  -- the same with the take and its halt forgotten, which the entry does
  abbrev forgotten : Knowledge
  forgotten = record (aborted_in false) {
    share = record (aborted_in false).share {
      doing = record (aborted_in false).share.doing { taking = None; noted = None };
    };
  }

  ran : w ≡ seeing w.seen (aborted_in false)
  ran = r.view ∙ (λ i. seeing w.seen (resumed c z (its_queue i) (its_cause i)))
      ∙ (λ i. seeing w.seen (aborted_in (calls.no_wait i)))

  its : w.thread ≡ z.thread
  its = ap (λ (x : Knowledge). x.thread) ran

  abbrev v : Knowledge
  v = seeing w.seen (aborted_in false)

  asks : (s : State) → Fits floor v s → Asks c s z.thread e × HasOutForEntry floor.chains s z.thread e
  asks s f = ((doing_it floor v s f (λ d. d.noted), holds_it floor v s f l.0 ∙ m.standing.unheld), tt)

  pub may_note_halt : MayMake floor w (λ s. Unit {0}) (Stamps w.thread e ∷ [])
  may_note_halt =
      subst (λ (x : Knowledge). MayMake floor x (λ s. Unit {0}) (Stamps x.thread e ∷ [])) (sym ran)
      (may_stamp_end floor v e asks tt (λ back. absurd (let y : false ≡ true = sym calls.no_wait ∙ back in cc)) refl
      (record { awake = refl; unended = calls.going.unended; stamped = calls.going.stamped })
      (λ k takes. (same_Some l.0 k (sym m.standing.takes ∙ takes), calls.no_wait)))

  pub room_for_halt : 1 ≤ z.spare → 1 ≤ w.spare
  room_for_halt room = subst (λ (x : Knowledge). 1 ≤ x.spare) (sym ran) room

  rests : (ticket : ℕ) → IsAtRest floor (stamped c (aborted_in false) (entry_by z.thread ticket e))
  rests ticket =
      rest_noted floor forgotten ticket e refl (assumption (
        sym m.standing.walk_is,
        m,
        calls,
      )) calls.sections calls.begun

  pub is_halted : 1 ≤ z.spare → (new : Knowledge) (ticket : ℕ)
      → new ≡ seeing new.seen (stamped c w (entry_by w.thread ticket e))
      → Makes floor (Stamps w.thread e ∷ []) w new → IsHalted floor l Sleeps z new
  is_halted room new ticket says step =
      let halted : new ≡ seeing new.seen (stamped c (aborted_in false) (entry_by z.thread ticket e)) =
      says ∙ ap (λ (x : Knowledge). seeing new.seen (stamped c x (entry_by x.thread ticket e))) ran in
      let noted : Makes floor (Stamps z.thread e ∷ []) w new =
      subst (λ t. Makes floor (Stamps t e ∷ []) w new) its step in
      record {
        sleeps = sleeps;
        slept = refl;
        rest = subst (IsAtRest floor) (sym halted)
            (rest_seeing floor (stamped c (aborted_in false) (entry_by z.thread ticket e)) new.seen (rests ticket));
        entry = record {
          ticket = ticket;
          log = ap (λ (x : Knowledge). x.share.log) halted;
          held = ap (λ (x : Knowledge). x.share.held) halted;
          spare = ap (λ (x : Knowledge). x.spare + 1) halted ∙ omega (arith, room);
          thread = ap (λ (x : Knowledge). x.thread) halted;
          before = w;
          behind = new;
          of = its;
          step = noted;
          log_before = ap (λ (x : Knowledge). x.share.log) ran;
          log_behind = refl;
        };
        runs = w;
        resumes = subst (λ (p : QueueName × Cause). Makes floor (Resumes z.thread p.0 p.1 ∷ []) z w)
            (λ i. (its_queue i, its_cause i)) r.step;
        notes = noted;
        halt_word = halt_is_set floor l z.thread w new noted;
      }

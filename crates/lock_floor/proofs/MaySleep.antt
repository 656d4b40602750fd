-- What a thread knows by its seat allows its steps on sleep queues: it goes to sleep on a channel, and takes sleepers
-- off one.
use Rattle.lock_floor.proofs.Names
use Names.{ℕ, Bool, true, false, cond, eqb, eq-eqb, Some, None, List, [], length, refl, sym, ap, subst, inl, ne_eqb}
use Names.{rest, head_of, own_section, Config, open_in, left_in, NotHeld, hold_in, lock_queue, chan_queue, Word, admits}
use Names.{is_free, is_turnstile, Entry, Event, Sleeps, Woke, HaltedChan, WokeOne, WokeAll, ChanNo, Mode, X, QueueName}
use Names.{RecordColumns, chain_woken, State, HeldLock, Awake, NoWalk, SleepHalted, gained_order, Step, Stamps, HasItem}
use Names.{HasOutForEntry, NotesInRound, EndsItsTake, is_waking, SleepChain, Asks, Returns, IsTheWake, is_taking_back}
use Names.{is_woken, bound_to, after_stamp, has_slept, config_in, IsPosed, found, Fits, MayMake, Knowledge, Runs}
use Names.{seeing, Description, Slot, Record, SleepQueues, found_first, IsGoing, MayEnterAsleep, HasSleepersOut}
use Names.{HasSleeperOut, MayWakeSleepers, MayAddItself, WakesSleepers, entry_by, stamped, chain_place}
use Rattle.std.proofs.Common.{◌≡◌, ◌≢◌, ◌<◌, ◌%◌, ◌∷◌, ◌∙◌}
use Rattle.floor_table.specs.Views.{IsReady}
use Rattle.lock_floor.proofs.BothOut.{own_there, chain_there}
use Rattle.lock_floor.proofs.ChainPlaces.{chain_at}
use Rattle.lock_floor.proofs.May.{column, doing_it, holds_it, own_log, own_left, may_stamp_end, is_acting, not_away_settled, awake_now, stamped_now, goes_on}
use Rattle.lock_floor.proofs.Resting.{behind}
use Rattle.lock_floor.proofs.MayWait.{IsNoSleeper, must_wait, saw_it, goes_on_ready}

-- a thread that runs and goes on, with nobody left to mark, may wake sleepers of a channel whose chain it took last
pub may_wake_sleepers : (floor : Description) (v : Knowledge) (d : ℕ) (all : Bool) → d < length floor.chans
    → HasSleepersOut floor (chan_queue d) v → v.pose ≡ Runs → IsGoing v → v.share.doing.marked ≡ []
    → MayWakeSleepers floor d all v
may_wake_sleepers floor v d all low sleepers runs going unmarked = record {
  sleepers = sleepers;
  may = λ s f _.
      let j : ℕ = chain_place floor (chan_queue d) in (
        record {
          fits = record {
            may = record {
              thread = f.thread;
              chan = low;
              unmarked = doing_it floor v s f (λ x. x.marked) ∙ unmarked;
              stamped = doing_it floor v s f (λ x. x.unstamped) ∙ going.stamped;
            };
            has_out = (f.out.each (SleepChain (d % floor.chains)) j (SleepQueues sleepers.chain)
                (chain_at floor f.sized.some_chains (chan_queue d))
                (ap (found j) sleepers.last ∙ found_first j (SleepQueues sleepers.chain) (rest v.out))).0;
            has_seen = tt;
            asks_of_thread = goes_on floor v s f runs going;
          };
          keeps_order = tt;
          keeps_count = tt;
        },
        tt,
      );
}

-- The entry of a wake of a channel

abbrev pub waking : Bool → ChanNo → ℕ → Event
waking false d woken = WokeOne d woken
waking true d woken = WokeAll d woken

asks_wake : (c : Config) (s : State) (t : ℕ) (all : Bool) (d : ChanNo) (woken : ℕ)
    → IsTheWake (s.unstamped t) d.0 all woken → Asks c s t (waking all d woken)
asks_wake c s t false d woken is = is
asks_wake c s t true d woken is = is

needs_chain : (chains : ℕ) (s : State) (t : ℕ) (all : Bool) (d : ChanNo) (woken : ℕ)
    → HasItem s t (SleepChain (d.0 % chains)) → HasOutForEntry chains s t (waking all d woken)
needs_chain chains s t false d woken out = out
needs_chain chains s t true d woken out = out

notes_wake : (all : Bool) (d : ChanNo) (woken : ℕ) → is_waking (waking all d woken) ≡ true
notes_wake false d woken = refl
notes_wake true d woken = refl

-- what it knows behind the wake: it runs on, whom it took off is to be noted, and the chain is still out
pub record HasWokenUp (floor : Description) (d : ℕ) (all : Bool) (woken : ℕ) (v : Knowledge) : Type 0 where
  pub sleepers : HasSleepersOut floor (chan_queue d) v
  pub runs : v.pose ≡ Runs
  pub awake : v.share.doing.phase ≡ Awake
  pub unended : v.share.doing.has_ended ≡ false
  pub takes : v.share.doing.taking ≡ None
  pub no_round : v.share.doing.round ≡ None
  pub no_wait : is_taking_back v.share.log ≡ false
  pub unnoted : IsTheWake v.share.doing.unstamped d all woken

-- as the wake leaves it of a thread that goes on, takes nothing and isn't in a wait
pub has_woken_up : (floor : Description) (d : ℕ) (all : Bool) (woken : ℕ) (old new : Knowledge)
    → WakesSleepers floor d all woken old new → old.pose ≡ Runs → IsGoing old → old.share.doing.taking ≡ None
    → old.share.doing.round ≡ None → is_taking_back old.share.log ≡ false → HasWokenUp floor d all woken new
has_woken_up floor d all woken old new w runs going takes no_round no_wait =
    subst (HasWokenUp floor d all woken) (sym w.view) (record {
      sleepers = record {
        chain = chain_woken (chan_queue d) all X (head_of (chan_queue d) w.sleepers.chain) w.sleepers.chain;
        last = refl;
      };
      runs = runs;
      awake = going.awake;
      unended = going.unended;
      takes = takes;
      no_round = no_round;
      no_wait = no_wait;
      unnoted = (refl, refl, w.answer);
    })

-- then it may make that entry
pub may_stamp_waking : (floor : Description) (v : Knowledge) (d : ChanNo) (all : Bool) (woken : ℕ)
    → HasWokenUp floor d.0 all woken v → MayMake floor v (λ s. Unit {0}) (Stamps v.thread (waking all d woken) ∷ [])
may_stamp_waking floor v d all woken h s f _ =
    let c : Config = config_in floor in
    let t : ℕ = v.thread in
    let e : Event = waking all d woken in
    let j : ℕ = chain_place floor (chan_queue d.0) in
    let none : s.taking t ≡ None = doing_it floor v s f (λ x. x.taking) ∙ h.takes in
    let ends : EndsItsTake c s t e = λ l takes. absurd (let z : None ≡ Some l = sym none ∙ takes in cc) in
    let away : is_taking_back (s.log t) ≡ false = ap is_taking_back (sym (column floor v s f (λ x. x.log)))
    ∙ h.no_wait in (
      record {
        fits = record {
          may = record {
            thread = f.thread;
            acting = is_acting floor v s f h.runs;
            asks = asks_wake c s t all d woken
                (subst (λ o. IsTheWake o d.0 all woken) (sym (doing_it floor v s f (λ x. x.unstamped))) h.unnoted);
          };
          has_out = needs_chain floor.chains s t all d woken
              (f.out.each (SleepChain (d.0 % floor.chains)) j (SleepQueues h.sleepers.chain)
              (chain_at floor f.sized.some_chains (chan_queue d.0))
              (ap (found j) h.sleepers.last ∙ found_first j (SleepQueues h.sleepers.chain) (rest v.out))).0;
          has_seen = record {
            in_round = subst (λ r. NotesInRound r e) (sym (doing_it floor v s f (λ x. x.round) ∙ h.no_round)) tt;
            asleep = λ back. absurd (let z : true ≡ false = sym back ∙ away in cc);
            wakes = λ ne. notes_wake all d woken;
            takes = ends;
          };
          asks_of_thread = record {
            runs = record {
              phase = doing_it floor v s f (λ x. x.phase) ∙ h.awake;
              unended = doing_it floor v s f (λ x. x.has_ended) ∙ h.unended;
            };
            added = not_away_settled floor v s f (inl h.runs);
          };
        };
        keeps_order = ends;
        keeps_count = tt;
      },
      tt,
    )

-- What a thread knows that is about to note that it sleeps on a channel: it was made ready, isn't in a wait, wants and
-- takes nothing, and seeks no lock; the section of the wait's lock is open, which it gained last, by a blocking call,
-- and so are those of the other locks that it holds
pub record IsBeforeItsSleep (floor : Description) (d : ℕ) (v : Knowledge) : Type 0 where
  pub ready : v.pose ≡ IsReady
  pub going : IsGoing v
  pub no_wait : is_taking_back v.share.log ≡ false
  pub wants : v.share.doing.wanted ≡ None
  pub takes : v.share.doing.taking ≡ None
  pub no_round : v.share.doing.round ≡ None
  pub opened : open_in (config_in floor) v.share.log v.thread ((config_in floor).chan_lock d) ≢ NotHeld
  pub sections : (k : ℕ) → k ≢ (config_in floor).chan_lock d
      → open_in (config_in floor) v.share.log v.thread k ≡ hold_in v.share.held k
  pub others : List HeldLock
  pub last : gained_order v.share.held
      ≡ record { lock = (config_in floor).chan_lock d; by_try = false } ∷ others

-- it may make that entry, with the chain and its record out
pub may_stamp_sleeps : (floor : Description) (v : Knowledge) (d : ChanNo) → d.0 < length floor.chans
    → HasSleeperOut floor (chan_queue d.0) v → IsBeforeItsSleep floor d.0 v
    → MayMake floor v (λ s. Unit {0}) (Stamps v.thread (Sleeps d) ∷ [])
may_stamp_sleeps floor v d low both h s f _ =
    let c : Config = config_in floor in
    let t : ℕ = v.thread in
    let e : Event = Sleeps d in
    let p = subst (λ k. IsPosed k (s.wait t) (s.blocked_on t)) h.ready f.pose in
    let none : s.taking t ≡ None = doing_it floor v s f (λ x. x.taking) ∙ h.takes in
    let ends : EndsItsTake c s t e = λ l takes. absurd (let z : None ≡ Some l = sym none ∙ takes in cc) in
    let noted : s.unstamped t ≡ None = stamped_now floor v s f h.going in
    let away : is_taking_back (s.log t) ≡ false = ap is_taking_back (sym (column floor v s f (λ x. x.log)))
    ∙ h.no_wait in (
      record {
        fits = record {
          may = record {
            thread = f.thread;
            acting = record { unnamed = p.1; unwoken = ap is_woken p.0 };
            asks = record {
              chan = low;
              queued = p.0;
              wants = doing_it floor v s f (λ x. x.wanted) ∙ h.wants;
              opened = λ closed. h.opened (sym (own_log floor v s f (c.chan_lock d.0)) ∙ closed);
              last = record { others = h.others; last = sym (column floor v s f (λ x. x.held_locks)) ∙ h.last };
              sections = λ k m holds other.
                  own_log floor v s f k ∙ h.sections k other ∙ sym (holds_it floor v s f k) ∙ holds;
            };
          };
          has_out = (chain_there floor v (chan_queue d.0) (Record both.box) (SleepQueues both.chain) both.out s f).0;
          has_seen = record {
            in_round = subst (λ r. NotesInRound r e) (sym (doing_it floor v s f (λ x. x.round) ∙ h.no_round)) tt;
            asleep = λ back. absurd (let z : true ≡ false = sym back ∙ away in cc);
            wakes = λ ne. absurd (ne noted);
            takes = ends;
          };
          asks_of_thread = record {
            runs = awake_now floor v s f h.going;
            added = λ o. let z : true ≡ false = sym o.slept ∙ away in cc;
          };
        };
        keeps_order = ends;
        keeps_count = tt;
      },
      tt,
    )

-- What a thread knows that is about to sleep on a channel: it was made ready, its newest entry is that of the sleep, it
-- wants and takes nothing, seeks no lock and has nothing to note, the sections of the other locks that it holds are
-- open, and it gained the lock of the wait last, by a blocking call
pub record IsGoingToSleep (floor : Description) (d : ℕ) (v : Knowledge) : Type 0 where
  pub ready : v.pose ≡ IsReady
  pub going : IsGoing v
  pub slept : has_slept d v.share.log ≡ true
  pub wants : v.share.doing.wanted ≡ None
  pub takes : v.share.doing.taking ≡ None
  pub no_round : v.share.doing.round ≡ None
  pub unwoken : v.share.doing.woken_from ≡ None
  pub unnoted : v.share.doing.noted ≡ None
  pub sections : (k : ℕ) → k ≢ (config_in floor).chan_lock d
      → open_in (config_in floor) v.share.log v.thread k ≡ hold_in v.share.held k
  pub others : List HeldLock
  pub last : gained_order v.share.held
      ≡ record { lock = (config_in floor).chan_lock d; by_try = false } ∷ others

-- as that entry leaves it
slept_section : (c : Config) (log : List Entry) (t ticket k : ℕ) (d : ChanNo)
    → open_in c (entry_by t ticket (Sleeps d) ∷ log) t k
    ≡ cond (eqb (c.chan_lock d.0) k) NotHeld (open_in c log t k)
unfolding after_stamp
slept_section c log t ticket k d = own_section c (behind c log ticket) t (Sleeps d) k

pub going_to_sleep : (floor : Description) (v : Knowledge) (d : ChanNo) (ticket : ℕ) (seen : List Step)
    → IsBeforeItsSleep floor d.0 v → IsGoingToSleep floor d.0
    (seeing seen (stamped (config_in floor) v (entry_by v.thread ticket (Sleeps d))))
going_to_sleep floor v d ticket seen h =
    let c : Config = config_in floor in
    record {
      ready = h.ready;
      going = assumption h.going;
      slept = eq-eqb d.0 d.0 refl;
      wants = h.wants;
      takes = h.takes;
      no_round = h.no_round;
      unwoken = refl;
      unnoted = refl;
      sections = λ k ne. slept_section c v.share.log v.thread ticket k d
          ∙ ap (λ b. cond b NotHeld (open_in c v.share.log v.thread k)) (ne_eqb (c.chan_lock d.0) k (λ e. ne (sym e)))
          ∙ h.sections k ne;
      others = h.others;
      last = h.last;
    }

-- it may stand on the channel's queue, with the chain and its record out, and its sleep queue at home
pub may_add_itself : (floor : Description) (v : Knowledge) (d own : ℕ) → d < length floor.chans
    → (both : HasSleeperOut floor (chan_queue d) v) → both.box.value.sleep_queue ≡ Some own → IsGoingToSleep floor d v
    → MayAddItself floor d v
may_add_itself floor v d own low both home h = record {
  sleeper = both;
  own = own;
  home = home;
  may = λ s f _.
      let c : Config = config_in floor in
      let t : ℕ = v.thread in
      let p = subst (λ k. IsPosed k (s.wait t) (s.blocked_on t)) h.ready f.pose in
      let rec = own_there floor v (chan_queue d) (Record both.box) (SleepQueues both.chain) both.out s f in (
        record {
          fits = record {
            may = record {
              thread = f.thread;
              chan = low;
              queued = p.0;
              unnamed = p.1;
              own = sym (ap (λ (r : RecordColumns). r.sleep_queue) rec.1.columns) ∙ home;
              wants = doing_it floor v s f (λ x. x.wanted) ∙ h.wants;
              slept = ap (has_slept d) (sym (column floor v s f (λ x. x.log))) ∙ h.slept;
              unwoken = doing_it floor v s f (λ x. x.woken_from) ∙ h.unwoken;
              sections = λ k m holds other.
                  own_log floor v s f k ∙ h.sections k other ∙ sym (holds_it floor v s f k) ∙ holds;
            };
            has_out = (
              (chain_there floor v (chan_queue d) (Record both.box) (SleepQueues both.chain) both.out s f).0,
              rec.0,
            );
            has_seen = record {
              no_round = doing_it floor v s f (λ x. x.round) ∙ h.no_round;
              stamped = doing_it floor v s f (λ x. x.unstamped) ∙ h.going.stamped;
              unnoted = doing_it floor v s f (λ x. x.noted) ∙ h.unnoted;
            };
            asks_of_thread = record {
              phase = doing_it floor v s f (λ x. x.phase) ∙ h.going.awake;
              unended = doing_it floor v s f (λ x. x.has_ended) ∙ h.going.unended;
            };
          };
          keeps_order = record {
            takes = doing_it floor v s f (λ x. x.taking) ∙ h.takes;
            last = record { others = h.others; last = sym (column floor v s f (λ x. x.held_locks)) ∙ h.last };
          };
          keeps_count = tt;
        },
        tt,
      );
}

-- What a thread knows whose wait on a channel is over: it runs, and holds the lock of the wait again as before, with no
-- section of it open; where a take is under way, it is of that lock
pub record HasItBack (floor : Description) (d : ℕ) (v : Knowledge) : Type 0 where
  pub runs : v.pose ≡ Runs
  pub going : IsGoing v
  pub no_round : v.share.doing.round ≡ None
  pub back : is_taking_back v.share.log ≡ true
  pub held : hold_in v.share.held ((config_in floor).chan_lock d)
      ≡ left_in (config_in floor) v.share.log v.thread ((config_in floor).chan_lock d)
  pub holds : hold_in v.share.held ((config_in floor).chan_lock d) ≢ NotHeld
  pub closed : open_in (config_in floor) v.share.log v.thread ((config_in floor).chan_lock d) ≡ NotHeld
  pub takes : (k : ℕ) → v.share.doing.taking ≡ Some k → (config_in floor).chan_lock d ≡ k

module _ (floor : Description) (v : Knowledge) (d : ChanNo) (h : HasItBack floor d.0 v) where
  abbrev c : Config
  c = config_in floor

  returns : (s : State) → Fits floor v s → Returns c s v.thread (c.chan_lock d.0)
  returns s f =
      let l : ℕ = c.chan_lock d.0 in
      record {
        held = holds_it floor v s f l ∙ h.held ∙ own_left floor v s f l;
        holds = λ e. h.holds (sym (holds_it floor v s f l) ∙ e);
        closed = own_log floor v s f l ∙ h.closed;
      }

  -- whom a signal woke may say so
  pub may_stamp_woke : v.share.doing.woken_from ≡ Some d.0
      → MayMake floor v (λ s. Unit {0}) (Stamps v.thread (Woke d) ∷ [])
  may_stamp_woke woken =
      may_stamp_end floor v (Woke d) (λ s f. ((returns s f, doing_it floor v s f (λ x. x.woken_from) ∙ woken), tt))
      (subst (λ r. NotesInRound r (Woke d)) (sym h.no_round) tt) (λ _. refl) h.runs h.going
      (λ k takes. (h.takes k takes, h.back))

  -- and whose sleep was ended, that it was
  pub may_stamp_halted : v.share.doing.noted ≡ Some (SleepHalted (chan_queue d.0))
      → MayMake floor v (λ s. Unit {0}) (Stamps v.thread (HaltedChan d) ∷ [])
  may_stamp_halted noted =
      may_stamp_end floor v (HaltedChan d) (λ s f. ((returns s f, doing_it floor v s f (λ x. x.noted) ∙ noted), tt))
      (subst (λ r. NotesInRound r (HaltedChan d)) (sym h.no_round) tt) (λ _. refl) h.runs h.going
      (λ k takes. (h.takes k takes, h.back))

-- A thread that is about to wait for an sx lock, by the word that its last look saw, which is held and doesn't admit,
-- in a blocking call's round that took the chain, with the sections of all held locks open, may stand on its sleep
-- queue
module _ (floor : Description) (v : Knowledge) (l own : ℕ) (mode : Mode) (word : Word) (low : l < length floor.locks)
    (both : HasSleeperOut floor (lock_queue l) v) (home : both.box.value.sleep_queue ≡ Some own) (going : IsGoing v)
    (awake : IsNoSleeper v) (held : is_free word.holder ≡ false)
    (refused : admits ((config_in floor).kind l) word mode ≡ false)
    (sleeps : is_turnstile ((config_in floor).kind l) ≡ false) (ready : v.pose ≡ IsReady)
    (wants : v.share.doing.wanted ≡ Some l) (no_walk : v.share.doing.walk ≡ NoWalk)
    (sections : (k : ℕ) → open_in (config_in floor) v.share.log v.thread k ≡ hold_in v.share.held k)
    (saw : v.share.doing.last_look ≡ Some (record { lock = l; word = word }))
    (round : v.share.doing.round ≡ Some (bound_to l)) where
  pub may_enter_asleep : MayEnterAsleep floor l mode word v
  may_enter_asleep = record {
    sleeper = both;
    own = own;
    home = home;
    may = λ s f its.
        let q : QueueName = lock_queue l in
        let y : Slot = Record both.box in
        let x : Slot = SleepQueues both.chain in
        let rec = own_there floor v q y x both.out s f in (
          record {
            fits = record {
              may = record {
                waits = must_wait floor v l both.box x both.out low going awake mode word held refused ready wants
                    no_walk sections s f its;
                sleeps = sleeps;
                own = sym (ap (λ (r : RecordColumns). r.sleep_queue) rec.1.columns) ∙ home;
              };
              has_out = ((chain_there floor v q y x both.out s f).0, rec.0);
              has_seen = saw_it floor v l both.box x both.out low going awake word saw round s f its;
              asks_of_thread = goes_on_ready floor v l both.box x both.out low going awake s f;
            };
            keeps_order = doing_it floor v s f (λ d. d.wanted) ∙ wants;
            keeps_count = tt;
          },
          tt,
        );
  }

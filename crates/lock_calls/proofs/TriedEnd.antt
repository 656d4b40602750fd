-- A try notes what it found, that it gained the lock or that the lock is busy: the entry may be made, and the thread is
-- at rest again.
use Rattle.lock_calls.proofs.Names
use Names.{ℕ, true, false, cond, Some, None, [], refl, sym, ap, subst, arith, eq-eqb, gained_order-push, hold_in-push}
use Names.{refused_held, Config, NotHeld, Holds, hold_in, word_of, IsWellFormed, Event, Tried, Busy, Held, LockNo, Mode}
use Names.{State, Round, gained_order, Stamps, NotesInRound, HasOutForEntry, is_bound, Asks, Begins, IsGainedLast}
use Names.{round_of, config_in, Description, Doing, ShareColumns, Fits, Makes, MayMake, Runs, Knowledge, seeing}
use Names.{IsGoing, IsAtRest, gained_first, looked, sought, gained, entry_by, stamped, own_log, may_stamp, rest_seeing}
use Names.{rest_stamped, rest_gained, course, MustWait, IsCovered, About, about_of, nothing_else, as_tried, tried_under}
use Names.{SeeksByTry, IsThereByTry, IsDeciding, IsBusyFor, GainsThere, HasTried, HasFoundBusy, HasSeen, Kept, kept_of}
use Names.{IsCalling, HasSpun, SpinsThenGains, with_none_out}
use Rattle.std.proofs.Common.{◌≡◌, ◌+◌, ◌≤◌, ◌∷◌, ◌++◌, ◌∙◌}
use Rattle.lock_calls.proofs.Chosen.{must_wait}
use Rattle.lock_calls.proofs.TriedRound.{about_nothing}

-- 1. What the thread knows without the round and the looks of its try

abbrev settled : Knowledge → Knowledge
settled v =
    let after : Doing = record v.share.doing { looks = 0; last_look = None; round = None } in
    record v { share = record v.share { doing = after } }

settled_rests : (floor : Description) (u : Knowledge) → IsCalling floor (kept_of u) → about_of u ≡ nothing_else
    → u.out ≡ [] → IsAtRest floor (settled u)
settled_rests floor u k about empty = assumption (
  ap (λ (x : About). x.pose) about,
  empty,
  ap (λ (x : About). x.walk) about,
  ap (λ (x : About). x.wanted) about,
  ap (λ (x : About). x.taking) about,
  k,
)

-- 2. It gained the lock

-- what the thread knew before it, but for what it had out in the section
pub record HasGainedByTry (l : LockNo) (mode : Mode) (old v : Knowledge) : Type 0 where
  pub before : Knowledge
  pub kept : kept_of before ≡ kept_of old
  pub about : about_of before ≡ nothing_else
  pub nothing_out : before.out ≡ []
  pub view : v ≡ seeing v.seen (gained before (as_tried l mode))

-- by its first exchange,
pub gained_at_first : (floor : Description) (l : LockNo) (mode : Mode) (old v : Knowledge) → IsAtRest floor old
    → v ≡ seeing v.seen (gained_first old (as_tried l mode)) → HasGainedByTry l mode old v
gained_at_first floor l mode old v r view = record {
  before = sought old l.0 true;
  kept = refl;
  about = about_nothing floor old r;
  nothing_out = r.nothing_out;
  view = view;
}

-- in its round,
pub gained_in_round : (floor : Description) (l : LockNo) (mode : Mode) (n : ℕ) (old v : Knowledge) → SeeksByTry l.0 old
    → SpinsThenGains floor (as_tried l mode) n old v → HasGainedByTry l mode old v
gained_in_round floor l mode n old v m s = record {
  before = s.between;
  kept = ap kept_of s.spun.knows;
  about = ap about_of s.spun.knows ∙ m.about;
  nothing_out = ap (λ (x : Knowledge). x.out) s.spun.knows ∙ m.nothing_out;
  view = s.view;
}

-- or in the section of the lock's chain, and then it gives both back
module _ (floor : Description) (l : LockNo) (mode : Mode) (a b : Knowledge) (k : IsCalling floor (kept_of a))
    (there : IsThereByTry floor l.0 a) (g : GainsThere floor l mode a b) where
  pub runs_gained : b.pose ≡ Runs
  runs_gained = ap (λ (x : Knowledge). x.pose) g.view ∙ ap (λ (x : About). x.pose) there.about

  pub unbound_gained : is_bound b.share.doing.round ≡ false
  unbound_gained = ap (λ (x : Knowledge). is_bound x.share.doing.round) g.view

  pub going_gained : IsGoing b
  going_gained = record {
    awake = ap (λ (x : Knowledge). x.share.doing.phase) g.view ∙ k.going.awake;
    unended = ap (λ (x : Knowledge). x.share.doing.has_ended) g.view ∙ k.going.unended;
    stamped = ap (λ (x : Knowledge). x.share.doing.unstamped) g.view ∙ k.going.stamped;
  }

  pub gained_in_section : (z : Knowledge) → z ≡ seeing z.seen (with_none_out b) → HasGainedByTry l mode a z
  gained_in_section z given = record {
    before = with_none_out a;
    kept = refl;
    about = there.about;
    nothing_out = refl;
    view = given ∙ ap (λ (x : Knowledge). seeing z.seen (with_none_out x)) g.view;
  }

-- then it notes that
module _ (floor : Description) (l : LockNo) (mode : Mode) (old v : Knowledge) (k : IsCalling floor (kept_of old))
    (room : 1 ≤ old.spare) (unheld : hold_in old.share.held l.0 ≡ NotHeld) (g : HasGainedByTry l mode old v) where
  abbrev c : Config
  c = config_in floor

  abbrev hold : Held
  hold = as_tried l mode

  abbrev e : Event
  e = Tried l mode

  abbrev u : Knowledge
  u = g.before

  abbrev w : Knowledge
  w = seeing v.seen (gained u hold)

  calling : IsCalling floor (kept_of u)
  calling = subst (IsCalling floor) (sym g.kept) k

  unheld_then : hold_in u.share.held l.0 ≡ NotHeld
  unheld_then = ap (λ (x : Kept). hold_in x.held l.0) g.kept ∙ unheld

  pushed : hold_in (u.share.held ++ hold ∷ []) l.0 ≡ Holds mode
  pushed = hold_in-push u.share.held hold l.0 unheld_then
      ∙ ap (λ b. cond b (Holds mode) (hold_in u.share.held l.0)) (eq-eqb l.0 l.0 refl)

  asks : (s : State) → Fits floor w s → Asks c s u.thread e × HasOutForEntry floor.chains s u.thread e
  asks s f =
      let begins : Begins c s u.thread l.0 (Holds mode) = record {
        held = sym (ap (λ (x : ShareColumns). x.held l.0) f.share.columns) ∙ pushed;
        closed = own_log floor w s f l.0 ∙ calling.sections l.0 ∙ unheld_then;
      } in
      let last : IsGainedLast s u.thread l.0 true = record {
        others = gained_order u.share.held;
        last = sym (ap (λ (x : ShareColumns). x.held_locks) f.share.columns) ∙ gained_order-push u.share.held hold;
      } in
      ((begins, last), tt)

  its_thread : v.thread ≡ old.thread
  its_thread = ap (λ (x : Knowledge). x.thread) g.view ∙ ap (λ (x : Kept). x.thread) g.kept

  pub may_note_try : MayMake floor v (λ s. Unit {0}) (Stamps v.thread e ∷ [])
  may_note_try =
      subst (λ (x : Knowledge). MayMake floor x (λ s. Unit {0}) (Stamps x.thread e ∷ [])) (sym g.view)
      (may_stamp floor w e asks tt (λ q. absurd (let z : false ≡ true = sym calling.no_wait ∙ q in cc))
      (ap (λ (x : About). x.pose) g.about)
      (record { awake = calling.going.awake; unended = calling.going.unended; stamped = calling.going.stamped })
      (ap (λ (x : About). x.taking) g.about))

  pub room_to_note_try : 1 ≤ v.spare
  room_to_note_try = omega (arith, room, ap (λ (x : Knowledge). x.spare) g.view, ap (λ (x : Kept). x.spare) g.kept)

  module _ (new : Knowledge) (ticket : ℕ)
      (says : new ≡ seeing new.seen (stamped (config_in floor) v (entry_by v.thread ticket e)))
      (step : Makes floor (Stamps v.thread e ∷ []) v new) where
    pub try_noted : Makes floor (Stamps old.thread e ∷ []) v new
    try_noted = subst (λ t. Makes floor (Stamps t e ∷ []) v new) its_thread step

    pub has_tried : HasTried floor l mode old new
    has_tried =
        let is : new ≡ seeing new.seen (stamped c (gained u hold) (entry_by u.thread ticket e)) =
        says ∙ ap (λ (x : Knowledge). seeing new.seen (stamped c x (entry_by x.thread ticket e))) g.view in
        record {
          rest = subst (IsAtRest floor) (sym is)
              (rest_seeing floor (stamped c (gained u hold) (entry_by u.thread ticket e)) new.seen
              (rest_gained floor (settled u) hold ticket (settled_rests floor u calling g.about g.nothing_out)
              unheld_then));
          entry = record {
            ticket = ticket;
            log = ap (λ (x : Knowledge). x.share.log) is ∙ ap (λ (x : Kept). entry_by x.thread ticket e ∷ x.log) g.kept;
            held = ap (λ (x : Knowledge). x.share.held) is ∙ ap (λ (x : Kept). x.held ++ hold ∷ []) g.kept;
            spare = ap (λ (x : Knowledge). x.spare + 1) is
                ∙ omega (arith, room, ap (λ (x : Kept). x.spare) g.kept);
            thread = ap (λ (x : Knowledge). x.thread) is ∙ ap (λ (x : Kept). x.thread) g.kept;
            before = v;
            behind = new;
            of = its_thread;
            step = try_noted;
            log_before = ap (λ (x : Knowledge). x.share.log) g.view ∙ ap (λ (x : Kept). x.log) g.kept;
            log_behind = refl;
          };
        }

-- 3. The lock was busy

-- a word that the thread must wait for
pub is_busy_for : (floor : Description) (l : ℕ) (mode : Mode) (seen : ℕ) → IsCovered floor l mode
    → IsWellFormed (word_of seen) → course ((config_in floor).kind l) (word_of seen) mode ≡ MustWait
    → IsBusyFor ((config_in floor).kind l) mode (word_of seen)
is_busy_for floor l mode seen covered formed is =
    let refused = must_wait ((config_in floor).kind l) (word_of seen) mode is in
    record {
      formed = formed;
      held = refused_held ((config_in floor).kind l) (word_of seen) mode covered.mutex refused;
      refused = refused;
    }

-- the thread saw that word last, and is in the round of its try with nothing out
pub record HasSeenBusy (l : ℕ) (seen : ℕ) (old v : Knowledge) : Type 0 where
  pub kept : kept_of v ≡ kept_of old
  pub about : about_of v ≡ nothing_else
  pub nothing_out : v.out ≡ []
  pub round : Round
  pub its_round : v.share.doing.round ≡ Some round
  pub of_try : (round.lock ≡ l) × (round.by_try ≡ true)
  pub saw : HasSeen l (word_of seen) v
  pub looked : old.share.doing.looks_in_all ≤ v.share.doing.looks_in_all

-- by its first exchange,
pub busy_at_first : (floor : Description) (l seen : ℕ) (old v : Knowledge) → IsAtRest floor old
    → v ≡ seeing v.seen (looked (sought old l true) l (word_of seen)) → HasSeenBusy l seen old v
busy_at_first floor l seen old v r view = record {
  kept = ap kept_of view;
  about = ap about_of view ∙ about_nothing floor old r;
  nothing_out = ap (λ (x : Knowledge). x.out) view ∙ r.nothing_out;
  round = round_of l true;
  its_round = ap (λ (x : Knowledge). x.share.doing.round) view;
  of_try = (refl, refl);
  saw = ap (λ (x : Knowledge). x.share.doing.last_look) view;
  looked = omega (arith, ap (λ (x : Knowledge). x.share.doing.looks_in_all) view);
}

-- in its round,
pub busy_in_round : (floor : Description) (l n seen : ℕ) (old v : Knowledge) → SeeksByTry l old
    → HasSpun floor l n old v → HasSeen l (word_of seen) v
    → old.share.doing.looks_in_all ≤ v.share.doing.looks_in_all → HasSeenBusy l seen old v
busy_in_round floor l n seen old v m x saw looked = record {
  kept = ap kept_of x.knows;
  about = ap about_of x.knows ∙ m.about;
  nothing_out = ap (λ (x : Knowledge). x.out) x.knows ∙ m.nothing_out;
  round = round_of l true;
  its_round = ap (λ (x : Knowledge). x.share.doing.round) x.knows ∙ m.round;
  of_try = (refl, refl);
  saw = saw;
  looked = looked;
}

-- or in the section of the lock's chain, and then it gives both back
module _ (floor : Description) (l seen : ℕ) (v : Knowledge) (k : IsCalling floor (kept_of v))
    (d : IsDeciding floor l seen v) where
  pub busy_in_section : (z : Knowledge) → z ≡ seeing z.seen (with_none_out v) → HasSeenBusy l seen v z
  busy_in_section z given = record {
    kept = ap kept_of given;
    about = ap about_of given ∙ d.there.about;
    nothing_out = ap (λ (x : Knowledge). x.out) given;
    round = tried_under l;
    its_round = ap (λ (x : Knowledge). x.share.doing.round) given ∙ d.there.round;
    of_try = (refl, refl);
    saw = ap (λ (x : Knowledge). x.share.doing.last_look) given ∙ d.saw.last;
    looked = omega (arith, ap (λ (x : Knowledge). x.share.doing.looks_in_all) given);
  }

-- then it notes that
module _ (floor : Description) (l : LockNo) (mode : Mode) (seen : ℕ) (old v : Knowledge)
    (k : IsCalling floor (kept_of old)) (room : 1 ≤ old.spare) (unheld : hold_in old.share.held l.0 ≡ NotHeld)
    (covered : IsCovered floor l.0 mode) (word : IsBusyFor ((config_in floor).kind l.0) mode (word_of seen))
    (h : HasSeenBusy l.0 seen old v) where
  abbrev bc : Config
  bc = config_in floor

  abbrev note : Event
  note = Busy l seen

  calling_busy : IsCalling floor (kept_of v)
  calling_busy = subst (IsCalling floor) (sym h.kept) k

  asks_busy : (s : State) → Fits floor v s → Asks bc s v.thread note × HasOutForEntry floor.chains s v.thread note
  asks_busy s f = (
    (
      mode,
      assumption (
        sym (ap (λ (x : ShareColumns). x.held l.0) f.share.columns) ∙ ap (λ (x : Kept). hold_in x.held l.0) h.kept
            ∙ unheld,
        sym (ap (λ (x : ShareColumns). x.doing.last_look) f.share.columns) ∙ h.saw,
        word,
        covered,
      ),
    ),
    tt,
  )

  pub may_note_busy : MayMake floor v (λ s. Unit {0}) (Stamps v.thread note ∷ [])
  may_note_busy =
      may_stamp floor v note asks_busy (subst (λ o. NotesInRound o note) (sym h.its_round) h.of_try)
      (λ q. absurd (let z : false ≡ true = sym calling_busy.no_wait ∙ q in cc)) (ap (λ (x : About). x.pose) h.about)
      (assumption calling_busy.going)
      (ap (λ (x : About). x.taking) h.about)

  module _ (new : Knowledge) (ticket : ℕ)
      (says : new ≡ seeing new.seen (stamped (config_in floor) v (entry_by v.thread ticket note)))
      (step : Makes floor (Stamps v.thread note ∷ []) v new) where
    pub busy_noted : Makes floor (Stamps old.thread note ∷ []) v new
    busy_noted = subst (λ t. Makes floor (Stamps t note ∷ []) v new) (ap (λ (x : Kept). x.thread) h.kept) step

    pub found_busy : HasFoundBusy floor l mode seen old new
    found_busy = record {
      rest = subst (IsAtRest floor) (sym says)
          (rest_seeing floor (stamped bc v (entry_by v.thread ticket note)) new.seen
          (rest_stamped floor (settled v) ticket note refl
          (settled_rests floor v calling_busy h.about h.nothing_out)));
      entry = record {
        ticket = ticket;
        log = ap (λ (x : Knowledge). x.share.log) says
            ∙ ap (λ (x : Kept). entry_by x.thread ticket note ∷ x.log) h.kept;
        held = ap (λ (x : Knowledge). x.share.held) says ∙ ap (λ (x : Kept). x.held) h.kept;
        spare = ap (λ (x : Knowledge). x.spare + 1) says ∙ omega (arith, room, ap (λ (x : Kept). x.spare) h.kept);
        thread = ap (λ (x : Knowledge). x.thread) says ∙ ap (λ (x : Kept). x.thread) h.kept;
        before = v;
        behind = new;
        of = ap (λ (x : Kept). x.thread) h.kept;
        step = busy_noted;
        log_before = ap (λ (x : Kept). x.log) h.kept;
        log_behind = refl;
      };
      word = word;
      looked = omega (arith, h.looked, ap (λ (x : Knowledge). x.share.doing.looks_in_all) says);
    }

    pub looks_noted : new.share.doing.looks_in_all ≡ v.share.doing.looks_in_all
    looks_noted = ap (λ (x : Knowledge). x.share.doing.looks_in_all) says

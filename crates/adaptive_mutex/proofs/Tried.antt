-- A mutex is gained by a try and noted, or found busy and that noted: each step may be made, and the thread is at rest
-- again.
use Rattle.std.proofs.Common.{◌≡◌, ℕ, suc, ◌+◌, ◌≤◌, true, false, cond, Some, None, [], ◌∷◌, ◌++◌, refl, sym, ap, ◌∙◌, subst, inr, arith, eq-eqb}
use Rattle.lock_laws.proofs.HeldLists.{gained_order-push, hold_in-push}
use Rattle.lock_state.specs.State.{gained_order, State}
use Rattle.lock_model.specs.Config.{Config}
use Rattle.lock_model.specs.Holds.{Holds}
use Rattle.lock_model.specs.Operations.{hold_in}
use Rattle.lock_model.specs.Words.{word_of, IsWellFormed, is_free}
use Rattle.lock_model.specs.declared.event.Event.{Event}
use Rattle.lock_model.specs.declared.event.Event.TheVariants.{Tried, Busy}
use Rattle.lock_model.specs.declared.event.Held.{Held}
use Rattle.lock_model.specs.declared.numbers.LockNo.{LockNo}
use Rattle.lock_model.specs.declared.plan.Mode.TheVariants.{Excl}
use Rattle.lock_state.specs.Steps.{Looks, Gains, Stamps, FitsRound, NotesInRound, HasOutForEntry}
use Rattle.lock_state.specs.Steps.LockWords.{Asks, Begins, IsGainedLast}
use Rattle.floor_table.specs.Descriptions.{config_in}
use Rattle.floor_table.specs.declared.description.Description.{Description}
use Rattle.floor_table.specs.Shares.{ShareColumns}
use Rattle.floor_table.specs.Steps.{Fits, Makes, MakesEach, MayMake}
use Rattle.floor_table.specs.Views.{Knowledge, seeing}
use Rattle.lock_floor.specs.Passes.{IsAtRest, MakesEntry}
use Rattle.lock_floor.specs.Views.{counts, looked, gained, entry_by, stamped}
use Rattle.lock_floor.proofs.May.{own_log, counts_first, may_gain, may_stamp}
use Rattle.lock_floor.proofs.Resting.{rest_seeing, rest_gained, rest_busy}
use Rattle.lock_calls.specs.Waiting.{MayGain}
use Rattle.lock_calls.proofs.Attempts.{begins_call, plainly, unhalted}
use Rattle.adaptive_mutex.specs.Mutexes.{IsMutex, MayAcquire, as_held, tries, WasBusy}

-- 1. The exchange of a try

pub may_gain_free : (floor : Description) (l : ℕ) (v : Knowledge) → IsMutex floor l → MayGain floor l v
    → MayMake floor v (λ s. s.word l ≡ word_of 0) (Gains v.thread l Excl true ∷ [])
may_gain_free floor l v mutex m =
    may_gain floor v l Excl true (word_of 0) mutex.lock refl (plainly ((config_in floor).kind l) Excl) m.unheld
    (inr m.wants_nothing) (subst (λ r. FitsRound r l true) (sym m.looks.no_round) refl)
    (λ none. begins_call floor l v m)
    (λ k e. absurd (let z : None ≡ Some k = sym m.looks.takes_nothing ∙ e in cc)) (λ e. absurd cc) (λ e. absurd cc)
    (unhalted v m.unnoted) m.looks.runs m.looks.nothing_out m.looks.going

-- 2. The entry of a try that gained

-- a call that gained the mutex by a try and noted it
pub record Tries (floor : Description) (l : LockNo) (old new : Knowledge) : Type 0 where
  pub rest : IsAtRest floor new
  pub entry : MakesEntry floor (Tried l Excl) (old.share.held ++ as_held l true ∷ []) old new
  pub steps : MakesEach floor (tries old.thread l) old new

module _ (floor : Description) (l : LockNo) (old v : Knowledge) (r : IsAtRest floor old) (m : MayAcquire floor l.0 old)
    (view : v ≡ seeing v.seen (gained old (as_held l true))) where
  abbrev c : Config
  c = config_in floor

  abbrev h : Held
  h = as_held l true

  abbrev e : Event
  e = Tried l Excl

  abbrev w : Knowledge
  w = seeing v.seen (gained old h)

  pushed : hold_in (old.share.held ++ h ∷ []) l.0 ≡ Holds Excl
  pushed = hold_in-push old.share.held h l.0 m.unheld
      ∙ ap (λ b. cond b (Holds Excl) (hold_in old.share.held l.0)) (eq-eqb l.0 l.0 refl)

  asks : (s : State) → Fits floor w s → Asks c s old.thread e × HasOutForEntry floor.chains s old.thread e
  asks s f =
      let begins : Begins c s old.thread l.0 (Holds Excl) = record {
        held = sym (ap (λ (x : ShareColumns). x.held l.0) f.share.columns) ∙ pushed;
        closed = own_log floor w s f l.0 ∙ r.sections l.0 ∙ m.unheld;
      } in
      let last : IsGainedLast s old.thread l.0 true = record {
        others = gained_order old.share.held;
        last = sym (ap (λ (x : ShareColumns). x.held_locks) f.share.columns) ∙ gained_order-push old.share.held h;
      } in
      ((begins, last), tt)

  pub may_note : MayMake floor v (λ s. Unit {0}) (Stamps v.thread e ∷ [])
  may_note =
      subst (λ (k : Knowledge). MayMake floor k (λ s. Unit {0}) (Stamps k.thread e ∷ [])) (sym view)
      (may_stamp floor w e asks tt (λ q. absurd (let z : false ≡ true = sym r.no_wait ∙ q in cc)) r.runs r.going
      r.takes_nothing)

  pub room_to_note : 1 ≤ v.spare
  room_to_note = subst (λ (k : Knowledge). 1 ≤ k.spare) (sym view) m.room

  pub tried : Makes floor (Gains old.thread l.0 Excl true ∷ []) old v → (new : Knowledge) (ticket : ℕ)
      → new ≡ seeing new.seen (stamped (config_in floor) v (entry_by v.thread ticket e))
      → Makes floor (Stamps v.thread e ∷ []) v new → Tries floor l old new
  tried gain new ticket says step =
      let is : new ≡ seeing new.seen (stamped (config_in floor) (gained old h) (entry_by old.thread ticket e)) =
      says ∙ ap (λ (k : Knowledge). seeing new.seen (stamped (config_in floor) k (entry_by k.thread ticket e))) view in
      let noted : Makes floor (Stamps old.thread e ∷ []) v new =
      subst (λ t. Makes floor (Stamps t e ∷ []) v new) (ap (λ (k : Knowledge). k.thread) view) step in
      record {
        rest = subst (IsAtRest floor) (sym is)
            (rest_seeing floor (stamped (config_in floor) (gained old h) (entry_by old.thread ticket e)) new.seen
            (rest_gained floor old h ticket r m.unheld));
        entry = record {
          ticket = ticket;
          log = ap (λ (k : Knowledge). k.share.log) is;
          held = ap (λ (k : Knowledge). k.share.held) is;
          spare = ap (λ (k : Knowledge). k.spare + 1) is ∙ omega (arith, m.room);
          thread = ap (λ (k : Knowledge). k.thread) is;
          before = v;
          behind = new;
          of = ap (λ (k : Knowledge). k.thread) view;
          step = noted;
          log_before = ap (λ (k : Knowledge). k.share.log) view;
          log_behind = refl;
        };
        steps = (v, gain, (new, noted, refl));
      }

-- 3. A mutex that is found busy

-- a try that saw the word of a held mutex, and noted it
pub record FindsBusy (floor : Description) (l : LockNo) (seen : ℕ) (old new : Knowledge) : Type 0 where
  pub rest : IsAtRest floor new
  pub busy : WasBusy floor old.thread l seen old new
  pub entry : MakesEntry floor (Busy l seen) old.share.held old new

module _ (floor : Description) (l : LockNo) (seen : ℕ) (old v : Knowledge) (r : IsAtRest floor old)
    (m : MayAcquire floor l.0 old) (held : is_free (word_of seen).holder ≡ false)
    (view : v ≡ seeing v.seen (looked old l.0 (word_of seen))) where
  abbrev bc : Config
  bc = config_in floor

  abbrev note : Event
  note = Busy l seen

  abbrev q : Knowledge
  q = seeing v.seen (looked old l.0 (word_of seen))

  asks_busy : (s : State) → Fits floor q s → Asks bc s old.thread note × HasOutForEntry floor.chains s old.thread note
  asks_busy s f = (
    (
      Excl,
      record {
        unheld = sym (ap (λ (x : ShareColumns). x.held l.0) f.share.columns) ∙ m.unheld;
        looked = sym (ap (λ (x : ShareColumns). x.doing.last_look) f.share.columns);
        refused = held;
        mutex = λ k. refl;
      },
    ),
    tt,
  )

  pub may_note_busy : MayMake floor v (λ s. Unit {0}) (Stamps v.thread note ∷ [])
  may_note_busy =
      subst (λ (k : Knowledge). MayMake floor k (λ s. Unit {0}) (Stamps k.thread note ∷ [])) (sym view)
      (may_stamp floor q note asks_busy (subst (λ o. NotesInRound o note) (sym r.no_round) tt)
      (λ e. absurd (let z : false ≡ true = sym r.no_wait ∙ e in cc))
      r.runs (assumption r.going) r.takes_nothing)

  pub found_busy : IsWellFormed (word_of seen) → Makes floor (Looks old.thread l.0 (counts old l.0) ∷ []) old v
      → (new : Knowledge) (ticket : ℕ)
      → new ≡ seeing new.seen (stamped (config_in floor) v (entry_by v.thread ticket note))
      → Makes floor (Stamps v.thread note ∷ []) v new → FindsBusy floor l seen old new
  found_busy formed looks new ticket says step =
      let x : Knowledge = looked old l.0 (word_of seen) in
      let is : new ≡ seeing new.seen (stamped (config_in floor) x (entry_by old.thread ticket note)) = says
      ∙ ap (λ (k : Knowledge). seeing new.seen (stamped (config_in floor) k (entry_by k.thread ticket note))) view
      in
      let noted : Makes floor (Stamps old.thread note ∷ []) v new =
      subst (λ t. Makes floor (Stamps t note ∷ []) v new) (ap (λ (k : Knowledge). k.thread) view) step in
      let it_counts : Makes floor (Looks old.thread l.0 true ∷ []) old v =
      subst (λ b. Makes floor (Looks old.thread l.0 b ∷ []) old v)
      (counts_first floor old l.0 r.nothing_out r.no_round m.unheld) looks in
      let more : suc old.share.doing.looks_in_all ≡ new.share.doing.looks_in_all =
      sym (ap (λ (k : Knowledge). k.share.doing.looks_in_all) is) in
      record {
        rest = subst (IsAtRest floor) (sym is)
            (rest_seeing floor (stamped (config_in floor) x (entry_by old.thread ticket note)) new.seen
            (rest_busy floor old ticket l seen (word_of seen) r));
        busy = record {
          between = v;
          look = it_counts;
          saw = ap (λ (k : Knowledge). k.share.doing.last_look) view;
          note = noted;
          well_formed = formed;
          held = held;
          looked = omega (arith, more);
          no_last_look = ap (λ (k : Knowledge). k.share.doing.last_look) is;
        };
        entry = record {
          ticket = ticket;
          log = ap (λ (k : Knowledge). k.share.log) is;
          held = ap (λ (k : Knowledge). k.share.held) is;
          spare = ap (λ (k : Knowledge). k.spare + 1) is ∙ omega (arith, m.room);
          thread = ap (λ (k : Knowledge). k.thread) is;
          before = v;
          behind = new;
          of = ap (λ (k : Knowledge). k.thread) view;
          step = noted;
          log_before = ap (λ (k : Knowledge). k.share.log) view;
          log_behind = refl;
        };
      }

-- A part of a try: where the try stands behind it, or how it ends.
use Rattle.lock_calls.proofs.Names
use Names.{inl, inr, ℕ, Bool, true, false, Some, None, [], length, replicate, refl, sym, ap, subst, arith, same_Some}
use Names.{lock_queue, Word, word_of, admits, is_plain, Tried, Busy, LockNo, Kind, Mode, Seeks, Looks, Gains, Stamps}
use Names.{RecordOf, config_in, Description, Makes, MakesEach, Knowledge, seeing, Tries, Decides, Pass, FindsOut, Takes}
use Names.{IsAtRest, counts, looked, sought, its_chain, chain_place, course, Course, Plainly, ByClaim, MustWait}
use Names.{MayTake, gives_both, LooksOn, HasSeen, tries_left, as_tried, looks_in_round, SeeksByTry, HasChainInTry}
use Names.{IsThereByTry, IsDeciding, IsUnderTry, IsBusyFor, TriesOn, GainsThere, GainsAt, gains_in_round, gains_there}
use Names.{FindsBusyAt, busy_there, HasTried, HasFoundBusy, HasBegunTry, Kept, kept_of, IsCalling, HasSpun}
use Names.{SpinsThenGains, MissesThere}
use Rattle.std.proofs.Common.{◌≡◌, ◌≢◌, ◌⊎◌, ◌+◌, ◌<◌, ◌≤◌, ◌∷◌, ◌∙◌}
use Rattle.std.specs.Prelude.{◌-◌, if◌then◌else◌}
use Rattle.lock_floor.specs.declared.calls.Call.TheVariants as calls
use Rattle.lock_floor.specs.declared.calls.TryAt.TheVariants.{ComesIn}
use Rattle.lock_calls.specs.declared.trying.TryNext.TheVariants as next
use Rattle.lock_calls.specs.Tries as tries
use Rattle.lock_calls.specs.Tries.{at_once, looks, takes_chain, comes_in, looks_there, finds_out}
use Rattle.lock_calls.proofs.Attempts.{looks_spun}
use Rattle.lock_calls.proofs.Calls.{call_noted, view_noted}
use Rattle.lock_calls.proofs.Looks.{each_append}
use Rattle.lock_calls.proofs.Spun.{looks_in_it}
use Rattle.lock_calls.proofs.Words.{other_word}
use Rattle.lock_calls.proofs.TriedEnd.{HasSeenBusy}
use Rattle.lock_calls.proofs.TriedThere.{own_step, come_kept_by_try, come_by_try, quiet_by_try, decides}
use Rattle.lock_calls.proofs.TriedRound.{one_look, seeks_it, first_kept, first_looked, seeks_on, seeks_still, has_chain_by_try, chain_still_by_try}

-- 1. The begin

-- fewer looks are left than there were
pub fewer_left : (c : Course) (left rest : ℕ) → 1 ≤ left → tries_left c left ≡ Some rest → rest < left
fewer_left Plainly left rest some e = omega (arith, some, same_Some (left - 1) rest e)
fewer_left ByClaim left rest some e = omega (arith, some, same_Some 0 rest e)
fewer_left MustWait left rest some e = absurd (let z : None ≡ Some rest = e in cc)

-- and where there are none, since the try ends, the word doesn't admit the mode
pub none_left : (c : Course) (left : ℕ) → tries_left c left ≡ None → c ≡ MustWait
none_left Plainly left e = absurd (let z : Some (left - 1) ≡ None = e in cc)
none_left ByClaim left e = absurd (let z : Some 0 ≡ None = e in cc)
none_left MustWait left e = refl

module _ (floor : Description) (l : LockNo) (mode : Mode) (old v : Pass Knowledge) (r : IsAtRest floor old.view)
    (may : MayTake floor l.0 mode old.view) (k : IsCalling floor (kept_of old.view)) where
  -- its first exchange gained the lock
  pub begins_gained : (new q : Pass Knowledge)
      → Makes floor (Seeks old.view.thread l.0 true ∷ Gains old.view.thread l.0 mode true ∷ []) old.view v.view
      → HasTried floor l mode old.view new.view
      → Makes floor (Stamps old.view.thread (Tried l mode) ∷ []) v.view new.view → q ≡ record new { call = calls.None }
      → HasBegunTry floor l mode next.Gained old q
  begins_gained new q step tried notes is =
      let same : new.view ≡ q.view = sym (view_noted new q calls.None is) in (
        call_noted new q calls.None is,
        subst (HasTried floor l mode old.view) same tried,
        record {
          gained = v.view;
          gains = at_once (v.view, step, refl);
          notes = subst (λ x. Makes floor (Stamps old.view.thread (Tried l mode) ∷ []) v.view x) same notes;
        },
      )

  -- it missed
  module _ (found : ℕ)
      (view : v.view ≡ seeing v.view.seen (looked (sought old.view l.0 true) l.0 (word_of found)))
      (step : Makes floor (Seeks old.view.thread l.0 true ∷ Looks old.view.thread l.0 true ∷ []) old.view v.view) where
    pub begins_busy : (new q : Pass Knowledge) → HasFoundBusy floor l mode found old.view new.view
        → Makes floor (Stamps old.view.thread (Busy l found) ∷ []) v.view new.view
        → new.view.share.doing.looks_in_all ≡ v.view.share.doing.looks_in_all → q ≡ record new { call = calls.None }
        → HasBegunTry floor l mode (next.Busy found) old q
    begins_busy new q busy notes all is =
        let same : new.view ≡ q.view = sym (view_noted new q calls.None is) in (
          call_noted new q calls.None is,
          subst (tries.EndsBusy floor l mode found old.view) same record {
            rest = busy.rest;
            entry = busy.entry;
            busy = record {
              between = v.view;
              looks = looks_in_round 0 (omega arith) (v.view, step, refl);
              saw = ap (λ (x : Knowledge). x.share.doing.last_look) view;
              word = busy.word;
              note = notes;
              looked = omega (
                arith,
                all,
                first_looked floor l.0 mode old.view may.covered r may.unheld v.view (word_of found) view,
              );
              no_last_look = busy.rest.no_last_look;
            };
          },
        )

    pub begins_on : (left : ℕ) (q : Pass Knowledge) → found ≢ 0
        → tries_left (course ((config_in floor).kind l.0) (word_of found) mode) 50 ≡ Some left
        → q ≡ record v { call = calls.Try l mode (Tries left) } → HasBegunTry floor l mode next.Again old q
    begins_on left q other leaves is =
        let same : v.view ≡ q.view = sym (view_noted v q (calls.Try l mode (Tries left)) is) in
        let one = one_look floor l.0 mode old.view may.covered r may.unheld v.view (word_of found) view in
        let kept = first_kept floor l.0 mode old.view may.covered r may.unheld v.view (word_of found) view in
        let few : left < 50 =
        fewer_left (course ((config_in floor).kind l.0) (word_of found) mode) 50 left (omega arith) leaves in
        record {
          left = left;
          word = word_of found;
          saw = subst (HasSeen l.0 (word_of found)) same (ap (λ (x : Knowledge). x.share.doing.last_look) view);
          other = other_word found 0 other;
          leaves = leaves;
          call = call_noted v q (calls.Try l mode (Tries left)) is;
          there = subst (IsUnderTry floor l mode (Tries left)) same record {
            covered = may.covered;
            calling = subst (IsCalling floor) (sym kept) k;
            room = omega (arith, may.room, ap (λ (x : Kept). x.spare) kept);
            there = (
              seeks_it floor l.0 mode old.view may.covered r may.unheld v.view (word_of found) view may.few,
              omega (arith, few, one),
            );
          };
          kept = ap kept_of (sym same) ∙ kept;
          looked = subst (λ (x : Knowledge). old.view.share.doing.looks_in_all < x.share.doing.looks_in_all) same
              (first_looked floor l.0 mode old.view may.covered r may.unheld v.view (word_of found) view);
          step = subst
              (λ x. Makes floor (Seeks old.view.thread l.0 true ∷ Looks old.view.thread l.0 true ∷ []) old.view x)
              same step;
        }

-- 2. In the round

module _ (floor : Description) (l : LockNo) (mode : Mode) (left : ℕ) (some : 1 ≤ left) (old : Knowledge) where
  pub tries_on : (n rest : ℕ) (word : Word) (new : Knowledge) → SeeksByTry l.0 old
      → old.share.doing.looks + (left + left) ≤ 100 → LooksOn floor l.0 mode n word old new
      → HasSpun floor l.0 n old new
      → old.share.doing.looks_in_all ≤ new.share.doing.looks_in_all
      → tries_left (course ((config_in floor).kind l.0) word mode) left ≡ Some rest
      → TriesOn floor l mode (Tries left) (Tries rest) old new
  tries_on n rest word new m room on x looked leaves =
      let two : n ≤ 2 = (looks_in_it floor l.0 mode n word old new on).1 in
      let less = fewer_left (course ((config_in floor).kind l.0) word mode) left rest some leaves in
      let all = looks_spun floor l.0 n old new x in
      record {
        there = (seeks_on floor l.0 n old new x m, omega (arith, all, less, two, room));
        kept = ap kept_of x.knows;
        looked = looked;
        leg = looks left n rest word some on leaves;
      }

  pub gains_on : (v new : Knowledge) → SpinsThenGains floor (as_tried l mode) 1 old v
      → Makes floor (Stamps old.thread (Tried l mode) ∷ []) v new → GainsAt floor l mode (Tries left) old new
  gains_on v new s notes =
      gains_in_round left some
      (each_append floor (replicate 1 (Looks old.thread l.0 true ∷ []))
      ((Gains old.thread l.0 mode true ∷ []) ∷ (Stamps old.thread (Tried l mode) ∷ []) ∷ []) old s.between new
      s.spun.steps (v, s.step, (new, notes, refl)))

  pub busy_on : (seen n : ℕ) (v new : Knowledge) → LooksOn floor l.0 mode n (word_of seen) old v
      → Makes floor (Stamps old.thread (Busy l seen) ∷ []) v new
      → FindsBusyAt floor l mode seen (Tries left) old new
  busy_on seen n v new on notes = tries.busy_in_round v left n some on notes

-- 3. The chain, and then the own record

module _ (floor : Description) (l : LockNo) (mode : Mode) (old new : Knowledge) (m : SeeksByTry l.0 old)
    (room : old.share.doing.looks + (0 + 0) ≤ 100) where
  pub chain_on : Takes floor (its_chain floor (lock_queue l.0)) (chain_place floor (lock_queue l.0)) old new
      → TriesOn floor l mode (Tries 0) ComesIn old new
  chain_on one = record {
    there = has_chain_by_try floor l.0 old new m one;
    kept = ap kept_of one.view;
    looked = omega (arith, ap (λ (x : Knowledge). x.share.doing.looks_in_all) one.view);
    leg = takes_chain one.step;
  }

  pub chain_away : new ≡ seeing new.seen old → FindsOut floor (its_chain floor (lock_queue l.0)) old new
      → TriesOn floor l mode (Tries 0) (Tries 0) old new
  chain_away view finds = record {
    there = (
      seeks_still l.0 old new view m,
      omega (arith, room, ap (λ (x : Knowledge). x.share.doing.looks) view),
    );
    kept = ap kept_of view;
    looked = omega (arith, ap (λ (x : Knowledge). x.share.doing.looks_in_all) view);
    leg = finds_out (Tries 0) (its_chain floor (lock_queue l.0)) (refl, refl) view finds;
  }

module _ (floor : Description) (l : LockNo) (mode : Mode) (a : Knowledge) (m : HasChainInTry floor l.0 a)
    (k : IsCalling floor (kept_of a)) (who : ℕ) (low : who < length floor.threads) (is : who ≡ a.thread) where
  pub record_away : (new : Knowledge) → new ≡ seeing new.seen a → FindsOut floor (RecordOf who) a new
      → TriesOn floor l mode ComesIn ComesIn a new
  record_away new view finds = record {
    there = chain_still_by_try floor l.0 a new view m;
    kept = ap kept_of view;
    looked = omega (arith, ap (λ (x : Knowledge). x.share.doing.looks_in_all) view);
    leg = finds_out ComesIn (RecordOf who) (ap RecordOf is) view finds;
  }

  module _ (b : Knowledge) (two : Takes floor (RecordOf who) who a b) where
    there : IsThereByTry floor l.0 b
    there = come_by_try floor l.0 a m k who low is b two

    pub calling_there : IsCalling floor (kept_of b)
    calling_there = subst (IsCalling floor) (sym (come_kept_by_try floor l.0 a m k who low is b two)) k

    pub record_on : (seen : ℕ) (z : Knowledge) → z ≡ seeing z.seen (looked b l.0 (word_of seen))
        → Makes floor (Looks b.thread l.0 (counts b l.0) ∷ []) b z → TriesOn floor l mode ComesIn (Decides seen) a z
    record_on seen z view look =
        let quiet = quiet_by_try floor l.0 b there calling_there in
        let its : b.thread ≡ a.thread = ap (λ (x : Knowledge). x.thread) two.view in
        record {
          there = decides floor l.0 seen b z there view look;
          kept = ap kept_of view ∙ come_kept_by_try floor l.0 a m k who low is b two;
          looked = omega (
            arith,
            ap (λ (x : Knowledge). x.share.doing.looks_in_all) view,
            ap (λ (x : Knowledge). x.share.doing.looks_in_all) two.view,
          );
          leg = comes_in seen (
            b,
            own_step floor l.0 a m k who low is b two,
            (
              z,
              subst (λ t. Makes floor (Looks t l.0 false ∷ []) b z) its
                  (subst (λ c. Makes floor (Looks b.thread l.0 c ∷ []) b z) quiet look),
              refl,
            ),
          );
        }

-- 4. In the section of the chain

-- who goes on there, plainly or by a claim, saw a word that admits the mode
pub admits_it : (k : Kind) (w : Word) (mode : Mode) (x : Course) → course k w mode ≡ x
    → (x ≡ Plainly) ⊎ (x ≡ ByClaim) → admits k w mode ≡ true
admits_it k w mode x says other = go (admits k w mode) refl
  where
    waits : admits k w mode ≡ false → x ≡ MustWait
    waits e = sym says ∙ ap (λ b. if b then (if is_plain k w mode then Plainly else ByClaim) else MustWait) e

    go : (b : Bool) → admits k w mode ≡ b → b ≡ true
    go true e = refl
    go false e = elim other [
      | inl is ↦ absurd (let z : MustWait ≡ Plainly = sym (waits e) ∙ is in cc)
      | inr is ↦ absurd (let z : MustWait ≡ ByClaim = sym (waits e) ∙ is in cc)
    ]

module _ (floor : Description) (l : LockNo) (mode : Mode) (seen : ℕ) (a : Knowledge) where
  pub misses_on_by_try : (found : ℕ) (w : Knowledge) → IsThereByTry floor l.0 a → IsCalling floor (kept_of a)
      → MissesThere floor l.0 seen found a w → TriesOn floor l mode (Decides seen) (Decides found) a w
  misses_on_by_try found w m k x = record {
    there = decides floor l.0 found a w m x.view x.step;
    kept = ap kept_of x.view;
    looked = omega (arith, ap (λ (y : Knowledge). y.share.doing.looks_in_all) x.view);
    leg = looks_there seen found x.other
        (subst (λ c. Makes floor (Looks a.thread l.0 c ∷ []) a w) (quiet_by_try floor l.0 a m k) x.step);
  }

  pub gains_there_on : (b z new : Knowledge) → (g : GainsThere floor l mode a b)
      → MakesEach floor (gives_both floor b.thread l.0) b z → Makes floor (Stamps a.thread (Tried l mode) ∷ []) z new
      → GainsAt floor l mode (Decides seen) a new
  gains_there_on b z new g gives notes =
      let back : MakesEach floor (gives_both floor a.thread l.0) b z =
      subst (λ t. MakesEach floor (gives_both floor t l.0) b z) (ap (λ (x : Knowledge). x.thread) g.view) gives in
      gains_there seen g.gain g.is_gain (
        b,
        g.step,
        each_append floor (gives_both floor a.thread l.0) ((Stamps a.thread (Tried l mode) ∷ []) ∷ []) b z new back
            (new, notes, refl),
      )

  pub busy_there_on : (z new : Knowledge) → HasSeenBusy l.0 seen a z
      → MakesEach floor (gives_both floor a.thread l.0) a z → Makes floor (Stamps a.thread (Busy l seen) ∷ []) z new
      → FindsBusyAt floor l mode seen (Decides seen) a new
  busy_there_on z new h gives notes = busy_there z gives h.saw notes

-- A take has the order of its lock checked: admitted, a round of the lock begins; refused, that is noted, and the call
-- is over. A thread that holds nothing is never refused.
use Rattle.lock_calls.proofs.Names
use Names.{ℕ, suc, length, true, false, cond, [], Some, None, refl, sym, ap, subst, inl, arith, Word, word_of, LockNo}
use Names.{Mode, Look, Seeks, Looks, Gains, ClassGraph, round_of, taking_from, config_in, Description, Makes, MayMake}
use Names.{Knowledge, seeing, Checks, Spins, FindsOut, ChecksOrder, checks, counts, looked, sought, BeginsRound}
use Names.{counts_there, may_seek, may_seek_gain, IsCovered, as_taken, gains_at_once, LeavesLooks, TakesOn, TakeEnd}
use Names.{admitted, at_check, finds_out, kept_of, IsChecking, MaySeek, IsSeeking, HasBegun, GainsAtOnce, HasGained}
use Rattle.std.proofs.Common.{◌≡◌, ◌≢◌, ◌-◌, ◌<◌, ◌≤◌, ◌∷◌, ◌∙◌}
use Rattle.lock_calls.proofs.Attempts.{free_admits, plainly, unhalted}
use Rattle.lock_calls.proofs.Looks.{each_append}
use Rattle.lock_calls.proofs.Spun.{fewer_left, leaving_waits}
use Rattle.lock_calls.proofs.There.{seeking_still}
use Rattle.lock_calls.proofs.Words.{other_word}

-- 1. The begin of a round, the lock of which is admitted

begins_it : (l : ℕ) (v : Knowledge) → MaySeek l v → BeginsRound l false v
begins_it l v m = record {
  unheld = m.unheld;
  wants = inl m.wants;
  tries = λ e. absurd cc;
  anew = λ e. absurd (let z : Some l ≡ None = sym m.wants ∙ e in cc);
  unseen = λ e. absurd cc;
  missed = m.missed;
  ordered = λ e. inl m.wants;
  unhalted = unhalted v m.unnoted;
  no_round = m.no_round;
  runs = m.runs;
  nothing_out = m.nothing_out;
  going = m.going;
}

pub may_seek_and_gain : (floor : Description) (l : ℕ) (mode : Mode) (v : Knowledge) → IsCovered floor l mode
    → MaySeek l v
    → MayMake floor v (λ s. s.word l ≡ word_of 0) (Seeks v.thread l false ∷ Gains v.thread l mode false ∷ [])
may_seek_and_gain floor l mode v covered m =
    may_seek_gain floor v l mode false (word_of 0) covered.lock
    (free_admits ((config_in floor).kind l) mode covered.mutex) (plainly ((config_in floor).kind l) mode) (λ w. m.takes)
    (begins_it l v m)

pub may_seek_and_look : (floor : Description) (l : ℕ) (v : Knowledge) → l < length floor.locks → MaySeek l v
    → MayMake floor v (λ s. Unit {0}) (Seeks v.thread l false ∷ Looks v.thread l true ∷ [])
may_seek_and_look floor l v low m = may_seek floor v l false low (begins_it l v m) (λ e. m.wants)

module _ (floor : Description) (l : ℕ) (v : Knowledge) (m : MaySeek l v) where
  -- the lock is taken already
  takes_it : taking_from false v.share.doing.wanted l v.share.doing.taking ≡ Some l
  takes_it = ap (λ w. taking_from false w l v.share.doing.taking) m.wants ∙ m.takes

  pub has_begun : (w : Knowledge) (found : ℕ) → found ≢ 0
      → w ≡ seeing w.seen (looked (sought v l false) l (word_of found))
      → Makes floor (Seeks v.thread l false ∷ Looks v.thread l true ∷ []) v w → HasBegun floor l (word_of found) v w
  has_begun w found other view step =
      let word : Word = word_of found in
      let look : Look = record { lock = l; word = word } in
      let counted : counts (sought v l false) l ≡ true =
      counts_there floor (sought v l false) l false m.nothing_out refl in
      record {
        other = other_word found 0 other;
        all = suc v.share.doing.looks_in_all;
        last = Some look;
        is_last = refl;
        seen = Some look;
        knows = view ∙ (λ i. seeing w.seen (record v {
          share = record v.share {
            doing = record v.share.doing {
              taking = takes_it i;
              looks = cond (counted i) 1 0;
              looks_in_all = suc v.share.doing.looks_in_all;
              last_look = Some look;
              seen_in_section = Some look;
              round = Some (round_of l false);
            };
          };
        }));
        step = step;
      }

  pub seeks_it : (found : Word) (w : Knowledge) → HasBegun floor l found v w → IsSeeking l w
  seeks_it found w b = subst (IsSeeking l) (sym b.knows) (assumption (unhalted v m.unnoted, m))

-- 2. The check

-- another thread has the class graph
pub stays_checking : (floor : Description) (l : LockNo) (mode : Mode) (old new : Knowledge)
    → IsChecking floor l.0 old → new ≡ seeing new.seen old → FindsOut floor ClassGraph old new
    → TakesOn floor l mode Checks Checks old new
stays_checking floor l mode old new there is found = record {
  there = subst (IsChecking floor l.0) (sym is) (assumption there);
  kept = ap kept_of is;
  leg = finds_out Checks ClassGraph refl is found;
}

module _ (floor : Description) (l : LockNo) (mode : Mode) (old mid : Knowledge) (there : IsChecking floor l.0 old)
    (checked : ChecksOrder floor l.0 None old mid) where
  same_thread : mid.thread ≡ old.thread
  same_thread = ap (λ (k : Knowledge). k.thread) checked.view

  same_kept : kept_of mid ≡ kept_of old
  same_kept = ap kept_of checked.view

  -- a round of the lock may begin
  pub may_seek_on : MaySeek l.0 mid
  may_seek_on = subst (MaySeek l.0) (sym checked.view) (assumption there)

  -- it begins and ends with the gain
  module _ (v : Knowledge) (g : GainsAtOnce floor (as_taken l mode) mid v) where
    pub gained_checked : HasGained l mode old v
    gained_checked = record {
      before = sought mid l.0 false;
      kept = same_kept;
      gaining = assumption (takes_it floor l.0 mid may_seek_on, may_seek_on);
      view = g.view;
    }

    pub ends_checked : TakeEnd floor l mode Checks old v
    ends_checked =
        let gains : Makes floor (gains_at_once old.thread l.0 mode) mid v =
        subst (λ t. Makes floor (gains_at_once t l.0 mode) mid v) same_thread g.step in
        at_check (each_append floor (checks old.thread l.0 None) (gains_at_once old.thread l.0 mode ∷ []) old mid v
        checked.steps (v, gains, refl))

  -- or it begins with a look, behind which so many are left
  pub spins_checked : (found : Word) (left rest : ℕ) → left ≤ 49 → (seen new : Knowledge)
      → HasBegun floor l.0 found mid seen
      → LeavesLooks floor ((config_in floor).kind l.0) mode found left rest seen new
      → TakesOn floor l mode Checks (Spins rest) old new
  spins_checked found left rest few seen new b leaves =
      let kind = (config_in floor).kind l.0 in
      let waited = leaving_waits floor kind mode found left rest seen new leaves in
      let fewer : rest ≤ left - 1 = fewer_left floor kind mode found left rest seen new leaves in
      let looks : seen.share.doing.looks ≡ 1 = ap (λ (k : Knowledge). k.share.doing.looks) b.knows in
      let same : new.share.doing.looks ≡ seen.share.doing.looks =
      ap (λ (k : Knowledge). k.share.doing.looks) waited.view in
      let begins : Makes floor (Seeks old.thread l.0 false ∷ Looks old.thread l.0 true ∷ []) mid seen =
      subst (λ t. Makes floor (Seeks t l.0 false ∷ Looks t l.0 true ∷ []) mid seen) same_thread b.step in
      record {
        there = (
          seeking_still l.0 seen new waited.view (seeks_it floor l.0 mid may_seek_on found seen b),
          omega (arith, same, looks, fewer, few),
        );
        kept = ap kept_of waited.view ∙ ap kept_of b.knows ∙ same_kept;
        leg = admitted seen left rest found few
            (each_append floor (checks old.thread l.0 None)
            ((Seeks old.thread l.0 false ∷ Looks old.thread l.0 true ∷ []) ∷ []) old mid seen checked.steps
            (seen, begins, refl))
            (ap (λ (k : Knowledge). k.share.doing.last_look) b.knows ∙ b.is_last) b.other leaves;
      }

-- A try before it takes the lock's chain: its exchanges and looks may be made, and what it knows behind them.
use Rattle.lock_calls.proofs.Names
use Names.{ℕ, suc, Bool, true, false, cond, Some, None, [], length, refl, sym, ap, subst, inr, arith, same_Some}
use Names.{NotHeld, most_held, hold_in, lock_queue, Word, word_of, admits, is_plain, is_turnstile, LockNo, Mode, Look}
use Names.{Round, Seeks, Looks, Gains, TakesItem, FitsRound, IsItem, IsOfRound, TurnstileChain, SleepChain, item_with}
use Names.{in_its_chain, round_of, config_in, Description, Makes, MayMake, Runs, Knowledge, seeing, Takes, IsAtRest}
use Names.{counts, looked, sought, gained, its_chain, chain_place, BeginsRound, WantsItsRound, counts_there, may_look}
use Names.{may_seek, may_seek_gain, may_gain, is_a_chain, IsCovered, About, about_of, nothing_else, as_tried}
use Names.{SeeksByTry, HasChainInTry, kept_of, IsCalling, HasSpun, SpinsThenGains, with_looks_counted}
use Rattle.std.proofs.Common.{◌≡◌, ◌%◌, ◌<◌, ◌≤◌, ◌∷◌, ◌∙◌}
use Rattle.lock_floor.proofs.MayWait as wait
use Rattle.lock_calls.proofs.Sections.{chain_out}
use Rattle.lock_calls.proofs.Attempts.{free_admits, plainly, unhalted}

-- 1. The first exchange

-- a thread at rest is about nothing
pub about_nothing : (floor : Description) (v : Knowledge) → IsAtRest floor v → about_of v ≡ nothing_else
about_nothing floor v r i = record {
  pose = r.runs i;
  wanted = r.wants_nothing i;
  taking = r.takes_nothing i;
  walk = r.no_walk i;
}

module _ (floor : Description) (l : ℕ) (mode : Mode) (v : Knowledge) (covered : IsCovered floor l mode)
    (r : IsAtRest floor v) (unheld : hold_in v.share.held l ≡ NotHeld) where
  begins_it : BeginsRound l true v
  begins_it = record {
    unheld = unheld;
    wants = inr r.wants_nothing;
    tries = λ e. r.wants_nothing;
    anew = λ e. r.takes_nothing;
    unseen = λ e. r.no_last_look;
    missed = λ look e. absurd (let z : None ≡ Some look = sym r.no_last_look ∙ e in cc);
    ordered = λ e. absurd cc;
    unhalted = unhalted v r.unnoted;
    no_round = r.no_round;
    runs = r.runs;
    nothing_out = r.nothing_out;
    going = r.going;
  }

  pub may_try_first : MayMake floor v (λ s. s.word l ≡ word_of 0)
      (Seeks v.thread l true ∷ Gains v.thread l mode true ∷ [])
  may_try_first =
      may_seek_gain floor v l mode true (word_of 0) covered.lock
      (free_admits ((config_in floor).kind l) mode covered.mutex) (plainly ((config_in floor).kind l) mode)
      (λ w. absurd (let z : None ≡ Some l = sym r.wants_nothing ∙ w in cc)) begins_it

  pub may_look_first : MayMake floor v (λ s. Unit {0}) (Seeks v.thread l true ∷ Looks v.thread l true ∷ [])
  may_look_first = may_seek floor v l true covered.lock begins_it (λ e. absurd cc)

  -- it missed
  module _ (w : Knowledge) (word : Word) (view : w ≡ seeing w.seen (looked (sought v l true) l word)) where
    first_counts : counts (sought v l true) l ≡ true
    first_counts = counts_there floor (sought v l true) l true r.nothing_out refl

    pub one_look : w.share.doing.looks ≡ 1
    one_look = ap (λ (k : Knowledge). k.share.doing.looks) view ∙ ap (λ b. cond b 1 0) first_counts

    pub seeks_it : length v.share.held < most_held → SeeksByTry l w
    seeks_it few = subst (SeeksByTry l) (sym view) (assumption (unheld, few, about_nothing floor v r, r))

    pub first_kept : kept_of w ≡ kept_of v
    first_kept = ap kept_of view

    pub first_looked : v.share.doing.looks_in_all < w.share.doing.looks_in_all
    first_looked =
        let more : w.share.doing.looks_in_all ≡ suc v.share.doing.looks_in_all =
        ap (λ (k : Knowledge). k.share.doing.looks_in_all) view in
        omega (arith, more)

-- 2. Looks and exchanges in the round

module _ (floor : Description) (l : ℕ) (b : Knowledge) (m : SeeksByTry l b) (k : IsCalling floor (kept_of b)) where
  runs : b.pose ≡ Runs
  runs = ap (λ (a : About). a.pose) m.about

  not_outside : b.share.doing.round ≡ None → ⊥
  not_outside none = let z : Some (round_of l true) ≡ None = sym m.round ∙ none in cc

  -- it is none of a blocking call's
  of_try : WantsItsRound b
  of_try r is blocks =
      let same : round_of l true ≡ r = same_Some (round_of l true) r (sym m.round ∙ is) in
      absurd (let z : true ≡ false = ap (λ (x : Round). x.by_try) same ∙ blocks in cc)

  it_counts : counts b l ≡ true
  it_counts = counts_there floor b l true m.nothing_out m.round

  pub may_look_by_try : l < length floor.locks → b.share.doing.looks < 100
      → MayMake floor b (λ s. Unit {0}) (Looks b.thread l (counts b l) ∷ [])
  may_look_by_try low room =
      may_look floor b l k.description low runs m.nothing_out k.going (λ e. room) (λ e. it_counts)
      (λ none. absurd (not_outside none)) (λ none. absurd (not_outside none)) of_try

  pub may_gain_by_try : (mode : Mode) (word : Word) → l < length floor.locks
      → admits ((config_in floor).kind l) word mode ≡ true → is_plain ((config_in floor).kind l) word mode ≡ true
      → MayMake floor b (λ s. s.word l ≡ word) (Gains b.thread l mode true ∷ [])
  may_gain_by_try mode word low admitted plain =
      may_gain floor b l mode true word low admitted plain m.unheld (inr (ap (λ (a : About). a.wanted) m.about))
      (subst (λ r. FitsRound r l true) (sym m.round) (refl, refl)) (λ none. absurd (not_outside none))
      (λ j e. absurd (let z : None ≡ Some j = sym (ap (λ (a : About). a.taking) m.about) ∙ e in cc)) (λ e. absurd cc)
      (λ e. absurd cc) (unhalted b k.unnoted) runs m.nothing_out k.going

  -- one look
  pub looked_by_try : (w : Knowledge) (word : Word) → w ≡ seeing w.seen (looked b l word)
      → Makes floor (Looks b.thread l (counts b l) ∷ []) b w → HasSpun floor l 1 b w
  looked_by_try w word view step =
      let x = b.share.doing in
      let look : Look = record { lock = l; word = word } in
      record {
        looks = suc x.looks;
        counted = omega arith;
        all = suc x.looks_in_all;
        last = Some look;
        seen = Some look;
        knows = view
            ∙ (λ i. seeing w.seen (with_looks_counted b (cond (it_counts i) (suc x.looks) x.looks) (suc x.looks_in_all)
            (Some look) (Some look)));
        steps = (w, subst (λ c. Makes floor (Looks b.thread l c ∷ []) b w) it_counts step, refl);
      }

  -- 3. The chain

  pub may_take_chain_by_try : MayMake floor b (λ s. item_with s (its_chain floor (lock_queue l)) ≡ None)
      (TakesItem b.thread (its_chain floor (lock_queue l)) ∷ [])
  may_take_chain_by_try =
      wait.may_take_chain floor b (lock_queue l) runs m.nothing_out k.going
      (subst (λ r. IsOfRound floor.chains (config_in floor) r (its_chain floor (lock_queue l))) (sym m.round)
      (λ e. refl)) of_try

-- where a lock's chain was taken there is one
some_chain : (floor : Description) (l : ℕ) → IsItem floor.chains (config_in floor) (its_chain floor (lock_queue l))
    → 1 ≤ floor.chains
some_chain floor l there = go (is_turnstile ((config_in floor).kind l)) there
  where
    go : (b : Bool) → IsItem floor.chains (config_in floor)
        (cond b (TurnstileChain (l % floor.chains)) (SleepChain (l % floor.chains))) → 1 ≤ floor.chains
    go true low = omega (arith, low)
    go false low = omega (arith, low)

pub has_chain_by_try : (floor : Description) (l : ℕ) (v a : Knowledge) → SeeksByTry l v
    → Takes floor (its_chain floor (lock_queue l)) (chain_place floor (lock_queue l)) v a → HasChainInTry floor l a
has_chain_by_try floor l v a m one =
    record {
      unheld = ap (λ (k : Knowledge). hold_in k.share.held l) one.view ∙ m.unheld;
      few = subst (λ hs. length hs < 8) (sym (ap (λ (k : Knowledge). k.share.held) one.view)) m.few;
      about = ap about_of one.view ∙ m.about;
      round = ap (λ (k : Knowledge). k.share.doing.round) one.view
          ∙ ap (λ x. cond x (in_its_chain v.share.doing.round) v.share.doing.round) (is_a_chain floor (lock_queue l))
          ∙ ap in_its_chain m.round;
      some_chains = some_chain floor l one.step.may.0.fits.has_out.0;
      chain = one.value;
      of_lock = one.kind;
      out = chain_out floor l v a one m.nothing_out;
    }

-- 4. What stays

module _ (floor : Description) (l n : ℕ) (a b : Knowledge) (x : HasSpun floor l n a b) where
  -- looks leave the thread in its round,
  pub seeks_on : SeeksByTry l a → SeeksByTry l b
  seeks_on m = subst (SeeksByTry l) (sym x.knows) (assumption m)

  -- with what stays through its call,
  pub calling_on : IsCalling floor (kept_of a) → IsCalling floor (kept_of b)
  calling_on k = subst (IsCalling floor) (sym (ap kept_of x.knows)) k

  -- and the gain may follow
  pub looked_and_gains : (h : LockNo) → h.0 ≡ l → (mode : Mode) (w : Knowledge)
      → w ≡ seeing w.seen (gained b (as_tried h mode)) → Makes floor (Gains b.thread l mode true ∷ []) b w
      → SpinsThenGains floor (as_tried h mode) n a w
  looked_and_gains h same mode w view step = record {
    between = b;
    spun = subst (λ k. HasSpun floor k n a b) (sym same) x;
    view = view;
    step = subst (λ (z : ℕ × ℕ). Makes floor (Gains z.0 z.1 mode true ∷ []) b w)
        (λ i. (ap (λ (k : Knowledge). k.thread) x.knows i, sym same i)) step;
  }

-- it is so at each place, whatever others did
pub seeks_still : (l : ℕ) (v w : Knowledge) → w ≡ seeing w.seen v → SeeksByTry l v → SeeksByTry l w
seeks_still l v w view m = subst (SeeksByTry l) (sym view) (assumption m)

pub chain_still_by_try : (floor : Description) (l : ℕ) (v w : Knowledge) → w ≡ seeing w.seen v
    → HasChainInTry floor l v → HasChainInTry floor l w
chain_still_by_try floor l v w view m = subst (HasChainInTry floor l) (sym view) record {
  unheld = m.unheld;
  few = m.few;
  about = m.about;
  round = m.round;
  some_chains = m.some_chains;
  chain = m.chain;
  of_lock = m.of_lock;
  out = m.out;
}

-- A try in the section of the lock's chain: what allows its steps there, and what each leaves.
use Rattle.lock_calls.proofs.Names
use Names.{ℕ, Bool, true, false, not, Some, None, [], length, refl, sym, ap, subst, inl, inr, eq-eqb, with_value}
use Names.{hold_in, lock_queue, Word, word_of, is_plain, is_turnstile, admits, LockNo, Mode, Excl, record_claimed}
use Names.{chain_claimed, IsClaim, Step, Looks, Gains, Claims, TakesItem, FitsRound, seeks, is_first, RecordOf}
use Names.{is_chain, config_in, Description, Record, slot_of, found, Makes, MayMake, Runs, is_off_queues, Knowledge}
use Names.{seeing, one_place, found_first, found_later, MayClaimIt, ClaimsIt, out_claimed, Takes, HasBothOut, counts}
use Names.{looked, gained, is_there, is_out, its_chain, chain_place, chain_at, IsNoSleeper, is_a_chain, record_at}
use Names.{HasRecordAndChain, About, about_of, as_tried, HasChainInTry, IsThereByTry, IsDeciding, GainsThere, kept_of}
use Names.{IsCalling, Saw, MissesThere}
use Rattle.std.proofs.Common.{◌≡◌, ◌≢◌, ◌<◌, ◌&&◌, ◌||◌, ◌∷◌, ◌∙◌}
use Rattle.lock_floor.proofs.MayWait as wait
use Rattle.lock_calls.proofs.Attempts.{unhalted}
use Rattle.lock_calls.proofs.Sections.{record_out, as_both, from_both}
use Rattle.lock_calls.proofs.There.{saw_word}
use Rattle.lock_calls.proofs.Words.{word_seen, saw_others}

-- 1. The way there

module _ (floor : Description) (l : ℕ) (a : Knowledge) (m : HasChainInTry floor l a) (k : IsCalling floor (kept_of a))
    (who : ℕ) (low : who < length floor.threads) where
  runs : a.pose ≡ Runs
  runs = ap (λ (x : About). x.pose) m.about

  pub may_take_own_by_try : MayMake floor a (λ s. s.record_with who ≡ None) (TakesItem a.thread (RecordOf who) ∷ [])
  may_take_own_by_try = wait.may_take_record floor a (lock_queue l) m.chain m.out who low runs k.going

  module _ (is : who ≡ a.thread) (b : Knowledge) (two : Takes floor (RecordOf who) who a b) where
    own : Takes floor (RecordOf a.thread) a.thread a b
    own = subst (λ t. Takes floor (RecordOf t) t a b) is two

    its : b.thread ≡ a.thread
    its = ap (λ (x : Knowledge). x.thread) own.view

    pub own_step : Makes floor (TakesItem a.thread (RecordOf a.thread) ∷ []) a b
    own_step = own.step

    pub come_kept_by_try : kept_of b ≡ kept_of a
    come_kept_by_try = ap kept_of own.view

    pub come_by_try : IsThereByTry floor l b
    come_by_try =
        assumption (
          ap (λ (x : Knowledge). hold_in x.share.held l) own.view ∙ m.unheld,
          subst (λ hs. length hs < 8) (sym (ap (λ (x : Knowledge). x.share.held) own.view)) m.few,
          ap about_of own.view ∙ m.about,
          ap (λ (x : Knowledge). x.share.doing.round) own.view ∙ m.round,
          subst (λ t. t < length floor.threads) (is ∙ sym its) low,
          (record_out floor l a b m.chain m.of_lock own (ap is_off_queues runs) m.out).0,
          m,
        )

-- 2. Looks there

module _ (floor : Description) (l : ℕ) (v : Knowledge) (m : IsThereByTry floor l v) (k : IsCalling floor (kept_of v))
  where
    runs_there : v.pose ≡ Runs
    runs_there = ap (λ (x : About). x.pose) m.about

    of_round : seeks l v.share.doing.round ≡ true
    of_round = ap (seeks l) m.round ∙ eq-eqb l l refl

    no_sleeper : IsNoSleeper v
    no_sleeper = λ back e f g. let z : true ≡ false = sym back ∙ k.no_wait in cc

    abbrev j : ℕ
    j = chain_place floor (lock_queue l)

    apart : v.thread ≢ j
    apart e =
        let same : RecordOf v.thread ≡ its_chain floor (lock_queue l) =
        one_place floor (RecordOf v.thread) (its_chain floor (lock_queue l)) j
        (record_at floor v.thread m.of_floor ∙ ap Some e) (chain_at floor m.some_chains (lock_queue l)) in
        let z : false ≡ true = ap is_chain same ∙ is_a_chain floor (lock_queue l) in
        cc

    chain_is_out : is_out v.out (slot_of floor (its_chain floor (lock_queue l))) ≡ true
    chain_is_out = ap (is_out v.out) (chain_at floor m.some_chains (lock_queue l))
        ∙ ap (λ out. is_there (found j out)) m.both.out
        ∙ ap is_there
        (found_later v.thread j (Record m.both.box) ((j, m.both.chain) ∷ []) apart
        ∙ found_first j m.both.chain [])

    -- the chain is out, so they don't count
    pub quiet_by_try : counts v l ≡ false
    quiet_by_try =
        (λ i. asks && not (is_out v.out (slot_of (k.description i) (its_chain (k.description i) (lock_queue l)))))
        ∙ ap (λ b. asks && not b) chain_is_out ∙ never asks
      where
        asks : Bool
        asks = seeks l v.share.doing.round || is_first v.share.doing.round (hold_in v.share.held l)

        never : (b : Bool) → (b && false) ≡ false
        never true = refl
        never false = refl

    module _ (low : l < length floor.locks) where
      pub may_look_there_by_try : MayMake floor v (λ s. Unit {0}) (Looks v.thread l (counts v l) ∷ [])
      may_look_there_by_try =
          wait.may_look_there floor v l (Record m.both.box) m.both.chain m.both.out low k.going no_sleeper
          k.description of_round

      -- what was seen last there is the word
      last_seen : (mode : Mode) (word : Word) → Saw l word v → admits ((config_in floor).kind l) word mode ≡ true
          → (w : Word) → v.share.doing.seen_in_section ≡ Some (record { lock = l; word = w })
          → admits ((config_in floor).kind l) w mode ≡ true
      last_seen mode word saw admitted w e =
          ap (λ (x : Word). admits ((config_in floor).kind l) x mode) (word_seen l word w (sym saw.there ∙ e))
          ∙ admitted

      takes_none : (i : ℕ) → v.share.doing.taking ≡ Some i → i ≡ l
      takes_none i e = absurd (let z : None ≡ Some i = sym (ap (λ (x : About). x.taking) m.about) ∙ e in cc)

      pub may_gain_there_by_try : (mode : Mode) (word : Word) → Saw l word v
          → admits ((config_in floor).kind l) word mode ≡ true → is_plain ((config_in floor).kind l) word mode ≡ true
          → MayMake floor v (λ s. s.word l ≡ word) (Gains v.thread l mode true ∷ [])
      may_gain_there_by_try mode word saw admitted plain =
          wait.may_gain_there floor v l (Record m.both.box) m.both.chain m.both.out low k.going no_sleeper
          mode true word admitted plain m.unheld (inr (ap (λ (x : About). x.wanted) m.about)) of_round
          (subst (λ r. FitsRound r l true) (sym m.round) (refl, refl)) (last_seen mode word saw admitted) takes_none
          (λ e. absurd cc) (λ e. absurd cc) (unhalted v k.unnoted) (ap is_off_queues runs_there)

      pub may_claim_by_try : (mode : Mode) (word : Word) → Saw l word v → IsClaim ((config_in floor).kind l) word mode
          → MayClaimIt floor l true word v
      may_claim_by_try mode word saw claim = record {
        both = as_both floor l (ap is_turnstile claim.is_rw) v m.both;
        may = wait.may_claim_there floor v l (Record m.both.box) m.both.chain m.both.out low k.going
            no_sleeper true word claim.is_rw claim.free claim.shown m.unheld
            (inr (ap (λ (x : About). x.wanted) m.about)) of_round
            (subst (λ r. FitsRound r l true) (sym m.round) (refl, refl)) (last_seen Excl word saw claim.free) takes_none
            (λ e. absurd cc) (λ e. absurd cc) (unhalted v k.unnoted) (ap is_off_queues runs_there);
      }

pub missed_by_try : (floor : Description) (l seen found : ℕ) (v w : Knowledge) → IsThereByTry floor l v → found ≢ seen
    → w ≡ seeing w.seen (looked v l (word_of found)) → Makes floor (Looks v.thread l (counts v l) ∷ []) v w
    → MissesThere floor l seen found v w
missed_by_try floor l seen found v w m other view step = record {
  other = other;
  seen_so = saw_others floor l found v w m.unheld view step;
  view = view;
  step = step;
}

-- behind a look there it decides
pub decides : (floor : Description) (l found : ℕ) (v w : Knowledge) → IsThereByTry floor l v
    → w ≡ seeing w.seen (looked v l (word_of found)) → Makes floor (Looks v.thread l (counts v l) ∷ []) v w
    → IsDeciding floor l found w
decides floor l found v w m view step = record {
  there = subst (IsThereByTry floor l) (sym view) record {
    unheld = m.unheld;
    few = m.few;
    about = m.about;
    round = m.round;
    some_chains = m.some_chains;
    of_floor = m.of_floor;
    both = record { box = m.both.box; chain = m.both.chain; of_lock = m.both.of_lock; out = m.both.out };
  };
  saw = saw_word floor l v w (word_of found) view;
  seen_so = saw_others floor l found v w m.unheld view step;
}

-- 3. It gained the lock

-- plainly
pub tried_plainly : (floor : Description) (l : LockNo) (mode : Mode) (v w : Knowledge) → IsThereByTry floor l.0 v
    → w ≡ seeing w.seen (gained v (as_tried l mode)) → Makes floor (Gains v.thread l.0 mode true ∷ []) v w
    → GainsThere floor l mode v w
tried_plainly floor l mode v w m view step = record {
  gain = Gains v.thread l.0 mode true;
  is_gain = inl refl;
  out = v.out;
  view = view;
  both = subst (HasRecordAndChain floor l.0) (sym view)
      (record { box = m.both.box; chain = m.both.chain; of_lock = m.both.of_lock; out = m.both.out });
  step = step;
}

-- or by a claim
pub tried_by_claim : (floor : Description) (l : LockNo) (mode : Mode) (v w : Knowledge) → mode ≡ Excl
    → ClaimsIt floor l true v w → GainsThere floor l mode v w
tried_by_claim floor l mode v w exclusive x =
    let h = x.turnstile in
    let claim : Step = Claims v.thread l.0 h.contents.number true in
    subst (λ m. GainsThere floor l m v w) (sym exclusive) record {
      gain = claim;
      is_gain = inr (refl, h.contents.number, refl);
      out = out_claimed floor v.thread l.0 x.both.box x.both.chain h;
      view = x.view;
      both = from_both floor l.0 (ap is_turnstile x.step.may.0.fits.may.kind) w
          (subst (HasBothOut floor l.0) (sym x.view) record {
            box = with_value x.both.box (record_claimed l.0 h x.both.box.value);
            chain = chain_claimed l.0 x.both.box.value.thread h x.both.chain;
            out = refl;
          });
      step = x.step;
    }

-- The first exchanges of a call whose thread holds nothing: from the free word, and of a lock that can be shared a
-- second one, from the word that the first found. They may be made; and what the thread knows behind those that missed,
-- or where one of them gained the lock.
use Rattle.lock_calls.proofs.Names
use Names.{ℕ, suc, Bool, true, false, cond, Option, Some, None, [], refl, sym, ap, subst, inr, arith, hold_in, word_of}
use Names.{LockNo, Kind, Mtx, Rw, Sx, Mode, Look, Seeks, Looks, Gains, taking_from, config_in, Description, Makes}
use Names.{MayMake, Knowledge, seeing, IsGoing, gained_first, counts, looked, sought, BeginsRound, ExchangesAgain}
use Names.{counts_first, may_look, may_seek_gain, course, Plainly, IsCovered, FirstMisses, MissesFirst, none_missed}
use Names.{one_missed, most_missed, as_taken, gains_at_once, kept_of, MayGain, HasMissed, HasGainedFirst, IsGaining}
use Names.{HasGained, with_looks_counted}
use Rattle.std.proofs.Common.{◌≡◌, ◌≢◌, ◌<◌, ◌≤◌, ◌∷◌, ◌∙◌}
use Rattle.lock_calls.proofs.Attempts.{free_plainly, one_may_miss, unhalted}
use Rattle.lock_calls.proofs.Chosen.{gains_plainly}
use Rattle.lock_calls.proofs.Looks.{wants_none}
use Rattle.lock_calls.proofs.Words.{other_word}

-- 1. How many may miss

one_of_mutexes : (k : Kind) → k ≡ Mtx → most_missed k ≤ 1
one_of_mutexes k is = subst (λ (x : Kind). most_missed x ≤ 1) (sym is) (omega arith)

two_of_others : (k : Kind) → k ≢ Mtx → most_missed k ≡ 2
two_of_others Mtx other = absurd (other refl)
two_of_others Rw other = refl
two_of_others Sx other = refl

pub no_mutex : (k : Kind) → 1 < most_missed k → k ≢ Mtx
no_mutex k more is = absurd (omega (arith, more, one_of_mutexes k is))

-- 2. What the thread knows behind those that missed

-- it made no exchange, since it holds a lock
pub missed_none : (floor : Description) (l : ℕ) (mode : Mode) (v : Knowledge) → MayGain floor l v
    → FirstMisses ((config_in floor).kind l) v.share.held 0 → HasMissed floor l mode v v
missed_none floor l mode v m holds = record {
  missed = 0;
  first = record {
    first = holds;
    next = word_of 0;
    misses = none_missed;
    all = λ some. absurd (omega (arith, some));
  };
  looks = v.share.doing.looks;
  counted = omega arith;
  all = v.share.doing.looks_in_all;
  last = v.share.doing.last_look;
  seen = v.share.doing.seen_in_section;
  its = λ look e. absurd (let z : None ≡ Some look = sym m.unseen ∙ e in cc);
  knows = refl;
}

module _ (floor : Description) (l : ℕ) (mode : Mode) (v : Knowledge) (covered : IsCovered floor l mode)
    (m : MayGain floor l v) (bare : v.share.held ≡ []) where
  abbrev kind : Kind
  kind = (config_in floor).kind l

  -- one that missed is a look that counts
  abbrev look_at : ℕ → Look
  look_at found = record { lock = l; word = word_of found }

  abbrev lock_of : Option Look → ℕ
  lock_of None = l
  lock_of (Some it) = it.lock

  its_lock : (found : ℕ) (look : Look) → Some (look_at found) ≡ Some look → look.lock ≡ l
  its_lock found look e = sym (ap lock_of e)

  module _ (w : Knowledge) (found : ℕ) (other : found ≢ 0) (is : w ≡ seeing w.seen (looked v l (word_of found)))
      (miss : Makes floor (Looks v.thread l (counts v l) ∷ []) v w) where
    it_counts : counts v l ≡ true
    it_counts = counts_first floor v l m.looks.nothing_out m.looks.no_round m.unheld

    -- so it knows behind the first
    saw_first : w ≡ seeing w.seen (with_looks_counted v 1 (suc v.share.doing.looks_in_all) (Some (look_at found))
        (Some (look_at found)))
    saw_first = is
        ∙ (λ i. seeing w.seen (with_looks_counted v (cond (it_counts i) (suc (m.no_looks i)) (m.no_looks i))
        (suc v.share.doing.looks_in_all) (Some (look_at found)) (Some (look_at found))))

    pub misses_one : MissesFirst floor l mode 1 (word_of found) v w
    misses_one =
        one_missed 0 (word_of 0) (word_of found) none_missed (free_plainly kind mode covered.mutex)
        (subst (λ b. Makes floor (Looks v.thread l b ∷ []) v w) it_counts miss)
        (ap (λ (k : Knowledge). k.share.doing.last_look) is) (other_word found 0 other)

    pub missed_once : (1 < most_missed kind → course kind (word_of found) mode ≢ Plainly)
        → HasMissed floor l mode v w
    missed_once enough = record {
      missed = 1;
      first = record {
        first = subst (λ hs. FirstMisses kind hs 1) (sym bare) (omega arith, one_may_miss kind);
        next = word_of found;
        misses = misses_one;
        all = λ some more. enough more;
      };
      looks = 1;
      counted = omega (arith, m.no_looks);
      all = suc v.share.doing.looks_in_all;
      last = Some (look_at found);
      seen = Some (look_at found);
      its = λ look e. (its_lock found look e, bare);
      knows = saw_first;
    }

    -- 3. The second

    module _ (shared : kind ≢ Mtx) where
      pub exchanges_again : ExchangesAgain floor l w
      exchanges_again = subst (ExchangesAgain floor l) (sym saw_first) record {
        kind = shared;
        wants = m.wants_nothing;
        takes = m.looks.takes_nothing;
        bare = bare;
        behind = (look_at found, refl, refl);
        once = refl;
      }

      no_round_yet : w.share.doing.round ≡ None
      no_round_yet = ap (λ (k : Knowledge). k.share.doing.round) is ∙ m.looks.no_round

      pub may_look_again : v.description ≡ floor → MayMake floor w (λ s. Unit {0}) (Looks w.thread l (counts w l) ∷ [])
      may_look_again mine =
          may_look floor w l (ap (λ (k : Knowledge). k.description) is ∙ mine) covered.lock
          (ap (λ (k : Knowledge). k.pose) is ∙ m.looks.runs)
          (ap (λ (k : Knowledge). k.out) is ∙ m.looks.nothing_out)
          (going_on)
          (λ e. omega (arith, exchanges_again.once)) (λ ne. absurd (ne no_round_yet))
          (λ none. exchanges_again.takes) (λ none unheld. inr exchanges_again) (wants_none w no_round_yet)
        where
          going_on : IsGoing w
          going_on = subst IsGoing (sym saw_first)
              record { awake = m.looks.going.awake; unended = m.looks.going.unended; stamped = m.looks.going.stamped }

      begins_again : BeginsRound l false w
      begins_again = subst (BeginsRound l false) (sym saw_first) record {
        unheld = m.unheld;
        wants = inr m.wants_nothing;
        tries = λ e. m.wants_nothing;
        anew = λ e. m.looks.takes_nothing;
        unseen = λ e. absurd (let z : false ≡ true = e in cc);
        missed = λ look e. (its_lock found look e, bare);
        ordered = λ e. inr (record { bare = bare; unnoted = m.unnoted; no_wait = m.no_wait });
        unhalted = unhalted v m.unnoted;
        no_round = m.looks.no_round;
        runs = m.looks.runs;
        nothing_out = m.looks.nothing_out;
        going = assumption m.looks.going;
      }

      pub may_gain_again : course kind (word_of found) mode ≡ Plainly
          → MayMake floor w (λ s. s.word l ≡ word_of found) (Seeks w.thread l false ∷ Gains w.thread l mode false ∷ [])
      may_gain_again plainly =
          let so = gains_plainly kind (word_of found) mode plainly in
          may_seek_gain floor w l mode false (word_of found) covered.lock so.0 so.1
          (λ wants. absurd (let z : None ≡ Some l = sym exchanges_again.wants ∙ wants in cc)) begins_again

      -- it missed too
      pub missed_twice : course kind (word_of found) mode ≡ Plainly → (u : Knowledge) (last : ℕ) → last ≢ found
          → u ≡ seeing u.seen (looked w l (word_of last)) → Makes floor (Looks w.thread l (counts w l) ∷ []) w u
          → HasMissed floor l mode v u
      missed_twice plainly u last differs view step =
          let counts_too : counts w l ≡ true =
          counts_first floor w l (ap (λ (k : Knowledge). k.out) is ∙ m.looks.nothing_out) no_round_yet
          (ap (λ (k : Knowledge). hold_in k.share.held l) is ∙ m.unheld) in
          let its : w.thread ≡ v.thread = ap (λ (k : Knowledge). k.thread) is in
          record {
            missed = 2;
            first = record {
              first = subst (λ hs. FirstMisses kind hs 2) (sym bare)
                  (omega arith, omega (arith, two_of_others kind shared));
              next = word_of last;
              misses = one_missed 1 (word_of found) (word_of last) misses_one plainly
                  (subst (λ (x : ℕ × Bool). Makes floor (Looks x.0 l x.1 ∷ []) w u) (λ i. (its i, counts_too i)) step)
                  (ap (λ (k : Knowledge). k.share.doing.last_look) view) (other_word last found differs);
              all = λ some more. absurd (omega (arith, more, two_of_others kind shared));
            };
            looks = 2;
            counted = omega (arith, m.no_looks);
            all = suc (suc v.share.doing.looks_in_all);
            last = Some (look_at last);
            seen = Some (look_at last);
            its = λ look e. (its_lock last look e, bare);
            knows = view
                ∙ (λ i. seeing u.seen (with_looks_counted w
                (cond (counts_too i) (suc w.share.doing.looks) w.share.doing.looks) (suc w.share.doing.looks_in_all)
                (Some (look_at last)) (Some (look_at last))))
                ∙ ap (λ (k : Knowledge). seeing u.seen (with_looks_counted k (suc k.share.doing.looks)
                (suc k.share.doing.looks_in_all) (Some (look_at last)) (Some (look_at last)))) saw_first;
          }

      -- or gained the lock
      pub gained_again : course kind (word_of found) mode ≡ Plainly → (h : LockNo) → h.0 ≡ l → (u : Knowledge)
          → u ≡ seeing u.seen (gained_first w (as_taken h mode))
          → Makes floor (gains_at_once w.thread l mode) w u → HasGainedFirst floor h mode v u
      gained_again plainly h same u view step = record {
        gains = record {
          missed = 1;
          fewer = subst (λ k. 1 < most_missed ((config_in floor).kind k)) (sym same)
              (omega (arith, two_of_others kind shared));
          next = word_of found;
          between = w;
          misses = subst (λ k. MissesFirst floor k mode 1 (word_of found) v w) (sym same) misses_one;
          plainly = subst (λ k. course ((config_in floor).kind k) (word_of found) mode ≡ Plainly) (sym same) plainly;
          gains = subst (λ (x : ℕ × ℕ). Makes floor (gains_at_once x.0 x.1 mode) w u)
              (λ i. (ap (λ (k : Knowledge). k.thread) is i, sym same i)) step;
        };
        looks = 1;
        all = suc v.share.doing.looks_in_all;
        last = Some (look_at found);
        seen = Some (look_at found);
        saw = saw_first;
        view = view;
      }

  -- the first gained it
  pub gained_by_first : (h : LockNo) → h.0 ≡ l → (u : Knowledge)
      → u ≡ seeing u.seen (gained_first v (as_taken h mode))
      → Makes floor (gains_at_once v.thread l mode) v u → HasGainedFirst floor h mode v u
  gained_by_first h same u view step = record {
    gains = record {
      missed = 0;
      fewer = one_may_miss ((config_in floor).kind h.0);
      next = word_of 0;
      between = v;
      misses = none_missed;
      plainly = subst (λ k. course ((config_in floor).kind k) (word_of 0) mode ≡ Plainly) (sym same)
          (free_plainly kind mode covered.mutex);
      gains = subst (λ k. Makes floor (gains_at_once v.thread k mode) v u) (sym same) step;
    };
    looks = v.share.doing.looks;
    all = v.share.doing.looks_in_all;
    last = v.share.doing.last_look;
    seen = v.share.doing.seen_in_section;
    saw = refl;
    view = view;
  }

-- 4. Behind the gain

pub has_gained_first : (floor : Description) (l : LockNo) (mode : Mode) (old v : Knowledge) → MayGain floor l.0 old
    → HasGainedFirst floor l mode old v → HasGained l mode old v
has_gained_first floor l mode old v m g = record {
  before = sought g.gains.between l.0 false;
  kept = ap kept_of g.saw;
  gaining = subst (λ (k : Knowledge). IsGaining l.0 (sought k l.0 false)) (sym g.saw) (assumption (
    ap (λ w. taking_from false w l.0 old.share.doing.taking) m.wants_nothing,
    m,
  ));
  view = g.view;
}

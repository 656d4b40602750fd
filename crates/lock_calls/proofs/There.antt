-- A blocking call in the section of the lock's chain: what allows its steps there, and what each leaves.
use Rattle.lock_calls.proofs.Names
use Names.{ℕ, Bool, true, false, cond, not, Option, Some, None, List, [], length, refl, sym, ap, subst, inl, inr}
use Names.{eq-eqb, same_Some, hold_in, lock_queue, side_of, Word, word_of, is_free, is_plain, is_turnstile, admits}
use Names.{LockNo, Mode, Excl, QueueName, waiter_of, record_entered, chain_entered, record_claimed, chain_claimed}
use Names.{sleeper_of, record_asleep, chain_asleep, with_value, Global, Box, ThreadRec, Turnstile, IsClaim, Walk}
use Names.{NoWalk, AtLock, Step, Looks, Gains, Claims, Enters, Readies, TakesItem, FitsRound, IsOfRound, seeks}
use Names.{is_first, RecordOf, item_with, in_its_chain, is_chain, walk_up, config_in, Description, Record, slot_of}
use Names.{found, Makes, MakesEach, MayMake, is_off_queues, Knowledge, seeing, one_place, found_first, found_later}
use Names.{MayClaimIt, ClaimsIt, out_claimed, Takes, HasBothOut, MayEnterAsleep, EntersAsleep, HasSleeperOut}
use Names.{out_asleep, IsGoing, counts, looked, gained, took, is_there, is_out, its_chain, chain_place, readied}
use Names.{out_entered, entered, chain_at, may_enter_asleep, IsNoSleeper, is_a_chain, record_at, section_out}
use Names.{HasRecordAndChain, IsCovered, as_taken, HasChainOut, IsContending, kept_of, CanAcquire, IsSeeking, HasLooked}
use Names.{IsThere, Saw, GainsStep, EntersStep, MissesThere}
use Rattle.std.proofs.Common.{◌≡◌, ◌≢◌, ◌<◌, ◌≤◌, ◌&&◌, ◌||◌, ◌∷◌, ◌∙◌}
use Rattle.lock_floor.proofs.MayWait as wait
use Rattle.lock_calls.proofs.Attempts.{wants_it}
use Rattle.lock_calls.proofs.Words.{word_seen, saw_others}
use Rattle.lock_calls.proofs.Looks.{look_once}
use Rattle.lock_calls.proofs.Sections.{HasItsObjects, chain_out, record_out, as_both, as_sleeper, from_both, from_sleeper, enters_turnstile, enters_asleep}

-- 1. The way there

-- the thread is so at each place of a take, whatever others did
pub seeking_still : (l : ℕ) (v w : Knowledge) → w ≡ seeing w.seen v → IsSeeking l v → IsSeeking l w
seeking_still l v w view m = subst (IsSeeking l) (sym view) (assumption m)

pub chain_still : (floor : Description) (l : ℕ) (v w : Knowledge) → w ≡ seeing w.seen v → HasChainOut floor l v
    → HasChainOut floor l w
chain_still floor l v w view m = subst (HasChainOut floor l) (sym view) record {
  unheld = m.unheld;
  few = m.few;
  wants = m.wants;
  takes = m.takes;
  round = m.round;
  no_walk = m.no_walk;
  runs = m.runs;
  chain = m.chain;
  of_lock = m.of_lock;
  out = m.out;
}

module _ (floor : Description) (l : ℕ) (v : Knowledge) (m : IsSeeking l v) where
  pub may_take_in_round : MayMake floor v (λ s. item_with s (its_chain floor (lock_queue l)) ≡ None)
      (TakesItem v.thread (its_chain floor (lock_queue l)) ∷ [])
  may_take_in_round =
      wait.may_take_chain floor v (lock_queue l) m.runs m.nothing_out m.going
      (subst (λ r. IsOfRound floor.chains (config_in floor) r (its_chain floor (lock_queue l))) (sym m.round)
      (λ e. refl)) (wants_it floor l v m)

  -- the chain was taken
  pub has_chain : (a : Knowledge)
      → Takes floor (its_chain floor (lock_queue l)) (chain_place floor (lock_queue l)) v a → HasChainOut floor l a
  has_chain a one =
      record {
        unheld = ap (λ (k : Knowledge). hold_in k.share.held l) one.view ∙ m.unheld;
        few = subst (λ hs. length hs < 8) (sym (ap (λ (k : Knowledge). k.share.held) one.view)) m.few;
        wants = ap (λ (k : Knowledge). k.share.doing.wanted) one.view ∙ m.wants;
        takes = ap (λ (k : Knowledge). k.share.doing.taking) one.view ∙ m.takes;
        round = ap (λ (k : Knowledge). k.share.doing.round) one.view
            ∙ ap (λ x. cond x (in_its_chain v.share.doing.round) v.share.doing.round)
            (is_a_chain floor (lock_queue l)) ∙ ap in_its_chain m.round;
        no_walk = ap (λ (k : Knowledge). k.share.doing.walk) one.view ∙ m.no_walk;
        runs = ap (λ (k : Knowledge). k.pose) one.view ∙ m.runs;
        chain = one.value;
        of_lock = one.kind;
        out = chain_out floor l v a one m.nothing_out;
      }

module _ (floor : Description) (l : ℕ) (a : Knowledge) (m : HasChainOut floor l a) (going : IsGoing a) (who : ℕ) where
  pub may_take_own_there : who < length floor.threads
      → MayMake floor a (λ s. s.record_with who ≡ None) (TakesItem a.thread (RecordOf who) ∷ [])
  may_take_own_there low =
      wait.may_take_record floor a (lock_queue l) m.chain m.out who low m.runs going

  module _ (is : who ≡ a.thread) (b : Knowledge) (two : Takes floor (RecordOf who) who a b) where
    own : Takes floor (RecordOf a.thread) a.thread a b
    own = subst (λ t. Takes floor (RecordOf t) t a b) is two

    its : b.thread ≡ a.thread
    its = ap (λ (k : Knowledge). k.thread) own.view

    -- the own record has its turnstile and its sleep queue
    out_now : (both : HasRecordAndChain floor l b) × HasItsObjects both.box
    out_now = record_out floor l a b m.chain m.of_lock own (ap is_off_queues m.runs) m.out

    pub may_ready_there : MayMake floor b (λ s. Unit {0}) (Readies b.thread (lock_queue l) ∷ [])
    may_ready_there =
        wait.may_ready floor b (lock_queue l) (Record out_now.0.box) out_now.0.chain out_now.0.out
        (ap (λ (k : Knowledge). k.pose) own.view ∙ m.runs)
        (rw own.view (assumption going))

    module _ (w : Knowledge) (view : w ≡ seeing w.seen (readied true b)) where
      ready_is : w ≡ seeing w.seen (readied true (took a (RecordOf a.thread) a.thread own.value))
      ready_is = view ∙ ap (λ (k : Knowledge). seeing w.seen (readied true k)) own.view

      pub come_kept : kept_of w ≡ kept_of a
      come_kept = ap kept_of ready_is

      pub come_there : who < length floor.threads → IsThere floor l w
      come_there low =
          let same : b.thread ≡ w.thread = sym (ap (λ (k : Knowledge). k.thread) view) in
          record {
            unheld = ap (λ (k : Knowledge). hold_in k.share.held l) ready_is ∙ m.unheld;
            few = subst (λ hs. length hs < 8) (sym (ap (λ (k : Knowledge). k.share.held) ready_is)) m.few;
            wants = ap (λ (k : Knowledge). k.share.doing.wanted) ready_is ∙ m.wants;
            takes = ap (λ (k : Knowledge). k.share.doing.taking) ready_is ∙ m.takes;
            round = ap (λ (k : Knowledge). k.share.doing.round) ready_is ∙ m.round;
            no_walk = ap (λ (k : Knowledge). k.share.doing.walk) ready_is ∙ m.no_walk;
            ready = ap (λ (k : Knowledge). k.pose) ready_is;
            of_floor = subst (λ t. t < length floor.threads)
                (is ∙ sym (ap (λ (k : Knowledge). k.thread) ready_is)) low;
            both = record {
              box = out_now.0.box;
              chain = out_now.0.chain;
              of_lock = out_now.0.of_lock;
              out = ap (λ (k : Knowledge). k.out) view ∙ out_now.0.out
                  ∙ ap (λ t. section_out floor t l out_now.0.box out_now.0.chain) same;
            };
            turnstile = out_now.1.turnstile;
            lent = out_now.1.lent;
            sleep_queue = out_now.1.sleep_queue;
            home = out_now.1.home;
          }

      -- a look there is the last of these steps
      pub come_steps : (z : Knowledge) → Makes floor (Readies b.thread (lock_queue l) ∷ []) b w
          → Makes floor (Looks w.thread l false ∷ []) w z
          → MakesEach floor ((TakesItem a.thread (RecordOf a.thread) ∷ []) ∷ (Readies a.thread (lock_queue l) ∷ [])
          ∷ (Looks a.thread l false ∷ []) ∷ []) a z
      come_steps z step look = (
        b,
        own.step,
        (
          w,
          subst (λ t. Makes floor (Readies t (lock_queue l) ∷ []) b w) its step,
          (
            z,
            subst (λ t. Makes floor (Looks t l false ∷ []) w z) (ap (λ (k : Knowledge). k.thread) view ∙ its) look,
            refl,
          ),
        ),
      )

-- 2. Looks there

module _ (floor : Description) (l : ℕ) (mode : Mode) (v : Knowledge) (covered : IsCovered floor l mode)
    (m : IsThere floor l v) where
  of_round : seeks l v.share.doing.round ≡ true
  of_round = ap (seeks l) m.round ∙ eq-eqb l l refl

  -- the chain is out, so they don't count
  module _ (mine : v.description ≡ floor) (some_chains : 1 ≤ floor.chains) where
    abbrev j : ℕ
    j = chain_place floor (lock_queue l)

    apart : v.thread ≢ j
    apart e =
        let same : RecordOf v.thread ≡ its_chain floor (lock_queue l) =
        one_place floor (RecordOf v.thread) (its_chain floor (lock_queue l)) j
        (record_at floor v.thread m.of_floor ∙ ap Some e) (chain_at floor some_chains (lock_queue l)) in
        let z : false ≡ true = ap is_chain same ∙ is_a_chain floor (lock_queue l) in
        cc

    chain_is_out : is_out v.out (slot_of floor (its_chain floor (lock_queue l))) ≡ true
    chain_is_out = ap (is_out v.out) (chain_at floor some_chains (lock_queue l))
        ∙ ap (λ out. is_there (found j out)) m.both.out
        ∙ ap is_there
        (found_later v.thread j (Record m.both.box) ((j, m.both.chain) ∷ []) apart
        ∙ found_first j m.both.chain [])

    pub quiet_there : counts v l ≡ false
    quiet_there =
        (λ i. asks && not (is_out v.out (slot_of (mine i) (its_chain (mine i) (lock_queue l)))))
        ∙ ap (λ b. asks && not b) chain_is_out ∙ never asks
      where
        asks : Bool
        asks = seeks l v.share.doing.round || is_first v.share.doing.round (hold_in v.share.held l)

        never : (b : Bool) → (b && false) ≡ false
        never true = refl
        never false = refl

  module _ (k : CanAcquire floor (kept_of v)) where
    no_sleeper : IsNoSleeper v
    no_sleeper = λ back e f g. let z : None ≡ Some l = sym e ∙ m.wants in cc

    going : IsGoing v
    going = k.going

    pub may_look_in_section : MayMake floor v (λ s. Unit {0}) (Looks v.thread l (counts v l) ∷ [])
    may_look_in_section =
        wait.may_look_there floor v l (Record m.both.box) m.both.chain m.both.out covered.lock going
        no_sleeper
        k.description of_round

    -- 3. The gain

    -- what was seen last there is the word
    last_seen : (in_mode : Mode) (word : Word) → Saw l word v
        → admits ((config_in floor).kind l) word in_mode ≡ true → (w : Word)
        → v.share.doing.seen_in_section ≡ Some (record { lock = l; word = w })
        → admits ((config_in floor).kind l) w in_mode ≡ true
    last_seen in_mode word saw admitted w e =
        ap (λ (x : Word). admits ((config_in floor).kind l) x in_mode) (word_seen l word w (sym saw.there ∙ e))
        ∙ admitted

    pub may_gain_in_section : (word : Word) → Saw l word v → admits ((config_in floor).kind l) word mode ≡ true
        → is_plain ((config_in floor).kind l) word mode ≡ true
        → MayMake floor v (λ s. s.word l ≡ word) (Gains v.thread l mode false ∷ [])
    may_gain_in_section word saw admitted plain =
        wait.may_gain_there floor v l (Record m.both.box) m.both.chain m.both.out covered.lock going
        no_sleeper
        mode false word admitted plain m.unheld (inl m.wants) of_round
        (subst (λ r. FitsRound r l false) (sym m.round) (refl, refl))
        (last_seen mode word saw admitted) (λ j e. same_Some j l (sym e ∙ m.takes)) (λ e. m.takes) (λ e. inl m.wants)
        k.unhalted (ap is_off_queues m.ready)

    -- it gains the lock by a claim, where the free word shows waiters
    pub may_claim_in_section : (word : Word) → Saw l word v → IsClaim ((config_in floor).kind l) word mode
        → MayClaimIt floor l false word v
    may_claim_in_section word saw claim = record {
      both = as_both floor l (ap is_turnstile claim.is_rw) v m.both;
      may = wait.may_claim_there floor v l (Record m.both.box) m.both.chain m.both.out covered.lock going
          no_sleeper false word claim.is_rw claim.free claim.shown m.unheld (inl m.wants) of_round
          (subst (λ r. FitsRound r l false) (sym m.round) (refl, refl))
          (last_seen Excl word saw claim.free) (λ j e. same_Some j l (sym e ∙ m.takes)) (λ e. m.takes)
          (λ e. inl m.wants)
          k.unhalted (ap is_off_queues m.ready);
    }

    -- 4. The enter

    pub may_enter_in_section : is_turnstile ((config_in floor).kind l) ≡ true → (seen : ℕ) → Saw l (word_of seen) v
        → is_free (word_of seen).holder ≡ false
        → admits ((config_in floor).kind l) (word_of seen) mode ≡ false
        → MayMake floor v (λ s. s.word l ≡ word_of seen) (Enters v.thread l mode m.turnstile ∷ [])
    may_enter_in_section turnstile seen saw held refused =
        wait.may_enter_there floor v l m.both.box m.both.chain m.both.out covered.lock going no_sleeper
        mode
        m.turnstile (word_of seen) held refused turnstile covered.mutex m.lent m.ready m.wants m.no_walk
        k.sections saw.last m.round

    -- on a sleep queue
    pub may_lie_in_section : is_turnstile ((config_in floor).kind l) ≡ false → (seen : ℕ) → Saw l (word_of seen) v
        → is_free (word_of seen).holder ≡ false → admits ((config_in floor).kind l) (word_of seen) mode ≡ false
        → MayEnterAsleep floor l mode (word_of seen) v
    may_lie_in_section sleeps seen saw held refused =
        may_enter_asleep floor v l m.sleep_queue mode (word_of seen) covered.lock (as_sleeper floor l sleeps v m.both)
        m.home going no_sleeper held refused sleeps m.ready m.wants m.no_walk k.sections saw.last m.round

  pub missed_there : (seen found : ℕ) (w : Knowledge) → found ≢ seen
      → w ≡ seeing w.seen (looked v l (word_of found)) → Makes floor (Looks v.thread l (counts v l) ∷ []) v w
      → MissesThere floor l seen found v w
  missed_there seen found w other view step = record {
    other = other;
    seen_so = saw_others floor l found v w m.unheld view step;
    view = view;
    step = step;
  }

-- it gained the lock plainly,
pub gained_plainly : (floor : Description) (l : LockNo) (mode : Mode) (v : Knowledge) → IsThere floor l.0 v
    → (w : Knowledge) → w ≡ seeing w.seen (gained v (as_taken l mode))
    → Makes floor (Gains v.thread l.0 mode false ∷ []) v w → GainsStep floor l mode v w
gained_plainly floor l mode v m w view step = record {
  gain = Gains v.thread l.0 mode false;
  is_gain = inl refl;
  out = v.out;
  view = view;
  both = subst (HasRecordAndChain floor l.0) (sym view)
      (record { box = m.both.box; chain = m.both.chain; of_lock = m.both.of_lock; out = m.both.out });
  step = step;
}

-- or by a claim
pub gained_by_claim : (floor : Description) (l : LockNo) (mode : Mode) (v w : Knowledge) → mode ≡ Excl
    → ClaimsIt floor l false v w → GainsStep floor l mode v w
gained_by_claim floor l mode v w exclusive x =
    let h = x.turnstile in
    let claim : Step = Claims v.thread l.0 h.contents.number false in
    subst (λ m. GainsStep floor l m v w) (sym exclusive) record {
      gain = claim;
      is_gain = inr (refl, h.contents.number, refl);
      out = out_claimed floor v.thread l.0 x.both.box x.both.chain h;
      view = x.view;
      both = from_both floor l.0 (ap is_turnstile x.step.may.0.fits.may.kind) w
          (subst (HasBothOut floor l.0) (sym x.view) record {
            box = with_value x.both.box (record_claimed l.0 h x.both.box.value);
            chain = chain_claimed l.0 x.both.box.value.thread h x.both.chain;
            out = refl;
          });
      step = x.step;
    }

-- it came to stand on the lock's turnstile,
pub stood_there : (floor : Description) (l : ℕ) (mode : Mode) (at : Walk) (v w : Knowledge)
    → is_turnstile ((config_in floor).kind l) ≡ true → (x : ℕ) (b : Box ThreadRec Global)
    → (chain : List (QueueName × Turnstile)) (owner : Option ℕ) → at ≡ walk_up l owner
    → w ≡ seeing w.seen (entered v l owner (out_entered floor v.thread l mode x owner b chain))
    → Makes floor (Enters v.thread l mode x ∷ []) v w → EntersStep floor l mode at v w
stood_there floor l mode at v w turnstile x b chain owner walk_is view step = record {
  object = x;
  owner = owner;
  walk_is = walk_is;
  ownerless = λ sleeps. absurd (let z : true ≡ false = sym turnstile ∙ sleeps in cc);
  out = out_entered floor v.thread l mode x owner b chain;
  view = view;
  both = from_both floor l turnstile w
      (subst (HasBothOut floor l) (sym view) record {
        box = with_value b (record_entered l b.value);
        chain = chain_entered l (side_of mode) x owner (waiter_of b.value) chain;
        out = refl;
      });
  step = subst (λ s. Makes floor (s ∷ []) v w)
      (enters_turnstile ((config_in floor).kind l) v.thread l mode x turnstile) step;
}

-- or on its sleep queue, where no walk begins
pub lay_there : (floor : Description) (l : ℕ) (mode : Mode) (v w : Knowledge)
    → is_turnstile ((config_in floor).kind l) ≡ false → v.share.doing.walk ≡ NoWalk → EntersAsleep floor l mode v w
    → EntersStep floor l mode NoWalk v w
lay_there floor l mode v w sleeps no_walk x =
    let out = out_asleep floor v.thread (lock_queue l) (side_of mode) x.own x.sleeper.box x.sleeper.chain in
    let view : w ≡ seeing w.seen (entered v l None out) =
    x.view ∙ (λ i. seeing w.seen (record (entered v l None out) {
      share = record (entered v l None out).share {
        doing = record (entered v l None out).share.doing { walk = no_walk i };
      };
    })) in
    record {
      object = x.own;
      owner = None;
      walk_is = refl;
      ownerless = λ e. refl;
      out = out;
      view = view;
      both = from_sleeper floor l sleeps w
          (subst (HasSleeperOut floor (lock_queue l)) (sym x.view) record {
            box = with_value x.sleeper.box (record_asleep (lock_queue l) x.sleeper.box.value);
            chain = chain_asleep (lock_queue l) (side_of mode) x.own (sleeper_of x.sleeper.box.value) x.sleeper.chain;
            out = refl;
          });
      step = subst (λ s. Makes floor (s ∷ []) v w)
          (enters_asleep ((config_in floor).kind l) v.thread l mode x.own sleeps) x.step;
    }

-- looks stay there
pub there_on : (floor : Description) (l n : ℕ) (u v : Knowledge) → IsThere floor l u → HasLooked floor l n u v
    → IsThere floor l v
there_on floor l n u v m x = subst (IsThere floor l) (sym x.knows) record {
  unheld = m.unheld;
  few = m.few;
  wants = m.wants;
  takes = m.takes;
  round = m.round;
  no_walk = m.no_walk;
  ready = m.ready;
  of_floor = m.of_floor;
  both = record { box = m.both.box; chain = m.both.chain; of_lock = m.both.of_lock; out = m.both.out };
  turnstile = m.turnstile;
  lent = m.lent;
  sleep_queue = m.sleep_queue;
  home = m.home;
}

pub saw_word : (floor : Description) (l : ℕ) (v w : Knowledge) (word : Word) → w ≡ seeing w.seen (looked v l word)
    → Saw l word w
saw_word floor l v w word view = record {
  last = ap (λ (k : Knowledge). k.share.doing.last_look) view;
  there = ap (λ (k : Knowledge). k.share.doing.seen_in_section) view;
}

-- behind a look it contends there
pub contends : (floor : Description) (l : ℕ) (mode : Mode) (found : ℕ) (v w : Knowledge) → IsCovered floor l mode
    → v.description ≡ floor → 1 ≤ floor.chains → IsThere floor l v → w ≡ seeing w.seen (looked v l (word_of found))
    → Makes floor (Looks v.thread l (counts v l) ∷ []) v w → IsContending floor l found w
contends floor l mode found v w covered mine some_chains m view step = record {
  there = there_on floor l 1 v w m
      (look_once floor v l (quiet_there floor l mode v covered m mine some_chains) (word_of found) w view step);
  saw = saw_word floor l v w (word_of found) view;
  seen_so = saw_others floor l found v w m.unheld view step;
}

-- where a walk goes that begins at a lock with this owner
pub owned_walk : (l t : ℕ) (o : Option ℕ) → o ≡ Some t → AtLock l ≡ walk_up l o
owned_walk l t o e = sym (ap (walk_up l) e)

pub ownerless_walk : (l : ℕ) (o : Option ℕ) → o ≡ None → NoWalk ≡ walk_up l o
ownerless_walk l o e = sym (ap (walk_up l) e)

-- A step that works behind itself: the thread has its record and the chain of a queue out, and with the step they are
-- what the work on them, which comes then, will make of them. So it is in an enter, an open and a claim of a lock, of
-- whatever kind it is, and where a thread goes to sleep on a channel.
use Rattle.lock_floor.proofs.Names
use Names.{ℕ, suc, Some, List, [], length, sym, ap, subst, Global, Box, Me, keeps, stepped, Word, word_of, QueueName}
use Names.{RepresentsRecord, record_in, State, put, Step, after_all, Item, RecordOf, item_with, ThreadRec, config_in}
use Names.{Description, Slot, Record, spot, lock_line, latch_line, latch_word, slots_for, slot_of, home_at, Board, IsOf}
use Names.{RepresentsObjects, words_in, objects_in, thread_in, FloorHolds, Shelves, FitAll, Makes, Knowledge, OfThread}
use Names.{seeing, place_low, Finds, OwnSteps, lock_made_with, latch_seen_with, own_out, SaySame, still_of, its_chain}
use Names.{chain_place}
use Rattle.std.proofs.Common.{◌≡◌, ◌≢◌, ◌<◌, ◌∷◌, ◌∙◌}
use Rattle.lock_floor.proofs.BothOut.{own_there, chain_there, apart}
use Rattle.lock_floor.proofs.ChainPlaces.{chain_at}
use Rattle.lock_floor.proofs.Taking.{record_at}
use Rattle.lock_floor.proofs.TwoChanged.{shelf_both, two_changed}

-- 1. The step, on a table that it may find

module _ (floor : Description) (b : Board) (v : Knowledge) (f : Finds floor v b) (q : QueueName) (item : Item)
    (its : its_chain floor q ≡ item) (box : Box ThreadRec Global) (x : Slot)
    (out : v.out ≡ (v.thread, Record box) ∷ (chain_place floor q, x) ∷ []) where
  abbrev s : State
  s = f.state

  abbrev t : ℕ
  t = v.thread

  abbrev j : ℕ
  j = chain_place floor q

  place : slot_of floor (RecordOf t) ≡ Some t
  place = record_at floor t f.fits.thread

  at_chain : slot_of floor item ≡ Some j
  at_chain = ap (slot_of floor) (sym its) ∙ chain_at floor f.represents.sizes.sized.some_chains q

  -- what is out says what the columns say,
  pub record_says : RepresentsRecord box.value (record_in s t)
  record_says = (own_there floor v q (Record box) x out s f.fits).1

  pub chain_says : IsOf floor (objects_in s) item x
  chain_says = subst (λ i. IsOf floor (objects_in s) i x) its (chain_there floor v q (Record box) x out s f.fits).1

  module _ (step : Step) (w : Knowledge) (was : v.role ≡ OfThread) (may : FitAll floor s (step ∷ []))
      (own : OwnSteps v w f.past (step ∷ []) s (after_all (config_in floor) s (step ∷ []))) (cs : List (ℕ × Slot))
      (rec : Box ThreadRec Global) (after : Slot) (left : w.out ≡ (t, Record rec) ∷ (j, after) ∷ []) where
    abbrev n : State
    n = after_all (config_in floor) s (step ∷ [])

    abbrev both_content : ℕ → Slot
    both_content = put (put f.represents.content t (Record rec)) j after

    abbrev outs : ℕ → List (ℕ × Slot)
    outs u = (thread_in b.views u).out

    -- and behind the step what the work will leave is out,
    both_out_then : Shelves (slots_for floor) (latch_word b.words) (home_at b.homes) (put outs t w.out) both_content
    both_out_then =
        let r = f.represents in
        subst (λ o. Shelves (slots_for floor) (latch_word b.words) (home_at b.homes) (put outs t o) both_content)
        (sym left)
        (shelf_both (slots_for floor) (latch_word b.words) (home_at b.homes) outs r.content r.shelves t j t (Record box)
        (Record rec) x after (apart floor v q (Record box) x out s f.fits)
        (own_out floor (step ∷ []) b v w f was may own cs ∙ out))

    -- which says what they say then
    both_say : ((k : Item) → k ≢ RecordOf t → k ≢ item → SaySame floor (objects_in s) (objects_in n) k)
        → (objects_in n).table ≡ (objects_in s).table → RepresentsRecord rec.value (record_in n t)
        → IsOf floor (objects_in n) item after → RepresentsObjects floor both_content (objects_in n)
    both_say others tables its_record its_chain =
        let r = f.represents in
        two_changed floor r.content (objects_in s) (objects_in n) (RecordOf t) item t j (Record rec) after place
        at_chain
        (λ k z no_record no_chain. still_of floor (objects_in s) (objects_in n) k z (others k no_record no_chain))
        tables its_record its_chain r.objects

    -- so it is with an exchange of a lock's word
    pub both_made : (l y : ℕ) (z : Word) → l < length floor.locks → word_of y ≡ z
        → words_in n ≡ record (words_in s) { word = put s.word l z } → item_with n ≡ item_with s → w.spare ≡ v.spare
        → ((k : Item) → k ≢ RecordOf t → k ≢ item → SaySame floor (objects_in s) (objects_in n) k)
        → (objects_in n).table ≡ (objects_in s).table → RepresentsRecord rec.value (record_in n t)
        → IsOf floor (objects_in n) item after
        → FloorHolds floor (stepped b (spot (lock_line l)) y (suc t) cs w keeps) × Makes floor (step ∷ []) v w
    both_made l y z low says columns items spares others tables its_record its_chain =
        lock_made_with floor (step ∷ []) b v w f was may own cs l y z both_content low says columns items spares
        both_out_then (both_say others tables its_record its_chain)

    -- and with a load of the latch of the chain
    pub both_seen : words_in n ≡ words_in s → item_with n ≡ item_with s → w.spare ≡ v.spare
        → ((k : Item) → k ≢ RecordOf t → k ≢ item → SaySame floor (objects_in s) (objects_in n) k)
        → (objects_in n).table ≡ (objects_in s).table → RepresentsRecord rec.value (record_in n t)
        → IsOf floor (objects_in n) item after
        → FloorHolds floor (stepped b (spot (latch_line j)) (latch_word b.words j) (suc t) cs w keeps)
        × Makes floor (step ∷ []) v w
    both_seen columns items spares others tables its_record its_chain =
        latch_seen_with floor (step ∷ []) b v w f was may own cs j both_content (place_low floor item j at_chain)
        columns items spares both_out_then (both_say others tables its_record its_chain)

-- 2. The work behind it

-- what the seat knows and has out then, behind these steps
pub record Worked (floor : Description) (steps : List Step) (me new : Me Slot Knowledge) (then : Knowledge) : Type 0
  where
    pub view : new.0 ≡ seeing new.0.seen then
    pub out : new.1 ≡ new.0.out
    pub step : Makes floor steps me.0 new.0

module _ (floor : Description) (q : QueueName) (me behind : Me Slot Knowledge) (then : Knowledge)
    (is : behind ≡ (seeing behind.0.seen then, me.1)) (out : me.1 ≡ me.0.out) (box : Box ThreadRec Global) (x : Slot)
    (both : me.0.out ≡ (me.0.thread, Record box) ∷ (chain_place floor q, x) ∷ []) (own at : ℕ)
    (own_is : own ≡ me.0.thread) (at_is : at ≡ chain_place floor q) where
  -- it begins with what was out before the step
  pub out_before : behind.1 ≡ (own, Record box) ∷ (at, x) ∷ []
  out_before = ap (λ (m : Me Slot Knowledge). m.1) is ∙ out ∙ both
      ∙ (λ i. (sym own_is i, Record box) ∷ (sym at_is i, x) ∷ [])

  -- and changes nothing else
  pub worked : (steps : List Step) (new : Me Slot Knowledge) (rec : Box ThreadRec Global) (after : Slot)
      → Makes floor steps me.0 behind.0 → new.0 ≡ behind.0 → new.1 ≡ (own, Record rec) ∷ (at, after) ∷ []
      → then.out ≡ (me.0.thread, Record rec) ∷ (chain_place floor q, after) ∷ [] → Worked floor steps me new then
  worked steps new rec after makes view outs left =
      let v : new.0 ≡ seeing new.0.seen then = view ∙ ap (λ (m : Me Slot Knowledge). m.0) is
      ∙ ap (λ xs. seeing xs then) (ap (λ (k : Knowledge). k.seen) (sym view)) in
      record {
        view = v;
        out = outs ∙ (λ i. (own_is i, Record rec) ∷ (at_is i, after) ∷ []) ∙ sym left
            ∙ sym (ap (λ (k : Knowledge). k.out) v);
        step = subst (λ (k : Knowledge). Makes floor steps me.0 k) (sym view) makes;
      }

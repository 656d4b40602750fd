-- A lend: a look at the latch of the chain of turnstiles, by which the work that was done on the owner's record and on
-- the chain becomes the state's.
use Rattle.lock_floor.proofs.Names
use Names.{ℕ, false, Some, List, [], refl, sym, ap, subst, with_value, Global, Box, Me, keeps, Allows, Config}
use Names.{QueueName, RepresentsQueues, RepresentsRecord, record_in, queue_in, walk_of, Lawful, State, put, Step, Lends}
use Names.{RecordOf, MayLend, after_lend, with_contents, RecordSeen, ThreadRec, with_loan_home, Turnstile, config_in}
use Names.{Description, Slot, Record, Turnstiles, spot, latch_line, latch_word, slots_for, slot_of, home_at, Board}
use Names.{HasNames, RepresentsTurnstiles, RepresentsObjects, objects_in, thread_in, FloorHolds, Shelves, found, FitAll}
use Names.{Knowledge, OfThread, seeing, place_low, Finds, Steps, allows, latch_seen_with, own_out, OwnSteps, still_of}
use Names.{one_own, found_first, found_later, IsOnFloor, MayLendTo, IsLentTo, hopped, record_and_chain, turnstiles}
use Names.{turnstiles_place}
use Rattle.std.proofs.Common.{◌≡◌, ◌≢◌, ◌∷◌, ◌∙◌}
use Rattle.prio_lending.specs.declared.walk.Walk as run_time
use Rattle.lock_floor.proofs.Taking.{record_at}
use Rattle.lock_floor.proofs.TwoChanged.{shelf_both, two_changed}
use Rattle.lock_floor.proofs.WalkChains.{turnstiles_at, apart_from, all_queues, of_queues}
use Rattle.lock_floor.proofs.WalkMay.{may_lend}
use Rattle.lock_floor.proofs.WalkShares.{lend_own, lend_others}
use Rattle.lock_floor.proofs.WalkStep.{Hopped, lend_on_floor, lend_says, names_stay}

abbrev pub Lent : Description → ℕ → ℕ → run_time.Walk → Me Slot Knowledge → ℕ → Me Slot Knowledge → Type 0
Lent floor l o walk me found behind = (h : ℕ) × Hopped floor (Lends me.0.thread l o h) (walk_of walk) me behind

-- the record and the chain are what the work on them made of those that were taken
module _ (floor : Description) (me : Me Slot Knowledge) (was : me.0.role ≡ OfThread) (l o : ℕ) (walk : run_time.Walk)
    (may : MayLendTo floor l o me.0) (m : RecordSeen) (new : List (QueueName × Turnstile))
    (worked : me.1 ≡ record_and_chain floor o (with_value may.hop.box m) new)
    (work : IsLentTo floor l walk may.hop.box.value m may.hop.chain new) where
  abbrev v : Knowledge
  v = me.0

  abbrev j : ℕ
  j = turnstiles_place floor

  abbrev h : ℕ
  h = may.turnstile.contents.number

  lends : (b : Board) (f : Finds floor v b) → FitAll floor f.state (Lends v.thread l o h ∷ [])
      → Steps floor me (spot (latch_line j)) (latch_word b.words j) (latch_word b.words j) (Lent floor l o walk me) b
  unfolding after_lend
  lends b f allowed =
      let c : Config = config_in floor in
      let s : State = f.state in
      let t : ℕ = v.thread in
      let n : State = after_lend c s t l o h in
      let one = may.hop.one_chain in
      let lawful : Lawful c s = f.sound.facts.lawful in
      let g : MayLend c s t l o h = allowed.0.fits.may in
      let step : Step = Lends t l o h in
      let w : Knowledge = seeing (step ∷ f.past) (hopped v (walk_of walk) me.1) in
      let box : Box ThreadRec Global = may.hop.box in
      let chain : List (QueueName × Turnstile) = may.hop.chain in
      let place : slot_of floor (RecordOf o) ≡ Some o = record_at floor o may.of_floor in
      let at : slot_of floor turnstiles ≡ Some j = turnstiles_at floor one in
      let apart : o ≢ j = apart_from floor one o may.of_floor in
      let rec : RepresentsRecord box.value (record_in s o) =
      (f.fits.out.each (RecordOf o) o (Record box) place
      (ap (found o) may.hop.out ∙ found_first o (Record box) ((j, Turnstiles chain) ∷ []))).1 in
      let shows : RepresentsTurnstiles floor 0 chain (objects_in s) =
      (f.fits.out.each turnstiles j (Turnstiles chain) at
      (ap (found j) may.hop.out ∙ found_later o j (Record box) ((j, Turnstiles chain) ∷ []) apart
      ∙ found_first j (Turnstiles chain) [])).1 in
      let queues : RepresentsQueues c chain (queue_in s) s.loan_home = all_queues floor one s chain shows in
      let goes : walk_of walk ≡ n.walk t = work.walk s t o h lawful g queues rec in
      let own : OwnSteps v w f.past (step ∷ []) s n = record {
        role = was;
        seen = refl;
        makers = one_own t step refl;
        seat = record { thread = refl; share = lend_own s v f.fits.share c l o h (walk_of walk) me.1 goes };
        others = λ u ne. lend_others s t u ne c l o h;
        pose = f.fits.pose;
        other_poses = λ u ne p z. z;
      } in
      let r = f.represents in
      let outs : ℕ → List (ℕ × Slot) = λ u. (thread_in b.views u).out in
      let first : Slot = Record (with_value box m) in
      let second : Slot = Turnstiles new in
      let names : HasNames floor turnstiles new =
      names_stay floor one l may.on_floor.1 chain new may.turnstile
      (λ h. with_contents (with_loan_home false h.contents) h) may.head shows.names work.placed in
      let shelves : Shelves (slots_for floor) (latch_word b.words) (home_at b.homes) (put outs t me.1)
      (put (put r.content o first) j second) =
      subst (λ z. Shelves (slots_for floor) (latch_word b.words) (home_at b.homes) (put outs t z)
      (put (put r.content o first) j second)) (sym worked)
      (shelf_both (slots_for floor) (latch_word b.words) (home_at b.homes) outs r.content r.shelves o j t (Record box)
      first
      (Turnstiles chain) second apart (own_out floor (step ∷ []) b v w f was allowed own me.1 ∙ may.hop.out)) in
      let objects : RepresentsObjects floor (put (put r.content o first) j second) (objects_in n) =
      two_changed floor r.content (objects_in s) (objects_in n) (RecordOf o) turnstiles o j first second place at
      (λ k z no_record no_chain. still_of floor (objects_in s) (objects_in n) k z
      (lend_says floor one s t l o h k no_record no_chain)) refl
      (work.its_record s t o h lawful g queues rec)
      (of_queues floor one n new names (work.queues s t o h lawful g queues)) r.objects in
      let made = latch_seen_with floor (step ∷ []) b v w f was allowed own me.1 j
      (put (put r.content o first) j second) (place_low floor turnstiles j at) refl refl refl shelves objects in (
        w,
        keeps,
        tt,
        made.0,
        (
          h,
          record {
            is = refl {a = (w, me.1)};
            made = made.1;
            on_floor = subst (IsOnFloor floor) (sym goes) (lend_on_floor floor s t l o h may.of_floor);
          },
        ),
      )

  pub lend_allowed : (slots id : ℕ)
      → Allows (FloorHolds floor) slots id me (spot (latch_line j)) (λ n. n) (Lent floor l o walk me)
  lend_allowed slots id =
      allows floor slots id me (spot (latch_line j)) (λ n. n) (Lent floor l o walk me) was
      (λ b f small. lends b f (may_lend floor v l o may f.state f.fits tt))

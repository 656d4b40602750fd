-- A sorting anew: a look at the latch of the chain of turnstiles, by which the work that was done on the chain becomes
-- the state's.
use Rattle.lock_floor.proofs.Names
use Names.{ℕ, Option, Some, None, List, [], refl, sym, ap, subst, IsSomeAnd, Global, Box, Me, keeps, Allows, head_of}
use Names.{Config, lock_queue, QueueName, RepresentsQueues, RepresentsRecord, record_in, queue_in, walk_of, Lawful}
use Names.{State, put, Step, Shifts, RecordOf, MayShift, after_shift, with_contents, ThreadRec, moved, Turnstile}
use Names.{config_in, Description, Slot, Record, Turnstiles, spot, latch_line, latch_word, slots_for, slot_of, home_at}
use Names.{Board, HasNames, RepresentsTurnstiles, RepresentsObjects, objects_in, thread_in, FloorHolds, Shelves, found}
use Names.{FitAll, Knowledge, OfThread, seeing, place_low, Finds, Steps, allows, latch_seen_with, own_out, OwnSteps}
use Names.{still_of, one_own, found_first, found_later, IsOnFloor, MaySort, IsSorted, hopped, record_and_chain}
use Names.{turnstiles, turnstiles_place}
use Rattle.std.proofs.Common.{◌≡◌, ◌≢◌, ◌∷◌, ◌∙◌}
use Rattle.prio_lending.specs.declared.walk.Walk as run_time
use Rattle.lock_floor.proofs.Taking.{record_at}
use Rattle.lock_floor.proofs.TwoChanged.{shelf_both, two_changed}
use Rattle.lock_floor.proofs.WalkChains.{turnstiles_at, apart_from, all_queues, of_queues}
use Rattle.lock_floor.proofs.WalkMay.{may_shift}
use Rattle.lock_floor.proofs.WalkShares.{shift_own, shift_others}
use Rattle.lock_floor.proofs.WalkStep.{Hopped, shift_on_floor, shift_says, names_stay}

abbrev pub Shifted : Description → ℕ → ℕ → run_time.Walk → Me Slot Knowledge → ℕ → Me Slot Knowledge → Type 0
Shifted floor l o walk me found behind = Hopped floor (Shifts me.0.thread o l) (walk_of walk) me behind

module _ (floor : Description) (me : Me Slot Knowledge) (was : me.0.role ≡ OfThread) (l o : ℕ) (walk : run_time.Walk)
    (may : MaySort floor o me.0) (new : List (QueueName × Turnstile))
    (worked : me.1 ≡ record_and_chain floor o may.hop.box new)
    (work : IsSorted floor l walk may.hop.box.value may.hop.chain new) where
  abbrev v : Knowledge
  v = me.0

  abbrev j : ℕ
  j = turnstiles_place floor

  shifts : (b : Board) (f : Finds floor v b) → FitAll floor f.state (Shifts v.thread o l ∷ [])
      → Steps floor me (spot (latch_line j)) (latch_word b.words j) (latch_word b.words j) (Shifted floor l o walk me) b
  unfolding after_shift
  shifts b f allowed =
      let c : Config = config_in floor in
      let s : State = f.state in
      let t : ℕ = v.thread in
      let n : State = after_shift s t o l in
      let one = may.hop.one_chain in
      let lawful : Lawful c s = f.sound.facts.lawful in
      let g : MayShift c s t o l = allowed.0.fits.may in
      let step : Step = Shifts t o l in
      let w : Knowledge = seeing (step ∷ f.past) (hopped v (walk_of walk) me.1) in
      let box : Box ThreadRec Global = may.hop.box in
      let chain : List (QueueName × Turnstile) = may.hop.chain in
      let place : slot_of floor (RecordOf o) ≡ Some o = record_at floor o may.of_floor in
      let at : slot_of floor turnstiles ≡ Some j = turnstiles_at floor one in
      let apart : o ≢ j = apart_from floor one o may.of_floor in
      let rec : RepresentsRecord box.value (record_in s o) =
      (f.fits.out.each (RecordOf o) o (Record box) place
      (ap (found o) may.hop.out ∙ found_first o (Record box) ((j, Turnstiles chain) ∷ []))).1 in
      let shows : RepresentsTurnstiles floor 0 chain (objects_in s) =
      (f.fits.out.each turnstiles j (Turnstiles chain) at
      (ap (found j) may.hop.out ∙ found_later o j (Record box) ((j, Turnstiles chain) ∷ []) apart
      ∙ found_first j (Turnstiles chain) [])).1 in
      let queues : RepresentsQueues c chain (queue_in s) s.loan_home = all_queues floor one s chain shows in
      let goes : walk_of walk ≡ n.walk t = work.walk s t o lawful g queues in
      let own : OwnSteps v w f.past (step ∷ []) s n = record {
        role = was;
        seen = refl;
        makers = one_own t step refl;
        seat = record { thread = refl; share = shift_own s v f.fits.share l o (walk_of walk) me.1 goes };
        others = λ u ne. shift_others s t u ne o l;
        pose = f.fits.pose;
        other_poses = λ u ne p z. z;
      } in
      let r = f.represents in
      let outs : ℕ → List (ℕ × Slot) = λ u. (thread_in b.views u).out in
      let first : Slot = Record box in
      let second : Slot = Turnstiles new in
      let head = there_in (head_of (lock_queue l) chain) _ work.stands.waits in
      let names : HasNames floor turnstiles new =
      names_stay floor one l g.turnstile chain new head.0
      (λ h. with_contents (moved box.value.thread box.value.effective h.contents) h) head.1 shows.names work.placed in
      let shelves : Shelves (slots_for floor) (latch_word b.words) (home_at b.homes) (put outs t me.1)
      (put (put r.content o first) j second) =
      subst (λ z. Shelves (slots_for floor) (latch_word b.words) (home_at b.homes) (put outs t z)
      (put (put r.content o first) j second)) (sym worked)
      (shelf_both (slots_for floor) (latch_word b.words) (home_at b.homes) outs r.content r.shelves o j t (Record box)
      first
      (Turnstiles chain) second apart (own_out floor (step ∷ []) b v w f was allowed own me.1 ∙ may.hop.out)) in
      let objects : RepresentsObjects floor (put (put r.content o first) j second) (objects_in n) =
      two_changed floor r.content (objects_in s) (objects_in n) (RecordOf o) turnstiles o j first second place at
      (λ k z no_record no_chain. still_of floor (objects_in s) (objects_in n) k z
      (shift_says floor one s t l o g.turnstile k no_chain)) refl rec
      (of_queues floor one n new names (work.queues s t o lawful g queues rec)) r.objects in
      let made = latch_seen_with floor (step ∷ []) b v w f was allowed own me.1 j
      (put (put r.content o first) j second) (place_low floor turnstiles j at) refl refl refl shelves objects in (
        w,
        keeps,
        tt,
        made.0,
        record {
          is = refl {a = (w, me.1)};
          made = made.1;
          on_floor = subst (IsOnFloor floor) (sym goes) (shift_on_floor floor s t o l lawful g);
        },
      )
    where
      there_in : (x : Option Turnstile) (P : Turnstile → Type 0) → IsSomeAnd x P → (d : Turnstile) × (x ≡ Some d)
      there_in None P h = absurd h
      there_in (Some d) P h = (d, refl)

  pub shift_allowed : (slots id : ℕ)
      → Allows (FloorHolds floor) slots id me (spot (latch_line j)) (λ n. n) (Shifted floor l o walk me)
  shift_allowed slots id =
      allows floor slots id me (spot (latch_line j)) (λ n. n) (Shifted floor l o walk me) was
      (λ b f small. shifts b f (may_shift floor v o may l work.stands f.state f.fits tt))

-- The end of a walk: a look at the latch of the chain of turnstiles.
use Rattle.lock_floor.proofs.Names
use Names.{ℕ, [], refl, subst, Me, keeps, Allows, State, NoWalk, Step, EndsWalk, after_end_walk, Description, Slot}
use Names.{spot, latch_line, latch_word, slots_for, home_at, Board, FloorHolds, Shelves, found, FitAll, MayMake}
use Names.{Knowledge, OfThread, seeing, place_low, Finds, Steps, allows, latch_seen_with, outs_stay, OwnSteps, one_own}
use Names.{hopped, turnstiles, turnstiles_place}
use Rattle.std.proofs.Common.{◌≡◌, ◌∷◌}
use Rattle.lock_floor.proofs.WalkChains.{turnstiles_at}
use Rattle.lock_floor.proofs.WalkShares.{end_own, end_others}
use Rattle.lock_floor.proofs.WalkStep.{Hopped}

abbrev pub Ended : Description → Me Slot Knowledge → ℕ → Me Slot Knowledge → Type 0
Ended floor me found behind = Hopped floor (EndsWalk me.0.thread) NoWalk me behind

module _ (floor : Description) (me : Me Slot Knowledge) (was : me.0.role ≡ OfThread) (one : floor.chains ≡ 1)
    (out : me.1 ≡ me.0.out) where
  abbrev v : Knowledge
  v = me.0

  abbrev j : ℕ
  j = turnstiles_place floor

  ends : (b : Board) (f : Finds floor v b) → FitAll floor f.state (EndsWalk v.thread ∷ [])
      → Steps floor me (spot (latch_line j)) (latch_word b.words j) (latch_word b.words j) (Ended floor me) b
  unfolding after_end_walk
  ends b f allowed =
      let s : State = f.state in
      let t : ℕ = v.thread in
      let n : State = after_end_walk s t in
      let step : Step = EndsWalk t in
      let w : Knowledge = seeing (step ∷ f.past) (hopped v NoWalk me.1) in
      let own : OwnSteps v w f.past (step ∷ []) s n = record {
        role = was;
        seen = refl;
        makers = one_own t step refl;
        seat = record { thread = refl; share = end_own s v f.fits.share me.1 };
        others = λ u ne. end_others s t u ne;
        pose = f.fits.pose;
        other_poses = λ u ne p z. z;
      } in
      let r = f.represents in
      let made = latch_seen_with floor (step ∷ []) b v w f was allowed own me.1 j r.content
      (place_low floor turnstiles j (turnstiles_at floor one)) refl refl refl
      (subst (λ z. Shelves (slots_for floor) (latch_word b.words) (home_at b.homes) z r.content)
      (outs_stay floor (step ∷ []) b v w f was allowed own me.1 out) r.shelves) r.objects in
      (w, keeps, tt, made.0, record { is = refl {a = (w, me.1)}; made = made.1; on_floor = tt })

  pub end_allowed : (slots id : ℕ) → MayMake floor v (λ s. Unit {0}) (EndsWalk v.thread ∷ [])
      → Allows (FloorHolds floor) slots id me (spot (latch_line j)) (λ n. n) (Ended floor me)
  end_allowed slots id may =
      allows floor slots id me (spot (latch_line j)) (λ n. n) (Ended floor me) was
      (λ b f small. ends b f (may f.state f.fits tt))

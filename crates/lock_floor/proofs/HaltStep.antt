-- A thread sets the halt word: it becomes 1, and no share changes.
use Rattle.lock_floor.proofs.Names
use Names.{ℕ, true, [], refl, slice_index, Me, keeps, Allows, State, Step, Halts, after_halt, Description, Slot, spot}
use Names.{halt_line, Board, RepresentsShare, FloorHolds, MayMake, FitAll, Makes, Knowledge, OfThread, seeing, Finds}
use Names.{Steps, allows, halt_made, OwnSteps, one_own}
use Rattle.std.proofs.Common.{◌≡◌, ◌∷◌}

abbrev pub HasHalted : Description → Me Slot Knowledge → Me Slot Knowledge → Type 0
HasHalted floor me behind =
    (behind ≡ (seeing behind.0.seen me.0, me.1)) × Makes floor (Halts me.0.thread ∷ []) me.0 behind.0

halt_own : (s : State) (v : Knowledge) → RepresentsShare v.share s v.thread
    → RepresentsShare v.share (after_halt s) v.thread
unfolding after_halt
halt_own s v fit = assumption fit

module _ (floor : Description) (me : Me Slot Knowledge) (was : me.0.role ≡ OfThread) where
  abbrev v : Knowledge
  v = me.0

  abbrev at : ℕ
  at = spot halt_line

  halts : (b : Board) (h : Finds floor v b) → FitAll floor h.state (Halts v.thread ∷ [])
      → Steps floor me at (slice_index b.words at) 1 (λ found. HasHalted floor me) b
  unfolding after_halt
  halts b h allowed =
      let s : State = h.state in
      let t : ℕ = v.thread in
      let step : Step = Halts t in
      let w : Knowledge = seeing (step ∷ h.past) v in
      let own : OwnSteps v w h.past (step ∷ []) s (after_halt s) = record {
        role = was;
        seen = refl;
        makers = one_own t step refl;
        seat = record { thread = refl; share = halt_own s v h.fits.share };
        others = λ k ne. refl;
        pose = h.fits.pose;
        other_poses = λ k ne p z. z;
      } in
      let made = halt_made floor (step ∷ []) b v w h was allowed own me.1 true refl
      (record { items = refl; objects = refl }) refl refl in
      (w, keeps, tt, made.0, (refl, made.1))

  pub halt_allowed : (slots id : ℕ) → MayMake floor v (λ s. Unit {0}) (Halts v.thread ∷ [])
      → Allows (FloorHolds floor) slots id me at (λ found. 1) (λ found. HasHalted floor me)
  halt_allowed slots id may =
      allows floor slots id me at (λ found. 1) (λ found. HasHalted floor me) was
      (λ b h small. halts b h (may h.state h.fits tt))

-- A thread is made ready for a queue, or runs again: its own wait word says so.
use Rattle.lock_floor.proofs.Names
use Names.{ℕ, Bool, true, false, cond, List, [], refl, sym, subst, slice_index, Me, keeps, Allows, put_same, put_other}
use Names.{QueueName, State, Wait, Running, Queued, put, Step, after_ready, after_unready, config_in, Description, Slot}
use Names.{spot, wait_line, latch_word, slots_for, home_at, Board, IsPosed, FloorHolds, Shelves, MayMake, FitAll, Makes}
use Names.{Knowledge, OfThread, Pose, Runs, seeing, Finds, Steps, allows, wait_made, outs_stay, OwnSteps}
use Names.{stands_nowhere, one_own, readies, readied}
use Rattle.std.proofs.Common.{◌≡◌, ◌≢◌, ◌∷◌}

-- what it tells
abbrev pub Readied : Description → QueueName → Bool → Me Slot Knowledge → ℕ → Me Slot Knowledge → Type 0
Readied floor q queued me found behind =
    (behind ≡ (seeing behind.0.seen (readied queued me.0), me.1))
    × Makes floor (readies queued me.0.thread q ∷ []) me.0 behind.0

module _ (floor : Description) (me : Me Slot Knowledge) (was : me.0.role ≡ OfThread) (q : QueueName) where
  abbrev v : Knowledge
  v = me.0

  other_waits : (s : State) (t : ℕ) (y : Wait) (u : ℕ) → u ≢ t → (p : Pose) → IsPosed p (s.wait u) (s.blocked_on u)
      → IsPosed p (put s.wait t y u) (s.blocked_on u)
  other_waits s t y u ne p z =
      subst (λ wait. IsPosed p wait (s.blocked_on u)) (sym (put_other s.wait t y u (λ e. ne (sym e)))) z

  makes_ready : (queued : Bool) (b : Board) (h : Finds floor v b)
      → FitAll floor h.state (readies queued v.thread q ∷ [])
      → Steps floor me (spot (wait_line v.thread)) (slice_index b.words (spot (wait_line v.thread))) (cond queued 1 0)
      (λ found. Readied floor q queued me (cond queued 1 0)) b
  unfolding after_ready after_unready
  makes_ready true b h allowed =
      let s : State = h.state in
      let t : ℕ = v.thread in
      let n : State = after_ready s t in
      let steps : List Step = readies true t q ∷ [] in
      let w : Knowledge = seeing (readies true t q ∷ h.past) (readied true v) in
      let own : OwnSteps v w h.past steps s n = record {
        role = was;
        seen = refl;
        makers = one_own t (readies true t q) refl;
        seat = record {
          thread = refl;
          share = assumption h.fits.share;
        };
        others = λ u ne. refl;
        pose = (
          put_same s.wait t Queued,
          stands_nowhere (config_in floor) s h.sound.facts.lawful t Runs refl
              allowed.0.fits.may.running,
        );
        other_poses = other_waits s t Queued;
      } in
      let made = wait_made floor steps b v w h was allowed own me.1 t 1 Queued h.represents.content h.fits.thread refl
      refl refl refl
      (subst (λ o. Shelves (slots_for floor) (latch_word b.words) (home_at b.homes) o h.represents.content)
      (outs_stay floor steps b v w h was allowed own me.1 refl) h.represents.shelves) h.represents.objects in
      (w, keeps, tt, made.0, (refl, made.1))
  makes_ready false b h allowed =
      let s : State = h.state in
      let t : ℕ = v.thread in
      let n : State = after_unready s t in
      let steps : List Step = readies false t q ∷ [] in
      let w : Knowledge = seeing (readies false t q ∷ h.past) (readied false v) in
      let own : OwnSteps v w h.past steps s n = record {
        role = was;
        seen = refl;
        makers = one_own t (readies false t q) refl;
        seat = record {
          thread = refl;
          share = assumption h.fits.share;
        };
        others = λ u ne. refl;
        pose = put_same s.wait t Running;
        other_poses = other_waits s t Running;
      } in
      let made = wait_made floor steps b v w h was allowed own me.1 t 0 Running h.represents.content h.fits.thread refl
      refl refl refl
      (subst (λ o. Shelves (slots_for floor) (latch_word b.words) (home_at b.homes) o h.represents.content)
      (outs_stay floor steps b v w h was allowed own me.1 refl) h.represents.shelves) h.represents.objects in
      (w, keeps, tt, made.0, (refl, made.1))

  pub ready_allowed : (slots id : ℕ) (queued : Bool) → MayMake floor v (λ s. Unit {0}) (readies queued v.thread q ∷ [])
      → Allows (FloorHolds floor) slots id me (spot (wait_line v.thread)) (λ n. cond queued 1 0)
      (λ n. Readied floor q queued me (cond queued 1 0))
  ready_allowed slots id queued may =
      allows floor slots id me (spot (wait_line v.thread)) (λ n. cond queued 1 0)
      (λ n. Readied floor q queued me (cond queued 1 0)) was
      (λ b h small. makes_ready queued b h (may h.state h.fits tt))

-- by it only where the thread is changes
pub record SameButPose (v w : Knowledge) : Type 0 where
  pub role : w.role ≡ v.role
  pub description : w.description ≡ v.description
  pub thread : w.thread ≡ v.thread
  pub share : w.share ≡ v.share
  pub spare : w.spare ≡ v.spare
  pub out : w.out ≡ v.out

pub ready_stays : (queued : Bool) (v : Knowledge) → SameButPose v (readied queued v)
ready_stays true v = record { role = refl; description = refl; thread = refl; share = refl; spare = refl; out = refl }
ready_stays false v = record { role = refl; description = refl; thread = refl; share = refl; spare = refl; out = refl }

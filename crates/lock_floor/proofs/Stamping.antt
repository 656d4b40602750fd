-- An entry: the ticket word goes up by one. A value that is out may change with it.
use Rattle.lock_floor.proofs.Names
use Names.{ℕ, suc, false, List, [], refl, sym, ap, subst, arith, Me, keeps, Allows, put_back, bases_stay}
use Names.{effective_stays, tables_stay, Config, Event, record_in, State, put, Step, Stamps, after_stamp, changes_base}
use Names.{changes_table, config_in, Description, Slot, past_with, spot, ticket_line, word_at, latch_word, slots_for}
use Names.{home_at, Shelves, Board, RepresentsShare, RepresentsObjects, objects_in, thread_in, FloorHolds, MayMake}
use Names.{FitAll, Makes, Knowledge, OfThread, nothing, seeing, at_or, Finds, Steps, allows, ticket_made, OwnSteps}
use Names.{one_own, entry_by, stamped}
use Rattle.std.proofs.Common.{◌≡◌, ◌+◌, ◌%◌, ◌^◌, ◌<◌, ◌≤◌, ◌∷◌}
use Rattle.lock_floor.proofs.Shares.{stamp_own, stamp_others}

-- what it tells, where out is what the thread has out then
abbrev pub StampedWith : Description → Event → (Me Slot Knowledge → List (ℕ × Slot)) → Me Slot Knowledge → ℕ
    → Me Slot Knowledge → Type 0
StampedWith floor event out me found behind =
    (found < 2 ^ 32) × (behind ≡ (
      seeing behind.0.seen
          (record (stamped (config_in floor) me.0 (entry_by me.0.thread found event)) { out = out me }),
      me.1,
    ))
    × Makes floor (Stamps me.0.thread event ∷ []) me.0 behind.0

abbrev pub Stamped : Description → Event → Me Slot Knowledge → ℕ → Me Slot Knowledge → Type 0
Stamped floor event = StampedWith floor event (λ me. me.0.out)

module _ (floor : Description) (me : Me Slot Knowledge) (was : me.0.role ≡ OfThread) (room : 1 ≤ me.0.spare)
    (event : Event) (out : Me Slot Knowledge → List (ℕ × Slot)) where
  abbrev v : Knowledge
  v = me.0

  abbrev step : List Step
  step = Stamps v.thread event ∷ []

  -- on a table where it may be made, with what lies behind the latches then
  pub stamps : (b : Board) (h : Finds floor v b) (content : ℕ → Slot) → FitAll floor h.state step
      → Shelves (slots_for floor) (latch_word b.words) (home_at b.homes)
      (put (λ u. (thread_in b.views u).out) v.thread (out me)) content
      → RepresentsObjects floor content (objects_in (after_stamp (config_in floor) h.state v.thread event))
      → Steps floor me (spot ticket_line) (word_at b.words ticket_line)
      ((word_at b.words ticket_line + 1) % 18446744073709551616) (StampedWith floor event out me) b
  unfolding after_stamp
  stamps b h content may shelves objects =
      let c : Config = config_in floor in
      let s : State = h.state in
      let n : State = after_stamp c s v.thread event in
      let ticket : ℕ = word_at b.words ticket_line in
      let is : ticket ≡ s.next = h.represents.words.ticket in
      let w : Knowledge = seeing (past_with h.past step)
      (record (stamped c v (entry_by v.thread ticket event)) { out = out me }) in
      let small : ticket < 2 ^ 32 = omega (arith, is, h.represents.room) in
      let share : RepresentsShare w.share n v.thread =
      subst (λ k. RepresentsShare (stamped c v (entry_by v.thread k event)).share n v.thread) (sym is)
      (stamp_own s v h.fits.share c event) in
      let own : OwnSteps v w h.past step s n = record {
        role = was;
        seen = refl;
        makers = one_own v.thread (Stamps v.thread event) refl;
        seat = record { thread = refl; share = share };
        others = λ u ne. stamp_others s v.thread u ne c event;
        pose = h.fits.pose;
        other_poses = λ u ne p k. k;
      } in
      let more : (ticket + 1) % 18446744073709551616 ≡ suc ticket = omega (arith, small) in
      let spares : suc w.spare ≡ v.spare = omega (arith, room) in
      let made = ticket_made floor step b v w h was may own me.1 ((ticket + 1) % 18446744073709551616) content more refl
      refl spares shelves objects in
      (w, keeps, tt, made.0, (small, refl, made.1))

-- an event that changes no priority and no lock's table leaves the objects
quiet_objects : (c : Config) (s : State) (t : ℕ) (e : Event) → changes_base e ≡ false → changes_table e ≡ false
    → objects_in (after_stamp c s t e) ≡ objects_in s
unfolding after_stamp
quiet_objects c s t e base table = grind arith

-- so it is stamped with what is out as it is
pub stamp_allowed : (floor : Description) (me : Me Slot Knowledge) (event : Event) (slots id : ℕ) → me.0.role ≡ OfThread
    → 1 ≤ me.0.spare → changes_base event ≡ false → changes_table event ≡ false
    → MayMake floor me.0 (λ s. Unit {0}) (Stamps me.0.thread event ∷ [])
    → Allows (FloorHolds floor) slots id me (spot ticket_line) (λ n. (n + 1) % 18446744073709551616)
    (Stamped floor event me)
stamp_allowed floor me event slots id was room base table may =
    allows floor slots id me (spot ticket_line) (λ n. (n + 1) % 18446744073709551616) (Stamped floor event me) was
    (λ b h small. step b h)
  where
    step : (b : Board) (h : Finds floor me.0 b)
        → Steps floor me (spot ticket_line) (word_at b.words ticket_line)
        ((word_at b.words ticket_line + 1) % 18446744073709551616) (Stamped floor event me) b
    step b h =
        let r = h.represents in
        let outs : ℕ → List (ℕ × Slot) = λ u. (thread_in b.views u).out in
        let mine : outs me.0.thread ≡ me.0.out =
        ap (λ (k : Knowledge). k.out) (at_or b.views (suc me.0.thread) me.0 nothing h.there) in
        stamps floor me was room event (λ me. me.0.out) b h r.content (may h.state h.fits tt)
        (subst (λ o. Shelves (slots_for floor) (latch_word b.words) (home_at b.homes) o r.content)
        (sym (put_back outs me.0.thread me.0.out mine)) r.shelves)
        (subst (RepresentsObjects floor r.content)
        (sym (quiet_objects (config_in floor) h.state me.0.thread event base table)) r.objects)

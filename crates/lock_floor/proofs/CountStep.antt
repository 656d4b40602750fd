-- A thread counts itself out, another in, or itself in where its counting out left nobody awake: the awake word goes
-- down or up by one. How many are awake is more than none where a thread counts itself out, and at most two for each
-- thread.
use Rattle.lock_floor.proofs.Names
use Names.{ℕ, suc, Some, List, [], refl, sym, ap, subst, inl, inr, arith, eq-eqb, cases_eq, ne_eqb, slice_index, Me}
use Names.{keeps, Allows, few_awake, some_awake, put_same, put_other, put_at_same, put_at_row, put_at_beside, one}
use Names.{times, State, Halting, put_at, Step, after_count_out, after_count_in, after_count_self_in, phase_out}
use Names.{config_in, Description, Slot, spot, awake_line, Board, RepresentsShare, words_in, FloorHolds, ShareColumns}
use Names.{columns_of, share_in, MayMake, FitAll, Makes, Knowledge, OfThread, seeing, Finds, Steps, allows, awake_made}
use Names.{OwnSteps, one_own, added_by, counted, counted_first, counts_by, Count, Out, In, SelfIn}
use Rattle.std.proofs.Common.{◌≡◌, ◌≢◌, ◌+◌, ◌-◌, ◌%◌, ◌≤◌, ◌∷◌, ◌∙◌}

-- 1. The shares behind it

-- a thread that is counted in once more
counted_more : (f : ℕ → ℕ → ℕ) (t u : ℕ) (xs : List ℕ) → (λ k. times k xs) ≡ f t
    → (λ k. times k (u ∷ xs)) ≡ put_at f t u (suc (f t u)) t
counted_more f t u xs is = λ i k. at k i
  where
    at : (k : ℕ) → times k (u ∷ xs) ≡ put_at f t u (suc (f t u)) t k
    at k = elim (cases_eq u k) [
      | inl e ↦ subst (λ j. times j (u ∷ xs) ≡ put_at f t u (suc (f t u)) t j) e
          (omega (
            arith,
            ap one (eq-eqb u u refl),
            ap (λ (g : ℕ → ℕ). g u) is,
            put_at_same f t u (suc (f t u)),
          ))
      | inr ne ↦ omega (
        arith,
        ap one (ne_eqb k u (λ e. ne (sym e))),
        ap (λ (g : ℕ → ℕ). g k) is,
        put_at_beside f t u (suc (f t u)) t k ne,
      )
    ]

module _ (s : State) (v : Knowledge) (fit : RepresentsShare v.share s v.thread) where
  abbrev t : ℕ
  t = v.thread

  abbrev e : columns_of v.share ≡ share_in s t
  e = fit.columns

  out_own : RepresentsShare (counted Out s.awake v).share (after_count_out s t) t
  unfolding after_count_out
  out_own = record {
    columns = λ i. record (e i) {
      doing = record (e i).doing {
        counted_out = (ap (λ (x : ShareColumns). suc x.doing.counted_out) e
            ∙ sym (put_same s.counted_out t (suc (s.counted_out t)))) i;
        phase = sym (put_same s.phase t (phase_out s.awake)) i;
      };
    };
    held_once = fit.held_once;
  }

  in_own : (u : ℕ) → RepresentsShare (counted_first u v).share (after_count_in s t u) t
  unfolding after_count_in
  in_own u = record {
    columns = λ i. record (e i) {
      doing = record (e i).doing { counting = sym (put_same s.counting t (Some u)) i };
      counted_in = counted_more s.counted_in t u v.share.counted_in (ap (λ (x : ShareColumns). x.counted_in) e) i;
    };
    held_once = fit.held_once;
  }

  self_own : RepresentsShare (counted SelfIn s.awake v).share (after_count_self_in s t) t
  unfolding after_count_self_in
  self_own = record {
    columns = λ i. record (e i) {
      doing = record (e i).doing { phase = sym (put_same s.phase t Halting) i };
      counted_in = counted_more s.counted_in t t v.share.counted_in (ap (λ (x : ShareColumns). x.counted_in) e) i;
    };
    held_once = fit.held_once;
  }

module _ (s : State) (t w : ℕ) (other : w ≢ t) where
  ne : t ≡ w → ⊥
  ne q = other (sym q)

  out_others : share_in (after_count_out s t) w ≡ share_in s w
  unfolding after_count_out
  out_others = λ i. record (share_in s w) {
    doing = record (share_in s w).doing {
      counted_out = put_other s.counted_out t (suc (s.counted_out t)) w ne i;
      phase = put_other s.phase t (phase_out s.awake) w ne i;
    };
  }

  in_others : (u : ℕ) → share_in (after_count_in s t u) w ≡ share_in s w
  unfolding after_count_in
  in_others u = λ i. record (share_in s w) {
    doing = record (share_in s w).doing { counting = put_other s.counting t (Some u) w ne i };
    counted_in = put_at_row s.counted_in t u (suc (s.counted_in t u)) w ne i;
  }

  self_others : share_in (after_count_self_in s t) w ≡ share_in s w
  unfolding after_count_self_in
  self_others = λ i. record (share_in s w) {
    doing = record (share_in s w).doing { phase = put_other s.phase t Halting w ne i };
    counted_in = put_at_row s.counted_in t t (suc (s.counted_in t t)) w ne i;
  }

-- 2. The step

-- what it tells: the thread made it, and found that many awake
abbrev pub CountedBy : Description → Count → Me Slot Knowledge → ℕ → Me Slot Knowledge → Type 0
CountedBy floor how me found behind =
    (behind ≡ (seeing behind.0.seen (counted how found me.0), me.1))
    × (m : Makes floor (counts_by how me.0.thread ∷ []) me.0 behind.0) × (m.state.awake ≡ found)

module _ (floor : Description) (me : Me Slot Knowledge) (was : me.0.role ≡ OfThread) where
  abbrev v : Knowledge
  v = me.0

  abbrev at : ℕ
  at = spot awake_line

  its_awake : (b : Board) (h : Finds floor v b) → slice_index b.words at ≡ h.state.awake
  its_awake b h = h.represents.words.awake

  few : (b : Board) (h : Finds floor v b) → h.state.awake ≤ 64
  few b h =
      let sized = h.represents.sizes.sized.threads in
      omega (arith, sized, few_awake (config_in floor) h.state h.sound.facts.lawful h.sound.counted)

  counts : (how : Count) (b : Board) (h : Finds floor v b) → FitAll floor h.state (counts_by how v.thread ∷ [])
      → Steps floor me at (slice_index b.words at) ((slice_index b.words at + added_by how) % 18446744073709551616)
      (CountedBy floor how me) b
  unfolding after_count_out after_count_in after_count_self_in
  counts Out b h allowed =
      let s : State = h.state in
      let t : ℕ = v.thread in
      let step : Step = counts_by Out t in
      let found : ℕ = slice_index b.words at in
      let w : Knowledge = seeing (step ∷ h.past) (counted Out found v) in
      let g = allowed.0.fits in
      let some = some_awake (config_in floor) s t g.may g.has_out h.sound.facts h.sound.counted in
      let less : (found + 18446744073709551615) % 18446744073709551616 ≡ s.awake - 1 =
      omega (arith, its_awake b h, some, few b h) in
      let own : OwnSteps v w h.past (step ∷ []) s (after_count_out s t) = record {
        role = was;
        seen = refl;
        makers = one_own t step refl;
        seat = record {
          thread = refl;
          share = subst (λ n. RepresentsShare (counted Out n v).share (after_count_out s t) t) (sym (its_awake b h))
              (out_own s v h.fits.share);
        };
        others = λ k ne. out_others s t k ne;
        pose = h.fits.pose;
        other_poses = λ k ne p z. z;
      } in
      let made = awake_made floor (step ∷ []) b v w h was allowed own me.1
      ((found + 18446744073709551615) % 18446744073709551616)
      (λ i. record (words_in s) { awake = sym less i }) (record { items = refl; objects = refl }) refl refl in
      (w, keeps, tt, made.0, (refl, made.1, ap (λ (x : State). x.awake) made.2 ∙ sym (its_awake b h)))
  counts (In u) b h allowed =
      let s : State = h.state in
      let t : ℕ = v.thread in
      let step : Step = counts_by (In u) t in
      let found : ℕ = slice_index b.words at in
      let w : Knowledge = seeing (step ∷ h.past) (counted (In u) found v) in
      let more : (found + 1) % 18446744073709551616 ≡ suc s.awake = omega (arith, its_awake b h, few b h) in
      let own : OwnSteps v w h.past (step ∷ []) s (after_count_in s t u.0) = record {
        role = was;
        seen = refl;
        makers = one_own t step refl;
        seat = record { thread = refl; share = in_own s v h.fits.share u.0 };
        others = λ k ne. in_others s t k ne u.0;
        pose = h.fits.pose;
        other_poses = λ k ne p z. z;
      } in
      let made = awake_made floor (step ∷ []) b v w h was allowed own me.1 ((found + 1) % 18446744073709551616)
      (λ i. record (words_in s) { awake = sym more i }) (record { items = refl; objects = refl }) refl refl in
      (w, keeps, tt, made.0, (refl, made.1, ap (λ (x : State). x.awake) made.2 ∙ sym (its_awake b h)))
  counts SelfIn b h allowed =
      let s : State = h.state in
      let t : ℕ = v.thread in
      let step : Step = counts_by SelfIn t in
      let found : ℕ = slice_index b.words at in
      let w : Knowledge = seeing (step ∷ h.past) (counted SelfIn found v) in
      let more : (found + 1) % 18446744073709551616 ≡ suc s.awake = omega (arith, its_awake b h, few b h) in
      let own : OwnSteps v w h.past (step ∷ []) s (after_count_self_in s t) = record {
        role = was;
        seen = refl;
        makers = one_own t step refl;
        seat = record { thread = refl; share = self_own s v h.fits.share };
        others = λ k ne. self_others s t k ne;
        pose = h.fits.pose;
        other_poses = λ k ne p z. z;
      } in
      let made = awake_made floor (step ∷ []) b v w h was allowed own me.1 ((found + 1) % 18446744073709551616)
      (λ i. record (words_in s) { awake = sym more i }) (record { items = refl; objects = refl }) refl refl in
      (w, keeps, tt, made.0, (refl, made.1, ap (λ (x : State). x.awake) made.2 ∙ sym (its_awake b h)))

  pub count_allowed : (how : Count) (n : ℕ) → n ≡ added_by how → (slots id : ℕ)
      → MayMake floor v (λ s. Unit {0}) (counts_by how v.thread ∷ [])
      → Allows (FloorHolds floor) slots id me at (λ found. (found + n) % 18446744073709551616)
      (CountedBy floor how me)
  count_allowed how n is slots id may =
      subst (λ n. Allows (FloorHolds floor) slots id me at (λ found. (found + n) % 18446744073709551616)
      (CountedBy floor how me)) (sym is)
      (allows floor slots id me at (λ found. (found + added_by how) % 18446744073709551616) (CountedBy floor how me) was
      (λ b h small. counts how b h (may h.state h.fits tt)))

-- by it the locks, the marked list, the log, what is out and where the thread is stay
pub record KeepsAll (v w : Knowledge) : Type 0 where
  pub role : w.role ≡ v.role
  pub description : w.description ≡ v.description
  pub thread : w.thread ≡ v.thread
  pub spare : w.spare ≡ v.spare
  pub out : w.out ≡ v.out
  pub log : w.share.log ≡ v.share.log
  pub held : w.share.held ≡ v.share.held
  pub marked : w.share.doing.marked ≡ v.share.doing.marked

pub count_stays : (how : Count) (found : ℕ) (v : Knowledge) → KeepsAll v (counted how found v)
count_stays e found v = grind arith

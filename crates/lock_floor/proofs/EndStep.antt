-- A thread counts itself among those that have ended: the ended word goes up by one. And one finds out whether a thread
-- is left that hasn't: the word says less than the number of threads.
use Rattle.lock_floor.proofs.Names
use Names.{ℕ, zero, suc, Bool, true, false, ltb, [], length, lt-ltb, refl, sym, ap, subst, arith, ltb-true, slice_index}
use Names.{Me, keeps, Allows, put_same, put_other, one, sum_below, EndedIsCounted, State, Step, CountsEnd}
use Names.{after_count_end, Description, Slot, spot, ended_line, Board, RepresentsShare, words_in, FloorHolds}
use Names.{columns_of, share_in, MayMake, FitAll, Makes, Knowledge, OfThread, seeing, Finds, Steps, allows, ended_made}
use Names.{none_made, OwnSteps, one_own, FindsWhetherLeft, ended}
use Rattle.std.proofs.Common.{◌≡◌, ◌≢◌, ◌+◌, ◌%◌, ◌<◌, ◌≤◌, ◌∷◌, ◌∙◌}

-- 1. The shares behind it

end_own : (s : State) (v : Knowledge) → RepresentsShare v.share s v.thread
    → RepresentsShare (ended v).share (after_count_end s v.thread) v.thread
unfolding after_count_end
end_own s v fit =
    let e : columns_of v.share ≡ share_in s v.thread = fit.columns in
    record {
      columns = λ i. record (e i) {
        doing = record (e i).doing { has_ended = sym (put_same s.has_ended v.thread true) i };
      };
      held_once = fit.held_once;
    }

end_others : (s : State) (t w : ℕ) → w ≢ t → share_in (after_count_end s t) w ≡ share_in s w
unfolding after_count_end
end_others s t w other = λ i. record (share_in s w) {
  doing = record (share_in s w).doing { has_ended = put_other s.has_ended t true w (λ e. other (sym e)) i };
}

-- no more have ended than there are threads
ones_few : (n : ℕ) (f : ℕ → Bool) → sum_below n (λ t. one (f t)) ≤ n
unfolding sum_below
ones_few zero f = omega arith
ones_few (suc n) f = elim (f n) as (λ b. one b + sum_below n (λ t. one (f t)) ≤ suc n) [
  | true ↦ omega (arith, ones_few n f)
  | false ↦ omega (arith, ones_few n f)
]

-- 2. The steps

abbrev pub HasEnded : Description → Me Slot Knowledge → ℕ → Me Slot Knowledge → Type 0
HasEnded floor me found behind =
    (behind ≡ (seeing behind.0.seen (ended me.0), me.1))
    × Makes floor (CountsEnd me.0.thread ∷ []) me.0 behind.0

abbrev pub FoundLeft : Description → Me Slot Knowledge → ℕ → Me Slot Knowledge → Type 0
FoundLeft floor me found behind =
    (behind ≡ (seeing behind.0.seen me.0, me.1))
    × FindsWhetherLeft floor (ltb found (length floor.threads)) me.0 behind.0

module _ (floor : Description) (me : Me Slot Knowledge) (was : me.0.role ≡ OfThread) where
  abbrev v : Knowledge
  v = me.0

  abbrev at : ℕ
  at = spot ended_line

  its_ended : (b : Board) (h : Finds floor v b) → slice_index b.words at ≡ h.state.ended
  its_ended b h = h.represents.words.ended

  few : (b : Board) (h : Finds floor v b) → h.state.ended ≤ 32
  unfolding EndedIsCounted
  few b h =
      let sized = h.represents.sizes.sized.threads in
      omega (arith, sized, h.sound.counted.ended_is_counted, ones_few (length floor.threads) h.state.has_ended)

  ends : (b : Board) (h : Finds floor v b) → FitAll floor h.state (CountsEnd v.thread ∷ [])
      → Steps floor me at (slice_index b.words at) ((slice_index b.words at + 1) % 18446744073709551616)
      (HasEnded floor me) b
  unfolding after_count_end
  ends b h allowed =
      let s : State = h.state in
      let t : ℕ = v.thread in
      let step : Step = CountsEnd t in
      let found : ℕ = slice_index b.words at in
      let w : Knowledge = seeing (step ∷ h.past) (ended v) in
      let more : (found + 1) % 18446744073709551616 ≡ suc s.ended = omega (arith, its_ended b h, few b h) in
      let own : OwnSteps v w h.past (step ∷ []) s (after_count_end s t) = record {
        role = was;
        seen = refl;
        makers = one_own t step refl;
        seat = record { thread = refl; share = end_own s v h.fits.share };
        others = λ k ne. end_others s t k ne;
        pose = h.fits.pose;
        other_poses = λ k ne p z. z;
      } in
      let made = ended_made floor (step ∷ []) b v w h was allowed own me.1 ((found + 1) % 18446744073709551616)
      (λ i. record (words_in s) { ended = sym more i }) (record { items = refl; objects = refl }) refl refl in
      (w, keeps, tt, made.0, (refl, made.1))

  pub end_allowed : (slots id : ℕ) → MayMake floor v (λ s. Unit {0}) (CountsEnd v.thread ∷ [])
      → Allows (FloorHolds floor) slots id me at (λ found. (found + 1) % 18446744073709551616) (HasEnded floor me)
  end_allowed slots id may =
      allows floor slots id me at (λ found. (found + 1) % 18446744073709551616) (HasEnded floor me) was
      (λ b h small. ends b h (may h.state h.fits tt))

  loads : (b : Board) (h : Finds floor v b)
      → Steps floor me at (slice_index b.words at) (slice_index b.words at) (FoundLeft floor me) b
  loads b h =
      let seen = none_made floor b v h was at me.1 in
      let found : ℕ = slice_index b.words at in
      let number : found ≡ seen.1.state.ended = its_ended b h ∙ ap (λ (s : State). s.ended) (sym seen.2) in
      let finds : FindsWhetherLeft floor (ltb found (length floor.threads)) v (seeing h.past v) = record {
        moment = seen.1;
        left = (
          λ e. subst (λ n. n < length floor.threads) number (ltb-true found (length floor.threads) e),
          λ low. lt-ltb found (length floor.threads) (subst (λ n. n < length floor.threads) (sym number) low),
        );
      } in
      (seeing h.past v, keeps, tt, seen.0, (refl, finds))

  pub find_allowed : (slots id : ℕ) → Allows (FloorHolds floor) slots id me at (λ n. n) (FoundLeft floor me)
  find_allowed slots id = allows floor slots id me at (λ n. n) (FoundLeft floor me) was (λ b h small. loads b h)

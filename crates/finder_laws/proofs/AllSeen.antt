-- A finder's seat has seen all steps that were made: none was made since its own last one. So the state is the one that
-- it saw.
use Rattle.std.proofs.Common.{◌≡◌, ◌≢◌, ℕ, ◌<◌, true, List, [], ◌∷◌, ◌++◌, length, refl, sym, ap, ◌∙◌, subst}
use Rattle.std.proofs.lemmas.List.Elements.{All-head}
use Rattle.lock_state.specs.State.{State, is_finder}
use Rattle.lock_state.specs.Steps.{Step, CountsSelfIn, after, after_all, maker}
use Rattle.lock_state.specs.Steps.Counting.{after_count_self_in}
use Rattle.floor_table.specs.Descriptions.{config_in}
use Rattle.floor_table.specs.Past.{LeadsTo, none, more, AreOfOthers, past_with}
use Rattle.floor_table.specs.Shares.{ShareColumns}
use Rattle.floor_table.specs.Steps.{IsSound, Fits, Makes}
use Rattle.floor_table.specs.Views.{Knowledge}
use Rattle.floor_table.specs.declared.description.Description.{Description}
use Rattle.floor_table.proofs.Known.{fits_made}
use Rattle.floor_table.proofs.Sound.{sound_begins, sound_kept}
use Rattle.finder_laws.specs.Left.{HasSeenLeft}
use Rattle.finder_laws.proofs.OneActs.{steps_alone, phase_stays}

abbrev first_or : {A : Type 0} → A → List A → A
first_or d [] = d
first_or d (x ∷ xs) = x

abbrev behind_first : {A : Type 0} → List A → List A
behind_first [] = []
behind_first (x ∷ xs) = xs

-- each state to which steps led is sound,
sound_of : (floor : Description) {past : List Step} {s : State} → LeadsTo floor past s → IsSound floor past s
sound_of floor none = sound_begins floor
sound_of floor (more {s = s} step led allowed) = sound_kept floor s (step ∷ []) (allowed, tt) (sound_of floor led)

-- and the steps lead to one state
one_state : (floor : Description) {past seen : List Step} {s n : State} → LeadsTo floor past s → LeadsTo floor seen n
    → past ≡ seen → s ≡ n
one_state floor none none e = refl
one_state floor none (more step led allowed) e = absurd cc
one_state floor (more step led allowed) none e = absurd cc
one_state floor (more {s = s} step led allowed) (more {s = n} step2 led2 allowed2) e =
    let same : step ≡ step2 = ap (first_or step) e in
    let state : s ≡ n = one_state floor led led2 (ap behind_first e) in
    λ i. after (config_in floor) (state i) (same i)

-- no step of others comes behind those that a finder has seen
none_later : (floor : Description) {past : List Step} {s : State} (t : ℕ) → LeadsTo floor past s
    → is_finder (s.phase t) ≡ true → (later seen : List Step) → past ≡ later ++ seen → AreOfOthers t later
    → past ≡ seen
none_later floor t led finder [] seen e others = e
none_later floor t none finder (x ∷ later) seen e others = absurd cc
none_later floor t (more {s = s} step led allowed) finder (x ∷ later) seen e others =
    let c = config_in floor in
    let same : step ≡ x = ap (first_or step) e in
    let other : maker step ≢ t =
    subst (λ y. maker y ≢ t) (sym same) (All-head (λ y. maker y ≢ t) x later others) in
    let was : is_finder (s.phase t) ≡ true = ap is_finder (sym (phase_stays c s t step other)) ∙ finder in
    absurd (other (steps_alone floor.chains c s t (sound_of floor led).counted was step allowed.fits))

module _ (floor : Description) (v : Knowledge) (s : State) (f : Fits floor v s)
    (finder : is_finder v.share.doing.phase ≡ true) where
  pub all_seen : f.past ≡ v.seen
  all_seen =
      none_later floor v.thread f.sound.reached
      (ap (λ (x : ShareColumns). is_finder x.doing.phase) (sym f.share.columns) ∙ finder)
      f.seen.later v.seen f.seen.is f.seen.of_others

  pub left_now : HasSeenLeft floor v → s.ended < length floor.threads
  left_now h =
      subst (λ (n : State). n.ended < length floor.threads)
      (sym (one_state floor f.sound.reached h.led all_seen)) h.left

-- behind steps of its own that end no thread
pub left_then : (floor : Description) (steps : List Step) (v w : Knowledge) → is_finder v.share.doing.phase ≡ true
    → HasSeenLeft floor v → (m : Makes floor steps v w)
    → (after_all (config_in floor) m.state steps).ended ≡ m.state.ended → HasSeenLeft floor w
left_then floor steps v w finder h m same =
    let n : State = after_all (config_in floor) m.state steps in
    let behind : IsSound floor (past_with m.past steps) n = sound_kept floor m.state steps m.may m.sound in
    record {
      state = n;
      led = subst (λ xs. LeadsTo floor xs n) (sym m.seen) behind.reached;
      left = subst (λ k. k < length floor.threads) (sym same)
          (left_now floor v m.state (fits_made floor steps v w m) finder h);
    }

pub left_counted : (floor : Description) (v w : Knowledge) → is_finder v.share.doing.phase ≡ true
    → HasSeenLeft floor v → Makes floor (CountsSelfIn v.thread ∷ []) v w → HasSeenLeft floor w
unfolding after_count_self_in
left_counted floor v w finder h m = left_then floor (CountsSelfIn v.thread ∷ []) v w finder h m refl

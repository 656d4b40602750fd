-- How far back seats have seen the steps, behind steps of one thread: that thread has seen all, and of what another has
-- seen the new ones are later and not its own.
use Rattle.std.proofs.Common.{◌≡◌, ◌≢◌, ℕ, suc, ◌<◌, ◌≤◌, List, [], ◌∷◌, ◌++◌, append_assoc, length, set, get_or, sym, ap, ◌∙◌, subst, inl, inr, arith, length-append, get_or-set_same, get_or-set_other}
use Rattle.std.proofs.lemmas.Bool.{cases_eq}
use Rattle.std.proofs.lemmas.List.{get_or_append_left}
use Rattle.std.proofs.lemmas.List.Elements.{All-nil, All-cons, All-append}
use Rattle.std.specs.List.{All}
use mathlib.Core.Option.{some}
use lib.ListN.{get_elem?}
use Rattle.lock_state.specs.Steps.{Step, maker}
use Rattle.floor_table.specs.Past.{past_with, AreOfOthers, IsSeen, IsSeenBy, AreSeen}
use Rattle.floor_table.specs.Represents.{keeper_in, thread_in}
use Rattle.floor_table.specs.Views.{OfThread, Knowledge, nothing}
use Rattle.floor_table.proofs.Lists.{inside}

-- 1. Steps of a thread

abbrev pub AreOf : ℕ → List Step → Type 0
AreOf t steps = All (λ step. maker step ≡ t) steps

pub one_own : (t : ℕ) (step : Step) → maker step ≡ t → AreOf t (step ∷ [])
one_own t step e = All-cons (λ s. maker s ≡ t) step [] e (All-nil (λ s. maker s ≡ t))

pub two_own : (t : ℕ) (a b : Step) → maker a ≡ t → maker b ≡ t → AreOf t (a ∷ b ∷ [])
two_own t a b e f = All-cons (λ s. maker s ≡ t) a (b ∷ []) e (one_own t b f)

still_seen : (steps : List Step) (seen past : List Step) → IsSeen seen past → IsSeen seen (past_with past steps)
still_seen [] seen past h = h
still_seen (step ∷ steps) seen past h =
    still_seen steps seen (step ∷ past) record { later = step ∷ h.later; is = ap (λ xs. step ∷ xs) h.is }

-- to another they are another's
module _ (t u : ℕ) (ne : u ≢ t) where
  one_more : (step : Step) (past : List Step) → maker step ≡ t → AreOfOthers u past → AreOfOthers u (step ∷ past)
  one_more step past its h = All-cons (λ s. maker s ≢ u) step past (λ e. ne (sym e ∙ its)) h

  still_others : (steps : List Step) → AreOf t steps → (past : List Step) → AreOfOthers u past
      → AreOfOthers u (past_with past steps)
  still_others [] own past h = h
  still_others (step ∷ steps) own past h =
      still_others steps (λ i d low. own (suc i) d (omega arith)) (step ∷ past)
      (one_more step past (own 0 step (omega arith)) h)

  still_seen_by : (steps : List Step) → AreOf t steps → (seen past : List Step) → IsSeenBy u seen past
      → IsSeenBy u seen (past_with past steps)
  still_seen_by [] own seen past h = h
  still_seen_by (step ∷ steps) own seen past h =
      still_seen_by steps (λ i d low. own (suc i) d (omega arith)) seen (step ∷ past) record {
        later = step ∷ h.later;
        is = ap (λ xs. step ∷ xs) h.is;
        of_others = one_more step h.later (own 0 step (omega arith)) h.of_others;
      }

-- what was seen of what was seen
pub seen_on : (t : ℕ) (first then last : List Step) → IsSeenBy t first then → IsSeenBy t then last
    → IsSeenBy t first last
seen_on t first then last h k = record {
  later = k.later ++ h.later;
  is = k.is ∙ ap (λ xs. k.later ++ xs) h.is ∙ sym (append_assoc k.later h.later first);
  of_others = All-append (λ s. maker s ≢ t) k.later h.later k.of_others h.of_others;
}

-- a longer part of the list has seen what a shorter one has
pub seen_further : (t : ℕ) (xs ys past : List Step) → length xs ≤ length ys → IsSeenBy t xs past → IsSeen ys past
    → IsSeenBy t ys past
seen_further t xs ys past more h k = record {
  later = k.later;
  is = k.is;
  of_others = λ i d low.
      let same = sym h.is ∙ k.is in
      let long = sym (length-append h.later xs) ∙ ap length same ∙ length-append k.later ys in
      let within : i < length h.later = omega (arith, long, more, low) in
      let at : get_or h.later i d ≡ get_or k.later i d = sym (get_or_append_left h.later xs d i within)
      ∙ ap (λ zs. get_or zs i d) same ∙ get_or_append_left k.later ys d i low in
      subst (λ step. maker step ≢ t) at (h.of_others i d within);
}

-- 2. The seats behind them

module _ (vs : List Knowledge) (t : ℕ) (v w : Knowledge) (past steps : List Step)
    (at : get_elem? vs (suc t) ≡ some v) (low : t < (keeper_in vs).made) (all : w.seen ≡ past_with past steps)
    (role : w.role ≡ OfThread) (own : AreOf t steps) (h : AreSeen vs past) where
  abbrev new : List Knowledge
  new = set vs (suc t) w

  first_stays : keeper_in new ≡ keeper_in vs
  first_stays = get_or-set_other vs (suc t) 0 w nothing (λ e. omega arith)

  mine_is : thread_in new t ≡ w
  mine_is = get_or-set_same vs (suc t) w nothing (inside vs (suc t) v at)

  others_are : (u : ℕ) → u ≢ t → thread_in new u ≡ thread_in vs u
  others_are u ne = get_or-set_other vs (suc t) (suc u) w nothing (λ e. ne (omega arith))

  by_thread : (u : ℕ) → (thread_in new u).role ≡ OfThread
      → IsSeenBy u (thread_in new u).seen (past_with past steps)
  by_thread u its =
      elim (cases_eq u t) [
        | inl e ↦ record {
          later = [];
          is = sym (ap (λ j. (thread_in new j).seen) e ∙ ap (λ (k : Knowledge). k.seen) mine_is ∙ all);
          of_others = All-nil (λ s. maker s ≢ u);
        }
        | inr ne ↦ subst (λ (k : Knowledge). IsSeenBy u k.seen (past_with past steps)) (sym (others_are u ne))
            (still_seen_by t u ne steps own (thread_in vs u).seen past
            (h.thread u (ap (λ (k : Knowledge). k.role) (sym (others_are u ne)) ∙ its)))
      ]

  by_keeper : (u : ℕ) → u < (keeper_in new).made → (thread_in new u).role ≢ OfThread
      → IsSeenBy u (keeper_in new).seen (past_with past steps)
  by_keeper u made gone =
      let ne : u ≢ t = λ e.
      gone (ap (λ j. (thread_in new j).role) e ∙ ap (λ (k : Knowledge). k.role) mine_is ∙ role) in
      subst (λ (k : Knowledge). IsSeenBy u k.seen (past_with past steps)) (sym first_stays)
      (still_seen_by t u ne steps own (keeper_in vs).seen past
      (h.taken_in u (subst (λ (k : Knowledge). u < k.made) first_stays made)
      (λ e. gone (ap (λ (k : Knowledge). k.role) (others_are u ne) ∙ e))))

  pub seen_stepped : AreSeen new (past_with past steps)
  seen_stepped = record {
    keeper = subst (λ (k : Knowledge). IsSeen k.seen (past_with past steps)) (sym first_stays)
        (still_seen steps (keeper_in vs).seen past h.keeper);
    thread = by_thread;
    taken_in = by_keeper;
    unmade = λ u high.
        let before : (keeper_in vs).made ≤ u = subst (λ (k : Knowledge). k.made ≤ u) first_stays high in
        still_others t u (λ e. omega (arith, e, before, low)) steps own past (h.unmade u before);
  }

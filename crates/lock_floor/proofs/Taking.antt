-- Latches: an item goes out with the thread that finds it at home, and comes home again.
use Rattle.lock_floor.proofs.Names
use Names.{ℕ, zero, suc, eqb, Some, None, List, [], length, cond, lt-ltb, refl, sym, ap, subst, arith, All-nil, Me}
use Names.{keeps, takes, gives, rest, Allows, State, Step, TakesItem, GivesItem, maker, Item, TurnstileChain}
use Names.{SleepChain, RecordOf, CellOf, ClassGraph, item_with, after_take, after_give, Description, Slot, Record, Cell}
use Names.{Turnstiles, SleepQueues, Graph, RecordColumns, IsSeenBy, spot, latch_line, latch_word, slot_of, slots_for}
use Names.{taker, Board, RepresentsLatches, taken_from, IsOf, objects_in, FloorHolds, MayMake, FitAll, Makes, Knowledge}
use Names.{OfThread, seeing, place_low, one_place, or_at, Finds, Steps, allows, exchange_allows, take_made, give_made}
use Names.{none_made, sooner, OwnSteps, one_own, seen_on, FindsOut, Takes, IsOfKind, took, gave}
use Rattle.std.proofs.Common.{◌≡◌, ◌≢◌, ◌<◌, ◌∷◌, ◌∙◌}
use mathlib.Core.Option as slots
use mathlib.Core.Option.{some}
use lib.ListN.{get_elem?}
use prog.Atomic.{either}
use Rattle.lock_floor.proofs.Shares.{take_own, take_others, give_own, give_others}

-- 1. A take

-- what it tells: where the latch was free, the thread has what the place has, and else somebody has it at that moment
abbrev pub Taken : Description → ℕ → Me Slot Knowledge → ℕ → Me Slot Knowledge → Type 0
Taken floor j me found behind =
    (found ≡ 0 → (i : Item) → slot_of floor i ≡ Some j → (taken : Takes floor i j me.0 behind.0)
    × (behind.1 ≡ (j, taken.value) ∷ me.1))
    × (found ≢ 0 → (behind ≡ (seeing behind.0.seen me.0, me.1))
    × ((i : Item) → slot_of floor i ≡ Some j → FindsOut floor i me.0 behind.0))

kind_of : (floor : Description) (s : State) (i : Item) (y : Slot) → IsOf floor (objects_in s) i y → IsOfKind i y
kind_of floor s e f h = grind arith

module _ (floor : Description) (me : Me Slot Knowledge) (was : me.0.role ≡ OfThread) (i : Item) (j : ℕ)
    (place : slot_of floor i ≡ Some j) where
  abbrev v : Knowledge
  v = me.0

  -- an item whose latch is 0 is at home
  is_home : (b : Board) (h : Finds floor v b) → latch_word b.words j ≡ 0 → item_with h.state i ≡ None
  unfolding RepresentsLatches
  is_home b h free = h.represents.latches i ∙ ap (taken_from (latch_word b.words)) place ∙ ap taker free

  -- and else it is out with the thread that the word names
  is_out : (b : Board) (h : Finds floor v b) → latch_word b.words j ≢ 0 → (t : ℕ) × (item_with h.state i ≡ Some t)
  unfolding RepresentsLatches
  is_out b h ne = go (latch_word b.words j) refl
    where
      go : (n : ℕ) → latch_word b.words j ≡ n → (t : ℕ) × (item_with h.state i ≡ Some t)
      go zero e = absurd (ne e)
      go (suc t) e = (t, h.represents.latches i ∙ ap (taken_from (latch_word b.words)) place ∙ ap taker e)

  take_hit : (b : Board) (h : Finds floor v b) → MayMake floor v (λ s. item_with s i ≡ None) (TakesItem v.thread i ∷ [])
      → latch_word b.words j ≡ 0
      → Steps floor me (spot (latch_line j)) (latch_word b.words j) (suc v.thread) (Taken floor j me) b
  unfolding after_take
  take_hit b h may free =
      let s : State = h.state in
      let n : State = after_take s v.thread i in
      let x : Slot = h.represents.content j in
      let step : Step = TakesItem v.thread i in
      let w : Knowledge = seeing (step ∷ h.past) (took v i j x) in
      let allowed = may s h.fits (is_home b h free) in
      let low : j < slots_for floor = place_low floor i j place in
      let own : OwnSteps v w h.past (step ∷ []) s n = record {
        role = was;
        seen = refl;
        makers = one_own v.thread step refl;
        seat = record { thread = refl; share = take_own s v h.fits.share i j x };
        others = λ u ne. take_others s v.thread u ne i;
        pose = h.fits.pose;
        other_poses = λ u ne p k. k;
      } in
      let made = take_made floor (step ∷ []) b v w h was allowed own me.1 i j place free
      (record { words = refl; items = refl; objects = refl }) refl refl in
      let there : get_elem? b.homes j ≡ some (some x) =
      or_at b.homes j slots.none (omega (arith, low, h.represents.sizes.slots))
      ∙ ap some (h.represents.shelves.at_home j low free) in
      let taken : Takes floor i j v w =
      record {
        value = x;
        view = refl;
        step = made.1;
        kind = kind_of floor s i x (h.represents.objects.each i j place);
      } in (
        w,
        takes j x,
        there,
        made.0,
        (
          λ e k at. subst (λ m. (taken : Takes floor m j v w) × ((j, x) ∷ me.1 ≡ (j, taken.value) ∷ me.1))
              (one_place floor i k j place at) (taken, refl),
          λ ne. absurd (ne free),
        ),
      )

  take_missed : (b : Board) (h : Finds floor v b) → latch_word b.words j ≢ 0
      → Steps floor me (spot (latch_line j)) (latch_word b.words j) (latch_word b.words j) (Taken floor j me) b
  take_missed b h ne =
      let w : Knowledge = seeing h.past v in
      let seen = none_made floor b v h was (spot (latch_line j)) me.1 in
      let out = is_out b h ne in
      let finds : FindsOut floor i v w = record {
        taker = out.0;
        moment = seen.1;
        out = ap (λ (s : State). item_with s i) seen.2 ∙ out.1;
        itself = λ e. h.fits.out.no_other i (out.1 ∙ ap Some e);
      } in (
        w,
        keeps,
        tt,
        seen.0,
        (
          λ e. absurd (ne e),
          λ _.
              (refl, λ k at. subst (λ m. FindsOut floor m v w) (one_place floor i k j place at) finds),
        ),
      )

  pub take_allowed : (slots id : ℕ) → MayMake floor v (λ s. item_with s i ≡ None) (TakesItem v.thread i ∷ [])
      → Allows (FloorHolds floor) slots id me (spot (latch_line j)) (λ n. either (eqb n 0) (suc v.thread) n)
      (Taken floor j me)
  take_allowed slots id may =
      exchange_allows floor slots id me (spot (latch_line j)) 0 (suc v.thread) (Taken floor j me) was
      (λ b h free. take_hit b h may free) (λ b h ne small. take_missed b h ne)

-- 2. A give of what was taken last

-- what it tells, of the item of the place
abbrev pub Given : Description → ℕ → Me Slot Knowledge → ℕ → Me Slot Knowledge → Type 0
Given floor j me found behind = (i : Item) → slot_of floor i ≡ Some j
    → (behind ≡ (seeing behind.0.seen (gave me.0 i), rest me.1))
    × Makes floor (GivesItem me.0.thread i ∷ []) me.0 behind.0

module _ (floor : Description) (me : Me Slot Knowledge) (was : me.0.role ≡ OfThread) (i : Item) (j : ℕ)
    (place : slot_of floor i ≡ Some j) (x : Slot) (tied : me.1 ≡ me.0.out) (last : me.0.out ≡ (j, x) ∷ rest me.0.out)
  where
    gives_it : (b : Board) (h : Finds floor me.0 b) → FitAll floor h.state (GivesItem me.0.thread i ∷ [])
        → Steps floor me (spot (latch_line j)) (latch_word b.words j) 0 (λ found. Given floor j me 0) b
    unfolding after_give
    gives_it b h allowed =
        let s : State = h.state in
        let v : Knowledge = me.0 in
        let n : State = after_give s v.thread i in
        let step : Step = GivesItem v.thread i in
        let w : Knowledge = seeing (step ∷ h.past) (gave v i) in
        let own : OwnSteps v w h.past (step ∷ []) s n = record {
          role = was;
          seen = refl;
          makers = one_own v.thread step refl;
          seat = record { thread = refl; share = give_own s v h.fits.share i };
          others = λ u ne. give_others s v.thread u ne i;
          pose = h.fits.pose;
          other_poses = λ u ne p k. k;
        } in
        let made = give_made floor (step ∷ []) b v w h was allowed own me.1 i j x (rest v.out) (rest v.out) place
        (tied ∙ last) last (record { words = refl; items = refl; objects = refl }) refl refl in (
          w,
          gives,
          tt,
          made.0,
          λ k at. subst
              (λ m. ◌≡◌ {A = Me Slot Knowledge} (w, rest me.1) (seeing w.seen (gave v m), rest me.1)
              × Makes floor (GivesItem v.thread m ∷ []) v w) (one_place floor i k j place at) (refl, made.1),
        )

    pub give_allowed : (slots id : ℕ) → MayMake floor me.0 (λ s. Unit {0}) (GivesItem me.0.thread i ∷ [])
        → Allows (FloorHolds floor) slots id me (spot (latch_line j)) (λ n. 0) (λ n. Given floor j me 0)
    give_allowed slots id may =
        allows floor slots id me (spot (latch_line j)) (λ n. 0) (λ n. Given floor j me 0) was
        (λ b h small. gives_it b h (may h.state h.fits tt))

-- 3. Waiting for an item

-- what a thread knows that has found it out so far: what it knew, and more of others' steps
pub record HasWaited (old new : Knowledge) : Type 0 where
  pub view : new ≡ seeing new.seen old
  pub since : IsSeenBy old.thread old.seen new.seen

pub waits_none : (v : Knowledge) → HasWaited v v
waits_none v = grind arith

pub waits_on : (floor : Description) (i : Item) (old mid new : Knowledge) → HasWaited old mid
    → new ≡ seeing new.seen mid → FindsOut floor i mid new → HasWaited old new
waits_on floor i old mid new h view out =
    let m = out.moment in
    let same : mid.thread ≡ old.thread = ap (λ (k : Knowledge). k.thread) h.view in
    let since : IsSeenBy old.thread mid.seen new.seen =
    subst (λ (z : ℕ × List Step). IsSeenBy z.0 mid.seen z.1) (λ k. (same k, sym m.seen k)) m.since in
    record {
      view = view ∙ ap (seeing new.seen) h.view;
      since = seen_on old.thread old.seen mid.seen new.seen h.since since;
    }

-- who takes it then takes it from what it knew before
pub takes_then : (floor : Description) (i : Item) (j : ℕ) (old mid new : Knowledge) → HasWaited old mid
    → Takes floor i j mid new → Takes floor i j old new
takes_then floor i j old mid new h taken =
    let t : Takes floor i j (seeing mid.seen old) new = subst (λ (k : Knowledge). Takes floor i j k new) h.view taken in
    record {
      value = t.value;
      view = t.view;
      step = sooner floor (TakesItem old.thread i ∷ []) mid.seen old new h.since t.step;
      kind = t.kind;
    }

-- 4. Records

-- a thread's record is in the place of its number
pub record_at : (floor : Description) (t : ℕ) → t < length floor.threads → slot_of floor (RecordOf t) ≡ Some t
record_at floor t low = ap (λ b. cond b (Some t) None) (lt-ltb t (length floor.threads) low)

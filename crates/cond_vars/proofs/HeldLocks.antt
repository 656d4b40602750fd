-- What a thread knows of the locks that it holds, where it makes a step: they are locks of the floor, none stands
-- twice, and a mutex is held exclusively.
use Rattle.std.proofs.Common.{◌≡◌, ◌≢◌, ℕ, ◌<◌, ◌≤◌, Bool, true, false, not, ◌&&◌, cond, eqb, length, suc, ◌-◌, slice_get, Some, List, [], ◌∷◌, ◌++◌, refl, sym, ap, ◌∙◌, arith}
use Rattle.std.proofs.lemmas.Bool.{eqb-true}
use Rattle.std.proofs.lemmas.Option.{same_Some}
use Rattle.lock_laws.proofs.HeldLists.{Apart, last_is, hold_in-without, gained_order-push}
use Rattle.lock_laws.proofs.Kit.{sum_below-at}
use Rattle.lock_laws.proofs.SeenWords.{unshared}
use Rattle.lock_model.specs.Counts.{sum_below}
use Rattle.lock_model.specs.Holds.{Hold, NotHeld, Holds}
use Rattle.lock_model.specs.Operations.{hold_in, is_last, without_lock}
use Rattle.lock_model.specs.Words.{Holder, Free, HeldBy, SharedBy, sharers}
use Rattle.lock_model.specs.declared.event.Held.{Held}
use Rattle.lock_model.specs.declared.plan.Kind.TheVariants.{Mtx}
use Rattle.lock_model.specs.declared.plan.Mode.{Mode}
use Rattle.lock_model.specs.declared.plan.Mode.TheVariants.{Excl, Shared}
use Rattle.lock_objects.proofs.Held.{apart_once}
use Rattle.lock_state.specs.Facts.{OnlyLocksAreHeld, WordsMatchHolders}
use Rattle.lock_state.specs.Facts.Words.{shares}
use Rattle.lock_state.specs.State.{State, HeldLock, gained_order}
use Rattle.lock_state.specs.Steps.{Step, IsReachable, begins, goes_on}
use Rattle.floor_table.specs.Descriptions.{config_in}
use Rattle.floor_table.specs.Past.{LeadsTo, none, more}
use Rattle.floor_table.specs.Steps.{Makes}
use Rattle.floor_table.specs.Views.{Knowledge}
use Rattle.floor_table.specs.declared.description.Description.{Description}
use Rattle.lock_floor.proofs.Finding.{held_then, share_then}

-- the state was reached by steps
reachable : (floor : Description) {past : List Step} {s : State} → LeadsTo floor past s
    → IsReachable (config_in floor) s
reachable floor none = begins
reachable floor (more step r allowed) = goes_on (reachable floor r) (step, allowed.fits.may, refl)

module _ (floor : Description) (steps : List Step) (old new : Knowledge) (m : Makes floor steps old new) where
  pub apart : Apart old.share.held
  apart = apart_once old.share.held (share_then floor steps old new m).held_once

  module _ (l : ℕ) (mode : Mode) (held : hold_in old.share.held l ≡ Holds mode) where
    holds : m.state.held old.thread l ≡ Holds mode
    holds = held_then floor steps old new m l ∙ held

    pub its_lock : l < length floor.locks
    unfolding OnlyLocksAreHeld
    its_lock = m.sound.taken.only_locks_are_held old.thread l mode holds

    pub held_alone : old.thread < length floor.threads → (config_in floor).kind l ≡ Mtx → mode ≡ Excl
    unfolding WordsMatchHolders
    held_alone low mutex = go mode holds
      where
        counted : sum_below (length floor.threads) (λ t. shares (m.state.held t l)) ≡ sharers (m.state.word l).holder
        counted = (m.sound.facts.lawful.words.words_match_holders l).sharers_are_counted

        go : (x : Mode) → m.state.held old.thread l ≡ Holds x → x ≡ Excl
        go Excl e = refl
        go Shared e = absurd (nobody (m.state.word l).holder refl)
          where
            some_share : 1 ≤ sum_below (length floor.threads) (λ t. shares (m.state.held t l))
            some_share = omega (
              arith,
              sum_below-at (length floor.threads) (λ t. shares (m.state.held t l)) old.thread
                  low,
              ap shares e,
            )

            nobody : (x : Holder) → (m.state.word l).holder ≡ x → ⊥
            nobody Free is = omega (arith, some_share, counted, ap sharers is)
            nobody (HeldBy u) is = omega (arith, some_share, counted, ap sharers is)
            nobody (SharedBy n) is =
                unshared (config_in floor) m.state l n (reachable floor m.sound.reached) mutex is

both_true : (b x : Bool) → (b && x) ≡ true → b ≡ true
both_true true x e = refl
both_true false x e = absurd (let z : false ≡ true = e in cc)

first_held : (l : ℕ) (h : Held) (b x : Bool) → (b && x) ≡ true → cond b (Holds h.mode) NotHeld ≡ NotHeld → ⊥
first_held l h true x both free = let z : Holds h.mode ≡ NotHeld = free in cc
first_held l h false x both free = let z : false ≡ true = both in cc

behind_first : (l : ℕ) (h : Held) (y : Hold) (b : Bool) → cond b (Holds h.mode) y ≡ NotHeld → y ≡ NotHeld
behind_first l h y true free = absurd (let z : Holds h.mode ≡ NotHeld = free in cc)
behind_first l h y false free = free

-- the lock that was gained last is held
pub last_held : (l : ℕ) (hs : List Held) → is_last l hs ≡ true → hold_in hs l ≢ NotHeld
last_held l [] e free = absurd cc
last_held l (h ∷ []) e free = absurd (first_held l h (eqb h.l.0 l) (not h.by_try) e free)
last_held l (h ∷ g ∷ hs) e free = last_held l (g ∷ hs) e (behind_first l h (hold_in (g ∷ hs) l) (eqb h.l.0 l) free)

-- and it is that of the last place
pub last_lock : (l : ℕ) (hs : List Held) (h : Held) → slice_get hs (length hs - 1) ≡ Some h → is_last l hs ≡ true
    → h.l.0 ≡ l
last_lock l [] h at e = absurd cc
last_lock l (x ∷ []) h at e =
    let same : x ≡ h = same_Some x h at in
    sym (ap (λ (y : Held). y.l.0) same) ∙ eqb-true x.l.0 l (both_true (eqb x.l.0 l) (not x.by_try) e)
last_lock l (x ∷ y ∷ ys) h at e =
    let before : suc (length (y ∷ ys) - 1) ≡ length (x ∷ y ∷ ys) - 1 = omega arith in
    last_lock l (y ∷ ys) h (ap (slice_get (x ∷ y ∷ ys)) before ∙ at) e

-- it stands at the end, in the mode in which it is held
pub held_at_end : (l : ℕ) (mode : Mode) (hs : List Held) → is_last l hs ≡ true → Apart hs → hold_in hs l ≡ Holds mode
    → without_lock l hs ++ record { l = record { 0 = l }; mode = mode; by_try = false } ∷ [] ≡ hs
held_at_end l mode hs last apart held = last_is (record { 0 = l }) mode hs last apart held

pub gained_last : (l : ℕ) (hs : List Held) → is_last l hs ≡ true → Apart hs → (others : List HeldLock)
    × (gained_order hs ≡ record { lock = l; by_try = false } ∷ others)
gained_last l hs last apart = go (hold_in hs l) refl
  where
    go : (x : Hold) → hold_in hs l ≡ x → (others : List HeldLock)
        × (gained_order hs ≡ record { lock = l; by_try = false } ∷ others)
    go NotHeld e = absurd (last_held l hs last e)
    go (Holds mode) e = (
      gained_order (without_lock l hs),
      ap gained_order (sym (held_at_end l mode hs last apart e))
          ∙ gained_order-push (without_lock l hs) (record { l = record { 0 = l }; mode = mode; by_try = false }),
    )

-- behind its release it isn't held, and the others are as before
pub others_held : (l : ℕ) (hs : List Held) → Apart hs → (k : ℕ)
    → hold_in (without_lock l hs) k ≡ cond (eqb l k) NotHeld (hold_in hs k)
others_held l hs apart k = hold_in-without l hs k apart

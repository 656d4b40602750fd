-- A lock is given up within a wait: a release that isn't noted, and begins with a look.
use Rattle.lock_calls.proofs.Names
use Names.{ℕ, Bool, true, false, List, [], eqb, eq-eqb, refl, sym, ap, subst, arith, NotHeld, Holds, hold_in, word_of}
use Names.{IsWellFormed, is_drop, Held, LockNo, Mode, Excl, Shared, Looks, Description, Makes, MakesEach, Knowledge}
use Names.{seeing, ReleaseAt, ComesTo, Wakes, GivesUp, counts, looked, counts_not, waits_none, by_word, BeginsGivingUp}
use Names.{HasWokenOne, IsReleased, IsReleasing, ReleasesOn, once_released, Release, ByDrop, InSection, IsGivingUpIn}
use Names.{releases_by, IsOwn, MayPutDown}
use Rattle.std.proofs.Common.{◌≡◌, ◌≢◌, ◌∷◌, ◌++◌, ◌∙◌}
use Rattle.std.specs.Prelude.{if◌then◌else◌}
use Rattle.lock_floor.specs.declared.calls.ReleaseAt.TheVariants as places
use Rattle.lock_floor.specs.Relocks.{MayRelease}
use Rattle.lock_calls.proofs.Leaving.{leaving_behind, looks_on}
use Rattle.lock_calls.proofs.Let as let_go
use Rattle.lock_calls.proofs.Let.{IsSoOften}
use Rattle.lock_calls.proofs.Owned.{saw_own}

-- 1. What it begins with

-- the lock that a wait gives up is held
pub last_is_held : (hs : List Held) (h : Held) (l : ℕ) → h.l.0 ≡ l → hold_in (hs ++ h ∷ []) l ≢ NotHeld
last_is_held [] h l is none = go (eqb h.l.0 l) (eq-eqb h.l.0 l is) none
  where
    go : (b : Bool) → b ≡ true → (if b then Holds h.mode else NotHeld) ≡ NotHeld → ⊥
    go true e q = let z : Holds h.mode ≡ NotHeld = q in cc
    go false e q = let z : false ≡ true = e in cc
last_is_held (g ∷ hs) h l is none = go (eqb g.l.0 l) (last_is_held hs h l is) none
  where
    go : (b : Bool) → hold_in (hs ++ h ∷ []) l ≢ NotHeld
        → (if b then Holds g.mode else hold_in (hs ++ h ∷ []) l) ≡ NotHeld → ⊥
    go true later q = let z : Holds g.mode ≡ NotHeld = q in cc
    go false later q = later q

module _ (floor : Description) (l : ℕ) (v : Knowledge) (r : MayRelease floor l v) where
  pub is_held : hold_in v.share.held l ≢ NotHeld
  is_held none = last_is_held r.before r.last l r.lock (ap (λ hs. hold_in hs l) (sym r.held) ∙ none)

  pub may_give_up : (mode : Mode) → hold_in v.share.held l ≡ Holds mode → MayPutDown floor l mode v
  may_give_up mode held = assumption (held, r.takes, r)

module _ (floor : Description) (l : LockNo) (mode : Mode) (v w : Knowledge) (m : MayPutDown floor l.0 mode v) (seen : ℕ)
    (formed : IsWellFormed (word_of seen)) (view : w ≡ seeing w.seen (looked v l.0 (word_of seen)))
    (look : Makes floor (Looks v.thread l.0 (counts v l.0) ∷ []) v w) where
  still : MayPutDown floor l.0 mode w
  still = leaving_behind floor l.0 mode v w (word_of seen) view m

  kept : once_released l.0 ComesTo w ≡ once_released l.0 ComesTo v
  kept = ap (once_released l.0 ComesTo) (looks_on floor l.0 mode v w (word_of seen) view m.no_round m.held)

  looks : Makes floor (Looks v.thread l.0 false ∷ []) v w
  looks = subst (λ b. Makes floor (Looks v.thread l.0 b ∷ []) v w) (counts_not floor v l.0 mode m.no_round m.held) look

  -- so it may stand where the word lets it
  there_by_word : IsReleasing floor l.0 mode (by_word seen) w
  there_by_word = go (is_drop (word_of seen)) refl
    where
      go : (b : Bool) → is_drop (word_of seen) ≡ b
          → IsReleasing floor l.0 mode (if b then places.Drops seen else ComesTo) w
      go true drops = record {
        may = still;
        own = subst (λ t. IsOwn t mode seen) (sym (ap (λ (k : Knowledge). k.thread) view))
            (saw_own floor l.0 mode seen (counts v l.0) v w m.held formed view look);
        drops = drops;
      }
      go false stays = still

  kept_by_word : once_released l.0 (by_word seen) w ≡ once_released l.0 ComesTo v
  kept_by_word = go (is_drop (word_of seen))
    where
      go : (b : Bool) → once_released l.0 (if b then places.Drops seen else ComesTo) w ≡ once_released l.0 ComesTo v
      go true = kept
      go false = kept

  pub begins_by_word : (at : ReleaseAt) → at ≡ by_word seen → BeginsGivingUp floor l mode at v w
  begins_by_word at is = record {
    seen = seen;
    saw = ap (λ (k : Knowledge). k.share.doing.last_look) view;
    by_it = is;
    there = subst (λ a. IsReleasing floor l.0 mode a w) (sym is) there_by_word;
    kept = ap (λ a. once_released l.0 a w) is ∙ kept_by_word;
    held = ap (λ (k : Knowledge). k.share.held) view;
    look = looks;
  }

-- 2. Where it stands

-- behind the look one exchange is made outside the section at most
given_in : (mode : Mode) (how : Release) → IsSoOften 2 mode how → IsGivingUpIn mode how
given_in Excl (ByDrop k) often = omega (arith, often.0, often.1 refl)
given_in Excl (InSection k n opens ms) often = (often.0, often.1 refl)
given_in Shared (ByDrop k) often = often.0
given_in Shared (InSection k n opens ms) often = often.0

-- what it has made since it began, and what stays
pub record GivesUpSince (floor : Description) (l : LockNo) (mode : Mode) (begun : Knowledge) (at : ReleaseAt)
    (now : Knowledge) : Type 0 where
  pub there : IsReleasing floor l.0 mode at now
  pub kept : once_released l.0 at now ≡ once_released l.0 ComesTo begun
  pub is_at : let_go.IsAt floor l mode 2 begun.thread begun.share.held begun at now

module _ (floor : Description) (l : LockNo) (mode : Mode) (begun : Knowledge) where
  abbrev t : ℕ
  t = begun.thread

  abbrev hs : List Held
  hs = begun.share.held

  module _ (now : Knowledge) where
    pub given_first : (at : ReleaseAt) → BeginsGivingUp floor l mode at begun now
        → GivesUpSince floor l mode begun at now
    given_first at b = assumption (
      subst (λ a. let_go.IsAt floor l mode 2 t hs begun a now) (sym b.by_it) (go (is_drop (word_of b.seen))),
      b,
    )
      where
        first : let_go.HasMissed floor l mode 2 t begun now
        first = record { k = 1; some = omega arith; few = λ e. omega arith; each = (now, b.look, refl) }

        go : (c : Bool) → let_go.IsAt floor l mode 2 t hs begun (if c then places.Drops b.seen else ComesTo) now
        go true = record {
          came = now;
          has_let = (first, λ e. omega arith);
          waited = waits_none now;
          held = b.held;
          settled = λ e nobody. refl;
        }
        go false = record {
          came = now;
          has_let = first;
          waited = waits_none now;
          held = b.held;
          settled = λ e nobody. refl;
        }

  module _ (at : ReleaseAt) (now new : Knowledge) (s : GivesUpSince floor l mode begun at now) where
    its : now.thread ≡ t
    its = ap (λ (k : Knowledge). k.thread) s.kept

    pub given_on : (to : ReleaseAt) → ReleasesOn floor l mode at to now new → GivesUpSince floor l mode begun to new
    given_on to on = assumption (
      on.kept ∙ s.kept,
      let_go.goes_on floor l mode 2 t hs begun now new its at to s.is_at on.leg,
      on,
    )

    pub given_waking : (u : ℕ) → HasWokenOne floor l.0 at u now new → GivesUpSince floor l mode begun Wakes new
    given_waking u x = record {
      there = x.down;
      kept = x.kept ∙ subst (λ a. once_released l.0 a now ≡ once_released l.0 ComesTo begun) x.at_end s.kept;
      is_at = let_go.wakes_on floor l mode 2 t hs begun now new its u
          (subst (λ a. let_go.IsAt floor l mode 2 t hs begun a now) x.at_end s.is_at) x.wakes;
    }

    -- 3. Its end

    pub given_up : MayRelease floor l.0 begun → IsReleased floor l mode at now new → GivesUp l.0 begun new
    given_up r d =
        let kept : once_released l.0 Wakes new ≡ once_released l.0 ComesTo begun = d.kept ∙ s.kept in
        record {
          keeps = record {
            role = ap (λ (k : Knowledge). k.role) kept;
            thread = ap (λ (k : Knowledge). k.thread) kept;
            log = ap (λ (k : Knowledge). k.share.log) kept;
            spare = ap (λ (k : Knowledge). k.spare) kept;
            noted = ap (λ (k : Knowledge). k.share.doing.noted) kept;
            woken_from = ap (λ (k : Knowledge). k.share.doing.woken_from) kept;
          };
          unburdened = assumption (
            ap (λ (k : Knowledge). k.share.doing.walk) kept ∙ r.unburdened.no_walk,
            d.nobody,
            d.down.may,
          );
          held = ap (λ (k : Knowledge). k.share.held) kept;
          begun = ap (λ (k : Knowledge). k.share.begun) kept;
          pose = ap (λ (k : Knowledge). k.pose) kept;
          wants = ap (λ (k : Knowledge). k.share.doing.wanted) kept;
          looks = ap (λ (k : Knowledge). k.share.doing.looks) kept;
          takes = ap (λ (k : Knowledge). k.share.doing.taking) kept ∙ r.takes;
          no_round = ap (λ (k : Knowledge). k.share.doing.round) kept ∙ r.no_round;
        }

    pub given_steps : IsReleased floor l mode at now new → (how : Release) × IsGivingUpIn mode how
        × MakesEach floor (releases_by floor t l.0 mode how) begun new
    given_steps d =
        let end = let_go.ends_at floor l mode 2 t hs begun now new at its s.is_at d.end in
        (end.how, given_in mode end.how end.is_so, end.steps)

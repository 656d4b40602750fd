-- What a thread knows behind each part of its calls.
use Rattle.std.specs.Prelude.{if◌then◌else◌}
use Rattle.std.proofs.Common.{◌≡◌, ℕ, Bool, true, false, ◌<◌, ◌≤◌, [], ◌∷◌, ◌++◌, refl, sym, ap, ◌∙◌, arith}
use Rattle.lock_model.specs.Operations.{without_lock}
use Rattle.lock_model.specs.declared.numbers.LockNo.{LockNo}
use Rattle.lock_model.specs.declared.plan.Mode.{Mode}
use Rattle.lock_model.specs.Words.{word_of, is_drop, is_turnstile}
use Rattle.lock_model.specs.declared.plan.Mode.TheVariants.{Excl, Shared}
use Rattle.floor_table.specs.Descriptions.{config_in}
use Rattle.floor_table.specs.declared.description.Description.{Description}
use Rattle.floor_table.specs.Views.{Knowledge}
use Rattle.lock_floor.specs.declared.calls.Call.TheVariants as calls
use Rattle.lock_floor.specs.declared.calls.ReleaseAt.{ReleaseAt}
use Rattle.lock_floor.specs.declared.calls.ReleaseAt.TheVariants as places
use Rattle.lock_floor.specs.declared.calls.ReleaseAt.TheVariants.{ComesTo, ComesIn, Frees, Wakes}
use Rattle.lock_floor.specs.declared.calls.TakeAt.{TakeAt}
use Rattle.lock_floor.specs.declared.calls.TakeAt.TheVariants.{Checks}
use Rattle.lock_floor.specs.Floors.{Floor, Pass}
use Rattle.lock_floor.specs.Passes.{IsOf, first_pass}
use Rattle.lock_calls.specs.declared.answers.Next.{Next}
use Rattle.lock_calls.specs.declared.answers.Next.TheVariants.{Done, Again, Sleep, Wake, Reversed, Halted}
use Rattle.lock_calls.specs.Choices.{outside}
use Rattle.lock_calls.specs.Releases.{ReleaseEnd, puts_down, nobody_left, ReleaseLeg, misses, takes_chain, comes_in, looks, makes_free, finds_out, HasBegunRelease, StandsInRelease, GoesOnReleasing}
use Rattle.lock_calls.specs.Steps.{as_taken}
use Rattle.lock_calls.specs.Takes.{HasBegunTake, HasTaken, TakesOn, GoesOnTaking}
use Rattle.lock_calls.specs.Waiting.{Kept}
use Rattle.lock_calls.proofs.Refused.{bare_admitted}
use Rattle.lock_calls.proofs.Taken.{under_take_on}
use Rattle.lock_calls.proofs.First.{ready_first}
use Rattle.example_parts.specs.declared.Stage.TheVariants.{Takes, Works, Releases, Rests}
use Rattle.example_parts.specs.Threads.{IsAdmitted, IsForTwo, IsBeginning, IsTaking, IsWorking, IsReleasing, Knows, behind, the_mutex}

-- 1. Its pass as it is made

pub new_begins : (f : Floor Description) → IsForTwo f.description → (t : ℕ) → t < 2
    → IsBeginning f (first_pass f.table f.description t)
new_begins f two t lt = record { ready = ready_first f t; unheld = refl; room = omega (arith, two.room t lt) }

-- what a thread holds, wherever its release of the mutex stands
record HoldsIt (at : ReleaseAt) (v : Knowledge) : Type 0 where
  alone : without_lock 0 v.share.held ≡ []
  gone : at ≡ Wakes → v.share.held ≡ []

-- an exchange that missed outside the section let nothing go
not_let_yet : (mode : Mode) (found : ℕ) → outside mode found ≡ Wakes → ⊥
not_let_yet Excl found e = let z : ComesTo ≡ Wakes = e in cc
not_let_yet Shared found e = go (is_drop (word_of found)) e
  where
    go : (b : Bool) → (if b then places.Drops found else ComesTo) ≡ Wakes → ⊥
    go true q = let z : places.Drops found ≡ Wakes = q in cc
    go false q = let z : ComesTo ≡ Wakes = q in cc

-- at its end it holds nothing
holds_none : (floor : Description) (l : LockNo) (mode : Mode) (at : ReleaseAt) (old new : Knowledge) → l ≡ the_mutex
    → ReleaseEnd floor l mode at old new → HoldsIt at old → new.share.held ≡ []
holds_none floor l mode at old new is_m (puts_down seen freed step) was =
    freed ∙ ap (λ (k : LockNo). without_lock k.0 old.share.held) is_m ∙ was.alone
holds_none floor l mode at old new is_m (nobody_left nobody) was = was.gone refl

holds_on : (floor : Description) (l : LockNo) (mode : Mode) (at to : ReleaseAt) (old new : Knowledge) → l ≡ the_mutex
    → ReleaseLeg floor l mode at to old new → HoldsIt at old → HoldsIt to new
holds_on floor l mode at to old new is_m (misses seen found other same saw step) was = record {
  alone = ap (without_lock 0) same ∙ was.alone;
  gone = λ e. absurd (not_let_yet mode found e);
}
holds_on floor l mode at to old new is_m (takes_chain same step) was = record {
  alone = ap (without_lock 0) same ∙ was.alone;
  gone = λ e. let z : ComesIn ≡ Wakes = e in cc;
}
holds_on floor l mode at to old new is_m (comes_in seen same steps) was = record {
  alone = ap (without_lock 0) same ∙ was.alone;
  gone = λ e. let z : Frees seen ≡ Wakes = e in cc;
}
holds_on floor l mode at to old new is_m (looks seen found other same step) was = record {
  alone = ap (without_lock 0) same ∙ was.alone;
  gone = λ e. let z : Frees found ≡ Wakes = e in cc;
}
holds_on floor l mode at to old new is_m (makes_free seen opens freed steps) was =
    let none : new.share.held ≡ [] =
    freed ∙ ap (λ (k : LockNo). without_lock k.0 old.share.held) is_m ∙ was.alone in
    record { alone = ap (without_lock 0) none; gone = λ e. none }
holds_on floor l mode at to old new is_m (finds_out there i awaits says finds) was =
    let same : new.share.held ≡ old.share.held = ap (λ (k : Knowledge). k.share.held) says in
    record { alone = ap (without_lock 0) same ∙ was.alone; gone = λ e. same ∙ was.gone e }

module _ (f : Floor Description) (p q : Pass Knowledge) (own : IsOf f q) where
  -- 2. A take

  has_taken : (l : LockNo) (mode : Mode) → l ≡ the_mutex → mode ≡ Excl → p.view.share.held ≡ []
      → 2 ≤ p.view.spare → HasTaken f.description l mode p.view q.view → IsWorking f q
  has_taken l mode is_m is_excl unheld room taken = record {
    ready = record { own = own; rest = taken.rest };
    held =
        taken.entry.held ∙ ap (λ hs. hs ++ as_taken l mode ∷ []) unheld
        ∙ ap (λ k. as_taken k mode ∷ []) is_m ∙ ap (λ m. as_taken the_mutex m ∷ []) is_excl;
    room = omega (arith, room, taken.entry.spare);
  }

  pub take_begins : (next : Next) → IsBeginning f p → HasBegunTake f.description the_mutex Excl next p q
      → Knows f (behind next Takes (Works 200)) q
  take_begins Done was begun = has_taken the_mutex Excl refl refl was.unheld was.room begun.taken
  take_begins Again was begun = record {
    own = own;
    under_way = record { l = the_mutex; mode = Excl; at = Checks; call = begun.call; there = begun.there };
    lock = refl;
    unheld = ap (λ (k : Kept). k.held) begun.kept ∙ was.unheld;
    room = omega (arith, was.room, ap (λ (k : Kept). k.spare) begun.kept);
  }
  take_begins Sleep was begun = absurd begun
  take_begins (Wake t) was begun = absurd begun
  take_begins (Reversed r) was begun = absurd begun
  take_begins Halted was begun = absurd begun

  pub take_begins_admitted : (next : Next) → HasBegunTake f.description the_mutex Excl next p q → IsAdmitted next
  take_begins_admitted Done begun = tt
  take_begins_admitted Again begun = tt
  take_begins_admitted Sleep begun = tt
  take_begins_admitted (Wake t) begun = tt
  take_begins_admitted (Reversed r) begun = begun
  take_begins_admitted Halted begun = begun

  takes_still : (was : IsTaking f p) (to : TakeAt)
      → q.call ≡ calls.Take was.under_way.l was.under_way.mode to
      → TakesOn f.description was.under_way.l was.under_way.mode was.under_way.at to p.view q.view → IsTaking f q
  takes_still was to call on =
      let m = was.under_way in
      record {
        own = own;
        under_way = record {
          l = m.l;
          mode = m.mode;
          at = to;
          call = call;
          there = under_take_on f.description m.l m.mode m.at to p.view q.view m.there on;
        };
        lock = was.lock;
        unheld = ap (λ (k : Kept). k.held) on.kept ∙ was.unheld;
        room = omega (arith, was.room, ap (λ (k : Kept). k.spare) on.kept);
      }

  -- the mutex has a turnstile
  on_turnstile : IsForTwo f.description → (was : IsTaking f p)
      → is_turnstile ((config_in f.description).kind was.under_way.l.0) ≡ true
  on_turnstile two was =
      ap is_turnstile (ap (λ (k : LockNo). (config_in f.description).kind k.0) was.lock ∙ two.mutex.kind)

  -- who holds nothing is never refused, and no sleep on a turnstile is halted
  pub take_admitted : (next : Next) → IsForTwo f.description → IsTaking f p
      → ((l : LockNo) (mode : Mode) (at : TakeAt) → p.call ≡ calls.Take l mode at
      → GoesOnTaking f.description l mode at next p q)
      → IsAdmitted next
  take_admitted Done two was went = tt
  take_admitted Again two was went = tt
  take_admitted Sleep two was went = tt
  take_admitted (Wake t) two was went = tt
  take_admitted (Reversed r) two was went =
      let m = was.under_way in
      bare_admitted f.description m.l r.held p.view q.view was.unheld (went m.l m.mode m.at m.call).refused.steps
  take_admitted Halted two was went =
      let m = was.under_way in
      let z : true ≡ false = sym (on_turnstile two was) ∙ (went m.l m.mode m.at m.call).halted.sleeps in
      absurd cc

  pub take_goes_on : (next : Next) → IsForTwo f.description → IsTaking f p
      → ((l : LockNo) (mode : Mode) (at : TakeAt) → p.call ≡ calls.Take l mode at
      → GoesOnTaking f.description l mode at next p q)
      → Knows f (behind next Takes (Works 200)) q
  take_goes_on Done two was went =
      let m = was.under_way in
      has_taken m.l m.mode was.lock
      (m.there.covered.mutex (ap (λ (k : LockNo). (config_in f.description).kind k.0) was.lock ∙ two.mutex.kind))
      was.unheld was.room (went m.l m.mode m.at m.call).1
  take_goes_on Again two was went =
      let s = went was.under_way.l was.under_way.mode was.under_way.at was.under_way.call in
      takes_still was s.to s.call s.on
  take_goes_on Sleep two was went =
      let s = went was.under_way.l was.under_way.mode was.under_way.at was.under_way.call in
      takes_still was s.to s.call s.on
  take_goes_on (Wake t) two was went =
      let s = went was.under_way.l was.under_way.mode was.under_way.at was.under_way.call in
      takes_still was s.to s.call s.wakes.on
  take_goes_on (Reversed r) two was went = absurd (take_admitted (Reversed r) two was went)
  take_goes_on Halted two was went = absurd (take_admitted Halted two was went)

  -- 3. A release

  pub release_begins : (next : Next) → IsWorking f p → HasBegunRelease f.description the_mutex Excl next p q
      → Knows f (behind next Releases Rests) q
  release_begins Done was begun = record {
    ready = record { own = own; rest = begun.1.rest };
    unheld = begun.1.entry.held ∙ ap (without_lock 0) was.held;
  }
  release_begins Again was begun = record {
    own = own;
    under_way = record { l = the_mutex; mode = Excl; at = ComesTo; call = begun.call; there = begun.there };
    lock = refl;
    alone = ap (without_lock 0) (begun.entry.held ∙ was.held);
    gone = λ e. let z : ComesTo ≡ Wakes = e in cc;
  }
  release_begins Sleep was begun = absurd begun
  release_begins (Wake t) was begun = absurd begun
  release_begins (Reversed r) was begun = absurd begun
  release_begins Halted was begun = absurd begun

  pub release_begins_admitted : (next : Next) → HasBegunRelease f.description the_mutex Excl next p q → IsAdmitted next
  release_begins_admitted Done begun = tt
  release_begins_admitted Again begun = tt
  release_begins_admitted Sleep begun = tt
  release_begins_admitted (Wake t) begun = tt
  release_begins_admitted (Reversed r) begun = begun
  release_begins_admitted Halted begun = begun

  releases_still : (was : IsReleasing f p)
      → StandsInRelease f.description was.under_way.l was.under_way.mode was.under_way.at p q → IsReleasing f q
  releases_still was s =
      let m = was.under_way in
      let holds : HoldsIt s.to q.view =
      holds_on f.description m.l m.mode m.at s.to p.view q.view was.lock s.on.leg
      (record { alone = was.alone; gone = was.gone }) in
      record {
        own = own;
        under_way = record {
          l = m.l;
          mode = m.mode;
          at = s.to;
          call = s.call;
          there = s.there;
        };
        lock = was.lock;
        alone = holds.alone;
        gone = holds.gone;
      }

  pub release_goes_on : (next : Next) → IsReleasing f p
      → ((l : LockNo) (mode : Mode) (at : ReleaseAt) → p.call ≡ calls.Release l mode at
      → GoesOnReleasing f.description l mode at next p q)
      → Knows f (behind next Releases Rests) q
  release_goes_on Done was went =
      let m = was.under_way in
      let end = went m.l m.mode m.at m.call in
      record {
        ready = record { own = own; rest = end.rest };
        unheld = holds_none f.description m.l m.mode m.at p.view q.view was.lock end.released.end
            (record { alone = was.alone; gone = was.gone });
      }
  release_goes_on Again was went =
      releases_still was (went was.under_way.l was.under_way.mode was.under_way.at was.under_way.call)
  release_goes_on Sleep was went =
      absurd (went was.under_way.l was.under_way.mode was.under_way.at was.under_way.call)
  release_goes_on (Wake t) was went =
      let m = was.under_way in
      let one = went m.l m.mode m.at m.call in
      let none : q.view.share.held ≡ [] =
      ap (λ (k : Knowledge). k.share.held) one.woken.wakes.view ∙ was.gone one.woken.at_end in
      record {
        own = own;
        under_way = record {
          l = m.l;
          mode = m.mode;
          at = Wakes;
          call = one.call;
          there = one.there;
        };
        lock = was.lock;
        alone = ap (without_lock 0) none;
        gone = λ e. none;
      }
  release_goes_on (Reversed r) was went =
      absurd (went was.under_way.l was.under_way.mode was.under_way.at was.under_way.call)
  release_goes_on Halted was went =
      absurd (went was.under_way.l was.under_way.mode was.under_way.at was.under_way.call)

  pub release_admitted : (next : Next) → IsReleasing f p
      → ((l : LockNo) (mode : Mode) (at : ReleaseAt) → p.call ≡ calls.Release l mode at
      → GoesOnReleasing f.description l mode at next p q)
      → IsAdmitted next
  release_admitted Done was went = tt
  release_admitted Again was went = tt
  release_admitted Sleep was went = tt
  release_admitted (Wake t) was went = tt
  release_admitted (Reversed r) was went =
      went was.under_way.l was.under_way.mode was.under_way.at was.under_way.call
  release_admitted Halted was went = went was.under_way.l was.under_way.mode was.under_way.at was.under_way.call

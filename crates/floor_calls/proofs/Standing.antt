-- At which stage a thread is behind a part of its call, and what is so of it there.
use Rattle.floor_calls.proofs.Names
use Names.{ℕ, Bool, [], Option, Some, None, refl, sym, ap, subst, arith, rests_done, GoesOnWaking, MayWakeUp, Knowledge}
use Names.{Description, under_take_on, outside, IsInRelease, HasBegunRelease, IsInTake, TakesOn, HasBegunTake, IsInTry}
use Names.{HasBegunTry, Kept, IsCalling, PartNext, TryNext, rest_seeing, Floor, Pass, with_marks, IsAtRest, IsOf}
use Names.{IsReady, Wakes, TakeAt, Checks, TriesAt, ChanNo, LockNo, Mode, HasBegunWake, Makes, TakeWent, TryWent}
use Names.{ReleaseWent, stage_behind, stage_of_begun, told, told_of_try, IsAt, Next, Stage, Takes, Tries, Releases}
use Rattle.std.proofs.Common.{◌≡◌, ◌∙◌}
use Rattle.cond_vars.specs.declared.waking.WakeNext.TheVariants as wake
use Rattle.halting.specs.declared.ending.EndAt.TheVariants as places
use Rattle.halting.specs.declared.ending.EndNext.TheVariants as end
use Rattle.lock_calls.specs.declared.answers.Next.TheVariants as part
use Rattle.lock_calls.specs.declared.trying.TryNext.TheVariants as try
use Rattle.lock_floor.specs.declared.calls.Call.TheVariants as calls

-- 1. How a part is told

-- a part was made, and is told just as it is
pub made : {A : Type 0} {told_as : A → Next} {behind : A → Stage}
    {Did : A → Pass Knowledge → Pass Knowledge → Type 0} {p q : Pass Knowledge} (part : A) → Did part p q
    → Makes A told_as behind Did (told_as part) (behind part) p q
made part did = record { part = part; tells = refl; stands = refl; did = did }

-- where that is the stage the thread stands at it
pub at_stage : (f : Floor Description) (q : Pass Knowledge) {stage is : Stage} → stage ≡ is → IsAt f is q
    → IsAt f stage q
at_stage f q e at = subst (λ (s : Stage). IsAt f s q) (sym e) at

-- a part of a lock's call was told so, with the stage behind it
module _ {A : Type 0} (told_as : A → Next) (on : Stage) (part : A) {t : Next} {r : Next × Stage}
    (tells : t ≡ told_as part) (is : r ≡ (t, stage_behind on t)) where
  comes : r ≡ (told_as part, stage_behind on (told_as part))
  comes = is ∙ ap (λ (n : Next). (n, stage_behind on n)) tells

  pub stands_behind : (f : Floor Description) (q : Pass Knowledge) → IsAt f (stage_behind on (told_as part)) q
      → IsAt f r.1 q
  stands_behind f q at = at_stage f q (ap (λ (z : Next × Stage). z.1) comes) at

  pub is_told : {Did : A → Pass Knowledge → Pass Knowledge → Type 0} {p q : Pass Knowledge} → Did part p q
      → Makes A told_as (λ a. stage_behind on (told_as a)) Did r.0 r.1 p q
  is_told did = record {
    part = part;
    tells = ap (λ (z : Next × Stage). z.0) comes;
    stands = ap (λ (z : Next × Stage). z.1) comes;
    did = did;
  }

-- both are so
pub both : {next n : Next} {stage s : Stage} → next ≡ n → stage ≡ s
    → ◌≡◌ {A = Next × Stage} (next, stage) (n, s)
both e d = cc

module _ (f : Floor Description) (p q : Pass Knowledge) (own : IsOf f q) where
  -- 2. A take

  pub take_begins : (l : LockNo) (mode : Mode) (next : PartNext) → HasBegunTake f.description l mode next p q
      → IsAt f (stage_behind Takes (told next)) q
  take_begins l mode part.Done begun = record { own = own; rest = begun.taken.rest }
  take_begins l mode part.Again begun = (
    own,
    record { l = l; mode = mode; at = Checks; call = begun.call; there = begun.there },
  )
  take_begins l mode part.Sleep begun = absurd begun
  take_begins l mode (part.Wake t) begun = absurd begun
  take_begins l mode (part.Reversed r) begun = absurd begun
  take_begins l mode part.Halted begun = absurd begun

  takes_still : (m : IsInTake f.description p) (to : TakeAt) → q.call ≡ calls.Take m.l m.mode to
      → TakesOn f.description m.l m.mode m.at to p.view q.view → IsAt f Takes q
  takes_still m to call on = (
    own,
    record {
      l = m.l;
      mode = m.mode;
      at = to;
      call = call;
      there = under_take_on f.description m.l m.mode m.at to p.view q.view m.there on;
    },
  )

  pub take_goes_on : (next : PartNext) → IsInTake f.description p → TakeWent f.description next p q
      → IsAt f (stage_behind Takes (told next)) q
  take_goes_on part.Done m went = record { own = own; rest = (went m.l m.mode m.at m.call).1.rest }
  take_goes_on part.Again m went = let s = went m.l m.mode m.at m.call in takes_still m s.to s.call s.on
  take_goes_on part.Sleep m went = let s = went m.l m.mode m.at m.call in takes_still m s.to s.call s.on
  take_goes_on (part.Wake t) m went = let s = went m.l m.mode m.at m.call in takes_still m s.to s.call s.wakes.on
  take_goes_on (part.Reversed r) m went = record { own = own; rest = (went m.l m.mode m.at m.call).refused.rest }
  take_goes_on part.Halted m went = record { own = own; rest = (went m.l m.mode m.at m.call).halted.rest }

  -- 3. A try

  pub try_begins : (l : LockNo) (mode : Mode) (next : TryNext) → HasBegunTry f.description l mode next p q
      → IsAt f (stage_behind Tries (told_of_try next)) q
  try_begins l mode try.Gained begun = record { own = own; rest = begun.1.rest }
  try_begins l mode (try.Busy seen) begun = record { own = own; rest = begun.1.rest }
  try_begins l mode try.Again begun = (
    own,
    record { l = l; mode = mode; at = TriesAt begun.left; call = begun.call; there = begun.there },
  )

  pub try_goes_on : (next : TryNext) → IsInTry f.description p → TryWent f.description next p q
      → IsAt f (stage_behind Tries (told_of_try next)) q
  try_goes_on try.Gained m went = record { own = own; rest = (went m.l m.mode m.at m.call).1.rest }
  try_goes_on (try.Busy seen) m went = record { own = own; rest = (went m.l m.mode m.at m.call).1.rest }
  try_goes_on try.Again m went =
      let s = went m.l m.mode m.at m.call in (
        own,
        record {
          l = m.l;
          mode = m.mode;
          at = s.to;
          call = s.call;
          there = record {
            covered = m.there.covered;
            calling = subst (IsCalling f.description) (sym s.on.kept) m.there.calling;
            room = omega (arith, m.there.room, ap (λ (k : Kept). k.spare) s.on.kept);
            there = s.on.there;
          };
        },
      )

  -- 4. A release

  pub release_begins : (l : LockNo) (mode : Mode) (next : PartNext) → HasBegunRelease f.description l mode next p q
      → IsAt f (stage_behind Releases (told next)) q
  release_begins l mode part.Done begun = record { own = own; rest = begun.1.rest }
  release_begins l mode part.Again begun = (
    own,
    record { l = l; mode = mode; at = outside mode begun.found; call = begun.call; there = begun.there },
  )
  release_begins l mode part.Sleep begun = absurd begun
  release_begins l mode (part.Wake t) begun = absurd begun
  release_begins l mode (part.Reversed r) begun = absurd begun
  release_begins l mode part.Halted begun = absurd begun

  pub release_goes_on : (next : PartNext) → IsInRelease f.description p → ReleaseWent f.description next p q
      → IsAt f (stage_behind Releases (told next)) q
  release_goes_on part.Done m went = record { own = own; rest = (went m.l m.mode m.at m.call).rest }
  release_goes_on part.Again m went =
      let s = went m.l m.mode m.at m.call in (
        own,
        record { l = m.l; mode = m.mode; at = s.to; call = s.call; there = s.there },
      )
  release_goes_on part.Sleep m went = absurd (went m.l m.mode m.at m.call)
  release_goes_on (part.Wake t) m went =
      let s = went m.l m.mode m.at m.call in (
        own,
        record { l = m.l; mode = m.mode; at = Wakes; call = s.call; there = s.there },
      )
  release_goes_on (part.Reversed r) m went = absurd (went m.l m.mode m.at m.call)
  release_goes_on part.Halted m went = absurd (went m.l m.mode m.at m.call)

  -- 5. A wake

  pub wake_begins : (c : ChanNo) (all : Bool) (part : Option ℕ) → IsReady f p
      → MayWakeUp f.description c.0 p.view → HasBegunWake f.description c all part p q
      → IsAt f (stage_of_begun c all part) q
  wake_begins c all (Some woken) ready may begun = (own, begun.rest)
  wake_begins c all None ready may begun = (
    record {
      own = own;
      rest = subst (IsAtRest f.description) (sym begun.0)
          (rest_seeing f.description p.view q.view.seen ready.rest);
    },
    subst (MayWakeUp f.description c.0) (sym begun.0) (assumption may),
  )

  pub wake_done : IsAtRest f.description (with_marks p.view [])
      → GoesOnWaking f.description wake.Done p.view q.view → IsReady f q
  wake_done rest went = record { own = own; rest = rests_done f.description p.view q.view rest went }

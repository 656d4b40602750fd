-- A thread's log keeps room, part after part of its calls: as each part tells of what the thread holds, and of how many
-- entries it may still make.
use Rattle.floor_calls.proofs.Names
use Names.{ℕ, suc, Bool, true, false, cond, eqb, List, [], length, length-append, Option, Some, None, Ok, Err, Result}
use Names.{refl, sym, ap, subst, arith, WaitPart, takes_chain, misses_chain, lies_down, misses_record, leaves_some}
use Names.{is_last, halts_on, halts_one, has_halted, is_queued, runs_again, woke, was_halted, GoesOnWaking, WaitAt}
use Names.{WaitNext, WakeNext, Knowledge, seeing, Description, GoesOnEnding, kept_to, HaltKept, halt_kept_of, EndAt}
use Names.{EndNext, outside, BeginsGivingUp, HasBegunRelease, ReleasesPart, held_once, once_released, as_taken}
use Names.{HasBegunTake, IsInTake, TakesPart, kept_at, HasBegunTry, IsInTry, as_tried, Kept, kept_of, PartNext}
use Names.{ReleaseNext, TakeNext, TryNext, Floor, Pass, MakesEntry, ReleaseAt, TakeAt, WasOut, NotHeld, Holds, hold_in}
use Names.{without_lock, is_drop, word_of, Event, Held, ChanNo, LockNo, Mode, Excl, Item, Does, EntersAbout, GoesOn}
use Names.{HasBegunWake, ReleaseWent, TakeWent, TryWent, MayCall, HasRoomFor, HasRoomOnceReleased, KeepsRoom}
use Names.{needed_in_wait, stage_behind, stage_of_begun, stage_of_end, stage_of_giving_up, stage_of_taking_back}
use Names.{stage_of_wait, stage_of_wake, told, told_of_try, IsAt, Thread, Request, Take, Try, Release, Edit, Read}
use Names.{SetBase, Show, WakeUp, Wait, End, GoOn, Next, Stage, AtRest, Takes, Tries, Releases, ComesToWake, Waits}
use Names.{ComesToGiveUp, GivesUp, TakesBack, Ends, Ended, WaitOn}
use Rattle.std.proofs.Common.{◌≡◌, ◌≤◌, ◌∷◌, ◌++◌, ◌∙◌}
use Rattle.cond_vars.specs.declared.parts.WaitAt.TheVariants as waiting
use Rattle.cond_vars.specs.declared.waking.WakeNext.TheVariants as wake
use Rattle.halting.specs.declared.ending.EndAt.TheVariants as places
use Rattle.halting.specs.declared.ending.EndNext.TheVariants as end
use Rattle.lock_calls.specs.declared.answers.Next.TheVariants as part
use Rattle.lock_calls.specs.declared.answers.ReleaseNext.TheVariants as given
use Rattle.lock_calls.specs.declared.answers.TakeNext.TheVariants as taken
use Rattle.lock_calls.specs.declared.trying.TryNext.TheVariants as try
use Rattle.lock_floor.specs.declared.calls.ReleaseAt.TheVariants as release
use Rattle.lock_model.specs.declared.plan.Mode.TheVariants.{Shared}
use Rattle.floor_calls.specs.declared.stages.Stage.TheVariants.{Wakes}

-- 1. Locks that are held, and without one of them

pub one_fewer : (l : ℕ) (mode : Mode) (hs : List Held) → hold_in hs l ≡ Holds mode
    → suc (length (without_lock l hs)) ≤ length hs
one_fewer l mode [] is = let z : NotHeld ≡ Holds mode = is in absurd cc
one_fewer l mode (h ∷ hs) is = go (eqb h.l.0 l) is (one_fewer l mode hs)
  where
    go : (b : Bool) → cond b (Holds h.mode) (hold_in hs l) ≡ Holds mode
        → (hold_in hs l ≡ Holds mode → suc (length (without_lock l hs)) ≤ length hs)
        → suc (length (cond b hs (h ∷ without_lock l hs))) ≤ suc (length hs)
    go true e less = omega arith
    go false e less = omega (arith, less e)

-- who holds a lock at rest has room for an entry
pub room_to_release : (v : Knowledge) (l : ℕ) (mode : Mode) → hold_in v.share.held l ≡ Holds mode → HasRoomFor 0 v
    → 1 ≤ v.spare
room_to_release v l mode is room = omega (arith, one_fewer l mode v.share.held is, room)

-- a release whose exchange missed has the lock still
once_outside : (l : ℕ) (mode : Mode) (found : ℕ) (hs : List Held)
    → held_once l (outside mode found) hs ≡ without_lock l hs
once_outside l Excl found hs = refl
once_outside l Shared found hs =
    elim (is_drop (word_of found)) as
    (λ b. held_once l (cond b (release.Drops found) release.ComesTo) hs ≡ without_lock l hs) [
      | true ↦ refl
      | false ↦ refl
    ]

-- 2. From what a thread knows to what it knows then

module _ (more : ℕ) (v w : Knowledge) where
  stays : w.share.held ≡ v.share.held → w.spare ≡ v.spare → HasRoomFor more v → HasRoomFor more w
  stays held spare room = omega (arith, room, ap length held, spare)

  sees : w ≡ seeing w.seen v → HasRoomFor more v → HasRoomFor more w
  sees view = stays (ap (λ (k : Knowledge). k.share.held) view) (ap (λ (k : Knowledge). k.spare) view)

  keeps : kept_of w ≡ kept_of v → HasRoomFor more v → HasRoomFor more w
  keeps kept = stays (ap (λ (k : Kept). k.held) kept) (ap (λ (k : Kept). k.spare) kept)

  takes_on : (at to : TakeAt) → kept_at to w ≡ kept_at at v → HasRoomFor more v → HasRoomFor more w
  takes_on at to kept = stays (ap (λ (k : Kept). k.held) kept) (ap (λ (k : Kept). k.spare) kept)

  releases_on : (l : ℕ) (at to : ReleaseAt) → once_released l to w ≡ once_released l at v
      → HasRoomFor more (once_released l at v) → HasRoomFor more (once_released l to w)
  releases_on l at to kept room = subst (HasRoomFor more) (sym kept) room

  wakes_on : (l : ℕ) (at : ReleaseAt) → at ≡ release.Wakes
      → once_released l release.Wakes w ≡ once_released l release.Wakes v
      → HasRoomFor more (once_released l at v) → HasRoomFor more w
  wakes_on l at at_end kept room =
      releases_on l release.Wakes release.Wakes kept
      (subst (λ a. HasRoomFor more (once_released l a v)) at_end room)

  halts : halt_kept_of w ≡ halt_kept_of v → HasRoomFor more v → HasRoomFor more w
  halts kept = stays (ap (λ (k : HaltKept). k.held) kept) (ap (λ (k : HaltKept). k.spare) kept)

  -- an entry was made
  enters : {floor : Description} {e : Event} → MakesEntry floor e v.share.held v w → HasRoomFor (suc more) v
      → HasRoomFor more w
  enters entry room = omega (arith, room, ap length entry.held, entry.spare)

  -- with a gain
  gains : {floor : Description} {e : Event} (h : Held) → MakesEntry floor e (v.share.held ++ h ∷ []) v w
      → HasRoomFor (suc (suc more)) v → HasRoomFor more w
  gains h entry room =
      omega (arith, room, ap length entry.held, entry.spare, length-append v.share.held (h ∷ []))

fewer_needed : (more : ℕ) (v : Knowledge) → HasRoomFor (suc more) v → HasRoomFor more v
fewer_needed more v room = omega (arith, room)

-- 3. At the stage behind a part

module _ (f : Floor Description) (p q : Pass Knowledge) where
  take_begins : (l : LockNo) (mode : Mode) (next : PartNext) → HasBegunTake f.description l mode next p q
      → HasRoomFor 2 p.view → KeepsRoom (stage_behind Takes (told next)) q
  take_begins l mode part.Done begun room = gains 0 p.view q.view (as_taken l mode) begun.taken.entry room
  take_begins l mode part.Again begun room = keeps 2 p.view q.view begun.kept room
  take_begins l mode part.Sleep begun room = absurd begun
  take_begins l mode (part.Wake t) begun room = absurd begun
  take_begins l mode (part.Reversed r) begun room = absurd begun
  take_begins l mode part.Halted begun room = absurd begun

  take_goes_on : (next : PartNext) → IsInTake f.description p → TakeWent f.description next p q
      → HasRoomFor 2 p.view → KeepsRoom (stage_behind Takes (told next)) q
  take_goes_on part.Done m went room =
      gains 0 p.view q.view (as_taken m.l m.mode) (went m.l m.mode m.at m.call).1.entry room
  take_goes_on part.Again m went room =
      let s = went m.l m.mode m.at m.call in takes_on 2 p.view q.view m.at s.to s.on.kept room
  take_goes_on part.Sleep m went room =
      let s = went m.l m.mode m.at m.call in takes_on 2 p.view q.view m.at s.to s.on.kept room
  take_goes_on (part.Wake t) m went room =
      let s = went m.l m.mode m.at m.call in takes_on 2 p.view q.view m.at s.to s.wakes.on.kept room
  take_goes_on (part.Reversed r) m went room =
      fewer_needed 0 q.view (enters 1 p.view q.view (went m.l m.mode m.at m.call).refused.entry room)
  take_goes_on part.Halted m went room =
      fewer_needed 0 q.view (enters 1 p.view q.view (went m.l m.mode m.at m.call).halted.entry room)

  try_begins : (l : LockNo) (mode : Mode) (next : TryNext) → HasBegunTry f.description l mode next p q
      → HasRoomFor 2 p.view → KeepsRoom (stage_behind Tries (told_of_try next)) q
  try_begins l mode try.Gained begun room = gains 0 p.view q.view (as_tried l mode) begun.1.entry room
  try_begins l mode (try.Busy seen) begun room =
      fewer_needed 0 q.view (enters 1 p.view q.view begun.1.entry room)
  try_begins l mode try.Again begun room = keeps 2 p.view q.view begun.kept room

  try_goes_on : (next : TryNext) → IsInTry f.description p → TryWent f.description next p q
      → HasRoomFor 2 p.view → KeepsRoom (stage_behind Tries (told_of_try next)) q
  try_goes_on try.Gained m went room =
      gains 0 p.view q.view (as_tried m.l m.mode) (went m.l m.mode m.at m.call).1.entry room
  try_goes_on (try.Busy seen) m went room =
      fewer_needed 0 q.view (enters 1 p.view q.view (went m.l m.mode m.at m.call).1.entry room)
  try_goes_on try.Again m went room = keeps 2 p.view q.view (went m.l m.mode m.at m.call).on.kept room

  release_begins : (l : LockNo) (mode : Mode) (next : PartNext) → HasBegunRelease f.description l mode next p q
      → hold_in p.view.share.held l.0 ≡ Holds mode → HasRoomFor 0 p.view
      → KeepsRoom (stage_behind Releases (told next)) q
  release_begins l mode part.Done begun held room =
      let entry = begun.1.entry in
      omega (arith, room, one_fewer l.0 mode p.view.share.held held, ap length entry.held, entry.spare)
  release_begins l mode part.Again begun held room = record {
    l = l;
    mode = mode;
    at = outside mode begun.found;
    call = begun.call;
    room =
        let entry = begun.entry in
        omega (
          arith,
          room,
          one_fewer l.0 mode p.view.share.held held,
          ap length (once_outside l.0 mode begun.found q.view.share.held ∙ ap (without_lock l.0) entry.held),
          entry.spare,
        );
  }
  release_begins l mode part.Sleep begun held room = absurd begun
  release_begins l mode (part.Wake t) begun held room = absurd begun
  release_begins l mode (part.Reversed r) begun held room = absurd begun
  release_begins l mode part.Halted begun held room = absurd begun

  release_goes_on : (next : PartNext) → ReleaseWent f.description next p q → HasRoomOnceReleased 0 p
      → KeepsRoom (stage_behind Releases (told next)) q
  release_goes_on part.Done went r =
      releases_on 0 p.view q.view r.l.0 r.at release.Wakes (went r.l r.mode r.at r.call).released.kept r.room
  release_goes_on part.Again went r =
      let s = went r.l r.mode r.at r.call in
      record {
        l = r.l;
        mode = r.mode;
        at = s.to;
        call = s.call;
        room = releases_on 0 p.view q.view r.l.0 r.at s.to s.on.kept r.room;
      }
  release_goes_on part.Sleep went r = absurd (went r.l r.mode r.at r.call)
  release_goes_on (part.Wake t) went r =
      let s = went r.l r.mode r.at r.call in
      record {
        l = r.l;
        mode = r.mode;
        at = release.Wakes;
        call = s.call;
        room = wakes_on 0 p.view q.view r.l.0 r.at s.woken.at_end s.woken.kept r.room;
      }
  release_goes_on (part.Reversed r') went r = absurd (went r.l r.mode r.at r.call)
  release_goes_on part.Halted went r = absurd (went r.l r.mode r.at r.call)

  wake_begins : (c : ChanNo) (all : Bool) (part : Option ℕ) → HasBegunWake f.description c all part p q
      → HasRoomFor 1 p.view → KeepsRoom (stage_of_begun c all part) q
  wake_begins c all None begun room = sees 1 p.view q.view begun.0 room
  wake_begins c all (Some woken) begun room = enters 0 p.view q.view begun.entry room

  wake_goes_on : (part : WakeNext) → GoesOnWaking f.description part p.view q.view → HasRoomFor 0 p.view
      → KeepsRoom (stage_of_wake part) q
  wake_goes_on wake.Done went room = subst (HasRoomFor 0) (sym went.1) room
  wake_goes_on wake.Again went room = sees 0 p.view q.view went.3 room
  wake_goes_on (wake.Wake t) went room =
      stays 0 p.view q.view (ap (λ (k : Knowledge). k.share.held) went.1.view)
      (ap (λ (k : Knowledge). k.spare) went.1.view) room

  makes_at_once : {A : Type 0} (i : Item) (event : A → Event) (part : Result A WasOut)
      → EntersAbout f.description i event part p q → HasRoomFor 1 p.view → HasRoomFor 0 q.view
  makes_at_once i event (Ok found) did room = enters 0 p.view q.view did.0 room
  makes_at_once i event (Err out) did room = fewer_needed 0 q.view (sees 1 p.view q.view did.0 room)

  waits_on : (on : WaitOn) (at : WaitAt) (next : WaitNext) → WaitPart f.description on.c at next p.view q.view
      → HasRoomFor (needed_in_wait at) p.view → KeepsRoom (stage_of_wait on next) q
  waits_on on at next (takes_chain took) room =
      stays 2 p.view q.view (ap (λ (k : Knowledge). k.share.held) took.view)
      (ap (λ (k : Knowledge). k.spare) took.view) room
  waits_on on at next (misses_chain view finds) room = sees 2 p.view q.view view room
  waits_on on at next (lies_down {mid = mid} own lies) room =
      enters 1 mid q.view lies.entry
      (stays 2 p.view mid (ap (λ (k : Knowledge). k.share.held) own.view)
      (ap (λ (k : Knowledge). k.spare) own.view) room)
  waits_on on at next (misses_record view finds) room = sees 2 p.view q.view view room
  waits_on on at next (leaves_some counts kept asleep) room = halts 2 p.view q.view kept room
  waits_on on at next (is_last counts kept nobody) room = halts 2 p.view q.view kept room
  waits_on on at next (halts_on from to went nobody) room = halts 2 p.view q.view went.kept room
  waits_on on at next (halts_one from to t of_floor went other) room = halts 2 p.view q.view went.kept room
  waits_on on at next (has_halted from end) room = halts 2 p.view q.view end.halted.kept room
  waits_on on at next (is_queued view found) room = sees 2 p.view q.view view room
  waits_on on at next (runs_again aborted r) room =
      stays 2 p.view q.view (ap (λ (k : Knowledge). k.share.held) r.view)
      (ap (λ (k : Knowledge). k.spare) r.view) room
  waits_on on at next (woke n) room = enters 0 p.view q.view n.entry room
  waits_on on at next (was_halted n) room = enters 0 p.view q.view n.entry room

  gives_up_first : (on : WaitOn) (at : ReleaseAt) → BeginsGivingUp f.description on.l on.mode at p.view q.view
      → hold_in p.view.share.held on.l.0 ≡ Holds on.mode → HasRoomFor 1 p.view → KeepsRoom (GivesUp on at) q
  gives_up_first on at begins held room =
      releases_on 2 p.view q.view on.l.0 release.ComesTo at begins.kept
      (omega (arith, room, one_fewer on.l.0 on.mode p.view.share.held held))

  gives_up_on : (on : WaitOn) (at : ReleaseAt) (next : ReleaseNext)
      → ReleasesPart f.description on.l on.mode at next p.view q.view
      → HasRoomFor 2 (once_released on.l.0 at p.view) → KeepsRoom (stage_of_giving_up on next) q
  gives_up_on on at given.Done went room =
      releases_on 2 p.view q.view on.l.0 at release.Wakes went.kept room
  gives_up_on on at (given.At to) went room = releases_on 2 p.view q.view on.l.0 at to went.kept room
  gives_up_on on at (given.Wake t) went room = wakes_on 2 p.view q.view on.l.0 at went.at_end went.kept room

  takes_back_on : (on : WaitOn) (aborted : Bool) (at : TakeAt) (next : TakeNext)
      → TakesPart f.description on.l on.mode at next p.view q.view → HasRoomFor 2 p.view
      → KeepsRoom (stage_of_taking_back on aborted next) q
  takes_back_on on aborted at taken.Gained went room =
      let g = went.0 in
      omega (
        arith,
        keeps 2 p.view g.before g.kept room,
        ap (λ (k : Knowledge). length k.share.held) g.view,
        length-append g.before.share.held (as_taken on.l on.mode ∷ []),
        ap (λ (k : Knowledge). k.spare) g.view,
      )
  takes_back_on on aborted at (taken.At to) went room = takes_on 2 p.view q.view at to went.0.kept room
  takes_back_on on aborted at (taken.Wake t to) went room = takes_on 2 p.view q.view at to went.on.kept room

  ended_to : (to : EndAt) → halt_kept_of q.view ≡ kept_to to (halt_kept_of p.view) → HasRoomFor 0 p.view
      → HasRoomFor 0 q.view
  ended_to places.Takes kept room = halts 0 p.view q.view kept room
  ended_to (places.Halts there) kept room =
      stays 0 p.view q.view (ap (λ (k : HaltKept). k.held) kept) (ap (λ (k : HaltKept). k.spare) kept) room

  ends_on : (at : EndAt) (next : EndNext) → GoesOnEnding f.description at next p.view q.view
      → HasRoomFor 0 p.view → KeepsRoom (stage_of_end next) q
  ends_on at end.Done went room =
      stays 0 p.view q.view (ap (λ (k : HaltKept). k.held) went.kept) (ap (λ (k : HaltKept). k.spare) went.kept) room
  ends_on at (end.Again to) went room = ended_to to went.0.kept room
  ends_on places.Takes (end.Wake t to) went room = absurd went
  ends_on (places.Halts there) (end.Wake t to) went room = ended_to to went.0.kept room

  -- 4. Behind a call

  behind : (stage t : Stage) → stage ≡ t → KeepsRoom t q → KeepsRoom stage q
  behind stage t is room = subst (λ s. KeepsRoom s q) (sym is) room

  goes_on : (s stage : Stage) (next : Next) → IsAt f s p → GoesOn f.description s next stage p q → KeepsRoom s p
      → KeepsRoom stage q
  goes_on AtRest stage next at went room = absurd went
  goes_on Takes stage next at went room = behind stage _ went.stands (take_goes_on went.part at.1 went.did room)
  goes_on Tries stage next at went room = behind stage _ went.stands (try_goes_on went.part at.1 went.did room)
  goes_on Releases stage next at went room = behind stage _ went.stands (release_goes_on went.part went.did room)
  goes_on (ComesToWake c all) stage next at went room =
      behind stage _ went.stands (wake_begins c all went.part went.did room)
  goes_on Wakes stage next at went room = behind stage _ went.stands (wake_goes_on went.part went.did room)
  goes_on (Waits on there) stage next at went room =
      behind stage _ went.stands (waits_on on there went.part went.did room)
  goes_on (ComesToGiveUp on) stage next at went room =
      behind stage _ went.stands (gives_up_first on went.part went.did at.1.its.held room)
  goes_on (GivesUp on there) stage next at went room =
      behind stage _ went.stands (gives_up_on on there went.part went.did room)
  goes_on (TakesBack on aborted there) stage next at went room =
      behind stage _ went.stands (takes_back_on on aborted there went.part went.did room)
  goes_on (Ends there) stage next at went room =
      behind stage _ went.stands (ends_on there went.part went.did room)
  goes_on Ended stage next at went room = absurd went

module _ (x y : Thread) (at : IsAt x.floor x.stage x.pass) (room : KeepsRoom x.stage x.pass) where
  resting : x.stage ≡ AtRest → HasRoomFor 0 x.pass.view
  resting rest = subst (λ s. KeepsRoom s x.pass) rest room

  pub room_behind : (request : Request) (next : Next) → MayCall request x → Does request next x y
      → KeepsRoom y.stage y.pass
  room_behind (Take l mode) next may did =
      behind x.floor x.pass y.pass y.stage _ did.stands
      (take_begins x.floor x.pass y.pass l mode did.part did.did may.3)
  room_behind (Try l mode) next may did =
      behind x.floor x.pass y.pass y.stage _ did.stands
      (try_begins x.floor x.pass y.pass l mode did.part did.did may.3)
  room_behind (Release l mode) next may did =
      behind x.floor x.pass y.pass y.stage _ did.stands
      (release_begins x.floor x.pass y.pass l mode did.part did.did may.1.held (resting may.0))
  room_behind (Edit cell change) next may did =
      behind x.floor x.pass y.pass y.stage _ did.stands
      (makes_at_once x.floor x.pass y.pass _ _ did.part did.did may.1.room)
  room_behind (Read cell) next may did =
      behind x.floor x.pass y.pass y.stage _ did.stands
      (makes_at_once x.floor x.pass y.pass _ _ did.part did.did may.1.room)
  room_behind (SetBase prio) next may did =
      behind x.floor x.pass y.pass y.stage _ did.stands
      (makes_at_once x.floor x.pass y.pass _ _ did.part did.did may.1)
  room_behind Show next may did =
      behind x.floor x.pass y.pass y.stage _ did.stands
      (makes_at_once x.floor x.pass y.pass _ _ did.part did.did may.1)
  room_behind (WakeUp c all) next may did =
      behind x.floor x.pass y.pass y.stage _ did.stands
      (wake_begins x.floor x.pass y.pass c all did.part did.did may.2)
  room_behind (Wait c) next may did =
      behind x.floor x.pass y.pass y.stage _ did.part.stands
      (waits_on x.floor x.pass y.pass did.on waiting.ComesTo did.part.part did.part.did may.2)
  room_behind End next may did =
      behind x.floor x.pass y.pass y.stage _ did.stands
      (ends_on x.floor x.pass y.pass places.Takes did.part did.did (resting may.0))
  room_behind GoOn next may did = goes_on x.floor x.pass y.pass x.stage y.stage next at did room

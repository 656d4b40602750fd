-- The call that a pass is in the middle of: which one it is, and that it is noted in the pass where it stands.
use Rattle.lock_calls.proofs.Names
use Names.{[], Option, Some, None, IfSome, IfNone, sym, ap, subst, inl, inr, refl, LockNo, Mode, Description, Knowledge}
use Names.{Call, ReleaseAt, TakeAt, Checks, Spins, ComesIn, Contends, Walks, Hops, Halts, Sleeps, Floor, Pass, IsOf}
use Names.{WakesNoOther, Next, Done, Again, Sleep, Wake, Reversed, Halted, IsInRelease, IsUnderRelease, GoesOnReleasing}
use Names.{IsInTake, IsUnderTake, TakeEnd, TakesOn, TakesPart, GoesOnTaking, marked_at, next_at, stands_at, HasGained}
use Rattle.std.proofs.Common.{◌≡◌, ◌∙◌, ◌⊎◌}
use Rattle.lock_floor.specs.declared.calls.Call.TheVariants as calls

-- 1. Where the pass notes it

pub own_noted : (f : Floor Description) (p q : Pass Knowledge) (call : Call) → q ≡ record p { call = call } → IsOf f p
    → IsOf f q
own_noted f p q call is own = subst (IsOf f) (sym is)
    record { table = own.table; description = own.description; unfinished = own.unfinished }

pub view_noted : (p q : Pass Knowledge) (call : Call) → q ≡ record p { call = call } → q.view ≡ p.view
view_noted p q call is = ap (λ (r : Pass Knowledge). r.view) is

pub call_noted : (p q : Pass Knowledge) (call : Call) → q ≡ record p { call = call } → q.call ≡ call
call_noted p q call is = ap (λ (r : Pass Knowledge). r.call) is

-- 2. A take

module _ (l m : LockNo) (x y : Mode) (a b : TakeAt) where
  pub same_take : calls.Take l x a ≡ calls.Take m y b → (l ≡ m) × (x ≡ y) × (a ≡ b)
  same_take e = (ap lock e, ap mode e, ap at e)
    where
      lock : Call → LockNo
      lock calls.None = l
      lock (calls.Take k z c) = k
      lock (calls.Try k z c) = l
      lock (calls.Release k z c) = l

      mode : Call → Mode
      mode calls.None = x
      mode (calls.Take k z c) = z
      mode (calls.Try k z c) = x
      mode (calls.Release k z c) = x

      at : Call → TakeAt
      at calls.None = a
      at (calls.Take k z c) = c
      at (calls.Try k z c) = a
      at (calls.Release k z c) = a

module _ (floor : Description) (p : Pass Knowledge) (l : LockNo) (mode : Mode) (at : TakeAt)
    (is : p.call ≡ calls.Take l mode at) where
  pub take_there : IsInTake floor p → IsUnderTake floor l mode at p.view
  take_there m =
      let same = same_take m.l l m.mode mode m.at at (sym m.call ∙ is) in
      subst (λ (z : LockNo × Mode × TakeAt). IsUnderTake floor z.0 z.1 z.2 p.view)
      (λ i. (same.0 i, same.1 i, same.2 i)) m.there

  pub take_went : (next : Next) (q : Pass Knowledge) → GoesOnTaking floor l mode at next p q → (k : LockNo) (x : Mode)
      (a : TakeAt) → p.call ≡ calls.Take k x a → GoesOnTaking floor k x a next p q
  take_went next q went k x a e =
      let same = same_take l k mode x at a (sym is ∙ e) in
      subst (λ (z : LockNo × Mode × TakeAt). GoesOnTaking floor z.0 z.1 z.2 next p q)
      (λ i. (same.0 i, same.1 i, same.2 i)) went

-- who has nobody to wake has nobody where it stands
pub unmarked_there : (v : Knowledge) {at there : TakeAt} → at ≡ there → marked_at at v.share.doing.marked ≡ []
    → marked_at there v.share.doing.marked ≡ []
unmarked_there v is none = subst (λ a. marked_at a v.share.doing.marked ≡ []) is none

-- a part that wakes nobody
pub takes_part : (floor : Description) (l : LockNo) (mode : Mode) (at : TakeAt) (to : Option TakeAt)
    (old new : Knowledge)
    → IfNone to (HasGained l mode old new) → IfNone to (TakeEnd floor l mode at old new)
    → IfSome to (λ a. TakesOn floor l mode at a old new) → WakesNoOther old new
    → TakesPart floor l mode at (stands_at to) old new
takes_part floor l mode at None old new gained end on nobody = (gained, end)
takes_part floor l mode at (Some to) old new gained end on nobody = (on, nobody)

-- what is to be done next, where a take stands somewhere, is to go on or to sleep
stands_next : (to : TakeAt) → (next_at to ≡ Again) ⊎ (next_at to ≡ Sleep)
stands_next Checks = inl refl
stands_next (Spins left) = inl refl
stands_next ComesIn = inl refl
stands_next (Contends seen) = inl refl
stands_next (Walks there) = inl refl
stands_next (Hops there) = inl refl
stands_next (Halts at) = inl refl
stands_next Sleeps = inr refl

no_other_next : (to : TakeAt) (next : Next) → next ≡ next_at to → (next ≡ Again → ⊥) → (next ≡ Sleep → ⊥) → ⊥
no_other_next to next is again sleep = elim (stands_next to) [ inl e ↦ again (is ∙ e) | inr e ↦ sleep (is ∙ e) ]

pub take_stands : (floor : Description) (l : LockNo) (mode : Mode) (at to : TakeAt) (p q : Pass Knowledge) (next : Next)
    → next ≡ next_at to → q.call ≡ calls.Take l mode to → TakesOn floor l mode at to p.view q.view
    → WakesNoOther p.view q.view → GoesOnTaking floor l mode at next p q
take_stands floor l mode at to p q Done is call on nobody =
    absurd (no_other_next to Done is (λ e. let z : Done ≡ Again = e in cc) (λ e. let z : Done ≡ Sleep = e in cc))
take_stands floor l mode at to p q Again is call on nobody =
    record { to = to; call = call; next_is = sym is; on = on; wakes_no_other = nobody }
take_stands floor l mode at to p q Sleep is call on nobody =
    record { to = to; call = call; next_is = sym is; on = on; wakes_no_other = nobody }
take_stands floor l mode at to p q (Wake t) is call on nobody =
    absurd (no_other_next to (Wake t) is (λ e. let z : Wake t ≡ Again = e in cc)
    (λ e. let z : Wake t ≡ Sleep = e in cc))
take_stands floor l mode at to p q (Reversed r) is call on nobody =
    absurd (no_other_next to (Reversed r) is (λ e. let z : Reversed r ≡ Again = e in cc)
    (λ e. let z : Reversed r ≡ Sleep = e in cc))
take_stands floor l mode at to p q Halted is call on nobody =
    absurd (no_other_next to Halted is (λ e. let z : Halted ≡ Again = e in cc)
    (λ e. let z : Halted ≡ Sleep = e in cc))

-- 3. A release

module _ (l m : LockNo) (x y : Mode) (a b : ReleaseAt) where
  pub same_release : calls.Release l x a ≡ calls.Release m y b → (l ≡ m) × (x ≡ y) × (a ≡ b)
  same_release e = (ap lock e, ap mode e, ap at e)
    where
      lock : Call → LockNo
      lock calls.None = l
      lock (calls.Take k z c) = l
      lock (calls.Try k z c) = l
      lock (calls.Release k z c) = k

      mode : Call → Mode
      mode calls.None = x
      mode (calls.Take k z c) = x
      mode (calls.Try k z c) = x
      mode (calls.Release k z c) = z

      at : Call → ReleaseAt
      at calls.None = a
      at (calls.Take k z c) = a
      at (calls.Try k z c) = a
      at (calls.Release k z c) = c

module _ (floor : Description) (p : Pass Knowledge) (l : LockNo) (mode : Mode) (at : ReleaseAt)
    (is : p.call ≡ calls.Release l mode at) where
  pub release_there : IsInRelease floor p → IsUnderRelease floor l mode at p.view
  release_there m =
      let same = same_release m.l l m.mode mode m.at at (sym m.call ∙ is) in
      subst (λ (z : LockNo × Mode × ReleaseAt). IsUnderRelease floor z.0 z.1 z.2 p.view)
      (λ i. (same.0 i, same.1 i, same.2 i)) m.there

  pub release_went : (next : Next) (q : Pass Knowledge) → GoesOnReleasing floor l mode at next p q → (k : LockNo)
      (x : Mode) (a : ReleaseAt) → p.call ≡ calls.Release k x a → GoesOnReleasing floor k x a next p q
  release_went next q went k x a e =
      let same = same_release l k mode x at a (sym is ∙ e) in
      subst (λ (z : LockNo × Mode × ReleaseAt). GoesOnReleasing floor z.0 z.1 z.2 next p q)
      (λ i. (same.0 i, same.1 i, same.2 i)) went

-- The call that a pass is in the middle of is a try: of which lock, in which mode, and where it stands.
use Rattle.lock_calls.proofs.Names.{sym, ap, subst, LockNo, Mode, Description, Knowledge, Call, TryAt, Pass, TryNext}
use Rattle.lock_calls.proofs.Names.{IsInTry, IsUnderTry, GoesOnTrying}
use Rattle.std.proofs.Common.{◌≡◌, ◌∙◌}
use Rattle.lock_floor.specs.declared.calls.Call.TheVariants as calls

module _ (l m : LockNo) (x y : Mode) (a b : TryAt) where
  same_try : calls.Try l x a ≡ calls.Try m y b → (l ≡ m) × (x ≡ y) × (a ≡ b)
  same_try e = (ap lock e, ap mode e, ap at e)
    where
      lock : Call → LockNo
      lock calls.None = l
      lock (calls.Take k z c) = l
      lock (calls.Try k z c) = k
      lock (calls.Release k z c) = l

      mode : Call → Mode
      mode calls.None = x
      mode (calls.Take k z c) = x
      mode (calls.Try k z c) = z
      mode (calls.Release k z c) = x

      at : Call → TryAt
      at calls.None = a
      at (calls.Take k z c) = a
      at (calls.Try k z c) = c
      at (calls.Release k z c) = a

module _ (floor : Description) (p : Pass Knowledge) (l : LockNo) (mode : Mode) (at : TryAt)
    (is : p.call ≡ calls.Try l mode at) where
  pub try_there : IsInTry floor p → IsUnderTry floor l mode at p.view
  try_there m =
      let same = same_try m.l l m.mode mode m.at at (sym m.call ∙ is) in
      subst (λ (z : LockNo × Mode × TryAt). IsUnderTry floor z.0 z.1 z.2 p.view)
      (λ i. (same.0 i, same.1 i, same.2 i)) m.there

  pub try_went : (next : TryNext) (q : Pass Knowledge) → GoesOnTrying floor l mode at next p q → (k : LockNo) (x : Mode)
      (a : TryAt) → p.call ≡ calls.Try k x a → GoesOnTrying floor k x a next p q
  try_went next q went k x a e =
      let same = same_try l k mode x at a (sym is ∙ e) in
      subst (λ (z : LockNo × Mode × TryAt). GoesOnTrying floor z.0 z.1 z.2 next p q)
      (λ i. (same.0 i, same.1 i, same.2 i)) went

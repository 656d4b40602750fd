use Rattle.lock_floor.proofs.Names.{ℕ, List, [], length, position, sym, ap, refl, arith, remove, append-nil}
use Rattle.lock_floor.proofs.Names.{remove-append_right, taken_out, none_taken, holds_lock}
use Rattle.std.proofs.Common.{◌≡◌, ◌-◌, ◌∷◌, ◌++◌, ◌∙◌}
use Rattle.lock_floor.proofs.pass.leave.Goals as goal

-- the last of a list, taken off it
last_removed : {X : Type 0} (hs xs : List X) (x : X) (i : ℕ) → hs ≡ xs ++ x ∷ [] → i ≡ length xs → xs ≡ remove hs i
last_removed {X = X} hs xs x i is at = sym (
    ap (λ (ys : List X). remove ys i) is
    ∙ remove-append_right xs (x ∷ []) (length xs) i refl (omega (arith, at))
    ∙ ap (λ k. xs ++ remove (x ∷ []) k) (let z : i - length xs ≡ 0 = omega (arith, at) in z)
    ∙ append-nil xs)

pub returns-then-i-len-clause-left : goal.returns-then-i-len-clause-left
returns-then-i-len-clause-left c =
    let there = ap (position (holds_lock c.args.l)) (sym c.deref.ensures.value) ∙ sym c.place_held.ensures
    ∙ c.in-Some.is in
    last_removed c.args.held.now.items c.take_last.new.self.items c.take_last.result c.in-Some.i
    c.take_last.ensures.items (omega (arith, c.take_last.ensures.len, c.len.ensures, c.if-i-len.true))
    ∙ taken_out c.args.l c.args.held.now.items c.in-Some.i there

pub returns-else-i-len-clause-left : goal.returns-else-i-len-clause-left
returns-else-i-len-clause-left c =
    let there = ap (position (holds_lock c.args.l)) (sym c.deref.ensures.value) ∙ sym c.place_held.ensures
    ∙ c.in-Some.is in
    c.remove.ensures.items ∙ taken_out c.args.l c.args.held.now.items c.in-Some.i there

pub returns-in_default-clause-left : goal.returns-in_default-clause-left
returns-in_default-clause-left c =
    let nowhere = ap (position (holds_lock c.args.l)) (sym c.deref.ensures.value) ∙ sym c.place_held.ensures
    ∙ c.in_default.is in
    none_taken c.args.l c.args.held.now.items nowhere

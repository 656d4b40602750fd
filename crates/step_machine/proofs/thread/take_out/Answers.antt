use Rattle.step_machine.proofs.Names.{ℕ, List, [], length, sym, ap, refl, arith, remove, append-nil}
use Rattle.step_machine.proofs.Names.{remove-append_right}
use Rattle.std.proofs.Common.{◌≡◌, ◌-◌, ◌∷◌, ◌++◌, ◌∙◌}
use Rattle.step_machine.proofs.thread.take_out.Goals as goal

-- the last of a list, taken off it
last_removed : {X : Type 0} (hs xs : List X) (x : X) (i : ℕ) → hs ≡ xs ++ x ∷ [] → i ≡ length xs → xs ≡ remove hs i
last_removed {X = X} hs xs x i is at = sym (
    ap (λ (ys : List X). remove ys i) is
    ∙ remove-append_right xs (x ∷ []) (length xs) i refl (omega (arith, at))
    ∙ ap (λ k. xs ++ remove (x ∷ []) k) (let z : i - length xs ≡ 0 = omega (arith, at) in z)
    ∙ append-nil xs)

pub returns-then-i-len-clause-held : goal.returns-then-i-len-clause-held
returns-then-i-len-clause-held c =
    last_removed c.args.held.now.items c.take_last.new.self.items c.take_last.result c.args.i
    c.take_last.ensures.items (omega (arith, c.take_last.ensures.len, c.len.ensures, c.if-i-len.true))

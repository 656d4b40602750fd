-- A name that bytes spell; and a plan of names, which says no operations.
use Rattle.std.proofs.Common.{◌≡◌, ℕ, Bool, true, false, Some, None, List, [], ◌∷◌, length, map, sum, refl, ap, ◌∙◌}
use Rattle.std.specs.Prelude.{if◌then◌else◌}
use Rattle.lock_model.specs.Names.{is_name}
use Rattle.lock_model.specs.Operations.{operations_in_all}
use Rattle.lock_model.specs.declared.plan.Plan.{Plan}
use Rattle.lock_model.specs.declared.plan.ThreadDecl.{ThreadDecl}
use Rattle.lockrun_c.specs.Naming.{IsNamedFor, thread_decl}
use Rattle.lockrun_c.specs.declared.rows.ChanRow.{ChanRow}
use Rattle.lockrun_c.specs.declared.rows.LockRow.{LockRow}
use Rattle.lockrun_c.specs.declared.rows.ThreadRow.{ThreadRow}

none_in : (rows : List ThreadRow)
    → sum (map (λ (d : ThreadDecl). length d.ops) (map thread_decl rows)) ≡ 0
none_in [] = refl
none_in (row ∷ rows) = none_in rows

pub says_nothing : (threads : List ThreadRow) (locks : List LockRow) (chans : List ChanRow) (plan : Plan)
    → IsNamedFor threads locks chans plan → operations_in_all plan ≡ 0
says_nothing threads locks chans plan h =
    ap (λ (ds : List ThreadDecl). sum (map (λ (d : ThreadDecl). length d.ops) ds)) h.threads ∙ none_in threads

-- who gets a name out of bytes gets the bytes
pub is_spelled : (bytes name : List ℕ) → Some name ≡ (if is_name bytes then Some bytes else None) → name ≡ bytes
is_spelled bytes name h = go (is_name bytes) h
  where
    go : (b : Bool) → Some name ≡ (if b then Some bytes else None) → name ≡ bytes
    go true e = cc
    go false e = absurd cc

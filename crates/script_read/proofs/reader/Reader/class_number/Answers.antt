use Rattle.std.proofs.Common.{◌≡◌, ℕ, ◌≤◌, cond, nat_lt, Bool, true, false, not, List, Some, None, unwrap_or, refl, arith, ◌∙◌}
use Rattle.std.proofs.lemmas.Bool.Decides.{nat_tests}
use Rattle.std.proofs.lemmas.List.Sums.{prefix_len-le-length}
use Rattle.lock_model.specs.Script.Lines.{is_same}
use Rattle.script_read.proofs.reader.Reader.class_number.Goals as goal

-- the first place that passes, or else the length
or_length : (n k : ℕ) → n ≤ k → unwrap_or (cond (nat_lt n k) (Some n) None) k ≡ n
or_length n k l = go (nat_lt n k) refl
  where
    go : (b : Bool) → nat_lt n k ≡ b → unwrap_or (cond b (Some n) None) k ≡ n
    go true e = refl
    go false e = grind (arith, nat_tests)

pub returns : goal.returns
returns c = c.unwrap_or.ensures ∙ rw (c.get_index_of.ensures.index, c.len.ensures.len)
    (or_length _ _ (prefix_len-le-length {X = List ℕ} (λ x. not (is_same c.args.class x)) c.args.self.now.classes.keys))

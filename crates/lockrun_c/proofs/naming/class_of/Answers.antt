use Rattle.std.proofs.Common.{ℕ, List, Option, length, ap, ◌∙◌}
use Rattle.std.specs.Prelude.{nat_eq, position, unwrap_or}
use Rattle.std.specs.Cmp.Lexicographic.{pointwise}
use Rattle.lockrun_c.proofs.naming.class_of.Goals as goal

pub returns-in-Some-clause-class : goal.returns-in-Some-clause-class
returns-in-Some-clause-class c =
    ap (λ (o : Option ℕ). unwrap_or o (length c.args.classes.now))
    (c.in-Some.ensures.place
    ∙ ap (λ (s : List ℕ). position (λ (n : List ℕ). pointwise nat_eq n s) c.args.classes.now) c.in_ok-class.ensures)

use Rattle.std.proofs.Common.{◌<◌, length, ap, sym, subst, ◌∙◌, arith}
use Rattle.lock_floor.specs.Passes.{first_pass}
use Rattle.example_parts.specs.Threads.{IsBeginning, IsForTwo}
use Rattle.example_parts.proofs.Parts.{new_begins}
use Rattle.example_parts.proofs.main.Goals as goal

pub run_both-requires-clause-begin : goal.run_both-requires-clause-begin
run_both-requires-clause-begin c t d lt =
    let f = c.in_ok-floor.floor in
    let made = c.in_ok-floor.ensures in
    let two = c.in_ok-description.ensures in
    let within : t < length c.in_ok-description.field-0.threads = omega (arith, lt, two.threads) in
    let first = made.passes t d within ∙ ap (λ e. first_pass f.table e t) (sym made.description) in
    subst (IsBeginning f) (sym first) (new_begins f (subst IsForTwo (sym made.description) two) t lt)

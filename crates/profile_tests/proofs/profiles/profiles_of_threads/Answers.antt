use Rattle.std.proofs.Common.{◌≡◌, true, false, List, reverse, sym, ap, ◌∙◌, subst}
use Rattle.std.proofs.lemmas.List.{reverse-reverse}
use Rattle.lock_model.specs.Legal.{IsLegal}
use Rattle.lock_model.specs.Text.{Outcome}
use Rattle.lock_model.specs.declared.event.Entry.{Entry}
use Rattle.profile_tests.proofs.profiles.profiles_of_threads.Goals as goal

pub profile-requires-clause-legal : goal.profile-requires-clause-legal
profile-requires-clause-legal g c =
    let run = c.in_ok-outcome.ensures.run.run in
    let same = ap (λ (o : Outcome). reverse o.history) run.outcome ∙ reverse-reverse run.history in
    record {
      is_run = true;
      cut_short = false;
      legal = subst (λ (es : List Entry). IsLegal c.in_ok-plan.plan true false es) (sym same) run.legal;
    }

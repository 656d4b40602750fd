use Rattle.std.proofs.Common.{sym, ap, ◌∙◌}
use Rattle.step_world.specs.Worlds.{World}
use Rattle.turn_calls.proofs.Shown.{lent_text}
use Rattle.turn_calls.proofs.world.OpenWorld.text.Goals as goal
use Rattle.turn_calls.proofs.world.OpenWorld.text.Goals.{in-Err, in-Ok}

pub returns-clause-text : goal.returns-clause-text
returns-clause-text c =
    let lent = c.of_machine-world in
    elim c.match-shown.branch [
      | in-Err b ↦ rw b.machine-is tt
      | in-Ok b ↦ rw b.machine-is (lent_text b.print_with.result.1 c.args.self lent.result c.self.inside.plan
          c.into_machine-machine.result b.in-Ok.shown
          (lent.ensures ∙ c.self.view_is) (sym (ap (λ (x : World). x.plan) lent.ensures))
          c.into_machine-machine.ensures.objects b.in-Ok.ensures b.print_with.ensures.text)
    ]

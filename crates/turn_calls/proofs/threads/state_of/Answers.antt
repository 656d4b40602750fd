use Rattle.std.proofs.Common.{true, false, refl, sym, ap, ◌∙◌}
use Rattle.lock_model.specs.Plans.{config_of}
use Rattle.lock_state.specs.Run.{owes}
use Rattle.lock_objects.specs.Represents.{wait_of}
use Rattle.turn_calls.proofs.States.{of_going}
use Rattle.turn_calls.proofs.threads.state_of.Goals as goal

pub returns-in-Running : goal.returns-in-Running
returns-in-Running c r h =
    of_going c.args.world.now.plan r c.args.t.0 (owes (config_of c.args.world.now.plan) r.state c.args.t.0) _
    (sym (c.has_ended.ensures r h) ∙ c.if-has_ended.false) refl (sym (ap wait_of c.in-Running.is) ∙ c.wait.ensures r h)

pub returns-then-owes : goal.returns-then-owes
returns-then-owes c r h =
    of_going c.args.world.now.plan r c.args.t.0 true _
    (sym (c.has_ended.ensures r h) ∙ c.if-has_ended.false) (sym c.if-owes.true ∙ c.owes.ensures r h)
    (sym (ap wait_of c.in-Queued.is) ∙ c.wait.ensures r h)

pub returns-else-owes : goal.returns-else-owes
returns-else-owes c r h =
    of_going c.args.world.now.plan r c.args.t.0 false _
    (sym (c.has_ended.ensures r h) ∙ c.if-has_ended.false) (sym c.if-owes.false ∙ c.owes.ensures r h)
    (sym (ap wait_of c.in-Queued.is) ∙ c.wait.ensures r h)

pub returns-in-Woken : goal.returns-in-Woken
returns-in-Woken c r h =
    of_going c.args.world.now.plan r c.args.t.0 (owes (config_of c.args.world.now.plan) r.state c.args.t.0) _
    (sym (c.has_ended.ensures r h) ∙ c.if-has_ended.false) refl (sym (ap wait_of c.in-Woken.is) ∙ c.wait.ensures r h)

use Rattle.step_world.proofs.Names.{length, List, sym, ap, subst, Op, thread_has_ended, World, read}
use Rattle.std.proofs.Common.{◌<◌, ◌∙◌}
use Rattle.step_world.proofs.Ends.{ends_as_said}
use Rattle.step_world.proofs.world.World.has_ended.Goals as goal

pub returns : goal.returns
returns c =
    let w = c.self.inside in
    let plan = w.plan.now in
    let t = c.args.t.0 in
    let th = c.index.result.now in
    let within : t
    < length plan.threads = subst (λ (v : World). t < length v.plan.threads) (sym c.self.view_is) c.requires in
    rw (← c.self.view_is) (λ r h.
    c.has_ended.ensures
    ∙ ap (λ (ops : List Op). thread_has_ended (length ops) th) c.operations_of.ensures
    ∙ ends_as_said plan w.machine r t th c.self.invariant.proper h within
    (read h.shows.shows.threads within c.from.ensures c.index.ensures))

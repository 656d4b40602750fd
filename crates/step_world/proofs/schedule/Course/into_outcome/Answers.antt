use Rattle.step_world.proofs.Names.{map, ap, subst, sym, line_seen, outcome_seen, Outcome, outcome_of, Course}
use Rattle.step_world.proofs.Names.{finals_of, World, Represents, Machine}
use Rattle.std.proofs.Common.{◌≡◌, ◌∙◌}
use Rattle.lock_history.specs.Endings.{numbers_of}
use Rattle.lock_state.specs.Run as run
use Rattle.step_world.proofs.Printed.{log_in_order, printed}
use Rattle.step_world.proofs.schedule.Course.into_outcome.Goals as goal

pub of_log-requires : goal.of_log-requires
of_log-requires c =
    let w = c.self.inside.world in
    let r = c.self.invariant.run in
    rw c.into_machine-machine.ensures.objects (log_in_order w.plan w.machine r.0 r.1)

pub returns : goal.returns
returns c k h =
    let taken = c.into_machine-machine.ensures.objects in
    let history = c.of_log.ensures ∙ ap (λ (n : Machine). n.log.entries) taken in
    let finals = ap numbers_of c.from_vec-2.ensures ∙ c.in_ok-finals.ensures ∙ ap finals_of c.machine.ensures in
    let world : c.self.inside.world ≡ c.args.self.world = ap (λ (x : Course). x.world) c.self.view_is in
    let shows : Represents c.self.inside.world k.run = subst (λ (w : World). Represents w k.run) (sym world) h.shows in
    let queues = ap (map line_seen) c.from_vec.ensures ∙ c.in_ok-queues.ensures k.run shows in
    let last = c.last-last.ensures k h ∙ ap (λ (w : World). run.ending_of w.plan k) (sym world) in
    let o : Outcome = record {
      history = c.of_log.result;
      queues = c.from_vec.result;
      finals = c.from_vec-2.result;
      tables = c.into_machine-machine.result.tables;
      last = c.last-last.result;
    } in
    subst (λ (w : World). outcome_seen o ≡ outcome_of w.plan w.chains k) world
    (printed c.self.inside.world k o shows history queues finals (ap (λ (n : Machine). n.tables) taken) last)

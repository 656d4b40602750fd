use Rattle.std.proofs.Common.{◌≡◌, ◌↔◌, true, sym, subst}
use Rattle.lock_state.specs.Run.{has_ended}
use Rattle.run_laws.specs.OnTrack.{IsSleeping}
use Rattle.turn_calls.proofs.States.{idle_sleeps, at_end}
use Rattle.turn_calls.specs.declared.threads.ThreadState.{ThreadState}
use Rattle.turn_calls.specs.declared.threads.ThreadState.TheVariants.{Idle, Ended}
use Rattle.turn_calls.proofs.threads.thread_now.Goals as goal

pub returns-clause-idle : goal.returns-clause-idle
returns-clause-idle c r h =
    subst (λ (s : ThreadState). s ≡ Idle ↔ IsSleeping c.args.world.now.plan r c.args.t.0) (sym (c.state_of.ensures r h))
    (idle_sleeps c.args.world.now.plan r c.args.t.0)

pub returns-clause-ended : goal.returns-clause-ended
returns-clause-ended c r h =
    subst (λ (s : ThreadState). s ≡ Ended ↔ has_ended c.args.world.now.plan r c.args.t.0 ≡ true)
    (sym (c.state_of.ensures r h))
    (at_end c.args.world.now.plan r c.args.t.0)

use Rattle.std.proofs.Common.{◌≡◌, find, sym, ◌∙◌}
use Rattle.tick_sleep.specs.Ticks.{is_of}
use Rattle.tick_sleep.specs.Tables.{Wakes}
use Rattle.tick_sleep.specs.declared.who.Who.TheVariants.{Thread}
use Rattle.tick_sleep.specs.declared.plan.TickSleeper.{TickSleeper}
use Rattle.tick_sleep.proofs.States.{match_some}
use Rattle.tick_sleep.proofs.Standing.{thread_woken}
use Rattle.tick_sleep.proofs.queue.TickQueue.post.Goals as goal

pub invariant_of-self : goal.invariant_of-self
invariant_of-self c =
    let found = sym c.get.ensures.found ∙ c.in-Some.is in
    let wakes = match_some (find (is_of c.args.t.0) c.self.inside.roll) c.in-Some.sleeper
    (c.end_sleep.new.table ≡ c.self.inside.table)
    (λ (s : TickSleeper). Wakes c.self.inside.table c.end_sleep.new.table s.key (Thread c.args.t)) found
    c.end_sleep.ensures.table in
    rw c.end_sleep.ensures.roll
    (thread_woken c.self.inside c.self.invariant c.get.ensures.once c.in-Some.sleeper c.args.t found
    c.end_sleep.new.table wakes c.self.inside.passed c.self.invariant.passed c.self.invariant.none_due)

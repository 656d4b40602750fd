use Rattle.std.proofs.Common.{◌≡◌, ◌+◌, ◌<◌, Some, find, subst}
use Rattle.lock_model.specs.declared.numbers.ThreadNo.{ThreadNo}
use Rattle.tick_sleep.specs.Ticks.{is_of, TickState, TimesOut}
use Rattle.tick_sleep.specs.Tables.{Wakes}
use Rattle.tick_sleep.specs.Queues.{Seen}
use Rattle.tick_sleep.specs.Rolls.{is_tick, first_at}
use Rattle.tick_sleep.specs.declared.who.Who.TheVariants.{Thread}
use Rattle.tick_sleep.specs.declared.plan.TickSleeper.{TickSleeper}
use Rattle.tick_sleep.proofs.States.{if_some, match_some, found_by_thread, timed_out}
use Rattle.tick_sleep.proofs.Taking.{found_sleeper}
use Rattle.tick_sleep.proofs.Standing.{thread_woken}
use Rattle.tick_sleep.proofs.queue.TickQueue.pop_expired.Goals as goal

pub invariant_of-self-2 : goal.invariant_of-self-2
invariant_of-self-2 c =
    let n = c.next_due-passed.result.0 in
    let t = c.in_ok-t.t in
    let some = if_some c.next_due-passed.result.1 t
    (λ (u : ThreadNo). (n < c.self.inside.tick) × (first_at (n + 1) c.self.inside.roll ≡ Some u)) c.in_ok-t.was
    c.next_due-passed.ensures.some in
    let s = found_sleeper (find (λ (x : TickSleeper). is_tick (n + 1) x.due) c.self.inside.roll) t some.1 in
    let own = found_by_thread (λ (x : TickSleeper). is_tick (n + 1) x.due) c.self.inside.roll s.0
    c.next_due-passed.ensures.once s.1 in
    let found = subst (λ (u : ThreadNo). find (is_of u.0) c.self.inside.roll ≡ Some s.0) s.2 own in
    let wakes = match_some (find (is_of t.0) c.self.inside.roll) s.0 (c.end_sleep.new.table ≡ c.self.inside.table)
    (λ (x : TickSleeper). Wakes c.self.inside.table c.end_sleep.new.table x.key (Thread t)) found
    c.end_sleep.ensures.table in
    rw c.end_sleep.ensures.roll
    (thread_woken c.self.inside c.self.invariant c.next_due-passed.ensures.once s.0 t found c.end_sleep.new.table
    wakes n c.next_due-passed.ensures.within c.next_due-passed.ensures.none_due)

pub returns-clause-taken : goal.returns-clause-taken
returns-clause-taken c =
    let n = c.next_due-passed.result.0 in
    let t = c.in_ok-t.t in
    let some = if_some c.next_due-passed.result.1 t
    (λ (u : ThreadNo). (n < c.self.inside.tick) × (first_at (n + 1) c.self.inside.roll ≡ Some u)) c.in_ok-t.was
    c.next_due-passed.ensures.some in
    let old : TickState =
    record {
      tick = c.self.inside.tick;
      sleepers = c.self.inside.roll;
      posted = c.self.inside.posted.items;
      prios = c.self.inside.prios.items;
    } in
    subst (λ (v : Seen). TimesOut v.ticks (record old { sleepers = c.end_sleep.new.roll }) t (n + 1)) c.self.view_is
    (timed_out old c.end_sleep.new.roll n t c.next_due-passed.ensures.once some.0 c.next_due-passed.ensures.none_due
    some.1 c.end_sleep.ensures.roll)

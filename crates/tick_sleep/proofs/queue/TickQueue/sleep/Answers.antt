use Rattle.std.proofs.Common.{◌≡◌, ◌&&◌, false, Bool, List, slice_get, unwrap_or, sym, ap, subst, ◌∙◌}
use Rattle.lock_model.specs.declared.numbers.Prio.{Prio}
use Rattle.tick_sleep.specs.Ticks.{TickState, behind_sleep, sleep_answer}
use Rattle.tick_sleep.specs.Queues.{Seen}
use Rattle.tick_sleep.specs.declared.plan.Slept.TheVariants.{Queued}
use Rattle.tick_sleep.specs.declared.plan.TickSleeper.{TickSleeper}
use Rattle.tick_sleep.proofs.States.{is_queued, queued_state}
use Rattle.tick_sleep.proofs.Standing.{has_room}
use Rattle.tick_sleep.proofs.queue.TickQueue.sleep.Goals as goal

pub add-requires-clause-room : goal.add-requires-clause-room
add-requires-clause-room c =
    let s : TickSleeper =
    record {
      t = c.args.t;
      prio = c.prio_of-prio.result;
      key = c.args.key;
      due = c.due_tick-due.result;
      sig = c.args.sig;
    } in
    let within = ap (λ (v : Seen). v.ticks.prios) c.self.view_is in
    has_room c.self.inside c.self.invariant s c.has.ensures.once (sym c.has.ensures.sleeps ∙ c.if-has.false)
    (rw within c.requires.declared)

pub returns-clause-state : goal.returns-clause-state
returns-clause-state c =
    let old : TickState =
    record {
      tick = c.self.inside.tick;
      sleepers = c.self.inside.roll;
      posted = c.self.inside.posted.items;
      prios = c.self.inside.prios.items;
    } in
    let none = sym c.has.ensures.sleeps ∙ c.if-has.false in
    let sig = ap (λ (ps : List Bool). c.args.sig && unwrap_or (slice_get ps c.args.t.0) false)
    (sym c.deref.ensures.value) ∙ sym c.is_interrupted.ensures ∙ c.if-is_interrupted.false in
    let prio = c.prio_of-prio.ensures
    ∙ ap (λ (ps : List Prio). unwrap_or (slice_get ps c.args.t.0) (record { 0 = 0 })) c.deref-2.ensures.value in
    subst (λ (v : Seen). record old { sleepers = c.add.new.self } ≡ behind_sleep v.ticks c.args.t c.args.key
    c.args.ticks c.args.sig) c.self.view_is
    (queued_state old c.args.t c.args.key c.args.ticks c.args.sig c.add.new.self c.prio_of-prio.result
    c.due_tick-due.result (is_queued old c.args.t.0 c.args.sig none sig) prio c.due_tick-due.ensures c.add.ensures)

pub returns-clause-answer : goal.returns-clause-answer
returns-clause-answer c =
    let old : TickState =
    record {
      tick = c.self.inside.tick;
      sleepers = c.self.inside.roll;
      posted = c.self.inside.posted.items;
      prios = c.self.inside.prios.items;
    } in
    let none = sym c.has.ensures.sleeps ∙ c.if-has.false in
    let sig = ap (λ (ps : List Bool). c.args.sig && unwrap_or (slice_get ps c.args.t.0) false)
    (sym c.deref.ensures.value) ∙ sym c.is_interrupted.ensures ∙ c.if-is_interrupted.false in
    sym (subst (λ (v : Seen). sleep_answer v.ticks c.args.t.0 c.args.sig ≡ Queued) c.self.view_is
    (is_queued old c.args.t.0 c.args.sig none sig))

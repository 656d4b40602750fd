use Rattle.lock_floor.proofs.Names.{[], refl, sym, ap, subst, Base, RecordOf, Knowledge}
use Rattle.std.proofs.Common.{◌≤◌, ◌∷◌}
use Rattle.lock_floor.proofs.Priorities.{record_out, may_take_own, may_base}
use Rattle.lock_floor.proofs.Resting.{MayGiveBack, Used, gives_changed, uses_change, taken_out}
use Rattle.lock_floor.proofs.Tries.{ready_still}
use Rattle.lock_floor.proofs.prios.FloorOf+Slot+View+Description+Law.try_set_base.Goals as goal

pub try_take-requires-clause-may : goal.try_take-requires-clause-may
try_take-requires-clause-may c = (
  RecordOf c.args.pass.now.view.thread,
  c.record_slot-slot.ensures,
  may_take_own c.args.self.now.description
      c.args.pass.now.view c.requires.ready.rest,
)

pub stamp_change-requires-clause-room : goal.stamp_change-requires-clause-room
stamp_change-requires-clause-room c =
    let v : Knowledge = c.args.pass.now.view in
    let taken = c.try_take.ensures.out c.if-not-try_take.false (RecordOf v.thread) c.record_slot-slot.ensures in
    subst (λ (w : Knowledge). 1 ≤ w.spare) (sym taken.view) c.requires.room

pub stamp_change-requires-clause-item : goal.stamp_change-requires-clause-item
stamp_change-requires-clause-item c =
    let v : Knowledge = c.args.pass.now.view in
    let place = c.record_slot-slot.ensures in
    let taken = c.try_take.ensures.out c.if-not-try_take.false (RecordOf v.thread) place in
    (RecordOf v.thread, ap (λ (w : Knowledge). RecordOf w.thread ∷ []) taken.view, place)

pub stamp_change-requires-clause-last : goal.stamp_change-requires-clause-last
stamp_change-requires-clause-last c =
    let v : Knowledge = c.args.pass.now.view in
    let j = c.record_slot-slot.result in
    let taken = c.try_take.ensures.out c.if-not-try_take.false (RecordOf v.thread) c.record_slot-slot.ensures in
    (taken.value, taken_out c.args.self.now.description v c.try_take.new.pass.view (RecordOf v.thread) j taken)

pub stamp_change-requires-clause-may : goal.stamp_change-requires-clause-may
stamp_change-requires-clause-may c =
    let floor = c.args.self.now.description in
    let v : Knowledge = c.args.pass.now.view in
    let j = c.record_slot-slot.result in
    let place = c.record_slot-slot.ensures in
    let taken = c.try_take.ensures.out c.if-not-try_take.false (RecordOf v.thread) place in
    let out = record_out floor v.thread j v c.try_take.new.pass.view taken in
    may_base floor v c.try_take.new.pass.view j out.0 place c.requires.ready.rest taken out.1 c.args.prio

gives : (c : goal.After-give-arg-1)
    → MayGiveBack c.args.self.now.description c.record_slot-slot.result c.stamp_change.new.pass.view
gives c =
    let v : Knowledge = c.args.pass.now.view in
    let i = RecordOf v.thread in
    let place = c.record_slot-slot.ensures in
    gives_changed c.args.self.now.description i c.record_slot-slot.result (Base c.args.prio) v
    c.try_take.new.pass.view c.stamp_change.new.pass.view c.stamp_change.result
    (c.try_take.ensures.out c.if-not-try_take.false i place) place refl c.requires.ready.rest
    c.stamp_change.ensures.view

pub give-requires-clause-last : goal.give-requires-clause-last
give-requires-clause-last c = (gives c).last

pub give-requires-clause-may : goal.give-requires-clause-may
give-requires-clause-may c = (gives c).may

used : (c : goal.After-give)
    → Used c.args.self.now (RecordOf c.args.pass.now.view.thread) (Base c.args.prio) c.args.pass.now c.give.new.pass
used c =
    let f = c.args.self.now in
    let i = RecordOf c.args.pass.now.view.thread in
    let j = c.record_slot-slot.result in
    let place = c.record_slot-slot.ensures in
    uses_change f i j (Base c.args.prio) refl refl c.args.pass.now c.try_take.new.pass c.stamp_change.new.pass
    c.give.new.pass c.stamp_change.result c.requires.ready c.requires.room
    (c.try_take.ensures.out c.if-not-try_take.false i place)
    c.stamp_change.ensures.view c.stamp_change.ensures.step c.give.ensures.own (c.give.ensures.view i place)
    (c.give.ensures.step i place)

pub returns-clause-ready : goal.returns-clause-ready
returns-clause-ready c = (used c).ready

pub returns-clause-entry : goal.returns-clause-entry
returns-clause-entry c = (used c).entry

pub returns-clause-steps : goal.returns-clause-steps
returns-clause-steps c = (used c).steps

pub returns-then-not-try_take-clause-ready : goal.returns-then-not-try_take-clause-ready
returns-then-not-try_take-clause-ready c =
    ready_still c.args.self.now c.args.pass.now c.try_take.new.pass c.requires.ready c.try_take.ensures.own
    (c.try_take.ensures.left c.if-not-try_take.true)

pub returns-then-not-try_take-clause-left : goal.returns-then-not-try_take-clause-left
returns-then-not-try_take-clause-left c = c.try_take.ensures.left c.if-not-try_take.true

pub returns-then-not-try_take-clause-elsewhere : goal.returns-then-not-try_take-clause-elsewhere
returns-then-not-try_take-clause-elsewhere c =
    c.try_take.ensures.elsewhere c.if-not-try_take.true (RecordOf c.args.pass.now.view.thread)
    c.record_slot-slot.ensures

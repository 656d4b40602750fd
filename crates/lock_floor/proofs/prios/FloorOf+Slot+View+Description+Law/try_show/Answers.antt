use Rattle.lock_floor.proofs.Names.{[], refl, sym, ap, subst, Shown, Stamps, RecordOf, MayMake, Knowledge, Pass, Takes}
use Rattle.std.proofs.Common.{◌≤◌, ◌∷◌, ◌∙◌}
use Rattle.lock_floor.proofs.Priorities.{record_out, may_take_own, may_show}
use Rattle.lock_floor.proofs.Resting.{MayGiveBack, Used, gives_back, uses}
use Rattle.lock_floor.proofs.Tries.{ready_still}
use Rattle.lock_floor.proofs.prios.FloorOf+Slot+View+Description+Law.try_show.Goals as goal

pub try_take-requires-clause-may : goal.try_take-requires-clause-may
try_take-requires-clause-may c = (
  RecordOf c.args.pass.now.view.thread,
  c.record_slot-slot.ensures,
  may_take_own c.args.self.now.description
      c.args.pass.now.view c.requires.ready.rest,
)

pub priorities-requires-clause-last : goal.priorities-requires-clause-last
priorities-requires-clause-last c =
    let v : Knowledge = c.args.pass.now.view in
    record_out c.args.self.now.description v.thread c.record_slot-slot.result v c.try_take.new.pass.view
    (c.try_take.ensures.out c.if-not-try_take.false (RecordOf v.thread) c.record_slot-slot.ensures)

pub stamp-requires-clause-room : goal.stamp-requires-clause-room
stamp-requires-clause-room c =
    let v : Knowledge = c.args.pass.now.view in
    let taken = c.try_take.ensures.out c.if-not-try_take.false (RecordOf v.thread) c.record_slot-slot.ensures in
    subst (λ (w : Knowledge). 1 ≤ w.spare)
    (sym (ap (λ (p : Pass Knowledge). p.view) c.priorities.ensures.same ∙ taken.view)) c.requires.room

pub stamp-requires-clause-may : goal.stamp-requires-clause-may
stamp-requires-clause-may c =
    let floor = c.args.self.now.description in
    let v : Knowledge = c.args.pass.now.view in
    let j = c.record_slot-slot.result in
    let place = c.record_slot-slot.ensures in
    let taken = c.try_take.ensures.out c.if-not-try_take.false (RecordOf v.thread) place in
    let out = record_out floor v.thread j v c.try_take.new.pass.view taken in
    let shown = c.priorities.ensures.shown out.0 out.1 in
    let base = c.priorities.result.0 in
    let effective = c.priorities.result.1 in
    subst (λ (p : Pass Knowledge). MayMake floor p.view (λ s. Unit {0})
    (Stamps p.view.thread (Shown base effective) ∷ [])) (sym c.priorities.ensures.same)
    (may_show floor v c.try_take.new.pass.view j out.0 place c.requires.ready.rest taken out.1 base effective shown.0
    shown.1)

gives : (c : goal.After-give-arg-1)
    → MayGiveBack c.args.self.now.description c.record_slot-slot.result c.stamp.new.pass.view
gives c =
    let floor = c.args.self.now.description in
    let v : Knowledge = c.args.pass.now.view in
    let i = RecordOf v.thread in
    let j = c.record_slot-slot.result in
    let place = c.record_slot-slot.ensures in
    let taken = subst (λ (p : Pass Knowledge). Takes floor i j v p.view) (sym c.priorities.ensures.same)
    (c.try_take.ensures.out c.if-not-try_take.false i place) in
    gives_back floor i j (Shown c.priorities.result.0 c.priorities.result.1) v c.priorities.new.pass.view
    c.stamp.new.pass.view c.stamp.result taken place refl c.requires.ready.rest c.stamp.ensures.view

pub give-requires-clause-last : goal.give-requires-clause-last
give-requires-clause-last c = (gives c).last

pub give-requires-clause-may : goal.give-requires-clause-may
give-requires-clause-may c = (gives c).may

used : (c : goal.After-give)
    → Used c.args.self.now (RecordOf c.args.pass.now.view.thread) (Shown c.priorities.result.0 c.priorities.result.1)
    c.args.pass.now c.give.new.pass
used c =
    let f = c.args.self.now in
    let i = RecordOf c.args.pass.now.view.thread in
    let j = c.record_slot-slot.result in
    let place = c.record_slot-slot.ensures in
    let taken = subst (λ (p : Pass Knowledge). Takes f.description i j c.args.pass.now.view p.view)
    (sym c.priorities.ensures.same) (c.try_take.ensures.out c.if-not-try_take.false i place) in
    uses f i j (Shown c.priorities.result.0 c.priorities.result.1) refl refl c.args.pass.now c.priorities.new.pass
    c.stamp.new.pass c.give.new.pass c.stamp.result c.requires.ready c.requires.room taken
    c.stamp.ensures.view c.stamp.ensures.step c.give.ensures.own (c.give.ensures.view i place)
    (c.give.ensures.step i place)

pub returns-clause-ready : goal.returns-clause-ready
returns-clause-ready c = (used c).ready

pub returns-clause-entry : goal.returns-clause-entry
returns-clause-entry c = (used c).entry

pub returns-clause-steps : goal.returns-clause-steps
returns-clause-steps c = (used c).steps

pub returns-then-not-try_take-clause-ready : goal.returns-then-not-try_take-clause-ready
returns-then-not-try_take-clause-ready c =
    ready_still c.args.self.now c.args.pass.now c.try_take.new.pass c.requires.ready c.try_take.ensures.own
    (c.try_take.ensures.left c.if-not-try_take.true)

pub returns-then-not-try_take-clause-left : goal.returns-then-not-try_take-clause-left
returns-then-not-try_take-clause-left c = c.try_take.ensures.left c.if-not-try_take.true

pub returns-then-not-try_take-clause-elsewhere : goal.returns-then-not-try_take-clause-elsewhere
returns-then-not-try_take-clause-elsewhere c =
    c.try_take.ensures.elsewhere c.if-not-try_take.true (RecordOf c.args.pass.now.view.thread)
    c.record_slot-slot.ensures

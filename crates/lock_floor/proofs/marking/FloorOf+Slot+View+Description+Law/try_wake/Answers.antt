use Rattle.lock_floor.proofs.Waking.{told_may_count, told_may_mark, told_give_last, told_give_may, told_wakes}
use Rattle.lock_floor.proofs.marking.FloorOf+Slot+View+Description+Law.try_wake.Goals as goal

pub count-requires-clause-may : goal.count-requires-clause-may
count-requires-clause-may c =
    told_may_count c.args.self.now.description c.args.pass.now.view c.try_take_rec.new.pass.view c.args.t.0
    c.requires.may c.requires.first c.requires.thread (c.try_take_rec.ensures.out c.if-not-try_take_rec.false)

pub mark-requires-clause-may : goal.mark-requires-clause-may
mark-requires-clause-may c =
    told_may_mark c.args.self.now.description c.args.pass.now.view c.try_take_rec.new.pass.view c.args.t.0
    c.requires.may c.requires.first c.requires.thread (c.try_take_rec.ensures.out c.if-not-try_take_rec.false)
    c.count.new.pass.view c.count.ensures.view c.count.ensures.step

pub give_rec-requires-clause-last : goal.give_rec-requires-clause-last
give_rec-requires-clause-last c =
    told_give_last c.args.self.now.description c.args.pass.now.view c.try_take_rec.new.pass.view c.args.t.0
    c.requires.may c.requires.first c.requires.thread (c.try_take_rec.ensures.out c.if-not-try_take_rec.false)
    c.count.new.pass.view c.count.ensures.view c.count.ensures.step
    c.mark.result.0 c.mark.new.pass.view c.mark.ensures.marks

pub give_rec-requires-clause-may : goal.give_rec-requires-clause-may
give_rec-requires-clause-may c =
    told_give_may c.args.self.now.description c.args.pass.now.view c.try_take_rec.new.pass.view c.args.t.0
    c.requires.may c.requires.first c.requires.thread (c.try_take_rec.ensures.out c.if-not-try_take_rec.false)
    c.count.new.pass.view c.count.ensures.view c.count.ensures.step
    c.mark.result.0 c.mark.new.pass.view c.mark.ensures.marks

pub returns-clause-woken : goal.returns-clause-woken
returns-clause-woken c = λ e.
    told_wakes c.args.self.now.description c.args.pass.now.view c.try_take_rec.new.pass.view c.args.t.0
    c.requires.may c.requires.first c.requires.thread (c.try_take_rec.ensures.out c.if-not-try_take_rec.false)
    c.count.new.pass.view c.count.ensures.view c.count.ensures.step
    c.mark.result.0 c.mark.new.pass.view c.mark.ensures.marks c.give_rec.new.pass.view c.give_rec.ensures.view
    c.give_rec.ensures.step

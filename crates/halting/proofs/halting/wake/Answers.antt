use Rattle.std.proofs.Common.{sym, ap, ◌∙◌}
use Rattle.floor_table.specs.Views.{Knowledge}
use Rattle.halting.proofs.Woken.{somebody, told_may_take, told_stays, told_may_count, told_may_mark, told_last, told_give, told_wakes, told_may_mark_own, told_own_last, told_own_give, told_wakes_own}
use Rattle.halting.proofs.halting.wake.Goals as goal

pub unreachable-requires : goal.unreachable-requires
unreachable-requires c =
    somebody c.args.floor.now.description c.args.over c.args.itself c.args.pass.now.view c.requires.there.0
    c.requires.there.1.0 c.requires.there.1.1 c.in_default.ensures.none

pub returns-then-not-try_take_rec-clause-went : goal.returns-then-not-try_take_rec-clause-went
returns-then-not-try_take_rec-clause-went c =
    told_stays c.args.floor.now.description c.args.over c.args.itself c.args.pass.now.view c.requires.there.0
    c.requires.there.1.0 c.requires.there.1.1 c.in-Some.t.0 c.in-Some.ensures.some c.try_take_rec.new.pass.view
    (c.try_take_rec.ensures.left c.if-not-try_take_rec.true)
    (c.try_take_rec.ensures.elsewhere c.if-not-try_take_rec.true)

pub mark-requires-clause-may : goal.mark-requires-clause-may
mark-requires-clause-may c =
    told_may_mark_own c.args.floor.now.description c.args.over c.args.itself c.args.pass.now.view c.requires.there.0
    c.requires.there.1.0 c.requires.there.1.1 c.in-Some.t.0 c.in-Some.ensures.some c.try_take_rec.new.pass.view
    (c.try_take_rec.ensures.out c.if-not-try_take_rec.false)
    (c.if-number-own.true ∙ (c.thread.ensures.same ∙ ap (λ (k : Knowledge). k.thread)
    (c.try_take_rec.ensures.out c.if-not-try_take_rec.false).view))

pub give_rec-requires-clause-last : goal.give_rec-requires-clause-last
give_rec-requires-clause-last c =
    told_own_last c.args.floor.now.description c.args.over c.args.itself c.args.pass.now.view c.requires.there.0
    c.requires.there.1.0 c.requires.there.1.1 c.in-Some.t.0 c.in-Some.ensures.some c.try_take_rec.new.pass.view
    (c.try_take_rec.ensures.out c.if-not-try_take_rec.false)
    (c.if-number-own.true ∙ (c.thread.ensures.same ∙ ap (λ (k : Knowledge). k.thread)
    (c.try_take_rec.ensures.out c.if-not-try_take_rec.false).view))
    c.mark.result.0
    c.mark.new.pass.view c.mark.ensures.marks

pub give_rec-requires-clause-may : goal.give_rec-requires-clause-may
give_rec-requires-clause-may c =
    told_own_give c.args.floor.now.description c.args.over c.args.itself c.args.pass.now.view c.requires.there.0
    c.requires.there.1.0 c.requires.there.1.1 c.in-Some.t.0 c.in-Some.ensures.some c.try_take_rec.new.pass.view
    (c.try_take_rec.ensures.out c.if-not-try_take_rec.false)
    (c.if-number-own.true ∙ (c.thread.ensures.same ∙ ap (λ (k : Knowledge). k.thread)
    (c.try_take_rec.ensures.out c.if-not-try_take_rec.false).view))
    c.mark.result.0
    c.mark.new.pass.view c.mark.ensures.marks

pub returns-then-number-own-clause-went : goal.returns-then-number-own-clause-went
returns-then-number-own-clause-went c =
    told_wakes_own c.args.floor.now.description c.args.over c.args.itself c.args.pass.now.view c.requires.there.0
    c.requires.there.1.0 c.requires.there.1.1 c.in-Some.t.0 c.in-Some.ensures.some c.try_take_rec.new.pass.view
    (c.try_take_rec.ensures.out c.if-not-try_take_rec.false)
    (c.if-number-own.true ∙ (c.thread.ensures.same ∙ ap (λ (k : Knowledge). k.thread)
    (c.try_take_rec.ensures.out c.if-not-try_take_rec.false).view))
    c.mark.result.0
    c.mark.new.pass.view c.mark.ensures.marks c.give_rec.new.pass.view c.give_rec.ensures.view c.give_rec.ensures.step

pub count-requires-clause-may : goal.count-requires-clause-may
count-requires-clause-may c =
    told_may_count c.args.floor.now.description c.args.over c.args.itself c.args.pass.now.view c.requires.there.0
    c.requires.there.1.0 c.requires.there.1.1 c.in-Some.t.0 c.in-Some.ensures.some c.try_take_rec.new.pass.view
    (c.try_take_rec.ensures.out c.if-not-try_take_rec.false)
    (λ e. c.if-number-own.false (e ∙ sym (c.thread.ensures.same ∙ ap (λ (k : Knowledge). k.thread)
    (c.try_take_rec.ensures.out c.if-not-try_take_rec.false).view)))

pub mark-requires-else-number-own-clause-may : goal.mark-requires-else-number-own-clause-may
mark-requires-else-number-own-clause-may c =
    told_may_mark c.args.floor.now.description c.args.over c.args.itself c.args.pass.now.view c.requires.there.0
    c.requires.there.1.0 c.requires.there.1.1 c.in-Some.t.0 c.in-Some.ensures.some c.try_take_rec.new.pass.view
    (c.try_take_rec.ensures.out c.if-not-try_take_rec.false)
    (λ e. c.if-number-own.false (e ∙ sym (c.thread.ensures.same ∙ ap (λ (k : Knowledge). k.thread)
    (c.try_take_rec.ensures.out c.if-not-try_take_rec.false).view)))
    c.count.new.pass.view
    c.count.ensures.view c.count.ensures.step

pub give_rec-requires-else-number-own-clause-last : goal.give_rec-requires-else-number-own-clause-last
give_rec-requires-else-number-own-clause-last c =
    told_last c.args.floor.now.description c.args.over c.args.itself c.args.pass.now.view c.requires.there.0
    c.requires.there.1.0 c.requires.there.1.1 c.in-Some.t.0 c.in-Some.ensures.some c.try_take_rec.new.pass.view
    (c.try_take_rec.ensures.out c.if-not-try_take_rec.false)
    (λ e. c.if-number-own.false (e ∙ sym (c.thread.ensures.same ∙ ap (λ (k : Knowledge). k.thread)
    (c.try_take_rec.ensures.out c.if-not-try_take_rec.false).view)))
    c.count.new.pass.view
    c.count.ensures.view c.count.ensures.step c.mark-else-number-own.result.0
    c.mark-else-number-own.new.pass.view c.mark-else-number-own.ensures.marks

pub give_rec-requires-else-number-own-clause-may : goal.give_rec-requires-else-number-own-clause-may
give_rec-requires-else-number-own-clause-may c =
    told_give c.args.floor.now.description c.args.over c.args.itself c.args.pass.now.view c.requires.there.0
    c.requires.there.1.0 c.requires.there.1.1 c.in-Some.t.0 c.in-Some.ensures.some c.try_take_rec.new.pass.view
    (c.try_take_rec.ensures.out c.if-not-try_take_rec.false)
    (λ e. c.if-number-own.false (e ∙ sym (c.thread.ensures.same ∙ ap (λ (k : Knowledge). k.thread)
    (c.try_take_rec.ensures.out c.if-not-try_take_rec.false).view)))
    c.count.new.pass.view
    c.count.ensures.view c.count.ensures.step c.mark-else-number-own.result.0
    c.mark-else-number-own.new.pass.view c.mark-else-number-own.ensures.marks

pub returns-else-number-own-clause-went : goal.returns-else-number-own-clause-went
returns-else-number-own-clause-went c =
    told_wakes c.args.floor.now.description c.args.over c.args.itself c.args.pass.now.view c.requires.there.0
    c.requires.there.1.0 c.requires.there.1.1 c.in-Some.t.0 c.in-Some.ensures.some c.try_take_rec.new.pass.view
    (c.try_take_rec.ensures.out c.if-not-try_take_rec.false)
    (λ e. c.if-number-own.false (e ∙ sym (c.thread.ensures.same ∙ ap (λ (k : Knowledge). k.thread)
    (c.try_take_rec.ensures.out c.if-not-try_take_rec.false).view)))
    c.count.new.pass.view
    c.count.ensures.view c.count.ensures.step c.mark-else-number-own.result.0
    c.mark-else-number-own.new.pass.view c.mark-else-number-own.ensures.marks
    c.give_rec-else-number-own.new.pass.view c.give_rec-else-number-own.ensures.view
    c.give_rec-else-number-own.ensures.step

pub try_take_rec-requires-clause-may : goal.try_take_rec-requires-clause-may
try_take_rec-requires-clause-may c =
    told_may_take c.args.floor.now.description c.args.over c.args.itself c.args.pass.now.view c.requires.there.0
    c.requires.there.1.0 c.requires.there.1.1 c.in-Some.t.0 c.in-Some.ensures.some

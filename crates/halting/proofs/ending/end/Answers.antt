use Rattle.std.proofs.Common.{◌<◌, length, subst}
use Rattle.floor_table.specs.declared.description.Description.{Description}
use Rattle.halting.proofs.Coming.{wakes_nobody}
use Rattle.halting.proofs.Ended.{told_ends_last, told_ends_others, told_last, told_give_may, told_count, told_may_end, told_stays}
use Rattle.halting.proofs.ending.end.Goals as goal

pub try_take_rec-requires-clause-thread : goal.try_take_rec-requires-clause-thread
try_take_rec-requires-clause-thread c =
    subst (λ (d : Description). c.thread-who.result.0 < length d.threads) c.requires.own.description
    c.thread-who.ensures.of_floor

pub returns-then-not-try_take_rec-clause-went : goal.returns-then-not-try_take_rec-clause-went
returns-then-not-try_take_rec-clause-went c = (
  told_stays c.args.floor.now.description c.args.pass.now.view c.requires.own.description c.requires.there.0
      c.requires.there.1 c.thread-who.result.0 c.thread-who.ensures.same c.try_take_rec.new.pass.view
      (c.try_take_rec.ensures.left c.if-not-try_take_rec.true)
      (c.try_take_rec.ensures.elsewhere c.if-not-try_take_rec.true),
  wakes_nobody c.args.pass.now.view c.try_take_rec.new.pass.view c.requires.there.0.unmarked,
)

pub end-requires-clause-may : goal.end-requires-clause-may
end-requires-clause-may c =
    told_may_end c.args.floor.now.description c.args.pass.now.view c.requires.own.description c.requires.there.0
    c.requires.there.1 c.thread-who.result.0 c.thread-who.ensures.same c.try_take_rec.new.pass.view
    (c.try_take_rec.ensures.out c.if-not-try_take_rec.false)

pub give_rec-requires-clause-last : goal.give_rec-requires-clause-last
give_rec-requires-clause-last c =
    told_last c.args.floor.now.description c.args.pass.now.view c.requires.own.description c.requires.there.0
    c.requires.there.1 c.thread-who.result.0 c.thread-who.ensures.same c.try_take_rec.new.pass.view
    (c.try_take_rec.ensures.out c.if-not-try_take_rec.false) c.end.new.pass.view c.end.ensures.view
    c.end.ensures.step

pub give_rec-requires-clause-may : goal.give_rec-requires-clause-may
give_rec-requires-clause-may c =
    told_give_may c.args.floor.now.description c.args.pass.now.view c.requires.own.description c.requires.there.0
    c.requires.there.1 c.thread-who.result.0 c.thread-who.ensures.same c.try_take_rec.new.pass.view
    (c.try_take_rec.ensures.out c.if-not-try_take_rec.false) c.end.new.pass.view c.end.ensures.view
    c.end.ensures.step

pub count-requires-clause-may : goal.count-requires-clause-may
count-requires-clause-may c =
    told_count c.args.floor.now.description c.args.pass.now.view c.requires.own.description c.requires.there.0
    c.requires.there.1 c.thread-who.result.0 c.thread-who.ensures.same c.try_take_rec.new.pass.view
    (c.try_take_rec.ensures.out c.if-not-try_take_rec.false) c.end.new.pass.view c.end.ensures.view
    c.end.ensures.step
    c.give_rec.new.pass.view c.give_rec.ensures.view c.give_rec.ensures.step

pub returns-then-count-eq1-clause-went : goal.returns-then-count-eq1-clause-went
returns-then-count-eq1-clause-went c = (
  told_ends_last c.args.floor.now.description c.args.pass.now.view c.requires.own.description c.requires.there.0
      c.requires.there.1 c.thread-who.result.0 c.thread-who.ensures.same c.try_take_rec.new.pass.view
      (c.try_take_rec.ensures.out c.if-not-try_take_rec.false) c.end.new.pass.view c.end.ensures.view
      c.end.ensures.step
      c.give_rec.new.pass.view c.give_rec.ensures.view c.give_rec.ensures.step
      c.count.result c.count.new.pass.view
      c.count.ensures.view c.count.ensures.step c.if-count-eq1.true,
  wakes_nobody c.args.pass.now.view c.count.new.pass.view c.requires.there.0.unmarked,
)

pub returns-else-count-eq1-clause-went : goal.returns-else-count-eq1-clause-went
returns-else-count-eq1-clause-went c =
    told_ends_others c.args.floor.now.description c.args.pass.now.view c.requires.own.description c.requires.there.0
    c.requires.there.1 c.thread-who.result.0 c.thread-who.ensures.same c.try_take_rec.new.pass.view
    (c.try_take_rec.ensures.out c.if-not-try_take_rec.false) c.end.new.pass.view c.end.ensures.view
    c.end.ensures.step
    c.give_rec.new.pass.view c.give_rec.ensures.view c.give_rec.ensures.step
    c.count.result c.count.new.pass.view
    c.count.ensures.view c.count.ensures.step c.if-count-eq1.false

use Rattle.std.proofs.Common.{◌<◌, length, subst}
use Rattle.lock_state.specs.Steps.Items.{RecordOf}
use Rattle.floor_table.specs.declared.description.Description.{Description}
use Rattle.lock_floor.specs.Latches.{Takes}
use Rattle.cond_vars.proofs.WaitParts.{lay_down, low, may_lie_down, may_take_own, missed_record, still_coming_in, then_release}
use Rattle.cond_vars.proofs.parts.come_in.Goals as goal

pub try_take_rec-requires-clause-thread : goal.try_take_rec-requires-clause-thread
try_take_rec-requires-clause-thread c =
    subst (λ (d : Description). c.thread-who.result.0 < length d.threads) c.requires.own.description
    c.thread-who.ensures.of_floor

pub try_take_rec-requires-clause-may : goal.try_take_rec-requires-clause-may
try_take_rec-requires-clause-may c =
    may_take_own c.args.floor.now.description c.args.c c.args.pass.now.view c.requires.there c.thread-who.result.0
    c.thread-who.ensures.same
    (subst (λ (d : Description). c.thread-who.result.0 < length d.threads) c.requires.own.description
    c.thread-who.ensures.of_floor)

pub returns-then-not-try_take_rec-clause-then : goal.returns-then-not-try_take_rec-clause-then
returns-then-not-try_take_rec-clause-then c =
    still_coming_in c.args.floor.now.description c.args.c c.args.pass.now.view c.requires.there
    c.try_take_rec.new.pass.view
    (c.try_take_rec.ensures.left c.if-not-try_take_rec.true)

pub returns-then-not-try_take_rec-clause-part : goal.returns-then-not-try_take_rec-clause-part
returns-then-not-try_take_rec-clause-part c =
    missed_record c.args.floor.now.description c.args.c c.args.pass.now.view c.requires.there
    c.try_take_rec.new.pass.view
    (c.try_take_rec.ensures.left c.if-not-try_take_rec.true) c.thread-who.result.0 c.thread-who.ensures.same
    (c.try_take_rec.ensures.elsewhere c.if-not-try_take_rec.true)

pub lie_down-requires-clause-may : goal.lie_down-requires-clause-may
lie_down-requires-clause-may c =
    may_lie_down c.args.floor.now.description c.args.c c.args.pass.now.view c.requires.there
    (low c.args.floor.now.description c.args.c c.args.pass.now.view c.requires.there
    c.requires.own.description c.thread-who.result.0 c.thread-who.ensures.same c.thread-who.ensures.of_floor)
    c.try_take_rec.new.pass.view
    (subst (λ t. Takes c.args.floor.now.description (RecordOf t) t c.args.pass.now.view
    c.try_take_rec.new.pass.view) c.thread-who.ensures.same
    (c.try_take_rec.ensures.out c.if-not-try_take_rec.false))

pub returns-clause-then : goal.returns-clause-then
returns-clause-then c =
    then_release c.args.floor.now.description c.args.c c.args.pass.now.view c.requires.there
    (low c.args.floor.now.description c.args.c c.args.pass.now.view c.requires.there
    c.requires.own.description c.thread-who.result.0 c.thread-who.ensures.same c.thread-who.ensures.of_floor)
    c.try_take_rec.new.pass.view
    (subst (λ t. Takes c.args.floor.now.description (RecordOf t) t c.args.pass.now.view
    c.try_take_rec.new.pass.view) c.thread-who.ensures.same
    (c.try_take_rec.ensures.out c.if-not-try_take_rec.false))
    c.lie_down.new.pass.view c.lie_down.ensures.lies

pub returns-clause-part : goal.returns-clause-part
returns-clause-part c =
    lay_down c.args.floor.now.description c.args.c c.args.pass.now.view c.requires.there
    (low c.args.floor.now.description c.args.c c.args.pass.now.view c.requires.there
    c.requires.own.description c.thread-who.result.0 c.thread-who.ensures.same c.thread-who.ensures.of_floor)
    c.try_take_rec.new.pass.view
    (subst (λ t. Takes c.args.floor.now.description (RecordOf t) t c.args.pass.now.view
    c.try_take_rec.new.pass.view) c.thread-who.ensures.same
    (c.try_take_rec.ensures.out c.if-not-try_take_rec.false))
    c.lie_down.new.pass.view c.lie_down.ensures.lies

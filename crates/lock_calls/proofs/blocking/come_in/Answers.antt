use Rattle.lock_calls.proofs.Names.{length, sym, subst, Description, CanAcquire}
use Rattle.std.proofs.Common.{◌<◌}
use Rattle.lock_calls.proofs.There.{may_take_own_there, may_ready_there, come_kept, come_there, may_look_in_section}
use Rattle.lock_calls.proofs.Spun.{stays_coming, comes_there_on}
use Rattle.lock_calls.proofs.blocking.come_in.Goals as goal

pub try_take_rec-requires-clause-thread : goal.try_take_rec-requires-clause-thread
try_take_rec-requires-clause-thread c =
    (subst (λ (d : Description). c.thread-who.result.0 < length d.threads) c.requires.own.description
    c.thread-who.ensures.of_floor)

pub try_take_rec-requires-clause-may : goal.try_take_rec-requires-clause-may
try_take_rec-requires-clause-may c =
    may_take_own_there c.args.floor.now.description c.args.l.0 c.args.pass.now.view c.requires.under_way.there
    c.requires.under_way.calling.going c.thread-who.result.0
    (subst (λ (d : Description). c.thread-who.result.0 < length d.threads) c.requires.own.description
    c.thread-who.ensures.of_floor)

pub returns-then-not-try_take_rec-clause-on : goal.returns-then-not-try_take_rec-clause-on
returns-then-not-try_take_rec-clause-on c =
    stays_coming c.args.floor.now.description c.args.l c.args.mode c.thread-who.result.0 c.args.pass.now.view
    c.try_take_rec.new.pass.view
    c.thread-who.ensures.same c.requires.under_way.there (c.try_take_rec.ensures.left c.if-not-try_take_rec.true)
    (c.try_take_rec.ensures.elsewhere c.if-not-try_take_rec.true)

pub ready-requires-clause-may : goal.ready-requires-clause-may
ready-requires-clause-may c =
    may_ready_there c.args.floor.now.description c.args.l.0 c.args.pass.now.view c.requires.under_way.there
    c.requires.under_way.calling.going c.thread-who.result.0 c.thread-who.ensures.same
    c.try_take_rec.new.pass.view (c.try_take_rec.ensures.out c.if-not-try_take_rec.false)

pub look-requires-clause-may : goal.look-requires-clause-may
look-requires-clause-may c =
    may_look_in_section c.args.floor.now.description c.args.l.0 c.args.mode c.ready.new.pass.view
    c.requires.under_way.covered
    (come_there c.args.floor.now.description c.args.l.0 c.args.pass.now.view c.requires.under_way.there
    c.requires.under_way.calling.going c.thread-who.result.0 c.thread-who.ensures.same
    c.try_take_rec.new.pass.view (c.try_take_rec.ensures.out c.if-not-try_take_rec.false) c.ready.new.pass.view
    c.ready.ensures.view
    (subst (λ (d : Description). c.thread-who.result.0 < length d.threads) c.requires.own.description
    c.thread-who.ensures.of_floor))
    (subst (CanAcquire c.args.floor.now.description)
    (sym (come_kept c.args.floor.now.description c.args.l.0 c.args.pass.now.view c.requires.under_way.there
    c.requires.under_way.calling.going c.thread-who.result.0
    c.thread-who.ensures.same c.try_take_rec.new.pass.view (c.try_take_rec.ensures.out c.if-not-try_take_rec.false)
    c.ready.new.pass.view
    c.ready.ensures.view)) c.requires.under_way.calling)

pub returns-clause-on : goal.returns-clause-on
returns-clause-on c =
    comes_there_on c.args.floor.now.description c.args.l c.args.mode c.requires.under_way.covered c.requires.one_chain
    c.args.pass.now.view c.requires.under_way.there
    c.requires.under_way.calling.going c.thread-who.result.0
    (subst (λ (d : Description). c.thread-who.result.0 < length d.threads) c.requires.own.description
    c.thread-who.ensures.of_floor)
    c.thread-who.ensures.same c.requires.own.description c.try_take_rec.new.pass.view
    (c.try_take_rec.ensures.out c.if-not-try_take_rec.false)
    c.ready.new.pass.view c.ready.ensures.view c.ready.ensures.step c.look.result c.look.new.pass.view
    c.look.ensures.view c.look.ensures.step

use Rattle.lock_calls.proofs.Names.{length, subst, Description}
use Rattle.std.proofs.Common.{◌<◌}
use Rattle.lock_calls.proofs.Leaving.{may_take_own, stays_coming_in, may_let_now, comes_in_on}
use Rattle.lock_calls.proofs.Owned.{may_look_own}
use Rattle.lock_calls.proofs.freeing.come_in.Goals as goal

pub try_take_rec-requires-clause-thread : goal.try_take_rec-requires-clause-thread
try_take_rec-requires-clause-thread c =
    (subst (λ (d : Description). c.thread-who.result.0 < length d.threads) c.requires.own.description
    c.thread-who.ensures.of_floor)

pub try_take_rec-requires-clause-may : goal.try_take_rec-requires-clause-may
try_take_rec-requires-clause-may c =
    may_take_own c.args.floor.now.description c.args.l c.args.mode c.args.pass.now.view c.requires.there
    c.thread-who.result.0 c.thread-who.ensures.same
    (subst (λ (d : Description). c.thread-who.result.0 < length d.threads) c.requires.own.description
    c.thread-who.ensures.of_floor)

pub returns-then-not-try_take_rec-clause-on : goal.returns-then-not-try_take_rec-clause-on
returns-then-not-try_take_rec-clause-on c =
    stays_coming_in c.args.floor.now.description c.args.l c.args.mode c.args.pass.now.view c.requires.there
    c.thread-who.result.0 c.thread-who.ensures.same
    c.try_take_rec.new.pass.view (c.try_take_rec.ensures.left c.if-not-try_take_rec.true)
    (c.try_take_rec.ensures.elsewhere c.if-not-try_take_rec.true)

pub look-requires-clause-may : goal.look-requires-clause-may
look-requires-clause-may c =
    may_look_own c.args.floor.now.description c.args.l.0 c.args.mode c.try_take_rec.new.pass.view
    c.requires.lock
    (may_let_now c.args.floor.now.description c.args.l c.args.mode c.args.pass.now.view c.requires.there
    c.thread-who.result.0 c.thread-who.ensures.same
    c.try_take_rec.new.pass.view (c.try_take_rec.ensures.out c.if-not-try_take_rec.false))
    c.try_take_rec.ensures.own.description

pub returns-clause-on : goal.returns-clause-on
returns-clause-on c =
    comes_in_on c.args.floor.now.description c.args.l c.args.mode c.args.pass.now.view c.requires.there
    c.thread-who.result.0 c.thread-who.ensures.same
    c.try_take_rec.new.pass.view (c.try_take_rec.ensures.out c.if-not-try_take_rec.false) c.look.result
    c.look.new.pass.view c.look.ensures.word
    c.look.ensures.view c.look.ensures.step

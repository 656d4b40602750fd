use Rattle.lock_calls.proofs.Names.{length, subst, Description}
use Rattle.std.proofs.Common.{◌<◌}
use Rattle.lock_calls.proofs.TriedOn.{record_away, record_on, calling_there}
use Rattle.lock_calls.proofs.TriedThere.{may_take_own_by_try, come_by_try, may_look_there_by_try}
use Rattle.lock_calls.proofs.trying.come_in.Goals as goal

pub try_take_rec-requires-clause-thread : goal.try_take_rec-requires-clause-thread
try_take_rec-requires-clause-thread c =
    subst (λ (d : Description). c.thread-who.result.0 < length d.threads) c.requires.own.description
    c.thread-who.ensures.of_floor

pub try_take_rec-requires-clause-may : goal.try_take_rec-requires-clause-may
try_take_rec-requires-clause-may c =
    may_take_own_by_try c.args.floor.now.description c.args.l.0 c.args.pass.now.view c.requires.under_way.there
    c.requires.under_way.calling c.thread-who.result.0
    (subst (λ (d : Description). c.thread-who.result.0 < length d.threads) c.requires.own.description
    c.thread-who.ensures.of_floor)

pub returns-then-not-try_take_rec-clause-on : goal.returns-then-not-try_take_rec-clause-on
returns-then-not-try_take_rec-clause-on c =
    record_away c.args.floor.now.description c.args.l c.args.mode c.args.pass.now.view c.requires.under_way.there
    c.requires.under_way.calling c.thread-who.result.0
    (subst (λ (d : Description). c.thread-who.result.0 < length d.threads) c.requires.own.description
    c.thread-who.ensures.of_floor)
    c.thread-who.ensures.same c.try_take_rec.new.pass.view
    (c.try_take_rec.ensures.left c.if-not-try_take_rec.true)
    (c.try_take_rec.ensures.elsewhere c.if-not-try_take_rec.true)

pub look-requires-clause-lock : goal.look-requires-clause-lock
look-requires-clause-lock c = c.requires.under_way.covered.lock

pub look-requires-clause-may : goal.look-requires-clause-may
look-requires-clause-may c =
    let floor = c.args.floor.now.description in
    let u = c.requires.under_way in
    let low = subst (λ (d : Description). c.thread-who.result.0 < length d.threads) c.requires.own.description
    c.thread-who.ensures.of_floor in
    let taken = c.try_take_rec.ensures.out c.if-not-try_take_rec.false in
    may_look_there_by_try floor c.args.l.0 c.try_take_rec.new.pass.view
    (come_by_try floor c.args.l.0 c.args.pass.now.view u.there u.calling c.thread-who.result.0 low
    c.thread-who.ensures.same c.try_take_rec.new.pass.view taken)
    (calling_there floor c.args.l c.args.mode c.args.pass.now.view u.there u.calling c.thread-who.result.0 low
    c.thread-who.ensures.same c.try_take_rec.new.pass.view taken)
    u.covered.lock

pub returns-clause-on : goal.returns-clause-on
returns-clause-on c =
    let u = c.requires.under_way in
    record_on c.args.floor.now.description c.args.l c.args.mode c.args.pass.now.view u.there u.calling
    c.thread-who.result.0
    (subst (λ (d : Description). c.thread-who.result.0 < length d.threads) c.requires.own.description
    c.thread-who.ensures.of_floor)
    c.thread-who.ensures.same c.try_take_rec.new.pass.view (c.try_take_rec.ensures.out c.if-not-try_take_rec.false)
    c.look.result c.look.new.pass.view c.look.ensures.view c.look.ensures.step

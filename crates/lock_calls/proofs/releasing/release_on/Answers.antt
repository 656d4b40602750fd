use Rattle.lock_calls.proofs.Names.{sym, subst, IsReleasing, ReleasesPart}
use Rattle.lock_calls.specs.declared.answers.ReleaseNext.TheVariants as next
use Rattle.lock_calls.proofs.Woken.{wakes_part}
use Rattle.lock_calls.proofs.releasing.release_on.Goals as goal

pub drop_outside-requires-clause-there : goal.drop_outside-requires-clause-there
drop_outside-requires-clause-there c =
    subst (λ a. IsReleasing c.args.floor.now.description c.args.l.0 c.args.mode a c.args.pass.now.view)
    c.in-Drops.is c.requires.there

pub returns-in-Some-clause-part : goal.returns-in-Some-clause-part
returns-in-Some-clause-part c =
    subst (λ a. ReleasesPart c.args.floor.now.description c.args.l c.args.mode a (next.At c.in-Some.to)
    c.args.pass.now.view c.drop_outside.new.pass.view)
    (sym c.in-Drops.is) c.in-Some.ensures.on

pub returns-in-None-clause-part : goal.returns-in-None-clause-part
returns-in-None-clause-part c =
    subst (λ a. ReleasesPart c.args.floor.now.description c.args.l c.args.mode a next.Done
    c.args.pass.now.view c.drop_outside.new.pass.view)
    (sym c.in-Drops.is) c.in-None.ensures.released

pub come_to-requires-clause-there : goal.come_to-requires-clause-there
come_to-requires-clause-there c =
    subst (λ a. IsReleasing c.args.floor.now.description c.args.l.0 c.args.mode a c.args.pass.now.view)
    c.in-ComesTo.is c.requires.there

pub returns-in-ComesTo-clause-part : goal.returns-in-ComesTo-clause-part
returns-in-ComesTo-clause-part c =
    subst (λ a. ReleasesPart c.args.floor.now.description c.args.l c.args.mode a (next.At c.come_to.result)
    c.args.pass.now.view c.come_to.new.pass.view)
    (sym c.in-ComesTo.is) c.come_to.ensures.on

pub come_in-requires-clause-there : goal.come_in-requires-clause-there
come_in-requires-clause-there c =
    subst (λ a. IsReleasing c.args.floor.now.description c.args.l.0 c.args.mode a c.args.pass.now.view)
    c.in-ComesIn.is c.requires.there

pub returns-in-ComesIn-clause-part : goal.returns-in-ComesIn-clause-part
returns-in-ComesIn-clause-part c =
    subst (λ a. ReleasesPart c.args.floor.now.description c.args.l c.args.mode a (next.At c.come_in.result)
    c.args.pass.now.view c.come_in.new.pass.view)
    (sym c.in-ComesIn.is) c.come_in.ensures.on

pub let_go-requires-clause-there : goal.let_go-requires-clause-there
let_go-requires-clause-there c =
    subst (λ a. IsReleasing c.args.floor.now.description c.args.l.0 c.args.mode a c.args.pass.now.view)
    c.in-Frees.is c.requires.there

pub returns-in-Frees-clause-part : goal.returns-in-Frees-clause-part
returns-in-Frees-clause-part c =
    subst (λ a. ReleasesPart c.args.floor.now.description c.args.l c.args.mode a (next.At c.let_go.result)
    c.args.pass.now.view c.let_go.new.pass.view)
    (sym c.in-Frees.is) c.let_go.ensures.on

pub wake_first-requires-clause-may : goal.wake_first-requires-clause-may
wake_first-requires-clause-may c =
    (subst (λ a. IsReleasing c.args.floor.now.description c.args.l.0 c.args.mode a c.args.pass.now.view)
    c.in-Wakes.is c.requires.there).may

pub returns-in-Wakes-clause-part : goal.returns-in-Wakes-clause-part
returns-in-Wakes-clause-part c =
    subst (λ a. ReleasesPart c.args.floor.now.description c.args.l c.args.mode a c.wake_first.result
    c.args.pass.now.view c.wake_first.new.pass.view)
    (sym c.in-Wakes.is)
    (wakes_part c.args.floor.now.description c.args.l c.args.mode c.wake_first.result c.args.pass.now.view
    c.wake_first.new.pass.view
    (subst (λ a. IsReleasing c.args.floor.now.description c.args.l.0 c.args.mode a c.args.pass.now.view)
    c.in-Wakes.is c.requires.there) c.wake_first.ensures.wakes)

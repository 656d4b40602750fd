use Rattle.lock_calls.proofs.Names.{subst, Wakes, ReleasesPart}
use Rattle.lock_floor.specs.declared.calls.Call.TheVariants as calls
use Rattle.lock_calls.proofs.Calls.{own_noted}
use Rattle.lock_calls.proofs.Woken.{release_ends, release_stands, release_wakes}
use Rattle.lock_calls.proofs.releasing.go_on.Goals as goal

pub release_on-requires-clause-lock : goal.release_on-requires-clause-lock
release_on-requires-clause-lock c = c.requires.under_way.covered.lock

pub release_on-requires-clause-there : goal.release_on-requires-clause-there
release_on-requires-clause-there c = c.requires.under_way.there

pub returns-in-Done-clause-own : goal.returns-in-Done-clause-own
returns-in-Done-clause-own c =
    own_noted c.args.floor.now c.release_on.new.pass c.set_call.new.self calls.None c.set_call.ensures
    c.release_on.ensures.own

pub returns-in-Done-clause-went : goal.returns-in-Done-clause-went
returns-in-Done-clause-went c =
    release_ends c.args.floor.now.description c.args.l c.args.mode c.args.at c.args.pass.now c.release_on.new.pass
    c.set_call.new.self c.requires.under_way
    (subst (λ n. ReleasesPart c.args.floor.now.description c.args.l c.args.mode c.args.at n c.args.pass.now.view
    c.release_on.new.pass.view) c.in-Done.is c.release_on.ensures.part)
    c.set_call.ensures

pub returns-in-At-clause-own : goal.returns-in-At-clause-own
returns-in-At-clause-own c =
    own_noted c.args.floor.now c.release_on.new.pass c.stand.new.pass
    (calls.Release c.args.l c.args.mode c.in-At.to) c.stand.ensures c.release_on.ensures.own

pub returns-in-At-clause-went : goal.returns-in-At-clause-went
returns-in-At-clause-went c =
    release_stands c.args.floor.now.description c.args.l c.args.mode c.args.at c.args.pass.now c.release_on.new.pass
    c.stand.new.pass c.requires.under_way c.in-At.to
    (subst (λ n. ReleasesPart c.args.floor.now.description c.args.l c.args.mode c.args.at n c.args.pass.now.view
    c.release_on.new.pass.view) c.in-At.is c.release_on.ensures.part)
    c.stand.ensures

pub returns-in-Wake-clause-own : goal.returns-in-Wake-clause-own
returns-in-Wake-clause-own c =
    own_noted c.args.floor.now c.release_on.new.pass c.stand-in-Wake.new.pass
    (calls.Release c.args.l c.args.mode Wakes) c.stand-in-Wake.ensures c.release_on.ensures.own

pub returns-in-Wake-clause-went : goal.returns-in-Wake-clause-went
returns-in-Wake-clause-went c =
    release_wakes c.args.floor.now.description c.args.l c.args.mode c.args.at c.args.pass.now c.release_on.new.pass
    c.stand-in-Wake.new.pass c.requires.under_way c.in-Wake.t
    (subst (λ n. ReleasesPart c.args.floor.now.description c.args.l c.args.mode c.args.at n c.args.pass.now.view
    c.release_on.new.pass.view) c.in-Wake.is c.release_on.ensures.part)
    c.stand-in-Wake.ensures

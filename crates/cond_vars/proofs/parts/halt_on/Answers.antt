use Rattle.std.proofs.Common.{subst}
use Rattle.halting.specs.Halts.{GoesOnHalting}
use Rattle.cond_vars.proofs.WaitParts.{halted_part, halted_then, halts_one_part, halts_part, halts_then}
use Rattle.cond_vars.proofs.parts.halt_on.Goals as goal

pub returns-in-Done-clause-then : goal.returns-in-Done-clause-then
returns-in-Done-clause-then c =
    halted_then c.args.floor.now.description c.args.c c.args.pass.now.view c.requires.there.0
    c.go_on_halting.new.pass.view c.args.there
    (subst (λ n. GoesOnHalting c.args.floor.now.description c.args.there n c.args.pass.now.view
    c.go_on_halting.new.pass.view) c.in-Done.is c.go_on_halting.ensures.went)

pub returns-in-Done-clause-part : goal.returns-in-Done-clause-part
returns-in-Done-clause-part c =
    halted_part c.args.floor.now.description c.args.c c.args.pass.now.view c.requires.there.0
    c.go_on_halting.new.pass.view c.args.there
    (subst (λ n. GoesOnHalting c.args.floor.now.description c.args.there n c.args.pass.now.view
    c.go_on_halting.new.pass.view) c.in-Done.is c.go_on_halting.ensures.went)

pub returns-in-Again-clause-then : goal.returns-in-Again-clause-then
returns-in-Again-clause-then c =
    let went = subst (λ n. GoesOnHalting c.args.floor.now.description c.args.there n c.args.pass.now.view
    c.go_on_halting.new.pass.view) c.in-Again.is c.go_on_halting.ensures.went in
    halts_then c.args.floor.now.description c.args.c c.args.pass.now.view c.requires.there.0
    c.go_on_halting.new.pass.view c.args.there c.in-Again.to went.0

pub returns-in-Again-clause-part : goal.returns-in-Again-clause-part
returns-in-Again-clause-part c =
    let went = subst (λ n. GoesOnHalting c.args.floor.now.description c.args.there n c.args.pass.now.view
    c.go_on_halting.new.pass.view) c.in-Again.is c.go_on_halting.ensures.went in
    halts_part c.args.floor.now.description c.args.c c.args.pass.now.view c.requires.there.0
    c.go_on_halting.new.pass.view c.args.there c.in-Again.to went.0 went.1

pub returns-in-Wake-clause-then : goal.returns-in-Wake-clause-then
returns-in-Wake-clause-then c =
    let went = subst (λ n. GoesOnHalting c.args.floor.now.description c.args.there n c.args.pass.now.view
    c.go_on_halting.new.pass.view) c.in-Wake.is c.go_on_halting.ensures.went in
    halts_then c.args.floor.now.description c.args.c c.args.pass.now.view c.requires.there.0
    c.go_on_halting.new.pass.view c.args.there c.in-Wake.to went.0

pub returns-in-Wake-clause-part : goal.returns-in-Wake-clause-part
returns-in-Wake-clause-part c =
    let went = subst (λ n. GoesOnHalting c.args.floor.now.description c.args.there n c.args.pass.now.view
    c.go_on_halting.new.pass.view) c.in-Wake.is c.go_on_halting.ensures.went in
    halts_one_part c.args.floor.now.description c.args.c c.args.pass.now.view c.requires.there.0
    c.go_on_halting.new.pass.view c.args.there c.requires.there.1 c.in-Wake.to c.in-Wake.t went.0 went.1

use Rattle.lock_calls.proofs.Names.{subst, GoesOnHalting, ends_waking_nobody}
use Rattle.lock_calls.proofs.Standing.{halts_further, is_done_halting, wakes_another}
use Rattle.lock_calls.proofs.sleeping.halt_on.Goals as goal

pub returns-in-Done-clause-on : goal.returns-in-Done-clause-on
returns-in-Done-clause-on c =
    let went = subst (λ n. GoesOnHalting c.args.floor.now.description c.args.there n c.args.pass.now.view
    c.go_on_halting.new.pass.view) c.in-Done.is c.go_on_halting.ensures.went in (
      is_done_halting c.args.floor.now.description c.args.l c.args.mode c.args.there c.args.pass.now.view
          c.go_on_halting.new.pass.view c.requires.under_way.there went,
      ends_waking_nobody c.args.floor.now.description c.args.there c.args.pass.now.view
          c.go_on_halting.new.pass.view c.requires.under_way.there.halts went.end,
    )

pub returns-in-Again-clause-on : goal.returns-in-Again-clause-on
returns-in-Again-clause-on c =
    let went = subst (λ n. GoesOnHalting c.args.floor.now.description c.args.there n c.args.pass.now.view
    c.go_on_halting.new.pass.view) c.in-Again.is c.go_on_halting.ensures.went in (
      halts_further c.args.floor.now.description c.args.l c.args.mode c.args.there c.args.pass.now.view
          c.go_on_halting.new.pass.view c.requires.under_way.there c.in-Again.to went.0,
      went.1,
    )

pub returns-in-Wake-clause-on : goal.returns-in-Wake-clause-on
returns-in-Wake-clause-on c =
    let went = subst (λ n. GoesOnHalting c.args.floor.now.description c.args.there n c.args.pass.now.view
    c.go_on_halting.new.pass.view) c.in-Wake.is c.go_on_halting.ensures.went in
    wakes_another c.args.floor.now.description c.args.l c.args.mode c.args.there c.args.pass.now.view
    c.go_on_halting.new.pass.view c.requires.under_way.there c.in-Wake.to c.in-Wake.t.0 went.0 went.1

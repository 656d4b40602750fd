use Rattle.std.proofs.Common.{sym, subst}
use Rattle.halting.specs.Halts.{GoesOnHalting}
use Rattle.halting.specs.declared.ending.EndAt.{EndAt}
use Rattle.halting.specs.declared.ending.EndAt.TheVariants.{Halts}
use Rattle.halting.specs.declared.ending.EndNext.TheVariants.{Done, Again, Wake}
use Rattle.halting.specs.Ends.{GoesOnEnding, IsEnding}
use Rattle.halting.proofs.Ended.{aside_at, ends_done, halts_on}
use Rattle.halting.proofs.ending.go_on_ending.Goals as goal

pub returns-in-Done-clause-went : goal.returns-in-Done-clause-went
returns-in-Done-clause-went c =
    let h = subst (λ (a : EndAt). IsEnding c.args.floor.now.description a c.args.pass.now.view) c.in-Halts.is
    c.requires.there in
    subst (λ (a : EndAt). GoesOnEnding c.args.floor.now.description a Done c.args.pass.now.view
    c.go_on_halting.new.pass.view) (sym c.in-Halts.is)
    (ends_done c.args.floor.now.description c.in-Halts.there c.args.pass.now.view h c.go_on_halting.new.pass.view
    (aside_at c.args.floor.now.description c.in-Halts.there c.args.pass.now.view h.halts)
    (subst (λ n. GoesOnHalting c.args.floor.now.description c.in-Halts.there n c.args.pass.now.view
    c.go_on_halting.new.pass.view) c.in-Done.is c.go_on_halting.ensures.went))

pub returns-in-Again-clause-went : goal.returns-in-Again-clause-went
returns-in-Again-clause-went c =
    let h = subst (λ (a : EndAt). IsEnding c.args.floor.now.description a c.args.pass.now.view) c.in-Halts.is
    c.requires.there in
    let went = subst (λ n. GoesOnHalting c.args.floor.now.description c.in-Halts.there n c.args.pass.now.view
    c.go_on_halting.new.pass.view) c.in-Again.is c.go_on_halting.ensures.went in
    subst (λ (a : EndAt). GoesOnEnding c.args.floor.now.description a (Again (Halts c.in-Again.to)) c.args.pass.now.view
    c.go_on_halting.new.pass.view) (sym c.in-Halts.is) (
      halts_on c.args.floor.now.description c.in-Halts.there c.args.pass.now.view h c.in-Again.to
          c.go_on_halting.new.pass.view went.0,
      went.1,
    )

pub returns-in-Wake-clause-went : goal.returns-in-Wake-clause-went
returns-in-Wake-clause-went c =
    let h = subst (λ (a : EndAt). IsEnding c.args.floor.now.description a c.args.pass.now.view) c.in-Halts.is
    c.requires.there in
    let went = subst (λ n. GoesOnHalting c.args.floor.now.description c.in-Halts.there n c.args.pass.now.view
    c.go_on_halting.new.pass.view) c.in-Wake.is c.go_on_halting.ensures.went in
    subst (λ (a : EndAt). GoesOnEnding c.args.floor.now.description a (Wake c.in-Wake.t (Halts c.in-Wake.to))
    c.args.pass.now.view
    c.go_on_halting.new.pass.view) (sym c.in-Halts.is) (
      halts_on c.args.floor.now.description c.in-Halts.there c.args.pass.now.view h c.in-Wake.to
          c.go_on_halting.new.pass.view went.0,
      went.1,
    )

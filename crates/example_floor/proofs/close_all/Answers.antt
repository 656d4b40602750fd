use Rattle.std.proofs.Common.{◌≡◌, List, ◌∷◌, All, length, ap, subst, ◌∙◌, arith, length-append}
use Rattle.std.specs.Vec.Iter.{into_iter_items}
use Rattle.std.proofs.lemmas.List.Elements.{All-tail}
use Rattle.floor_table.specs.Views.{Knowledge}
use Rattle.lock_floor.specs.Floors.{Pass}
use Rattle.lock_floor.specs.Passes.{IsFinished}
use Rattle.example_floor.proofs.close_all.Goals as goal

pub loop-pass-preserved : goal.loop-pass-preserved
loop-pass-preserved c =
    let at = c.loop-pass in
    let p : Pass Knowledge = c.in-Some.pass in
    let rest : List (Pass Knowledge) = into_iter_items c.next.new.self in
    let steps : into_iter_items at.pass-iterator ≡ p ∷ rest = c.in-Some.ensures.steps.0 in
    let short = ap length steps in
    record {
      mine = c.gather.ensures.mine;
      gathered =
          let was = at.invariant.gathered in
          let grown = ap length c.gather.ensures.gathered ∙ length-append at.keeper.view.gathered _ in
          omega arith;
      finished =
          let done : Pass Knowledge → Type 0 = λ q. IsFinished c.args.floor q in
          All-tail done p rest (subst (All done) steps at.invariant.finished);
      long =
          let was = at.invariant.long in
          let gone = c.in-Some.ensures.steps.1 in
          omega arith;
    }

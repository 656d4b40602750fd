use Rattle.floor_run.proofs.Names.{List, [], All, length, sym, ap, subst, append_assoc, arith, into_iter_items}
use Rattle.floor_run.proofs.Names.{All-tail, Knowledge, Pass, IsFinished}
use Rattle.std.proofs.Common.{◌≡◌, ◌∷◌, ◌++◌, ◌∙◌}
use Rattle.floor_run.proofs.Running.{parts}
use Rattle.floor_run.proofs.run.gather_all.Goals as goal

pub loop-pass-preserved : goal.loop-pass-preserved
loop-pass-preserved c =
    let at = c.loop-pass in
    let p : Pass Knowledge = c.in-Some.pass in
    let rest : List (Pass Knowledge) = into_iter_items c.next.new.self in
    let steps : into_iter_items at.pass-iterator ≡ p ∷ rest = c.in-Some.ensures.steps.0 in
    record {
      mine = c.gather.ensures.mine;
      gathered = ap (λ gs. gs ++ parts rest) c.gather.ensures.gathered
          ∙ append_assoc at.keeper.view.gathered (parts (p ∷ [])) (parts rest) ∙ ap
          (λ (ps : List (Pass Knowledge)). at.keeper.view.gathered ++ parts ps) (sym steps) ∙ at.invariant.gathered;
      finished = All-tail (λ (q : Pass Knowledge). IsFinished c.args.floor.now q) p rest
          (subst (All (λ (q : Pass Knowledge). IsFinished c.args.floor.now q)) steps at.invariant.finished);
      long = let was = at.invariant.long in
          let gone = c.in-Some.ensures.steps.1 in
          let short = ap length steps in
          omega arith;
    }

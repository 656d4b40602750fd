use Rattle.floor_run.proofs.Names.{ℕ, List, length, take, drop, ap, sym, arith, Share, Knowledge, Pass, outcome_seen}
use Rattle.std.proofs.Common.{◌++◌, ◌∙◌}
use Rattle.floor_run.proofs.Ordered.{ordered_done}
use Rattle.floor_run.proofs.Running.{parts, written_back, all_done, is_closing, left_legal, is_run}
use Rattle.floor_run.proofs.run.run_plan.Goals as goal

pub work_all-requires-clause-one_chain : goal.work_all-requires-clause-one_chain
work_all-requires-clause-one_chain g c = λ κs lives.
    ap (λ d. d.chains) c.in_ok-floor.ensures.description ∙ c.requires.one_chain

pub gather_all-requires-clause-finished : goal.gather_all-requires-clause-finished
gather_all-requires-clause-finished g c t d lt =
    let value = ap length c.as_mut_slice.ensures.value in
    (all_done c.args.plan.now c.in_ok-floor.floor c.in_ok-floor.passes.items c.work_all.new.passes
    c.in_ok-floor.passes.len (c.work_all.auto.passes ∙ value) (sym c.as_mut_slice.ensures.len ∙ value)
    (λ u x low. c.work_all.ensures.done u x (omega (arith, c.work_all.auto.passes, low))) t d lt).finished

pub outcome_of-requires : goal.outcome_of-requires
outcome_of-requires g c =
    let plan = c.args.plan.now in
    let items : List (Pass Knowledge) = c.in_ok-floor.passes.items in
    let changed : List (Pass Knowledge) = c.work_all.new.passes in
    let all : List (Pass Knowledge) = take c.in_ok-floor.passes.len (changed ++ drop (length changed) items) in
    let value = ap length c.as_mut_slice.ensures.value in
    let same = c.work_all.auto.passes ∙ value in
    let long = sym c.as_mut_slice.ensures.len ∙ value in
    let done = all_done plan c.in_ok-floor.floor items changed c.in_ok-floor.passes.len same long
    (λ t d lt. c.work_all.ensures.done t d (omega (arith, c.work_all.auto.passes, lt))) in
    let count = ap length (written_back items changed c.in_ok-floor.passes.len same long) ∙ same
    ∙ c.in_ok-floor.ensures.count in
    let gathered = c.gather_all.ensures.gathered
    ∙ ap (λ (gs : List (ℕ × Share)). gs ++ parts all) c.in_ok-floor.ensures.none_gathered in
    record {
      closing = is_closing plan c.args.chains c.in_ok-floor.floor c.in_ok-floor.ensures.description all count
          done c.gather_all.new.keeper.view.gathered gathered c.close-closing.result c.close-closing.ensures.closing.0;
    }

pub returns-clause-run : goal.returns-clause-run
returns-clause-run g c =
    let plan = c.args.plan.now in
    let chains = c.args.chains in
    let floor = c.in_ok-floor.floor in
    let items : List (Pass Knowledge) = c.in_ok-floor.passes.items in
    let changed : List (Pass Knowledge) = c.work_all.new.passes in
    let all : List (Pass Knowledge) = take c.in_ok-floor.passes.len (changed ++ drop (length changed) items) in
    let value = ap length c.as_mut_slice.ensures.value in
    let same = c.work_all.auto.passes ∙ value in
    let long = sym c.as_mut_slice.ensures.len ∙ value in
    let done = all_done plan floor items changed c.in_ok-floor.passes.len same long
    (λ t d lt. c.work_all.ensures.done t d (omega (arith, c.work_all.auto.passes, lt))) in
    let count = ap length (written_back items changed c.in_ok-floor.passes.len same long) ∙ same
    ∙ c.in_ok-floor.ensures.count in
    let gathered = c.gather_all.ensures.gathered
    ∙ ap (λ (gs : List (ℕ × Share)). gs ++ parts all) c.in_ok-floor.ensures.none_gathered in
    let closing = is_closing plan chains floor c.in_ok-floor.ensures.description all count done
    c.gather_all.new.keeper.view.gathered gathered c.close-closing.result c.close-closing.ensures.closing.0 in
    let legal = left_legal plan chains floor c.in_ok-floor.ensures.description all count done
    c.gather_all.new.keeper.view.gathered gathered c.close-closing.result c.close-closing.ensures.logs closing in
    is_run plan chains c.close-closing.result closing (outcome_seen c.in_ok-outcome.outcome) legal
    (c.in_ok-outcome.ensures closing)

pub returns-clause-ordered : goal.returns-clause-ordered
returns-clause-ordered g c = λ i.
    ordered_done c.args.plan.now (outcome_seen c.in_ok-outcome.outcome) c.requires.proper i (returns-clause-run g c).run

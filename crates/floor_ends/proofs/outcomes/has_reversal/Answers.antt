use Rattle.std.proofs.Common.{rules, tests}
use Rattle.std.proofs.lemmas.Iterator.{YieldsList-from_slice}
use Rattle.std.proofs.lemmas.Iterator.Search.{any_from_yields_List}
use Rattle.lock_model.specs.Takes.{is_reversal}
use Rattle.lock_model.specs.declared.event.Entry.{Entry}
use Rattle.floor_ends.proofs.outcomes.has_reversal.Goals as goal

pub returns : goal.returns
returns c = any_from_yields_List (λ (e : Entry). is_reversal e.event) _ _ _ c.any.ensures.ran
    (YieldsList-from_slice c.args.history.now cc) (λ x b q k. search (rules, tests))

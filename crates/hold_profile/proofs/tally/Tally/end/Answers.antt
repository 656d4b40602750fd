use Rattle.std.proofs.Common.{rules}
use Rattle.std.proofs.lemmas.Fn.{filter_same}
use Rattle.hold_profile.proofs.tally.Tally.end.Goals as goal

pub returns-clause-sections : goal.returns-clause-sections
returns-clause-sections c = filter_same _ _ _ (λ x b f' k. search rules) _ _ c.retain.ensures.filtered

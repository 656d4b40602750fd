use Rattle.floor_calls.proofs.Names.{ap, HaltKept}
use Rattle.std.proofs.Common.{◌∙◌}
use Rattle.floor_calls.proofs.parts.end.Goals as goal

pub finish-requires-clause-takes_nothing : goal.finish-requires-clause-takes_nothing
finish-requires-clause-takes_nothing c =
    ap (λ (k : HaltKept). k.taking) c.in-Done.ensures.went.kept ∙ c.requires.there.takes_nothing

use Rattle.std.proofs.Common.{◌≡◌, ◌++◌, flat_map, take}
use Rattle.std.specs.Prelude.{option_to_list}
use Rattle.run_chart.specs.Bars.{bar_of}
use Rattle.run_chart.proofs.bars.push_shown.Given as goal

abbrev pub invariant-loop-span : goal.invariant-loop-span
invariant-loop-span g l =
    l.bars.items ≡ l.initial.bars.items ++ flat_map (λ s. option_to_list (bar_of l.at.who s))
    (take l.span-index l.span-items)

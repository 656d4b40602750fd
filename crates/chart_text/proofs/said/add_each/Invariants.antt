use Rattle.std.proofs.Common.{◌≡◌, ◌++◌, ℕ, take, flat_map}
use Rattle.chart_text.specs.Lines.{words_at}
use Rattle.chart_text.proofs.said.add_each.Given as goal

abbrev pub invariant-loop-one : goal.invariant-loop-one
invariant-loop-one g l = (n : ℕ)
    → words_at l.said n ≡ words_at l.fn.said n ++ flat_map (g.T.Says.words l.plan n) (take l.one-index l.each)

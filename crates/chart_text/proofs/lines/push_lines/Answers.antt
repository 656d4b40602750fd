use Rattle.std.proofs.Common.{◌≡◌, ◌+◌, ◌-◌, suc, append_assoc, arith}
use Rattle.chart_text.proofs.lines.push_lines.Goals as goal

pub loop-turn-preserved : goal.loop-turn-preserved
loop-turn-preserved c =
    let last = c.args.chart.now.last in
    let turn = c.loop-turn.turn in
    let one_less : last - turn ≡ suc (last - (turn + 1)) = omega arith in
    rw (c.in_ok-push_turn.ensures, c.words_of.ensures, c.requires turn, append_assoc)
    (rw one_less at c.loop-turn.invariant)

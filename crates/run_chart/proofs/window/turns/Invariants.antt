use Rattle.std.proofs.Common.{◌≡◌}
use Rattle.run_chart.specs.Turns.{arrows_shown, in_turns, mark_shown, sentence_shown}
use Rattle.run_chart.proofs.window.turns.Given as goal

abbrev pub invariant-loop-turn : goal.invariant-loop-turn
invariant-loop-turn l = record {
  marks : l.marks.items ≡ in_turns mark_shown l.plan l.from l.turn;
  arrows : l.arrows.items ≡ in_turns arrows_shown l.plan l.from l.turn;
  sentences : l.sentences.items ≡ in_turns sentence_shown l.plan l.from l.turn;
}

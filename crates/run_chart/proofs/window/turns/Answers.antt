use Rattle.run_chart.specs.Turns.{arrows_shown, mark_shown, sentence_shown}
use Rattle.run_chart.proofs.Turns.{turns_more}
use Rattle.run_chart.proofs.window.turns.Goals as goal

pub loop-turn-preserved : goal.loop-turn-preserved
loop-turn-preserved c =
    let plan = c.args.plan.now in
    let from = c.args.from in
    let n = c.loop-turn.turn in
    let row = c.turn_at-row.result in
    let low = c.loop-turn.auto.turn in
    let made = (c.requires.run.told.each n row c.turn_at-row.ensures).made in
    let so_far = c.loop-turn.invariant in
    record {
      marks =
          turns_more mark_shown plan from n row.who.0 row.answer low made _ _ so_far.marks c.in_ok-push_mark.ensures;
      arrows = turns_more arrows_shown plan from n row.who.0 row.answer low made _ _ so_far.arrows
          c.in_ok-push_arrows.ensures;
      sentences = turns_more sentence_shown plan from n row.who.0 row.answer low made _ _ so_far.sentences
          c.in_ok-push_sentence.ensures;
    }

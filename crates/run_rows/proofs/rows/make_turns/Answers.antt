use Rattle.std.proofs.Common.{ℕ, ◌+◌, length, ap, arith, ◌∙◌}
use Rattle.std.proofs.lemmas.List.{length_push}
use Rattle.run_tracks.specs.Rows.{IsTurn}
use Rattle.run_rows.proofs.Noting.{each_push}
use Rattle.run_rows.proofs.rows.make_turns.Goals as goal
use Rattle.run_rows.proofs.rows.make_turns.Goals.{else-loop-n-test, then-loop-n-test+in_ok-turn+in_default}

pub make_turn-requires-clause-at : goal.make_turn-requires-clause-at
make_turn-requires-clause-at c =
    let at = c.loop-n.invariant.at in rw (← at.plan_is, ← at.chains_are) at at

pub loop-n-preserved : goal.loop-n-preserved
loop-n-preserved c =
    let i = c.loop-n.invariant in
    let old = c.loop-n.made.items in
    let more = c.in_ok-push.ensures.items in
    let made = rw (c.in-Some.is, i.at.plan_is, i.at.chains_are) at c.in_ok-turn.ensures in
    record {
      number = ap length more ∙ length_push old c.in-Some.turn ∙ ap (λ (n : ℕ). n + 1) i.number;
      at = made.1;
      each = rw more (each_push (IsTurn c.args.course.now.world.plan) old c.in-Some.turn i.each (rw i.number made.0));
    }

pub returns : goal.returns
returns c =
    let i = c.loop-n.invariant in
    let number = i.number in
    elim c.loop-n-test.branch [
      | else-loop-n-test b ↦ rw (b.course-is, b.columns-is) (record {
        few = omega (arith, number, b.loop-n-test.false, c.loop-n.auto.n-end);
        ends = λ l. absurd (omega (arith, number, b.loop-n-test.false, l));
        each = i.each;
        at = rw number i.at;
      })
      | then-loop-n-test+in_ok-turn+in_default b ↦
          let over = rw (b.in_default.is, i.at.plan_is, i.at.chains_are) at b.in_ok-turn.ensures in
          rw (b.course-is, b.columns-is) (record {
            few = omega (arith, number, b.loop-n-test.true);
            ends = λ l. rw number over.0;
            each = i.each;
            at = rw number over.1;
          })
    ]

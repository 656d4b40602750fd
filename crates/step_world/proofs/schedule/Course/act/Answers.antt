use Rattle.step_world.proofs.Names.{not, Bool, false, refl, sym, ap, has_bit}
use Rattle.std.proofs.Common.{◌&&◌, ◌==◌, ◌∙◌}
use Rattle.step_world.proofs.OneTurn.{IsTurned, IsKnown, sound_behind}
use Rattle.step_world.proofs.schedule.Course.act.Goals as goal

-- the thread has ended in its turn
pub invariant_of-self : goal.invariant_of-self
invariant_of-self c =
    let i = c.self.inside in
    let w = c.act-turn.ensures in
    let known = c.asleep_behind-self-inside.ensures in
    let lt = rw (← c.self.view_is) at c.requires.thread in
    let runs = rw (← c.self.view_is) at c.requires.going in
    let turned : IsTurned i.world c.act-turn.new.self c.args.t.0 c.act-turn.result =
    record { answer_is = w.answer; turn = w.turn } in
    let knows : IsKnown i.world c.act-turn.new.self c.args.t.0 c.act-turn.result i.going.bits i.asleep.bits
    c.take_out.new.self.bits c.asleep_behind-self-inside.result.bits = record {
      over = c.has_ended.result;
      over_is = c.has_ended.ensures;
      going_is = λ u. c.take_out.ensures u
          ∙ ap (λ (b : Bool). not (b && c.args.t.0 == u) && has_bit u i.going.bits) (sym c.if-has_ended.true);
      woken = c.wakes_next-woken.result;
      woken_is = c.wakes_next-woken.ensures.next;
      sleeps = c.sleeps-sleeps.result;
      sleeps_is = c.sleeps-sleeps.ensures;
      own = known.own;
      others = known.others;
    } in
    sound_behind c.self.invariant lt w.plan w.chains turned knows runs w.unchanged

-- or it hasn't
pub invariant_of-self-else-has_ended : goal.invariant_of-self-else-has_ended
invariant_of-self-else-has_ended c =
    let i = c.self.inside in
    let w = c.act-turn.ensures in
    let known = c.asleep_behind-self-inside.ensures in
    let lt = rw (← c.self.view_is) at c.requires.thread in
    let runs = rw (← c.self.view_is) at c.requires.going in
    let turned : IsTurned i.world c.act-turn.new.self c.args.t.0 c.act-turn.result =
    record { answer_is = w.answer; turn = w.turn } in
    let knows : IsKnown i.world c.act-turn.new.self c.args.t.0 c.act-turn.result i.going.bits i.asleep.bits i.going.bits
    c.asleep_behind-self-inside.result.bits = record {
      over = c.has_ended.result;
      over_is = c.has_ended.ensures;
      going_is = λ u. ap (λ (b : Bool). not (b && c.args.t.0 == u) && has_bit u i.going.bits)
          (sym c.if-has_ended.false);
      woken = c.wakes_next-woken.result;
      woken_is = c.wakes_next-woken.ensures.next;
      sleeps = c.sleeps-sleeps.result;
      sleeps_is = c.sleeps-sleeps.ensures;
      own = known.own;
      others = known.others;
    } in
    sound_behind c.self.invariant lt w.plan w.chains turned knows runs w.unchanged

-- or it sleeps, so that it hasn't ended
pub invariant_of-self-else-not-sleeps : goal.invariant_of-self-else-not-sleeps
invariant_of-self-else-not-sleeps c =
    let i = c.self.inside in
    let w = c.act-turn.ensures in
    let known = c.asleep_behind-self-inside.ensures in
    let lt = rw (← c.self.view_is) at c.requires.thread in
    let runs = rw (← c.self.view_is) at c.requires.going in
    let turned : IsTurned i.world c.act-turn.new.self c.args.t.0 c.act-turn.result =
    record { answer_is = w.answer; turn = w.turn } in
    let knows : IsKnown i.world c.act-turn.new.self c.args.t.0 c.act-turn.result i.going.bits i.asleep.bits i.going.bits
    c.asleep_behind-self-inside.result.bits = record {
      over = false;
      over_is = λ r shows. sym ((c.sleeps-sleeps.ensures r shows).0 c.if-not-sleeps.false).going;
      going_is = λ u. refl;
      woken = c.wakes_next-woken.result;
      woken_is = c.wakes_next-woken.ensures.next;
      sleeps = c.sleeps-sleeps.result;
      sleeps_is = c.sleeps-sleeps.ensures;
      own = known.own;
      others = known.others;
    } in
    sound_behind c.self.invariant lt w.plan w.chains turned knows runs w.unchanged

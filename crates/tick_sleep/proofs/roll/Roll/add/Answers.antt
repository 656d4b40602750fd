use Rattle.std.proofs.Common.{◌<◌, ◌%◌, length, List, sym, ap, subst, arith, ◌∙◌}
use Rattle.tick_sleep.specs.Limits.{round, most_sleepers}
use Rattle.tick_sleep.specs.Ticks.{sleeps}
use Rattle.tick_sleep.specs.Rolls.{IsOnce}
use Rattle.tick_sleep.specs.declared.plan.TickSleeper.{TickSleeper}
use Rattle.tick_sleep.proofs.Once.{once_last}
use Rattle.tick_sleep.proofs.Buckets.{shown_bucket, few_callouts, timed_comes, untimed_comes}
use Rattle.tick_sleep.proofs.roll.Roll.add.Goals as goal

pub put-requires : goal.put-requires
put-requires c =
    let small : c.in-Some.due % round < round = omega arith in
    let is = ap (λ cs. length cs)
    (shown_bucket c.self.inside.wheel c.self.inside.sleepers.items c.in-Some.due small c.self.invariant.shown) in
    let few = few_callouts (c.in-Some.due % round) c.self.inside.sleepers.items in
    let room : length c.self.inside.sleepers.items < most_sleepers =
    subst (λ (ss : List TickSleeper). length ss < most_sleepers) (sym c.self.view_is) c.requires.room in
    omega (arith, is, few, room)

pub invariant_of-self : goal.invariant_of-self
invariant_of-self c =
    let small : c.in-Some.due % round < round = omega arith in
    let ss = c.self.inside.sleepers.items in
    let absent = ap (λ (rs : List TickSleeper). sleeps c.args.sleeper.t.0 rs) c.self.view_is ∙ c.requires.absent in
    record {
      room = omega (arith, c.push_last.ensures.room, c.self.invariant.room);
      once = subst IsOnce (sym c.push_last.ensures.items) (once_last ss c.args.sleeper c.self.invariant.once absent);
      shown = rw (c.put.ensures.bucket, c.push_last.ensures.items)
          (timed_comes c.self.inside.wheel ss c.args.sleeper c.in-Some.due c.in-Some.is c.put.ensures.size small
          c.self.invariant.shown);
    }

pub invariant_of-self-in_default : goal.invariant_of-self-in_default
invariant_of-self-in_default c =
    let ss = c.self.inside.sleepers.items in
    let absent = ap (λ (rs : List TickSleeper). sleeps c.args.sleeper.t.0 rs) c.self.view_is ∙ c.requires.absent in
    record {
      room = omega (arith, c.push_last.ensures.room, c.self.invariant.room);
      once = subst IsOnce (sym c.push_last.ensures.items) (once_last ss c.args.sleeper c.self.invariant.once absent);
      shown = rw c.push_last.ensures.items
          (untimed_comes c.self.inside.wheel ss c.args.sleeper c.in_default.is c.self.invariant.shown);
    }

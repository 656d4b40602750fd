use Rattle.std.proofs.Common.{List, ◌<◌, ◌-◌, length, option_map, slice_get, sym, ap, subst, ◌∙◌, arith}
use Rattle.lock_model.specs.Limits.{most_scheduled}
use Rattle.lock_model.specs.declared.numbers.ThreadNo.{ThreadNo}
use Rattle.lock_model.specs.declared.plan.Plan.{Plan}
use Rattle.turn_policy.specs.Choosing.{IsBehindDraws}
use Rattle.turn_policy.proofs.Turns.{IsUnderWay, begins, ends, goes_on, next_is, too_long}
use Rattle.turn_policy.proofs.planning.turns_behind.Goals as goal

pub loop-t-init : goal.loop-t-init
loop-t-init c =
    let plan = c.args.plan.now in
    let w = c.args.world.now in
    let state = c.seed_from_u64-random.ensures.same ∙ c.from.ensures in
    record {
      way = subst (λ (ts : List ThreadNo). IsUnderWay c.args.policy plan w ts c.seed_from_u64-random.result)
          (sym (c.in_ok-turns.ensures.items ∙ c.as_slice.ensures))
          (begins c.args.policy plan w c.seed_from_u64-random.result c.requires.plan c.requires.made
          (subst (IsBehindDraws c.args.policy 0) (sym state) c.seed_of.ensures) c.requires.proper.schedule
          c.requires.proper.scheduled);
      room = omega (arith, c.in_ok-candidates.ensures.capacity, ap length c.as_slice-2.ensures);
    }

pub returns-then-len-ge-SCHEDULE-clause-too_long : goal.returns-then-len-ge-SCHEDULE-clause-too_long
returns-then-len-ge-SCHEDULE-clause-too_long c e =
    let w = c.loop-t.invariant.way in
    let last = ap (option_map (λ (t : ThreadNo). t.0))
    (c.copied.ensures ∙ c.last.ensures.value
    ∙ ap (λ (ts : List ThreadNo). slice_get ts (length ts - 1)) c.deref.ensures.value) in
    let next = next_is c.args.policy c.args.plan.now c.loop-t.world c.loop-t.turns.items c.loop-t.random w
    c.copied.result c.choose.result last c.choose.ensures.choice in
    too_long c.args.policy c.args.plan.now c.loop-t.world c.loop-t.turns.items c.loop-t.random w c.in-Some.t
    (sym next ∙ ap (option_map (λ (t : ThreadNo). t.0)) c.in-Some.is)
    (omega (arith, c.if-len-ge-SCHEDULE.true, c.len.ensures, c.loop-t.turns.ok.0))

pub loop-t-preserved : goal.loop-t-preserved
loop-t-preserved c =
    let plan = c.args.plan.now in
    let w = c.loop-t.invariant.way in
    let last = ap (option_map (λ (t : ThreadNo). t.0))
    (c.copied.ensures ∙ c.last.ensures.value
    ∙ ap (λ (ts : List ThreadNo). slice_get ts (length ts - 1)) c.deref.ensures.value) in
    let next = next_is c.args.policy plan c.loop-t.world c.loop-t.turns.items c.loop-t.random w c.copied.result
    c.choose.result last c.choose.ensures.choice in
    let room : length c.loop-t.turns.items < most_scheduled =
    omega (arith, c.if-len-ge-SCHEDULE.false, c.len.ensures, c.loop-t.turns.ok.0) in
    record {
      way = subst (λ (ts : List ThreadNo). IsUnderWay c.args.policy plan c.turn.new.self ts c.choose.new.random)
          (sym c.in_ok-push_turn.ensures)
          (goes_on c.args.policy plan c.loop-t.world c.loop-t.turns.items c.loop-t.random w c.in-Some.t c.turn.new.self
          c.choose.new.random (sym next ∙ ap (option_map (λ (t : ThreadNo). t.0)) c.in-Some.is)
          c.turn.ensures.plan c.turn.ensures.turn c.choose.ensures.draws
          (subst (λ (p : Plan). c.in-Some.t.0 < length p.threads) w.plan_is c.in-Some.ensures.thread) room);
      room = omega (arith, c.choose.ensures.room, c.loop-t.invariant.room);
    }

pub returns-clause-planned : goal.returns-clause-planned
returns-clause-planned c =
    let w = c.loop-t.invariant.way in
    let last = ap (option_map (λ (t : ThreadNo). t.0))
    (c.copied.ensures ∙ c.last.ensures.value
    ∙ ap (λ (ts : List ThreadNo). slice_get ts (length ts - 1)) c.deref.ensures.value) in
    let next = next_is c.args.policy c.args.plan.now c.loop-t.world c.loop-t.turns.items c.loop-t.random w
    c.copied.result c.choose.result last c.choose.ensures.choice in
    ends c.args.policy c.args.plan.now c.loop-t.world c.loop-t.turns.items c.loop-t.random w
    (sym next ∙ ap (option_map (λ (t : ThreadNo). t.0)) c.in_default.is)

use Rattle.std.proofs.Common.{◌+◌, ◌^◌, ◌<◌, List, find, refl, sym, ap, subst, arith, ◌∙◌}
use Rattle.lock_state.specs.Steps.LockWords.{bits_of_threads}
use Rattle.tick_sleep.specs.Ticks.{is_on}
use Rattle.tick_sleep.specs.declared.plan.TickSleeper.{TickSleeper}
use Rattle.tick_sleep.proofs.Keyed.{none_on}
use Rattle.tick_sleep.proofs.Taking.{none_there, threads_of, one_taken, bits_fit, is_bit, whole_bit}
use Rattle.tick_sleep.proofs.roll.Roll.remove_key.Goals as goal

pub overflow_shl-woken : goal.overflow_shl-woken
overflow_shl-woken c =
    let step = one_taken c.args.key c.loop-t.self _ c.in-Some.t c.first_on.ensures.once
    (sym c.first_on.ensures.first ∙ c.in-Some.is) refl in
    let bits = ap bits_of_threads step.1 in
    let fits = bits_fit c.args.key c.args.self.now c.len-each_once.ensures.once c.requires in
    is_bit c.in-Some.t.0 c.loop-t.woken _ 64
    (subst (λ n. n < 2 ^ 64) (sym (ap (λ n. c.loop-t.woken + n) (sym bits) ∙ c.loop-t.invariant.bits)) fits)

pub overflow_add-woken : goal.overflow_add-woken
overflow_add-woken c =
    let step = one_taken c.args.key c.loop-t.self _ c.in-Some.t c.first_on.ensures.once
    (sym c.first_on.ensures.first ∙ c.in-Some.is) refl in
    let bits = ap bits_of_threads step.1 in
    let fits = bits_fit c.args.key c.args.self.now c.len-each_once.ensures.once c.requires in
    rw (whole_bit (2 ^ c.in-Some.t.0) (omega (arith, bits, fits, c.loop-t.invariant.bits)))
    (omega (arith, bits, fits, c.loop-t.invariant.bits))

pub loop-t-smaller : goal.loop-t-smaller
loop-t-smaller c = (one_taken c.args.key c.loop-t.self c.remove.new.self c.in-Some.t c.first_on.ensures.once
    (sym c.first_on.ensures.first ∙ c.in-Some.is) c.remove.ensures.left).2

pub loop-t-preserved : goal.loop-t-preserved
loop-t-preserved c =
    let step = one_taken c.args.key c.loop-t.self c.remove.new.self c.in-Some.t c.first_on.ensures.once
    (sym c.first_on.ensures.first ∙ c.in-Some.is) c.remove.ensures.left in
    let bits = ap bits_of_threads step.1 in
    let fits = bits_fit c.args.key c.args.self.now c.len-each_once.ensures.once c.requires in
    record {
      off = step.0 ∙ c.loop-t.invariant.off;
      bits = rw (whole_bit (2 ^ c.in-Some.t.0) (omega (arith, bits, fits, c.loop-t.invariant.bits)))
          (omega (arith, bits, c.loop-t.invariant.bits));
    }

pub returns-clause-left : goal.returns-clause-left
returns-clause-left c =
    let none = none_on c.args.key c.loop-t.self
    (none_there (find (is_on c.args.key) c.loop-t.self) (sym c.first_on.ensures.first ∙ c.in_default.is)) in
    sym none.1 ∙ c.loop-t.invariant.off

pub returns-clause-taken : goal.returns-clause-taken
returns-clause-taken c =
    let none = none_on c.args.key c.loop-t.self
    (none_there (find (is_on c.args.key) c.loop-t.self) (sym c.first_on.ensures.first ∙ c.in_default.is)) in
    let bits = ap (λ (ss : List TickSleeper). bits_of_threads (threads_of ss)) none.0 in
    omega (arith, bits, c.loop-t.invariant.bits)

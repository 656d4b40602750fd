use Rattle.std.proofs.Common.{◌≡◌, true, List, length, refl, sym, ap, subst, arith, ◌∙◌}
use Rattle.std.proofs.lemmas.List.{length-map}
use Rattle.tick_sleep.specs.Ticks.{sleeps}
use Rattle.tick_sleep.specs.Tables.{Table}
use Rattle.tick_sleep.specs.declared.plan.TickSleeper.{TickSleeper}
use Rattle.tick_sleep.proofs.Made.{length_of, made_home}
use Rattle.tick_sleep.proofs.queue.TickQueue.make.Goals as goal

pub invariant_of-result : goal.invariant_of-result
invariant_of-result c =
    let n = length c.args.sleepers.now in
    let size : length c.in_ok-prios_of.field-0.items ≡ n = ap length c.in_ok-prios_of.ensures
    ∙ length-map c.args.sleepers.now (λ d. d.prio) in
    record {
      passed = omega arith;
      none_due = rw c.in_ok-make.ensures refl;
      declared = λ t e. absurd
          (let f = subst (λ (ss : List TickSleeper). sleeps t ss ≡ true) c.in_ok-make.ensures e in cc);
      few = omega (arith, size, c.requires);
      posted = omega (arith, c.in_ok-vec.ensures.len, size);
      homes = ap (λ (a : Table). length a.homes) c.in_ok-make-2.ensures ∙ length_of n ∙ sym size;
      at_home = λ t l. rw (c.in_ok-make-2.ensures, c.in_ok-make.ensures) (made_home n t (omega (arith, l, size)));
      queues = λ k. rw (c.in_ok-make-2.ensures, c.in_ok-make.ensures) refl;
    }

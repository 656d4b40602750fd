use Rattle.std.proofs.Common.{position, Some, sym, ap, ◌∙◌}
use Rattle.tick_sleep.specs.Ticks.{is_of}
use Rattle.tick_sleep.specs.declared.plan.TickSleeper.{TickSleeper}
use Rattle.tick_sleep.proofs.First.{taken_out, none_out}
use Rattle.tick_sleep.proofs.roll.remove_first.Goals as goal

pub returns-in_err-place-clause-taken : goal.returns-in_err-place-clause-taken
returns-in_err-place-clause-taken c =
    let p = is_of c.args.t.0 in
    rw c.from_residual.ensures
    (sym (none_out p c.args.sleepers.now.items
    (ap (position p) (sym c.deref.ensures.value) ∙ sym c.in_err-place.ensures)).1)

pub returns-in_err-place-clause-left : goal.returns-in_err-place-clause-left
returns-in_err-place-clause-left c =
    let p = is_of c.args.t.0 in
    sym (none_out p c.args.sleepers.now.items
    (ap (position p) (sym c.deref.ensures.value) ∙ sym c.in_err-place.ensures)).0

pub returns-clause-taken : goal.returns-clause-taken
returns-clause-taken c =
    let p = is_of c.args.t.0 in
    ap (λ (s : TickSleeper). Some s) c.remove.ensures.value
    ∙ (taken_out p c.args.sleepers.now.items c.in_ok-place.place c.remove.result
    (ap (position p) (sym c.deref.ensures.value) ∙ sym c.in_ok-place.ensures)).1

pub returns-clause-left : goal.returns-clause-left
returns-clause-left c =
    let p = is_of c.args.t.0 in
    c.remove.ensures.items
    ∙ (taken_out p c.args.sleepers.now.items c.in_ok-place.place c.remove.result
    (ap (position p) (sym c.deref.ensures.value) ∙ sym c.in_ok-place.ensures)).0

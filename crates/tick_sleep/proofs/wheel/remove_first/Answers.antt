use Rattle.std.proofs.Common.{position, ◌==◌, sym, ap, ◌∙◌}
use Rattle.tick_sleep.specs.declared.wheel.Callout.{Callout}
use Rattle.tick_sleep.proofs.First.{taken_out, none_out}
use Rattle.tick_sleep.proofs.wheel.remove_first.Goals as goal

pub returns-in-Some-clause-left : goal.returns-in-Some-clause-left
returns-in-Some-clause-left c =
    let p = λ (x : Callout). x.t.0 == c.args.t.0 in
    c.remove.ensures.items
    ∙ (taken_out p c.args.callouts.now.items c.in-Some.place c.remove.result
    (ap (position p) (sym c.deref.ensures.value) ∙ sym c.in-Some.ensures)).0

pub returns-in_default-clause-left : goal.returns-in_default-clause-left
returns-in_default-clause-left c =
    let p = λ (x : Callout). x.t.0 == c.args.t.0 in
    sym (none_out p c.args.callouts.now.items
    (ap (position p) (sym c.deref.ensures.value) ∙ sym c.place_of.ensures ∙ c.in_default.is)).0

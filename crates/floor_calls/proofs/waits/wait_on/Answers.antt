use Rattle.floor_calls.proofs.Names.{sym, ap, subst, last_held, last_lock, lock_of, NotHeld, hold_in}
use Rattle.std.proofs.Common.{◌≡◌, ◌∙◌}
use Rattle.lock_model.specs.Operations.{is_last}
use Rattle.floor_calls.proofs.waits.wait_on.Goals as goal

pub unreachable-requires-in-None-mode : goal.unreachable-requires-in-None-mode
unreachable-requires-in-None-mode c =
    let k = lock_of c.args.floor.now.description c.args.c.0 in
    let its = last_lock k c.held.result.now c.in-Some.hold.now (sym c.in-Some.ensures.value)
    (ap (is_last k) c.held.ensures ∙ c.requires.may.last) in
    last_held k c.args.pass.now.view.share.held c.requires.may.last
    (subst (λ j. hold_in c.args.pass.now.view.share.held j ≡ NotHeld) its (sym c.in-None-mode.ensures))

pub returns-clause-its : goal.returns-clause-its
returns-clause-its c =
    let k = lock_of c.args.floor.now.description c.args.c.0 in
    record {
      lock = last_lock k c.held.result.now c.in-Some.hold.now (sym c.in-Some.ensures.value)
          (ap (is_last k) c.held.ensures ∙ c.requires.may.last);
      held = sym c.in-Some-mode.ensures;
    }

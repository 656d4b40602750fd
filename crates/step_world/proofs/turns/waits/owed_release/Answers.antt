use Rattle.step_world.proofs.Names.{refl, sym, ap, option_map, eqb-true, LockNo}
use Rattle.std.proofs.Common.{◌∙◌}
use Rattle.step_world.proofs.ActionsOfTurns.{here}
use Rattle.step_world.proofs.ActionsOfWaits as actions
use Rattle.step_world.proofs.turns.waits.owed_release.Goals as goal

pub returns-then-is_empty : goal.returns-then-is_empty
returns-then-is_empty c r h =
    sym (actions.owes_without_held c.args.t.0 h (here h c.requires.thread c.from.ensures c.index-thread.ensures) _ refl
    (sym c.index-thread.result.now.held.ok.0 ∙ eqb-true _ _ (sym c.is_empty.ensures ∙ c.if-is_empty.true)))

pub returns-in_err-thread : goal.returns-in_err-thread
returns-in_err-thread c r h =
    ap (option_map (λ (l : LockNo). l.0)) c.from_residual.ensures
    ∙ sym (actions.owes_none c.args.t.0 h (here h c.requires.thread c.from.ensures c.index-thread.ensures)
    c.in_err-thread.was)

pub returns : goal.returns
returns c r h =
    rw (c.then_some.ensures, c.holds.ensures)
    (actions.owes_its c.args.t.0 h (here h c.requires.thread c.from.ensures c.index-thread.ensures) c.in_ok-thread.was
    c.lock_of-l.ensures)

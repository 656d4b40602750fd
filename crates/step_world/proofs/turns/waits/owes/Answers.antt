use Rattle.step_world.proofs.Names.{sym, LockNo}
use Rattle.std.proofs.Common.{◌∙◌}
use Rattle.step_world.proofs.Owing.{by_busy, by_release}
use Rattle.step_world.proofs.ActionsOfTurns.{here}
use Rattle.step_world.proofs.turns.waits.owes.Goals as goal

pub returns-then-is_busy : goal.returns-then-is_busy
returns-then-is_busy c r h =
    by_busy c.args.t.0 h (here h c.requires.thread c.from.ensures c.index-thread.ensures) c.is_busy.result
    c.is_busy.ensures c.if-is_busy.true

pub returns : goal.returns
returns c r h =
    c.is_some.ensures
    ∙ by_release c.args.t.0 h (here h c.requires.thread c.from.ensures c.index-thread.ensures) (λ (l : LockNo). l.0)
    c.owed_release.result (sym c.is_busy.ensures ∙ c.if-is_busy.false) (c.owed_release.ensures r h)

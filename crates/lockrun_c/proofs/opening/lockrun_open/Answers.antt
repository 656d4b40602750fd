use Rattle.std.proofs.Common.{sym, subst, ◌∙◌}
use Rattle.lockrun_c.specs.Openings.{IsRefusedFor}
use Rattle.lockrun_c.proofs.Refusals.{is_unfit, not_opened}
use Rattle.lockrun_c.proofs.opening.lockrun_open.Goals as goal

pub returns-in-Err-clause-unfit : goal.returns-in-Err-clause-unfit
returns-in-Err-clause-unfit c = λ why z.
    subst (IsRefusedFor c.args.threads.now c.args.locks.now c.args.chans.now c.args.keys.now)
    (is_unfit c.in-Err.why why (sym c.code_of_refused.ensures ∙ z)) c.in-Err.ensures.refused

pub returns-in-Ok-clause-opened : goal.returns-in-Ok-clause-opened
returns-in-Ok-clause-opened c = λ z. (c.in-Ok.house, c.move_in.ensures.moved z, c.in-Ok.ensures.opened)

pub returns-in-Ok-clause-unfit : goal.returns-in-Ok-clause-unfit
returns-in-Ok-clause-unfit c = λ why z. absurd (not_opened c.move_in.result why c.move_in.ensures.others z)

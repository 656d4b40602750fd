use Rattle.floor_run.proofs.Names.{IfErr-weaker, IfOk-weaker, ByAbort, BySignal, Waits, HasSlept}
use Rattle.floor_run.proofs.Waiting.{has_slept}
use Rattle.floor_run.proofs.channels.sleep_by.Goals as goal

pub returns-then-is_cond-clause-woken : goal.returns-then-is_cond-clause-woken
returns-then-is_cond-clause-woken g c =
    let floor = c.args.floor.now.description in
    let old = c.args.pass.now.view in
    let new = c.cv_wait.new.pass.view in
    IfOk-weaker c.cv_wait.result (λ u. Waits g.K.Relock.releases g.K.Relock.takes_back floor c.args.c BySignal old new)
    (λ u. HasSlept floor c.args.c BySignal old new) (λ u. has_slept _ _ floor c.args.c BySignal old new)
    c.cv_wait.ensures.woke

pub returns-then-is_cond-clause-halted : goal.returns-then-is_cond-clause-halted
returns-then-is_cond-clause-halted g c =
    let floor = c.args.floor.now.description in
    let old = c.args.pass.now.view in
    let new = c.cv_wait.new.pass.view in
    IfErr-weaker c.cv_wait.result (λ u. Waits g.K.Relock.releases g.K.Relock.takes_back floor c.args.c ByAbort old new)
    (λ u. HasSlept floor c.args.c ByAbort old new) (λ u. has_slept _ _ floor c.args.c ByAbort old new)
    c.cv_wait.ensures.halted

pub returns-else-is_cond-clause-woken : goal.returns-else-is_cond-clause-woken
returns-else-is_cond-clause-woken g c =
    let floor = c.args.floor.now.description in
    let old = c.args.pass.now.view in
    let new = c.msleep.new.pass.view in
    IfOk-weaker c.msleep.result (λ u. Waits g.K.Relock.releases g.K.Relock.takes_back floor c.args.c BySignal old new)
    (λ u. HasSlept floor c.args.c BySignal old new) (λ u. has_slept _ _ floor c.args.c BySignal old new)
    c.msleep.ensures.woke

pub returns-else-is_cond-clause-halted : goal.returns-else-is_cond-clause-halted
returns-else-is_cond-clause-halted g c =
    let floor = c.args.floor.now.description in
    let old = c.args.pass.now.view in
    let new = c.msleep.new.pass.view in
    IfErr-weaker c.msleep.result (λ u. Waits g.K.Relock.releases g.K.Relock.takes_back floor c.args.c ByAbort old new)
    (λ u. HasSlept floor c.args.c ByAbort old new) (λ u. has_slept _ _ floor c.args.c ByAbort old new)
    c.msleep.ensures.halted

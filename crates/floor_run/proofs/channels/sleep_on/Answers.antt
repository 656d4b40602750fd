use Rattle.floor_run.proofs.Names.{length, sym, ap, subst, lock_of, config_in}
use Rattle.std.proofs.Common.{◌≡◌, ◌<◌, ◌∙◌}
use Rattle.floor_run.proofs.Operating.{same_lock}
use Rattle.floor_run.proofs.channels.sleep_on.Goals as goal

pub kind-requires : goal.kind-requires
kind-requires g c =
    let floor = c.args.floor.now.description in
    let same : c.chan_lock.result.0 ≡ lock_of floor c.args.c.0 =
    c.chan_lock.ensures ∙ sym (same_lock c.args.plan.now floor c.requires.given c.args.c.0) in
    subst (λ l. l < length floor.locks) (sym same) c.requires.lock

pub sleep_by-requires-clause-kind : goal.sleep_by-requires-clause-kind
sleep_by-requires-clause-kind g c =
    let floor = c.args.floor.now.description in
    ap (config_in floor).kind (same_lock c.args.plan.now floor c.requires.given c.args.c.0 ∙ sym c.chan_lock.ensures)
    ∙ sym c.kind.ensures ∙ c.in-Mtx.is

pub sleep_by-requires-in-Rw-clause-kind : goal.sleep_by-requires-in-Rw-clause-kind
sleep_by-requires-in-Rw-clause-kind g c =
    let floor = c.args.floor.now.description in
    ap (config_in floor).kind (same_lock c.args.plan.now floor c.requires.given c.args.c.0 ∙ sym c.chan_lock.ensures)
    ∙ sym c.kind.ensures ∙ c.in-Rw.is

pub sleep_by-requires-in-Sx-clause-kind : goal.sleep_by-requires-in-Sx-clause-kind
sleep_by-requires-in-Sx-clause-kind g c =
    let floor = c.args.floor.now.description in
    ap (config_in floor).kind (same_lock c.args.plan.now floor c.requires.given c.args.c.0 ∙ sym c.chan_lock.ensures)
    ∙ sym c.kind.ensures ∙ c.in-Sx.is

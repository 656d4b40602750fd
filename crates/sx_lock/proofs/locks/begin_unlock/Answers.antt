use Rattle.std.proofs.Common.{sym, ap, ◌∙◌, subst}
use Rattle.lock_model.specs.declared.plan.Mode.{Mode}
use Rattle.lock_objects.specs.Represents.{hold_of}
use Rattle.lock_calls.specs.Releases.{HasBegunRelease}
use Rattle.lock_calls.proofs.Owned.{same_mode}
use Rattle.sx_lock.proofs.Covered.{may_release}
use Rattle.sx_lock.proofs.locks.begin_unlock.Goals as goal

pub begin_release-requires-clause-may : goal.begin_release-requires-clause-may
begin_release-requires-clause-may c =
    may_release c.args.floor.now.description c.args.l.0 c.in-Some.mode c.args.pass.now.view c.requires.may
    (sym (ap hold_of c.in-Some.is) ∙ c.mode.ensures)

pub unreachable-requires : goal.unreachable-requires
unreachable-requires c = c.requires.may.held (sym c.mode.ensures ∙ ap hold_of c.in-None.is)

pub returns-clause-begun : goal.returns-clause-begun
returns-clause-begun c = λ mode held.
    subst (λ (m : Mode). HasBegunRelease c.args.floor.now.description c.args.l m c.begin_release.result c.args.pass.now
    c.begin_release.new.pass)
    (same_mode c.in-Some.mode mode (sym (ap hold_of c.in-Some.is) ∙ c.mode.ensures ∙ held))
    c.begin_release.ensures.begun

use Rattle.sx_lock.proofs.Covered.{may_release_held}
use Rattle.sx_lock.proofs.locks.unlock.Goals as goal

pub release_held-requires-clause-may : goal.release_held-requires-clause-may
release_held-requires-clause-may g c =
    may_release_held c.args.floor.now.description c.args.l.0 c.args.pass.now.view c.requires.may

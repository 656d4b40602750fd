use Rattle.hold_profile.proofs.Lengths.{limits_of}
use Rattle.hold_profile.proofs.profiling.profile.Goals as goal

pub enter-requires-clause-few : goal.enter-requires-clause-few
enter-requires-clause-few c =
    (limits_of c.args.plan.now _ _ c.as_slice-entries.ensures c.requires.proper c.requires.legal).few

pub enter-requires-clause-tickets : goal.enter-requires-clause-tickets
enter-requires-clause-tickets c =
    (limits_of c.args.plan.now _ _ c.as_slice-entries.ensures c.requires.proper c.requires.legal).tickets

pub enter-requires-clause-threads : goal.enter-requires-clause-threads
enter-requires-clause-threads c =
    (limits_of c.args.plan.now _ _ c.as_slice-entries.ensures c.requires.proper c.requires.legal).threads

pub finish-requires-clause-few : goal.finish-requires-clause-few
finish-requires-clause-few c =
    (limits_of c.args.plan.now _ _ c.as_slice-entries.ensures c.requires.proper c.requires.legal).few

pub finish-requires-clause-tickets : goal.finish-requires-clause-tickets
finish-requires-clause-tickets c =
    (limits_of c.args.plan.now _ _ c.as_slice-entries.ensures c.requires.proper c.requires.legal).tickets

use Rattle.wait_objects.proofs.Joined.{waiting_kept}
use Rattle.wait_objects.proofs.Moved.{moved, stayed}
use Rattle.wait_objects.proofs.waiters.Waiters.adjust.Goals as goal

pub returns-in-Some-clause-moved : goal.returns-in-Some-clause-moved
returns-in-Some-clause-moved g c =
    moved c.args.t.0 c.args.prio.0 g.E.Own.RANKED _ _ _ _ _ c.requires.ranked (c.in-Some.ensures {u = tt}).entry
    (waiting_kept c.in-Some.node.value c.deref_mut.result.now c.keep.new.self c.args.prio.0 c.deref_mut.ensures.value
    c.keep.ensures) c.remove.ensures.left c.insert.ensures.inserted

pub returns-in_default-clause-moved : goal.returns-in_default-clause-moved
returns-in_default-clause-moved g c =
    stayed c.args.t.0 c.args.prio.0 _ _ c.in_default.ensures.entry c.remove.ensures.left

use Rattle.std.proofs.Common.{ap, ◌∙◌}
use Rattle.lock_model.specs.Queues.{one_or_none}
use Rattle.wait_objects.proofs.Best.{best_taken}
use Rattle.wait_objects.proofs.Taken.{one_taken}
use Rattle.wait_objects.proofs.waiters.Waiters.take.Goals as goal

pub returns-in-Thread-clause-taken : goal.returns-in-Thread-clause-taken
returns-in-Thread-clause-taken g c = rw (c.of.ensures, c.in-Thread.is)
    (one_taken c.remove.result (c.remove.ensures.empty c.requires.waiting) ∙ ap one_or_none c.remove.ensures.entry)

pub returns-in-Some-clause-taken : goal.returns-in-Some-clause-taken
returns-in-Some-clause-taken g c = rw (c.of-in-Some.ensures, c.in-Best.is)
    (one_taken c.remove-in-Some.result (c.remove-in-Some.ensures.empty c.requires.waiting)
    ∙ ap one_or_none (c.remove-in-Some.ensures.entry ∙ best_taken _ _ c.requires.once c.in-Some.ensures))

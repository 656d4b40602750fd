use Rattle.std.proofs.Common.{◌∙◌, ap}
use Rattle.wait_objects.specs.Turnstiles.Changes.{waiters}
use Rattle.wait_objects.proofs.Best.{best_is_front, some_best}
use Rattle.wait_objects.proofs.Taken.{places, some_places}
use Rattle.wait_objects.proofs.Turnstiles.{first_left}
use Rattle.wait_objects.proofs.turnstile.Object+Lending.signal.Goals as goal

pub returns-clause-taken : goal.returns-clause-taken
returns-clause-taken c = c.take.ensures.taken ∙ ap (λ ws. places ws c.args.self.now.contents.free)
    (best_is_front (waiters c.args.side c.args.self.now.contents) c.take.ensures.in_order)

pub returns-clause-last : goal.returns-clause-last
returns-clause-last c =
    let some = some_places _ c.args.self.now.contents.free
    (some_best (waiters c.args.side c.args.self.now.contents) c.requires) in
    (λ h. (c.take.ensures.last.0 h).1, λ h. c.take.ensures.last.1 (rw c.take.ensures.taken some, h))

pub returns-clause-contents : goal.returns-clause-contents
returns-clause-contents c = c.take.ensures.contents
    ∙ first_left c.args.side c.args.self.now.contents c.requires c.take.ensures.in_order

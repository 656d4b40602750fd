use Rattle.wait_objects.proofs.Taken.{some_places}
use Rattle.wait_objects.proofs.turnstile.Object+Lending.broadcast.Goals as goal

pub returns-clause-last : goal.returns-clause-last
returns-clause-last c =
    let some = some_places _ c.args.self.now.contents.free c.requires in
    (λ h. (c.take.ensures.last.0 h).1, λ h. c.take.ensures.last.1 (rw c.take.ensures.taken some, h))

use Rattle.floor_calls.proofs.Answered.{is_back, is_made_there, is_refused, may_there}
use Rattle.floor_calls.proofs.Names.{Try}
use Rattle.floor_calls.proofs.thread.Thread.begin_try.Goals as goal

pub returns-in-Some : goal.returns-in-Some
returns-in-Some c = is_refused _ _ _ c.in-Some.ensures

pub attempt-next-requires : goal.attempt-next-requires
attempt-next-requires c =
    may_there c.deref.ensures c.self.view_is c.self.invariant (Try _ _) c.in-None.ensures

pub invariant_of-self : goal.invariant_of-self
invariant_of-self c =
    is_back c.deref.ensures c.self.view_is c.self.invariant (Try _ _) c.in-None.ensures _ c.attempt-next.ensures

pub returns-in-None : goal.returns-in-None
returns-in-None c =
    is_made_there c.deref.ensures c.self.view_is c.self.invariant _ c.in-None.ensures c.attempt-next.ensures

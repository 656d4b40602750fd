use Rattle.floor_calls.proofs.Answered.{is_back, is_made_there, is_refused, may_there}
use Rattle.floor_calls.proofs.Names.{GoOn}
use Rattle.floor_calls.proofs.thread.Thread.go_on.Goals as goal

pub returns-in-Some : goal.returns-in-Some
returns-in-Some c = is_refused _ _ _ c.in-Some.ensures

pub go_on-next-requires-clause-may : goal.go_on-next-requires-clause-may
go_on-next-requires-clause-may c =
    may_there c.deref.ensures c.self.view_is c.self.invariant GoOn c.in-None.ensures

pub invariant_of-self : goal.invariant_of-self
invariant_of-self c =
    is_back c.deref.ensures c.self.view_is c.self.invariant GoOn c.in-None.ensures _ c.go_on-next.ensures

pub returns-in-None : goal.returns-in-None
returns-in-None c =
    is_made_there c.deref.ensures c.self.view_is c.self.invariant _ c.in-None.ensures c.go_on-next.ensures

use Rattle.floor_calls.proofs.Answered.{is_back, is_made_there, is_refused, may_there}
use Rattle.floor_calls.proofs.Names.{Release}
use Rattle.floor_calls.proofs.thread.Thread.begin_release.Goals as goal

pub returns-in-Some : goal.returns-in-Some
returns-in-Some c = is_refused _ _ _ c.in-Some.ensures

pub release-next-requires : goal.release-next-requires
release-next-requires c =
    may_there c.deref.ensures c.self.view_is c.self.invariant (Release _ _) c.in-None.ensures

pub invariant_of-self : goal.invariant_of-self
invariant_of-self c =
    is_back c.deref.ensures c.self.view_is c.self.invariant (Release _ _) c.in-None.ensures _ c.release-next.ensures

pub returns-in-None : goal.returns-in-None
returns-in-None c =
    is_made_there c.deref.ensures c.self.view_is c.self.invariant _ c.in-None.ensures c.release-next.ensures

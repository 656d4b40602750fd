use Rattle.floor_calls.proofs.Answered.{is_back, is_made_there, is_refused, may_there}
use Rattle.floor_calls.proofs.Names.{WakeUp}
use Rattle.floor_calls.proofs.thread.Thread.begin_wakeup.Goals as goal

pub returns-in-Some : goal.returns-in-Some
returns-in-Some c = is_refused _ _ _ c.in-Some.ensures

pub begin_wake-next-requires : goal.begin_wake-next-requires
begin_wake-next-requires c =
    may_there c.deref.ensures c.self.view_is c.self.invariant (WakeUp c.args.c c.args.all) c.in-None.ensures

pub invariant_of-self : goal.invariant_of-self
invariant_of-self c =
    is_back c.deref.ensures c.self.view_is c.self.invariant
    (WakeUp c.args.c c.args.all) c.in-None.ensures _ c.begin_wake-next.ensures

pub returns-in-None : goal.returns-in-None
returns-in-None c =
    is_made_there c.deref.ensures c.self.view_is c.self.invariant _ c.in-None.ensures c.begin_wake-next.ensures

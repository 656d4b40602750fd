use Rattle.floor_calls.proofs.Answered.{is_made_at_once, is_refused, may_at_rest, rests_back}
use Rattle.floor_calls.proofs.Names.{Read}
use Rattle.floor_calls.proofs.thread.Thread.read.Goals as goal

pub returns-in-Some : goal.returns-in-Some
returns-in-Some c = is_refused _ _ _ c.in-Some.ensures

pub read-next-requires : goal.read-next-requires
read-next-requires c =
    may_at_rest c.deref.ensures c.self.view_is c.self.invariant (Read c.args.cell) c.in-None.ensures (λ m. m.0)

pub invariant_of-self : goal.invariant_of-self
invariant_of-self c =
    rests_back c.deref.ensures c.self.view_is c.self.invariant (Read c.args.cell) c.in-None.ensures (λ m. m.0)
    c.read-next.ensures

pub returns-in-None : goal.returns-in-None
returns-in-None c =
    is_made_at_once c.deref.ensures c.self.view_is c.self.invariant (Read c.args.cell) c.in-None.ensures (λ m. m.0)
    c.read-next.ensures

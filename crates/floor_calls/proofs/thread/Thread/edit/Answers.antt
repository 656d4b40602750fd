use Rattle.floor_calls.proofs.Answered.{is_made_at_once, is_refused, may_at_rest, rests_back}
use Rattle.floor_calls.proofs.Names.{Edit}
use Rattle.floor_calls.proofs.thread.Thread.edit.Goals as goal

pub returns-in-Some : goal.returns-in-Some
returns-in-Some c = is_refused _ _ _ c.in-Some.ensures

pub edit-next-requires : goal.edit-next-requires
edit-next-requires c =
    may_at_rest c.deref.ensures c.self.view_is c.self.invariant (Edit c.args.cell c.args.change) c.in-None.ensures
    (λ m. m.0)

pub invariant_of-self : goal.invariant_of-self
invariant_of-self c =
    rests_back c.deref.ensures c.self.view_is c.self.invariant (Edit c.args.cell c.args.change) c.in-None.ensures
    (λ m. m.0)
    c.edit-next.ensures

pub returns-in-None : goal.returns-in-None
returns-in-None c =
    is_made_at_once c.deref.ensures c.self.view_is c.self.invariant (Edit c.args.cell c.args.change) c.in-None.ensures
    (λ m. m.0)
    c.edit-next.ensures

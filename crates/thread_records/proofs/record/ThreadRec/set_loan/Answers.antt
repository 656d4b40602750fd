use Rattle.thread_records.proofs.OneEach.{one_each_with_prio}
use Rattle.thread_records.proofs.record.ThreadRec.set_loan.Goals as goal

pub invariant_of-self : goal.invariant_of-self
invariant_of-self c = record {
  well_formed = record {
    effective_is_least = c.set-self-inside.ensures.least;
    one_loan_each = one_each_with_prio c.args.l.0 c.args.prio.0 _ _ c.set-self-inside.ensures.changed
        c.self.invariant.well_formed.one_loan_each;
  };
  own_waiter = c.self.invariant.own_waiter;
  own_sleeper = c.self.invariant.own_sleeper;
}

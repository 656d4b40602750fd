use Rattle.thread_records.proofs.OneEach.{one_each_without}
use Rattle.thread_records.proofs.record.ThreadRec.drop_loan.Goals as goal

pub invariant_of-self : goal.invariant_of-self
invariant_of-self c = record {
  well_formed = record {
    effective_is_least = c.take-loan.ensures.least;
    one_loan_each = one_each_without c.args.l.0 _ _ c.take-loan.ensures.left c.self.invariant.well_formed.one_loan_each;
  };
  own_waiter = c.self.invariant.own_waiter;
  own_sleeper = c.self.invariant.own_sleeper;
}

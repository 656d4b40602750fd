use Rattle.std.proofs.Common.{rules, ◌≡◌, Some, IfSome, ap, sym, subst, ◌∙◌}
use Rattle.thread_records.specs.Loans.{loan_for}
use Rattle.prio_lending.specs.Hops.{loan_by, with_lent}
use Rattle.prio_lending.proofs.Carried.{lock_named, stands_not, stands, lent_first, lent_there, lent_for, lent_others}
use Rattle.prio_lending.proofs.hops.set_lent.Goals as goal

pub put_loan-requires-clause-absent : goal.put_loan-requires-clause-absent
put_loan-requires-clause-absent c =
    let lock = lock_named c.args.head.now.contents c.in-Some-Lock.l
    (rw c.in-Some-Lock.field-0-is at c.in-Some-Lock.ensures) in
    stands_not _ _ c.args.head.now.contents lock c.requires.node (sym c.in-Some-take_loan.ensures.home)

pub set_loan-requires : goal.set_loan-requires
set_loan-requires c =
    let lock = lock_named c.args.head.now.contents c.in-Some-Lock.l
    (rw c.in-Some-Lock.field-0-is at c.in-Some-Lock.ensures) in
    stands _ _ c.args.head.now.contents lock c.requires.node (sym c.in_default-take_loan.ensures.home)

pub returns-in-Some-take_loan-clause-loans : goal.returns-in-Some-take_loan-clause-loans
returns-in-Some-take_loan-clause-loans c =
    let head = c.args.head.now.contents in
    let lock = lock_named head c.in-Some-Lock.l (rw c.in-Some-Lock.field-0-is at c.in-Some-Lock.ensures) in
    let none = stands_not _ _ head lock c.requires.node (sym c.in-Some-take_loan.ensures.home) in
    rw lock (rw (lent_first c.in-Some-Lock.l.0 head c.args.owner.now.loans c.in-Some.best.0 none
    (sym c.in-Some.ensures)) (search rules))

pub returns-in_default-take_loan-clause-loans : goal.returns-in_default-take_loan-clause-loans
returns-in_default-take_loan-clause-loans c =
    let head = c.args.head.now.contents in
    let lock = lock_named head c.in-Some-Lock.l (rw c.in-Some-Lock.field-0-is at c.in-Some-Lock.ensures) in
    let there = stands _ _ head lock c.requires.node (sym c.in_default-take_loan.ensures.home) in
    rw lock (ap (λ r. r.loans) c.set_loan.ensures
    ∙ sym (lent_there c.in-Some-Lock.l.0 head c.args.owner.now.loans c.in-Some.best.0 there
    (sym c.in-Some.ensures)))

pub returns-in_default-take_loan-clause-lent : goal.returns-in_default-take_loan-clause-lent
returns-in_default-take_loan-clause-lent c =
    let head = c.args.head.now.contents in
    let lock = lock_named head c.in-Some-Lock.l (rw c.in-Some-Lock.field-0-is at c.in-Some-Lock.ensures) in
    let loans = subst (λ o. IfSome o
    (λ l. c.set_loan.new.self.loans ≡ with_lent (loan_by l head) c.args.owner.now.loans)) lock
    (returns-in_default-take_loan-clause-loans c) in
    rw lock (ap (loan_for c.in-Some-Lock.l.0) loans
    ∙ lent_for c.in-Some-Lock.l.0 head c.args.owner.now.loans (rw lock at c.requires.node) c.requires.waiter)

pub returns-in_default-take_loan-clause-others : goal.returns-in_default-take_loan-clause-others
returns-in_default-take_loan-clause-others c =
    let head = c.args.head.now.contents in
    let lock = lock_named head c.in-Some-Lock.l (rw c.in-Some-Lock.field-0-is at c.in-Some-Lock.ensures) in
    let loans = subst (λ o. IfSome o
    (λ l. c.set_loan.new.self.loans ≡ with_lent (loan_by l head) c.args.owner.now.loans)) lock
    (returns-in_default-take_loan-clause-loans c) in
    λ k ne. ap (loan_for k) loans
    ∙ lent_others c.in-Some-Lock.l.0 head c.args.owner.now.loans k (λ same. ne (lock ∙ ap Some (sym same)))

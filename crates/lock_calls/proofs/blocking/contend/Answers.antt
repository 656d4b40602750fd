use Rattle.lock_calls.proofs.Names.{inl, inr, arith, lock_queue}
use Rattle.lock_calls.proofs.Contended.{may_run_on, both_ran, runs_on, unbound_on, going_on, gained_there, ends_there, both_stands, stands_on, unbound_stands, going_stands, enters_on, misses_on}
use Rattle.lock_calls.proofs.blocking.contend.Goals as goal

pub ready-requires-clause-may : goal.ready-requires-clause-may
ready-requires-clause-may c =
    may_run_on c.args.floor.now.description c.args.l c.args.mode c.args.pass.now.view c.attempt_there.new.pass.view
    c.requires.under_way.calling c.requires.under_way.there.there
    (rw c.in-Ok-None.field-0-is at c.in-Ok-None.ensures.gained)

pub give_both-requires-clause-both : goal.give_both-requires-clause-both
give_both-requires-clause-both c =
    both_ran c.args.floor.now.description c.args.l c.args.mode c.args.pass.now.view c.attempt_there.new.pass.view
    c.requires.under_way.calling c.requires.under_way.there.there
    (rw c.in-Ok-None.field-0-is at c.in-Ok-None.ensures.gained) c.ready.new.pass.view c.ready.ensures.view

pub give_both-requires-clause-settled : goal.give_both-requires-clause-settled
give_both-requires-clause-settled c =
    inl (runs_on c.args.floor.now.description c.args.l c.args.mode c.args.pass.now.view c.attempt_there.new.pass.view
    c.requires.under_way.calling c.requires.under_way.there.there
    (rw c.in-Ok-None.field-0-is at c.in-Ok-None.ensures.gained) c.ready.new.pass.view c.ready.ensures.view)

pub give_both-requires-clause-unbound : goal.give_both-requires-clause-unbound
give_both-requires-clause-unbound c =
    unbound_on c.args.floor.now.description c.args.l c.args.mode c.args.pass.now.view c.attempt_there.new.pass.view
    c.requires.under_way.calling c.requires.under_way.there.there
    (rw c.in-Ok-None.field-0-is at c.in-Ok-None.ensures.gained) c.ready.new.pass.view c.ready.ensures.view

pub give_both-requires-clause-going : goal.give_both-requires-clause-going
give_both-requires-clause-going c =
    going_on c.args.floor.now.description c.args.l c.args.mode c.args.pass.now.view c.attempt_there.new.pass.view
    c.requires.under_way.calling c.requires.under_way.there.there
    (rw c.in-Ok-None.field-0-is at c.in-Ok-None.ensures.gained) c.ready.new.pass.view c.ready.ensures.view

pub returns-in-Ok-None-clause-gained : goal.returns-in-Ok-None-clause-gained
returns-in-Ok-None-clause-gained c =
    gained_there c.args.floor.now.description c.args.l c.args.mode c.args.pass.now.view c.attempt_there.new.pass.view
    c.requires.under_way.calling c.requires.under_way.there.there
    (rw c.in-Ok-None.field-0-is at c.in-Ok-None.ensures.gained) c.ready.new.pass.view c.ready.ensures.view
    c.give_both.new.pass.view c.give_both.ensures.view

pub returns-in-Ok-None-clause-end : goal.returns-in-Ok-None-clause-end
returns-in-Ok-None-clause-end c =
    ends_there c.args.floor.now.description c.args.l c.args.mode c.args.pass.now.view c.attempt_there.new.pass.view
    c.requires.under_way.calling c.requires.under_way.there.there
    (rw c.in-Ok-None.field-0-is at c.in-Ok-None.ensures.gained) c.ready.new.pass.view c.ready.ensures.view
    c.give_both.new.pass.view c.give_both.ensures.view c.args.seen c.ready.ensures.step c.give_both.ensures.steps

pub give_both-requires-in-Ok-Some-clause-both : goal.give_both-requires-in-Ok-Some-clause-both
give_both-requires-in-Ok-Some-clause-both c =
    both_stands c.args.floor.now.description c.args.l c.args.mode c.requires.under_way.covered c.requires.one_chain
    c.args.pass.now.view c.attempt_there.new.pass.view
    c.requires.under_way.calling c.requires.under_way.there.there c.in-Ok-Some.walk
    (rw c.in-Ok-Some.field-0-is at c.in-Ok-Some.ensures.entered)

pub give_both-requires-in-Ok-Some-clause-settled : goal.give_both-requires-in-Ok-Some-clause-settled
give_both-requires-in-Ok-Some-clause-settled c = inr (
  lock_queue c.args.l.0,
  stands_on c.args.floor.now.description c.args.l c.args.mode c.requires.under_way.covered c.requires.one_chain
      c.args.pass.now.view c.attempt_there.new.pass.view
      c.requires.under_way.calling c.requires.under_way.there.there c.in-Ok-Some.walk
      (rw c.in-Ok-Some.field-0-is at c.in-Ok-Some.ensures.entered),
)

pub give_both-requires-in-Ok-Some-clause-unbound : goal.give_both-requires-in-Ok-Some-clause-unbound
give_both-requires-in-Ok-Some-clause-unbound c =
    unbound_stands c.args.floor.now.description c.args.l c.args.mode c.requires.under_way.covered c.requires.one_chain
    c.args.pass.now.view c.attempt_there.new.pass.view
    c.requires.under_way.calling c.requires.under_way.there.there c.in-Ok-Some.walk
    (rw c.in-Ok-Some.field-0-is at c.in-Ok-Some.ensures.entered)

pub give_both-requires-in-Ok-Some-clause-going : goal.give_both-requires-in-Ok-Some-clause-going
give_both-requires-in-Ok-Some-clause-going c =
    going_stands c.args.floor.now.description c.args.l c.args.mode c.requires.under_way.covered c.requires.one_chain
    c.args.pass.now.view c.attempt_there.new.pass.view
    c.requires.under_way.calling c.requires.under_way.there.there c.in-Ok-Some.walk
    (rw c.in-Ok-Some.field-0-is at c.in-Ok-Some.ensures.entered)

pub returns-in-Ok-Some-clause-on : goal.returns-in-Ok-Some-clause-on
returns-in-Ok-Some-clause-on c =
    enters_on c.args.floor.now.description c.args.l c.args.mode c.requires.under_way.covered c.requires.one_chain
    c.args.pass.now.view c.attempt_there.new.pass.view
    c.requires.under_way.calling c.requires.under_way.there.there c.in-Ok-Some.walk
    (rw c.in-Ok-Some.field-0-is at c.in-Ok-Some.ensures.entered)
    c.give_both-in-Ok-Some.new.pass.view c.give_both-in-Ok-Some.ensures.view c.args.seen
    c.give_both-in-Ok-Some.ensures.steps

pub returns-in-Err-clause-on : goal.returns-in-Err-clause-on
returns-in-Err-clause-on c =
    misses_on c.args.floor.now.description c.args.l c.args.mode c.args.seen c.in-Err.found c.args.pass.now.view
    c.attempt_there.new.pass.view
    c.requires.under_way.covered c.requires.own.description c.requires.one_chain (omega (arith, c.requires.one_chain))
    c.requires.under_way.there.there c.in-Err.ensures.missed

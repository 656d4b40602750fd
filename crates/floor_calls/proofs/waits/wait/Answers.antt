use Rattle.floor_calls.proofs.Names.{sym, subst, MayWait, ChanNo}
use Rattle.floor_calls.proofs.waits.wait.Goals as goal

pub go_on_in_wait-requires : goal.go_on_in_wait-requires
go_on_in_wait-requires c = record {
  there = (
    c.requires.ready.own,
    (
      c.requires.ready.rest,
      subst (λ (d : ChanNo). MayWait c.args.floor.now.description d.0 c.args.pass.now.view)
          (sym c.wait_on-on.ensures.chan) c.requires.may,
    ),
    c.wait_on-on.ensures.its,
  );
}

pub returns-clause-did : goal.returns-clause-did
returns-clause-did c = record {
  on = c.wait_on-on.result;
  chan = c.wait_on-on.ensures.chan;
  its = c.wait_on-on.ensures.its;
  part = c.go_on_in_wait.ensures.did;
}

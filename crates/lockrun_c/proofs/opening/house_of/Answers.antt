use Rattle.lockrun_c.proofs.Named.{says_nothing}
use Rattle.lockrun_c.proofs.Opened.{is_for}
use Rattle.lockrun_c.proofs.Refusals.{refused_for}
use Rattle.lockrun_c.proofs.opening.house_of.Goals as goal

pub describe-requires : goal.describe-requires
describe-requires c = record {
  no_operations =
      says_nothing c.args.threads.now c.args.locks.now c.args.chans.now c.in_ok-names.names c.in_ok-names.ensures;
}

pub returns-in-Err-clause-refused : goal.returns-in-Err-clause-refused
returns-in-Err-clause-refused c =
    refused_for c.args.threads.now c.args.locks.now c.args.chans.now c.args.keys.now c.in_ok-names.names
    c.in_ok-description.description c.in-Err.why c.in_ok-names.ensures c.in_ok-description.ensures
    c.in-Err.ensures.unfit

pub returns-in-Ok-clause-opened : goal.returns-in-Ok-clause-opened
returns-in-Ok-clause-opened c =
    is_for c.args.threads.now c.args.locks.now c.args.chans.now c.args.keys.now _ c.in_ok-description.description
    c.in-Ok.waiting.items
    c.in_ok-names.ensures c.in_ok-description.ensures c.in-Ok.ensures.floor c.in-Ok.ensures.none_gathered
    c.reverse.ensures.items c.in-Ok.ensures.count c.in-Ok.ensures.threads

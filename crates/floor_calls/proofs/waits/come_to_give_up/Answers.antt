use Rattle.floor_calls.proofs.Standing.{made}
use Rattle.floor_calls.proofs.Waiting.{gives_up_first, may_put_down}
use Rattle.floor_calls.proofs.waits.come_to_give_up.Goals as goal

pub begin_giving_up-at-requires-clause-lock : goal.begin_giving_up-at-requires-clause-lock
begin_giving_up-at-requires-clause-lock c = c.requires.there.1.of_floor

pub begin_giving_up-at-requires-clause-may : goal.begin_giving_up-at-requires-clause-may
begin_giving_up-at-requires-clause-may c =
    may_put_down c.args.floor.now.description c.args.on c.args.pass.now.view c.requires.there.1

pub returns-clause-at : goal.returns-clause-at
returns-clause-at c =
    let begun = c.begin_giving_up-at in (
      begun.ensures.own,
      gives_up_first c.args.floor.now.description c.args.on c.args.pass.now.view c.requires.there.1 begun.result
          begun.new.pass.view begun.ensures.begins,
    )

pub returns-clause-did : goal.returns-clause-did
returns-clause-did c = let begun = c.begin_giving_up-at in made begun.result begun.ensures.begins

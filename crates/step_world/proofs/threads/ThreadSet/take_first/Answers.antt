use Rattle.step_world.proofs.Names.{refl, ap, members}
use Rattle.std.proofs.Common.{◌∙◌}
use Rattle.step_world.proofs.Sets.{first_is, has_none, no_members}
use Rattle.step_world.proofs.threads.ThreadSet.take_first.Goals as goal

pub returns-then-self-eq0-clause-none : goal.returns-then-self-eq0-clause-none
returns-then-self-eq0-clause-none c = (ap members c.if-self-eq0.true ∙ no_members 0 has_none, refl)

pub returns-clause-some : goal.returns-clause-some
returns-clause-some c =
    let f = c.first-t.ensures in
    first_is c.args.self.now.bits c.take_out.new.self.bits c.first-t.result.0 f.few f.there f.none c.take_out.ensures

use Rattle.std.proofs.Common.{ap, ◌∙◌}
use Rattle.chain_table.proofs.Behind.{entries, taken_behind, others_behind, bare_taken}
use Rattle.chain_table.proofs.objects.ObjectHead.take_behind.Goals as goal

pub returns-clause-taken : goal.returns-clause-taken
returns-clause-taken g c = c.take_behind.ensures.taken
    ∙ taken_behind g.E.Own.name_of c.args.q c.args.self.now.next c.requires

pub returns-clause-bare : goal.returns-clause-bare
returns-clause-bare g c = bare_taken c.take_behind.result _ c.take_behind.ensures.taken

pub returns-clause-others : goal.returns-clause-others
returns-clause-others g c = ap (entries g.E.Own.name_of) c.take_behind.ensures.others
    ∙ others_behind g.E.Own.name_of c.args.q c.args.self.now.next c.requires

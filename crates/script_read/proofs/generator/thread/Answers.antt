use Rattle.std.proofs.Common.{◌∙◌, ap}
use Rattle.script_read.specs.Generator.{rounds_at}
use Rattle.script_read.proofs.Generating.{its_thread}
use Rattle.script_read.proofs.generator.thread.Goals as goal

pub returns-clause-made : goal.returns-clause-made
returns-clause-made c =
    its_thread c.args.draws.now.state c.args.t _ _ _ c.numbered.ensures c.one_of-base.ensures.drawn
    (c.from_vec.ensures ∙ (c.in_ok-ops.ensures.ops ∙ ap (λ x. rounds_at x 100) c.one_of-base.ensures.state))

use Rattle.std.proofs.Common.{◌∙◌, sym, ap, refl}
use Rattle.script_read.specs.Generator.{behind_round}
use Rattle.script_read.proofs.Generating.{no_rounds, rounds_more}
use Rattle.script_read.proofs.generator.rounds.Goals as goal

pub loop-init : goal.loop-init
loop-init c =
    let none = no_rounds c.args.draws.now.state in
    record { ops = c.new-ops.ensures.items ∙ sym none.0; state = sym none.1 }

pub loop-preserved : goal.loop-preserved
loop-preserved c =
    let more = rounds_more c.args.draws.now.state c.loop.counter in
    let i = c.loop.invariant in
    let r = c.in_ok-push_round.ensures in
    record {
      ops = r.ops ∙ (rw (i.ops, i.state) refl ∙ sym more.0);
      state = r.state ∙ (ap behind_round i.state ∙ sym more.1);
    }

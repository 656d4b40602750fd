use Rattle.std.proofs.Common.{◌∙◌, refl, sym, arith}
use Rattle.std.proofs.lemmas.List.FromFn.{map-range_with_len_more}
use Rattle.script_read.specs.Generator.{numbered}
use Rattle.script_read.proofs.generator.classes.Goals as goal

pub loop-n-preserved : goal.loop-n-preserved
loop-n-preserved c =
    c.in_ok-push.ensures.items ∙ (rw (c.loop-n.invariant, c.numbered.ensures) refl
    ∙ sym (map-range_with_len_more (numbered 99) 0 c.loop-n.n c.loop-n.n (omega arith)))

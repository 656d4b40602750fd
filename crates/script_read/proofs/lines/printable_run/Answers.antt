use Rattle.std.proofs.Common.{ℕ, ltb, cond, refl, arith}
use Rattle.std.proofs.lemmas.Simd.{zip2_splat, zip2_splat_left, length-chunk}
use lib.Lanes.{chunk}
use Rattle.lock_model.specs.Script.Lines.{is_printable}
use Rattle.script_read.proofs.Runs.{joined, run_in}
use Rattle.script_read.proofs.lines.printable_run.Goals as goal

pub returns : goal.returns
returns c =
    let v = chunk c.args.at 16 c.args.bytes.now in
    let long = length-chunk c.args.at 16 c.args.bytes.now c.requires in
    run_in is_printable c.args.bytes.now c.args.at 16 _ _ c.requires
    (omega arith) c.type_inv.bytes c.lowest_or.ensures _
    (joined _ _ _ v (zip2_splat _ v 16 32 long) (zip2_splat_left {X = ℕ} (λ a b. cond (ltb a b) 255 0) 126 16 v long))
    refl

use Rattle.std.proofs.Common.{◌≡◌, ◌≤◌, length, take, drop, arith, length-drop, ◌∙◌}
use Rattle.std.proofs.lemmas.List.{take_rest}
use Rattle.lock_io.proofs.Told.{added_more}
use Rattle.std.specs.Io.KnownBytes.{append_known}
use Rattle.lock_io.proofs.whole.write_all.Goals as goal

pub loop-written-preserved : goal.loop-written-preserved
loop-written-preserved g c =
    let text = c.args.text.now in
    let n = c.in_ok-written.field-0 in
    let fits : n ≤ length (drop c.loop-written.written text) = rw take_rest at c.in_ok-written.ensures.fits in
    let adds : g.K.Sink.contents c.write.new.self
    ≡ append_known (g.K.Sink.contents c.loop-written.sink) (take n (drop c.loop-written.written text)) =
    rw take_rest at c.in_ok-written.ensures.adds in (
      omega (arith, length-drop c.loop-written.written text),
      added_more _ _ _ text c.loop-written.written n c.loop-written.invariant.1 adds,
      c.in_ok-written.ensures.no_fault ∙ c.loop-written.invariant.2,
    )

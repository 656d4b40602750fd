use Rattle.top_ends.proofs.Takes.{took_no_more}
use Rattle.top_ends.proofs.reading.read_bytes.Goals as goal

pub returns-in-Err-Memory-clause-too_big : goal.returns-in-Err-Memory-clause-too_big
returns-in-Err-Memory-clause-too_big g c =
    took_no_more _ (g.S.Source.remaining c.args.source.now) (g.S.Source.remaining c.read_all.new.source)
    (rw c.in-Err-Memory.field-0-is at c.in-Err-Memory.ensures.front) (λ e. cc)

pub returns-in-Err-Fault-clause-too_big : goal.returns-in-Err-Fault-clause-too_big
returns-in-Err-Fault-clause-too_big g c =
    took_no_more _ (g.S.Source.remaining c.args.source.now) (g.S.Source.remaining c.read_all.new.source)
    (rw c.in-Err-Fault.field-0-is at c.in-Err-Fault.ensures.front) (λ e. cc)

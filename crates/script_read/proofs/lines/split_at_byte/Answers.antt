use Rattle.std.proofs.Common.{sym}
use Rattle.script_read.proofs.Cuts.{cut_at, lacks_before, lacks_all, if_none}
use Rattle.script_read.proofs.lines.split_at_byte.Goals as goal

pub returns-in_err-place-clause-none : goal.returns-in_err-place-clause-none
returns-in_err-place-clause-none c = if_none _ _ (lacks_all c.args.byte c.args.bytes.now (sym c.in_err-place.ensures))

pub returns-clause-cut : goal.returns-clause-cut
returns-clause-cut c = cut_at c.args.byte c.args.bytes.now c.in_ok-place.place (sym c.in_ok-place.ensures)

pub returns-clause-first : goal.returns-clause-first
returns-clause-first c = lacks_before c.args.byte c.args.bytes.now c.in_ok-place.place (sym c.in_ok-place.ensures)

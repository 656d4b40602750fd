use Rattle.tick_sleep.proofs.Made.{made_sound, next_home}
use Rattle.tick_sleep.proofs.table.SleepTable.make.Goals as goal

pub loop-t-preserved : goal.loop-t-preserved
loop-t-preserved c = rw (c.in_ok-push.ensures.items, c.of.ensures)
    (next_home c.loop-t.homes.items c.loop-t.t c.in_ok-make.field-0.value c.in_ok-make-2.field-0.value
    c.loop-t.invariant c.in_ok-make.ensures c.in_ok-make-2.ensures)

pub invariant_of-result : goal.invariant_of-result
invariant_of-result c = rw (c.empty.ensures, c.loop-t.invariant) (made_sound c.loop-t.t)

use Rattle.std.proofs.Common.{sym, ap, ◌∙◌}
use Rattle.tick_sleep.specs.Tables.{off}
use Rattle.tick_sleep.specs.declared.who.Who.TheVariants.{Best}
use Rattle.tick_sleep.proofs.Leaving.{nothing_taken, if_none, no_entry, doesnt_wait}
use Rattle.tick_sleep.proofs.table.taken_by.Goals as goal
use Rattle.tick_sleep.proofs.table.taken_by.Goals.{in-Best, in-All, in-Thread}

pub returns-in-None-clause-taken : goal.returns-in-None-clause-taken
returns-in-None-clause-taken c = elim c.match-who.branch [
  | in-Best w ↦
      let none = if_none w.signal-taken.result _ (sym w.taken-is ∙ c.in-None.is) w.signal-taken.ensures.none in
      nothing_taken c.args.who c.args.head.now.contents c.match-who.head.contents c.empty.result c.empty.ensures
      (rw w.in-Best.is (ap (off Best) none.0))
  | in-All w ↦ absurd (let e = sym w.taken-is ∙ c.in-None.is in cc)
  | in-Thread w ↦
      let none = if_none w.remove-taken.result _ (sym w.taken-is ∙ c.in-None.is) w.remove-taken.ensures.none in
      nothing_taken c.args.who c.args.head.now.contents c.match-who.head.contents c.empty.result c.empty.ensures
      (rw w.in-Thread.is (no_entry _ c.args.head.now.contents.exclusive
      (doesnt_wait _ c.args.head.now.contents none.0)))
]

use Rattle.std.proofs.Common.{false, sym, ap, subst, ◌∙◌}
use Rattle.sleep_queues.specs.Seen.{SleepQueue}
use Rattle.sleep_queues.specs.Changes.{all_waiters}
use Rattle.wait_objects.specs.Changes.{IsWellFormed}
use Rattle.tick_sleep.proofs.Leaving.{left_idle, none_free}
use Rattle.tick_sleep.proofs.table.put_back.Goals as goal

pub fill_last-requires-clause-left : goal.fill_last-requires-clause-left
fill_last-requires-clause-left c =
    left_idle c.args.head.value
    (subst (λ (h : SleepQueue). IsWellFormed false h.contents) c.deref.ensures c.is_empty.ensures.well_formed)
    (ap (λ (h : SleepQueue). all_waiters h.contents) (sym c.deref.ensures)
    ∙ c.is_empty.ensures.empty.0 c.if-is_empty.true) c.requires.bare

pub returns-then-is_empty-clause-free : goal.returns-then-is_empty-clause-free
returns-then-is_empty-clause-free c =
    λ nobody. none_free c.args.head.value
    (subst (λ (h : SleepQueue). IsWellFormed false h.contents) c.deref.ensures c.is_empty.ensures.well_formed) nobody

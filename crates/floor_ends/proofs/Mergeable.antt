-- The logs that a floor left can be merged.
use Rattle.std.proofs.Common.{ℕ, ◌<◌, ◌^◌, List, length, subst, sym, ◌∙◌}
use Rattle.std.proofs.lemmas.List.{length-reverse}
use Rattle.floor_table.specs.declared.description.Description.{Description}
use Rattle.lock_floor.specs.Closings.{IsClosing}
use Rattle.lock_floor.specs.declared.closing.Closing.{Closing}
use Rattle.lock_history.specs.Tickets.{TicketsOnce, entries_in}
use Rattle.floor_ends.proofs.Merging.{logs_long, logs_once}

module _ (floor : Description) (threads : List ℕ) (x : Closing) (k : IsClosing floor threads x) where
  pub tickets_once : TicketsOnce (entries_in x.logs.items)
  tickets_once = logs_once threads x.logs.items k.history k.logs k.legal.tickets_run

  pub few_entries : length (entries_in x.logs.items) < 2 ^ 32
  few_entries =
      subst (λ n. n < 2 ^ 32)
      (sym (logs_long threads x.logs.items k.history k.logs k.legal.tickets_run ∙ length-reverse k.history)) k.few

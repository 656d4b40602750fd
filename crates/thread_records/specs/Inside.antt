-- How the fields of a record are seen, and what is true of them.
use Rattle.std.specs.Prelude.{◌≡◌, IfSome, option_map}
use Rattle.turnstile_core.specs.Linked.{linked_terms}
use Rattle.thread_records.specs.Records.{Record, IsWellFormed}
use Rattle.thread_records.specs.declared.record.ThreadRec.TheInside.{Inside}

abbrev pub seen_record : Inside → Record
seen_record a =
    record {
      thread = a.thread.0;
      base = a.base.0;
      effective = a.eff.0;
      turnstile = option_map (λ k. k.object) a.turnstile;
      sleep_queue = option_map (λ k. k.object) a.sleepq;
      loans = linked_terms a.loans;
      on = a.on;
    }

-- what is true of a record, and the nodes at home are the thread's own
pub record IsSound (a : Inside) : Type 0 where
  pub well_formed : IsWellFormed (seen_record a)
  pub own_waiter : IfSome a.turnstile (λ k. k.thread ≡ a.thread.0)
  pub own_sleeper : IfSome a.sleepq (λ k. k.thread ≡ a.thread.0)

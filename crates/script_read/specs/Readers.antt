-- What a reader has made known.
use Rattle.std.specs.Prelude.{List, [], ◌∷◌, ◌++◌, option_map, ℕ, Option, Some, None}
use Rattle.lock_model.specs.Script.Learning.{Known}
use Rattle.lock_model.specs.Holds.{Hold, NotHeld, Holds}
use Rattle.lock_model.specs.declared.numbers.ThreadNo.{ThreadNo}
use Rattle.lock_model.specs.declared.plan.Declared.{Declared}
use Rattle.lock_model.specs.declared.plan.Mode.{Mode}
use Rattle.script_read.specs.OpenThreads.{thread_of}
use Rattle.script_read.specs.declared.reader.Reader.{Reader}

-- what a reader has made known
abbrev pub known : Reader → Known
known r = record {
  names = r.names.entries;
  classes = r.classes.keys;
  locks = r.locks.items;
  chans = r.chans.items;
  threads = r.threads.items;
  schedule = r.schedule.items;
  open_thread = option_map thread_of r.open_thread;
  operations = r.operations;
  is_done = r.is_done;
}

-- with a name declared
abbrev pub with_name : Known → List ℕ → Declared → Known
with_name k name declared = record k { names = k.names ++ (name, declared) ∷ [] }

-- with turns behind those of the schedule
abbrev pub with_turns : Known → List ThreadNo → Known
with_turns k turns = record k { schedule = k.schedule ++ turns }

-- how a lock is held, by the mode that was found
abbrev pub hold : Option Mode → Hold
hold None = NotHeld
hold (Some mode) = Holds mode

use Rattle.std.proofs.Common.{◌≡◌, ◌+◌, ◌&&◌, true, option_copied, length}
use Rattle.std.specs.Prelude.{is_some}
use Rattle.std.specs.List.{list_all}
use Rattle.lock_model.specs.Names.{is_name}
use Rattle.lock_model.specs.Script.Learning.{learned, thread_named}
use Rattle.lock_model.specs.Script.Lines.{words_of}
use Rattle.lock_model.specs.Script.Statements.{Schedules}
use Rattle.script_read.specs.Reading.{words_behind}
use Rattle.script_read.specs.Readers.{known}
use Rattle.script_read.proofs.reader.Reader.learn_schedule.Given as goal

abbrev pub invariant-loop-rest : goal.invariant-loop-rest
invariant-loop-rest l = record {
  spelled : (l.are_names && list_all is_name (words_behind (option_copied l.rest))) ≡ list_all is_name
      (words_of l.names);
  named : (l.are_threads && list_all (λ name. is_some (thread_named (known l.fn.self) name))
      (words_behind (option_copied l.rest)))
      ≡ list_all (λ name. is_some (thread_named (known l.fn.self) name)) (words_of l.names);
  counted : l.are_threads ≡ true
      → length (known l.self).schedule + length (words_behind (option_copied l.rest)) ≡ length
      (known l.fn.self).schedule + length (words_of l.names);
  learnt : learned (known l.self) (Schedules (words_behind (option_copied l.rest))) ≡ learned (known l.fn.self)
      (Schedules (words_of l.names));
}

abbrev pub decreases-loop-rest : goal.decreases-loop-rest
decreases-loop-rest l = length (words_behind (option_copied l.rest))

use Rattle.std.proofs.Common.{◌≡◌, ◌<◌, ◌^◌, true, take}
use Rattle.std.specs.List.{list_all}
use Rattle.lock_model.specs.Names.{is_digit}
use Rattle.lock_model.specs.Script.Lines.{digits_value}
use Rattle.script_read.proofs.numbers.number_of.Given as goal

abbrev pub invariant-loop-b : goal.invariant-loop-b
invariant-loop-b l = record {
  value : l.number ≡ digits_value (take l.b-index l.word);
  small : l.number < 2 ^ 64;
  digits : list_all is_digit (take l.b-index l.word) ≡ true;
}

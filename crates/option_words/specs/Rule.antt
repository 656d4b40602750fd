-- The rule of a command line as `clap` is told it: one simple command.
use Rattle.std.specs.Prelude.{◌<◌, ◌^◌, ◌++◌, ◌∷◌, List, [], Some, is_some, map, not, true}
use Rattle.std.specs.Borrow.{Bor}
use Rattle.std.specs.List.{All}
use Rattle.clap.specs.Words.{App, Rule, new_rule}
use Rattle.clap.specs.Simple.{new_shape}
use Rattle.clap.specs.declared.builder.value_parser.ValueParser.{ValueParser}
use Rattle.clap.specs.declared.builder.value_parser.ValueParser.TheVariants as parser
use Rattle.option_words.specs.Forms.{Text, operand}
use Rattle.option_words.specs.declared.synopsis.LongOption.{LongOption}
use Rattle.option_words.specs.declared.synopsis.Synopsis.{Synopsis}
use Rattle.option_words.specs.declared.synopsis.ValueKind.{ValueKind}
use Rattle.option_words.specs.declared.synopsis.ValueKind.TheVariants.{AnyText, Number, OneOf}

abbrev pub NamesRef : Type 0
NamesRef = Bor (List (Bor Text))

-- what a text is tried by
abbrev pub parser_of : ValueKind → ValueParser
parser_of (Number least most) = parser.Unsigned least most
parser_of AnyText = parser.String
parser_of (OneOf names) = parser.Names names

-- the numbers are ones that a u32 holds
abbrev pub FitsKind : ValueKind → Type 0
FitsKind (Number least most) = most < 2 ^ 32
FitsKind AnyText = Unit {0}
FitsKind (OneOf names) = Unit {0}

-- an option with one text
abbrev pub option_rule : LongOption → Rule
option_rule o = record (new_rule o.name.now) {
  long = Some o.name.now;
  value_names = 1;
  parser = Some (parser_of o.kind);
}

-- the operand, where there are names for it
abbrev pub operand_rule : NamesRef → Rule
operand_rule names = record (new_rule operand) {
  value_names = 1;
  parser = Some (parser.Names names);
  required = true;
}

abbrev pub where_named : List (Bor Text) → Rule → List Rule
where_named [] rule = []
where_named (name ∷ names) rule = rule ∷ []

abbrev pub operand_rules : Synopsis → List Rule
operand_rules s = where_named s.operands.now (operand_rule s.operands)

-- no program's name stands before the words
abbrev pub app_with : Synopsis → List Rule → App
app_with s rules = record {
  top = record (new_shape s.program.now) {
    rules = rules;
    no_binary_name = true;
    disable_help_flag = not (is_some s.help);
  };
  subs = [];
}

-- the operand, and options
abbrev pub rules_with : Synopsis → List LongOption → List Rule
rules_with s options = operand_rules s ++ map option_rule options

abbrev pub rule_for : Synopsis → App
rule_for s = app_with s (rules_with s s.options.now)

abbrev pub AllFit : List LongOption → Type 0
AllFit options = All (λ o. FitsKind o.kind) options

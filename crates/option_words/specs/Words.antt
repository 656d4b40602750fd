-- Tables and what was read, as contracts see them.
use Rattle.std.specs.Prelude.{◌≡◌, List, Option, Some, is_some, map, true}
use Rattle.std.specs.Borrow.{Bor}
use Rattle.clap.specs.Words.{first_value, found_of}
use Rattle.option_words.specs.Forms.{Flag, Kind, Meaning, Table, Text, WantsHelp, Gives, any_text, is_taken_by, number, one_of}
use Rattle.option_words.specs.declared.given.Request.{Request}
use Rattle.option_words.specs.declared.given.Request.TheVariants.{Help, Texts}
use Rattle.option_words.specs.declared.given.GivenTexts.{GivenTexts}
use Rattle.option_words.specs.declared.synopsis.LongOption.{LongOption}
use Rattle.option_words.specs.declared.synopsis.Synopsis.{Synopsis}
use Rattle.option_words.specs.declared.synopsis.ValueKind.{ValueKind}
use Rattle.option_words.specs.declared.synopsis.ValueKind.TheVariants.{AnyText, Number, OneOf}

abbrev pub names_of : Bor (List (Bor Text)) → List Text
names_of names = map (λ name. name.now) names.now

abbrev pub kind_of : ValueKind → Kind
kind_of (Number least most) = number least most
kind_of AnyText = any_text
kind_of (OneOf names) = one_of (names_of names)

abbrev pub flag_for : LongOption → Flag
flag_for o = record { name = o.name.now; kind = kind_of o.kind }

abbrev pub table_of : Synopsis → Table
table_of s = record {
  operands = names_of s.operands;
  options = map flag_for s.options.now;
  has_help = is_some s.help;
}

-- the text that was given to a name
abbrev pub text_in : GivenTexts → Text → Option Text
text_in given name = first_value (found_of given.matches) name

abbrev pub meaning : Request → Meaning
meaning (Texts given) = Gives (text_in given)
meaning (Help text) = WantsHelp

-- each text that was given is of its kind
abbrev pub AreTaken : Table → Request → Type 0
AreTaken t (Texts given) = (name text : Text) → text_in given name ≡ Some text
    → is_taken_by t name text ≡ true
AreTaken t (Help text) = Unit {0}

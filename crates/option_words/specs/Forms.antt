-- Which words are a form of a command line under a table of options, and what they say.
--
-- The options may stand in any order, each at most once, with the text as the next word or behind a `=`. A text that is
-- the next word doesn't begin with a hyphen, or is a hyphen alone. Where the table has operands, just one word that is
-- one of them stands before, between or behind the options. The word `--` ends the options. Where the table has a help,
-- words ask for it by `--help`, or a word that begins with `-h`, if those before are a form so far.
use Rattle.std.specs.Prelude.{◌&&◌, ◌||◌, ◌==◌, ◌∷◌, ◌++◌, ◌^◌, ℕ, Bool, true, false, not, List, [], Option, Some, None, codes, find, length, nat_le, nat_lt, is_some, option_and_then, option_map, slice_get, if◌then◌else◌, unwrap_or}
use Rattle.std.specs.List.{list_all, list_any}
use Rattle.std.specs.Option.{option_map_or}
use Rattle.std.specs.Char.{digit_value}
use Rattle.std.specs.Str.{bytes_eq, chars}
use Rattle.std.specs.Str.Parse.{digits_value, without_leading_plus}
use Rattle.clap.specs.Lexer.{long_of, short_of}

abbrev pub Text : Type 0
Text = List ℕ

-- 1. Tables

-- what a text has to be: a number from the least to the most, any text, or one of some names
pub data Kind : Type 0 where
  number : ℕ → ℕ → Kind
  any_text : Kind
  one_of : List Text → Kind

-- an option, and of which kind its text is
pub record Flag : Type 0 where
  pub name : Text
  pub kind : Kind

abbrev pub option : Text → Kind → Flag
option name kind = record { name = name; kind = kind }

-- the names of which one stands as the operand, or none where none does; the options; and whether there is a help
pub record Table : Type 0 where
  pub operands : List Text
  pub options : List Flag
  pub has_help : Bool

abbrev pub flag_of : Table → Text → Option Flag
flag_of t name = find (λ f. bytes_eq f.name name) t.options

-- The operand stands under this name. No option goes by it, since the name of one ends before a `=`.
abbrev pub operand : Text
operand = codes "="

abbrev pub operand_of : Table → Flag
operand_of t = option operand (one_of t.operands)

-- what Rust's parse takes for a number without a minus: one plus may stand first, and zeros
abbrev pub is_number : Text → Bool
is_number word = nat_lt 0 (length (without_leading_plus word))
    && list_all (λ d. nat_lt (digit_value d) 10) (without_leading_plus word)

abbrev pub number_of : Text → ℕ
number_of word = digits_value 10 (without_leading_plus word)

-- the word says a number between these
abbrev pub is_between : ℕ → ℕ → Text → Bool
is_between least most word =
    is_number word && (nat_le least (number_of word) && nat_le (number_of word) most)

-- the text is of the kind
abbrev pub is_taken : Kind → Text → Bool
is_taken (number least most) text = is_between least most text
is_taken any_text text = true
is_taken (one_of names) text = list_any (λ name. bytes_eq name text) names

-- 2. The words, one after the other

-- what the options and the operand were given, in turn, each under its name
abbrev pub Given : Type 0
Given = List (Text × Text)

abbrev pub given_to : Text → Given → Option Text
given_to name given = option_map (λ g. g.1) (find (λ (g : Text × Text). bytes_eq g.0 name) given)

-- what the words so far say; the option whose text the next word is; and whether the options are over
pub record Said : Type 0 where
  pub given : Given
  pub awaits : Option Flag
  pub is_over : Bool

abbrev pub nothing_said : Said
nothing_said = record { given = []; awaits = None; is_over = false }

-- the words so far are a form that goes on, they ask for help, or they are none
pub data Reading : Type 0 where
  GoesOn : Said → Reading
  AsksHelp : Reading
  Fails : Reading

-- with a text of the right kind, the first time; a second time is no form
abbrev pub with_text : Said → Flag → Text → Reading
with_text s f text = if not (is_some (given_to f.name s.given)) && is_taken f.kind text
    then GoesOn (record s { given = s.given ++ (f.name, text) ∷ []; awaits = None }) else Fails

-- `--NAME=TEXT`, or `--NAME` with the text to come
abbrev pub with_option : Said → Flag → Option Text → Reading
with_option s f None = GoesOn (record s { awaits = Some f })
with_option s f (Some text) = with_text s f text

abbrev pub with_long : Table → Said → Text × Option Text → Reading
with_long t s p = option_map_or (λ f. with_option s f p.1) (flag_of t p.0)
    (if t.has_help && (bytes_eq (codes "help") p.0 && not (is_some p.1)) then AsksHelp else Fails)

-- the letter of `-h`, and of `-help` too
abbrev pub short_flag : Text → Option ℕ
short_flag word = option_and_then (λ flags. slice_get (chars flags) 0) (short_of word)

abbrev pub with_letter : Table → ℕ → Reading
with_letter t letter = if t.has_help && 104 == letter then AsksHelp else Fails

-- a word that is no long option: it begins with one hyphen and a letter, or it is the operand
abbrev pub with_other : Table → Said → Text → Reading
with_other t s word =
    option_map_or (with_letter t) (short_flag word) (with_text s (operand_of t) word)

-- where no text is awaited
abbrev pub with_plain : Table → Said → Text → Reading
with_plain t s word = if s.is_over then with_text s (operand_of t) word
    else (if bytes_eq word (codes "--") then GoesOn (record s { is_over = true })
    else option_map_or (with_long t s) (long_of word) (with_other t s word))

-- the word begins with a hyphen, and isn't one alone
abbrev pub begins_option : Text → Bool
begins_option word = bytes_eq word (codes "--")
    || (is_some (long_of word) || is_some (short_flag word))

abbrev pub with_awaited : Table → Said → Option Flag → Text → Reading
with_awaited t s (Some f) word = if begins_option word then Fails else with_text s f word
with_awaited t s None word = with_plain t s word

-- with one more word
unfoldable pub with_word : Table → Said → Text → Reading
with_word t s word = with_awaited t s s.awaits word

abbrev pub go_on : Reading → (Said → Reading) → Reading
go_on (GoesOn s) rest = rest s
go_on AsksHelp rest = AsksHelp
go_on Fails rest = Fails

unfoldable pub with_words : Table → Said → List Text → Reading
with_words t s [] = GoesOn s
with_words t s (word ∷ words) = go_on (with_word t s word) (λ u. with_words t u words)

-- 3. What they say

-- the text that was given to each name
abbrev pub Texts : Type 0
Texts = Text → Option Text

-- the words give texts, or they ask for help
pub data Meaning : Type 0 where
  Gives : Texts → Meaning
  WantsHelp : Meaning

-- where there are operands one was said
abbrev pub is_there : List Text → Option Text → Bool
is_there [] said = true
is_there (name ∷ names) said = is_some said

-- at the end no text is awaited
abbrev pub is_whole : Table → Said → Bool
is_whole t s = not (is_some s.awaits) && is_there t.operands (given_to operand s.given)

abbrev pub at_end : Table → Reading → Option Meaning
at_end t (GoesOn s) =
    if is_whole t s then Some (Gives (λ name. given_to name s.given)) else None
at_end t AsksHelp = Some WantsHelp
at_end t Fails = None

-- what the words of a command line say, where they are a form
unfoldable pub meaning_of : Table → List Text → Option Meaning
meaning_of t words = at_end t (with_words t nothing_said words)

-- the text is of the kind of the option or the operand that has this name
abbrev pub is_taken_by : Table → Text → Text → Bool
is_taken_by t name text = option_map_or (λ f. is_taken f.kind text)
    (find (λ f. bytes_eq f.name name) (operand_of t ∷ t.options)) false

-- 4. What a program reads of a text

-- the number that a text says, where a u32 holds it
abbrev pub number_in : Text → Option ℕ
number_in text =
    if is_number text && nat_lt (number_of text) (2 ^ 32) then Some (number_of text) else None

-- the number that was given, or what there is where nothing was said
abbrev pub number_or : ℕ → Option Text → ℕ
number_or n text = unwrap_or (option_and_then number_in text) n

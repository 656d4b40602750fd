-- Which words are a form of the command line, and what they ask for.
--
-- Six options may stand there in any order, each at most once, with the text as the next word or behind a `=`. A text
-- that is the next word doesn't begin with a hyphen, or is a hyphen alone. The word `--` may stand last. Words ask
-- for help by `--help`, or a word that begins with `-h`, where those before are a form so far. How words are read by
-- a table of options is said in `option_words`. The one word `--version` asks for the version, which is a text like the
-- help.
use Rattle.std.specs.Prelude.{◌∷◌, ℕ, Bool, true, false, List, [], Option, Some, None, codes, nat_le, option_and_then, if◌then◌else◌, unwrap_or}
use Rattle.std.specs.Str.{bytes_eq}
use Rattle.lock_model.specs.declared.limits.TheConstants.{CHAINS, DEFAULT_CHAINS, TURNS}
use Rattle.option_words.specs.Forms.{Meaning, Table, Text, Texts, Gives, WantsHelp, any_text, meaning_of, number, number_or, one_of, option}
use Rattle.chart_command.specs.declared.args.Form.{Form}
use Rattle.chart_command.specs.declared.args.Form.TheVariants as written

-- the options, which are this project's own
abbrev pub table : Table
table = record {
  operands = [];
  options = option (codes "turns") (number 1 TURNS)
      ∷ option (codes "chains") (number 1 CHAINS)
      ∷ option (codes "from") (number 0 TURNS)
      ∷ option (codes "to") (number 0 TURNS)
      ∷ option (codes "title") any_text
      ∷ option (codes "form") (one_of (codes "svg" ∷ codes "html" ∷ codes "trace"
      ∷ codes "text" ∷ codes "json" ∷ []))
      ∷ [];
  has_help = true;
}

-- the form of a picture that a word names
abbrev pub form_of : Text → Option Form
form_of word = if bytes_eq (codes "svg") word then Some written.Svg
    else (if bytes_eq (codes "html") word then Some written.Html
    else (if bytes_eq (codes "trace") word then Some written.Trace
    else (if bytes_eq (codes "text") word then Some written.Text
    else (if bytes_eq (codes "json") word then Some written.Json else None))))

-- what the words say of a picture
pub record Wanted : Type 0 where
  pub turns : ℕ
  pub chains : ℕ
  pub from : ℕ
  pub to : ℕ
  pub title : Option Text
  pub form : Form

pub data Asking : Type 0 where
  AsksPicture : Wanted → Asking
  AsksForHelp : Asking

-- by the texts that the options were given; what wasn't said has its default
abbrev pub wanted_by : Texts → Wanted
wanted_by given = record {
  turns = number_or TURNS (given (codes "turns"));
  chains = number_or DEFAULT_CHAINS (given (codes "chains"));
  from = number_or 0 (given (codes "from"));
  to = number_or TURNS (given (codes "to"));
  title = given (codes "title");
  form = unwrap_or (option_and_then form_of (given (codes "form"))) written.Svg;
}

-- the first row isn't behind the last one
abbrev pub in_order : Wanted → Option Asking
in_order w = if nat_le w.from w.to then Some (AsksPicture w) else None

abbrev pub asking_in : Meaning → Option Asking
asking_in (Gives given) = in_order (wanted_by given)
asking_in WantsHelp = Some AsksForHelp

-- what the options ask for
abbrev pub asked_by_options : List Text → Option Asking
asked_by_options words = option_and_then asking_in (meaning_of table words)

-- the one word is `--version`
abbrev pub asks_version : List Text → Bool
asks_version [] = false
asks_version (word ∷ []) = bytes_eq word (codes "--version")
asks_version (word ∷ next ∷ words) = false

-- what the words of a command line ask for, where they are a form
abbrev pub asking_of : List Text → Option Asking
asking_of words = if asks_version words then Some AsksForHelp else asked_by_options words

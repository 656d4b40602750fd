-- Which words are a form of the command line, and what they say.
--
-- The command is one word. `--chains` and `--turns` may stand before it and behind it, each at most once, with the
-- number as the next word or behind a `=`. The word `--` ends the options. Nothing else may stand there. How words are
-- read by a table of options is said in `option_words`.
use Rattle.std.specs.Prelude.{◌∷◌, Bool, true, false, List, [], Option, Some, None, codes, is_some, map, option_map, option_and_then}
use Rattle.std.specs.Map.{lookup}
use Rattle.std.specs.Option.{option_map_or}
use Rattle.std.specs.Str.{bytes_eq}
use Rattle.lock_model.specs.declared.limits.TheConstants.{CHAINS, DEFAULT_CHAINS, TURNS}
use Rattle.option_words.specs.Forms.{Meaning, Table, Text, Texts, Gives, WantsHelp, meaning_of, number, number_or, operand, option}
use Rattle.command_line.specs.declared.args.Command.{Command}
use Rattle.command_line.specs.declared.args.Command.TheVariants.{Check, Profile, Run, Step, Ticks}
use Rattle.command_line.specs.declared.args.LockrunArgs.{LockrunArgs}

-- the commands, which are this project's own
abbrev pub commands : List (Text × Command)
commands =
    (codes "check", Check)
    ∷ (codes "step", Step)
    ∷ (codes "run", Run)
    ∷ (codes "ticks", Ticks)
    ∷ (codes "profile", Profile)
    ∷ []

-- with the options, which are its own too
abbrev pub table : Table
table = record {
  operands = map (λ c. c.0) commands;
  options = option (codes "chains") (number 1 CHAINS) ∷ option (codes "turns") (number 1 TURNS) ∷ [];
  has_help = false;
}

-- the command that a word names
abbrev pub command_of : Text → Option Command
command_of word = lookup (λ name. bytes_eq name word) commands

-- what the texts say that were given with a command; what wasn't said has its default
abbrev pub words_with : Texts → Command → LockrunArgs
words_with given command = record {
  command = command;
  chains = number_or DEFAULT_CHAINS (given (codes "chains"));
  turns = number_or TURNS (given (codes "turns"));
}

abbrev pub words_by : Texts → Option LockrunArgs
words_by given = option_map (words_with given) (option_and_then command_of (given operand))

abbrev pub words_in : Meaning → Option LockrunArgs
words_in (Gives given) = words_by given
words_in WantsHelp = None

-- what the words of a command line say, where they are a form
abbrev pub words_of : List Text → Option LockrunArgs
words_of words = option_and_then words_in (meaning_of table words)

abbrev pub is_form : List Text → Bool
is_form words = is_some (words_of words)

-- the command runs threads
abbrev pub runs_threads : Command → Bool
runs_threads Check = false
runs_threads Step = false
runs_threads Run = true
runs_threads Ticks = false
runs_threads Profile = false

-- they are a form whose command is `run`
abbrev pub is_run : List Text → Bool
is_run words = option_map_or (λ said. runs_threads said.command) (words_of words) false

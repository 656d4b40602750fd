-- Which words are a form of the command line, and what they ask for.
--
-- `--by priority`, beside which `--without-loans` may stand before or behind it; or `--by chance SEED`.
-- `--by=priority` and `--by=chance SEED` are the same. Words ask for help by `--help`, or a word that begins with
-- `-h`, where those before are a form so far. How words are read by a table of options is said in `option_words`.
-- There each option has one text, so two of these words are spelled out for it: behind `chance` the text of a seed
-- comes, and `--without-loans` says yes.
use Rattle.std.specs.Prelude.{◌∷◌, ◌||◌, ◌-◌, ◌^◌, true, false, List, [], Option, Some, None, codes, flat_map, option_and_then, option_map, if◌then◌else◌}
use Rattle.std.specs.Str.{bytes_eq}
use Rattle.option_words.specs.Forms.{Meaning, Table, Text, Texts, Gives, WantsHelp, meaning_of, number, number_in, one_of, option}
use Rattle.turn_policy.specs.declared.policy.Policy.{Policy}
use Rattle.turn_policy.specs.declared.policy.Policy.TheVariants.{Chance, Priority}

-- 1. Words

abbrev pub spelled_out : Text → List Text
spelled_out word =
    if bytes_eq (codes "--without-loans") word
    then codes "--without-loans=yes" ∷ []
    else (if bytes_eq (codes "chance") word || bytes_eq (codes "--by=chance") word
    then word ∷ codes "--seed" ∷ []
    else word ∷ [])

-- the options, which are this project's own
abbrev pub table : Table
table = record {
  operands = [];
  options = option (codes "by") (one_of (codes "priority" ∷ codes "chance" ∷ []))
      ∷ option (codes "seed") (number 0 (2 ^ 32 - 1))
      ∷ option (codes "without-loans") (one_of (codes "yes" ∷ []))
      ∷ [];
  has_help = true;
}

-- 2. What they ask for

-- by priority: loans are heeded where nothing was said of them; there is no seed
abbrev pub by_priority : Option Text → Option Text → Option Policy
by_priority None None = Some (Priority true)
by_priority None (Some said) = Some (Priority false)
by_priority (Some seed) loans = None

-- by chance: with a seed, and nothing was said of loans
abbrev pub by_chance : Option Text → Option Text → Option Policy
by_chance None loans = None
by_chance (Some seed) None = option_map Chance (number_in seed)
by_chance (Some seed) (Some said) = None

-- the policy, by what was given to `by`, `seed` and `without-loans`
abbrev pub policy_by : Text → Option Text → Option Text → Option Policy
policy_by name seed loans = if bytes_eq (codes "priority") name then by_priority seed loans
    else (if bytes_eq (codes "chance") name then by_chance seed loans else None)

abbrev pub policy_in : Texts → Option Policy
policy_in given =
    option_and_then (λ name. policy_by name (given (codes "seed")) (given (codes "without-loans")))
    (given (codes "by"))

pub data Asking : Type 0 where
  AsksSchedule : Policy → Asking
  AsksForHelp : Asking

abbrev pub asking_in : Meaning → Option Asking
asking_in (Gives given) = option_map AsksSchedule (policy_in given)
asking_in WantsHelp = Some AsksForHelp

-- what the words of a command line ask for, where they are a form
abbrev pub asking_of : List Text → Option Asking
asking_of words = option_and_then asking_in (meaning_of table (flat_map spelled_out words))

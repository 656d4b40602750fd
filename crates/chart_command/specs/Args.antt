-- The words that were read, as contracts see them.
use Rattle.std.specs.Prelude.{◌≤◌, option_map}
use Rattle.lock_model.specs.declared.limits.TheConstants.{CHAINS, TURNS}
use Rattle.chart_command.specs.Forms.{Asking, AsksForHelp, AsksPicture, Wanted}
use Rattle.chart_command.specs.declared.args.Asked.{Asked}
use Rattle.chart_command.specs.declared.args.Asked.TheVariants.{Help, Picture}
use Rattle.chart_command.specs.declared.args.LockchartArgs.{LockchartArgs}

-- what they say of a picture
abbrev pub wanted : LockchartArgs → Wanted
wanted said = record {
  turns = said.turns;
  chains = said.chains;
  from = said.from;
  to = said.to;
  title = option_map (λ text. text.now) said.title;
  form = said.form;
}

-- what they ask for
abbrev pub asking : Asked → Asking
asking (Picture said) = AsksPicture (wanted said)
asking (Help text) = AsksForHelp

-- from 1 to 1,000,000 turns, and from 1 to 64 chains of each sort
pub record HasRanges (said : LockchartArgs) : Type 0 where
  pub some_turns : 1 ≤ said.turns
  pub few_turns : said.turns ≤ TURNS
  pub some_chains : 1 ≤ said.chains
  pub few_chains : said.chains ≤ CHAINS

-- and the first row isn't behind the last one
abbrev pub CanBeDrawn : Asked → Type 0
CanBeDrawn (Picture said) = HasRanges said × (said.from ≤ said.to)
CanBeDrawn (Help text) = Unit {0}

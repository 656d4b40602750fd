-- The numbers that the words of a command line say are ones that a run takes.
use Rattle.std.specs.Prelude.{◌≤◌}
use Rattle.lock_model.specs.declared.limits.TheConstants.{CHAINS, TURNS}
use Rattle.command_line.specs.declared.args.LockrunArgs.{LockrunArgs}

-- from 1 to 64 chains of each sort, and from 1 to 1,000,000 turns
pub record HasRanges (said : LockrunArgs) : Type 0 where
  pub some_chains : 1 ≤ said.chains
  pub few_chains : said.chains ≤ CHAINS
  pub some_turns : 1 ≤ said.turns
  pub few_turns : said.turns ≤ TURNS

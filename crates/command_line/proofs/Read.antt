-- What the texts say that were given: in its range, and an error just where they say nothing.
use Rattle.std.proofs.Common.{◌≡◌, true, codes, arith, subst, sym, Option, Some, None, option_map, Result, Ok, Err}
use Rattle.std.specs.Prelude.{IfOk, IfSome, option_and_then}
use Rattle.std.specs.Option.{ok_or}
use Rattle.std.specs.Result.{IsErrAnd}
use Rattle.lock_model.specs.declared.limits.TheConstants.{CHAINS, DEFAULT_CHAINS, TURNS}
use Rattle.option_words.proofs.Numbers.{in_range}
use Rattle.option_words.specs.Forms.{Text, Texts, is_taken_by, operand}
use Rattle.option_words.specs.declared.given.WordsError.{WordsError}
use Rattle.option_words.specs.declared.given.WordsError.TheVariants.{Usage}
use Rattle.command_line.specs.Forms.{command_of, table, words_by, words_with}
use Rattle.command_line.specs.Ranges.{HasRanges}
use Rattle.command_line.specs.declared.args.Command.{Command}
use Rattle.command_line.specs.declared.args.LockrunArgs.{LockrunArgs}

ranges : (given : Texts) → ((name text : Text) → given name ≡ Some text → is_taken_by table name text ≡ true)
    → IfSome (words_by given) HasRanges
ranges given taken = go (option_and_then command_of (given operand))
  where
    go : (o : Option Command) → IfSome (option_map (words_with given) o) HasRanges
    go None = tt
    go (Some c) =
        let chains = in_range 1 CHAINS DEFAULT_CHAINS (given (codes "chains")) (omega arith) (omega arith)
        (taken (codes "chains")) in
        let turns = in_range 1 TURNS TURNS (given (codes "turns")) (omega arith) (omega arith) (taken (codes "turns"))
        in
        record { some_chains = chains.0; few_chains = chains.1; some_turns = turns.0; few_turns = turns.1 }

pub record Answers (form : Option LockrunArgs) (r : Result LockrunArgs WordsError) : Type 0 where
  pub said : IfOk r (λ said. form ≡ Some said)
  pub ranges : IfOk r HasRanges
  pub usage : r ≡ Err Usage → form ≡ None

pub answers : (given : Texts) (form : Option LockrunArgs) (r : Result LockrunArgs WordsError)
    → ((name text : Text) → given name ≡ Some text → is_taken_by table name text ≡ true)
    → form ≡ words_by given → r ≡ ok_or (words_by given) Usage → Answers form r
answers given form r taken is answer = subst (Answers form) (sym answer) (go (words_by given) is (ranges given taken))
  where
    go : (o : Option LockrunArgs) → form ≡ o → IfSome o HasRanges → Answers form (ok_or o Usage)
    go None same within = record { said = tt; ranges = tt; usage = λ _. same }
    go (Some said) same within = record { said = same; ranges = within; usage = λ e. absurd (cc) }

-- what `?` passes on is what it was given
pub passed_on : (r : Result LockrunArgs WordsError) (e : WordsError) → IsErrAnd r (λ passed. passed ≡ e) → r ≡ Err Usage
    → e ≡ Usage
passed_on (Ok said) e is same = absurd is
passed_on (Err passed) e is same = cc

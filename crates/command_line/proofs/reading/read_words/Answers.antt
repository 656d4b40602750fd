use Rattle.std.proofs.Common.{◌≡◌, ◌∙◌, map, ap, subst, Some, Err, true}
use Rattle.std.specs.Prelude.{option_and_then}
use Rattle.std.specs.String.{string_bytes}
use Rattle.std.specs.Option.{ok_or}
use Rattle.option_words.specs.Forms.{Text, Gives, WantsHelp, is_taken_by, meaning_of}
use Rattle.option_words.specs.Words.{AreTaken, meaning, text_in}
use Rattle.option_words.specs.declared.given.WordsError.TheVariants.{Usage}
use Rattle.command_line.specs.Forms.{table, words_in, words_of}
use Rattle.command_line.proofs.Read.{Answers, answers, passed_on}
use Rattle.command_line.proofs.reading.read_words.Goals as goal

pub returns-in_err-given-clause-usage : goal.returns-in_err-given-clause-usage
returns-in_err-given-clause-usage c e =
    let usage : c.in_err-given.field-0.0 ≡ Usage =
    passed_on c.from_residual.result c.in_err-given.field-0.0 c.from_residual.ensures.1 e in
    ap (option_and_then words_in) (c.in_err-given.ensures.usage (ap Err usage))

pub returns-clause-usage : goal.returns-clause-usage
returns-clause-usage c e =
    let asked : meaning_of table (map string_bytes c.args.words.now) ≡ Some WantsHelp = c.in_ok-given.ensures.asked
    ∙ ap (λ a. Some (meaning a)) c.in-Help.is in
    ap (option_and_then words_in) asked

pub returns-in-Texts : goal.returns-in-Texts
returns-in-Texts c =
    let words = map string_bytes c.args.words.now in
    let given = text_in c.in-Texts.given in
    let asked : meaning_of table words ≡ Some (Gives given) = c.in_ok-given.ensures.asked
    ∙ ap (λ a. Some (meaning a)) c.in-Texts.is in
    let taken : (name text : Text) → given name ≡ Some text
    → is_taken_by table name text ≡ true = subst (AreTaken table) c.in-Texts.is c.in_ok-given.ensures.kinds in
    let all : Answers (words_of words) c.ok_or.result =
    answers given (words_of words) c.ok_or.result taken (ap (option_and_then words_in) asked)
    (c.ok_or.ensures.value ∙ ap (λ o. ok_or o Usage) c.said_by.ensures) in
    record { said = all.said; ranges = all.ranges; usage = all.usage }

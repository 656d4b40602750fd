use Rattle.std.proofs.Common.{◌≡◌, ◌∙◌, List, map, option_map, ap, sym, Some, Err}
use Rattle.std.specs.Prelude.{option_and_then}
use Rattle.std.specs.String.{string_bytes}
use Rattle.option_words.specs.Forms.{Text, Gives, WantsHelp, meaning_of}
use Rattle.option_words.specs.Words.{meaning, text_in}
use Rattle.option_words.specs.declared.given.WordsError.TheVariants.{Usage}
use Rattle.plan_command.specs.Forms.{AsksSchedule, asking_in, table}
use Rattle.plan_command.proofs.reading.read_words.Goals as goal

pub returns-in-Err-clause-usage : goal.returns-in-Err-clause-usage
returns-in-Err-clause-usage c e =
    let same = ap (map string_bytes) c.deref.ensures.value ∙ c.in_ok-spelled.ensures in
    let usage : c.in-Err.e ≡ Usage = cc e in
    ap (λ (ws : List Text). option_and_then asking_in (meaning_of table ws)) (sym same)
    ∙ ap (option_and_then asking_in) (c.in-Err.ensures.usage (ap Err usage))

pub returns-in-Some-clause-asked : goal.returns-in-Some-clause-asked
returns-in-Some-clause-asked c =
    let same = ap (map string_bytes) c.deref.ensures.value ∙ c.in_ok-spelled.ensures in
    let asked : meaning_of table (map string_bytes c.deref.result.now) ≡ Some (Gives (text_in c.in-Texts.given)) =
    c.in-Ok.ensures.asked ∙ ap (λ a. Some (meaning a)) c.in-Texts.is in
    ap (λ (ws : List Text). option_and_then asking_in (meaning_of table ws)) (sym same)
    ∙ ap (option_and_then asking_in) asked
    ∙ ap (option_map AsksSchedule) (sym c.policy_in.ensures ∙ c.in-Some.is)

pub returns-in-Texts-clause-usage : goal.returns-in-Texts-clause-usage
returns-in-Texts-clause-usage c e =
    let same = ap (map string_bytes) c.deref.ensures.value ∙ c.in_ok-spelled.ensures in
    let asked : meaning_of table (map string_bytes c.deref.result.now) ≡ Some (Gives (text_in c.in-Texts.given)) =
    c.in-Ok.ensures.asked ∙ ap (λ a. Some (meaning a)) c.in-Texts.is in
    ap (λ (ws : List Text). option_and_then asking_in (meaning_of table ws)) (sym same)
    ∙ ap (option_and_then asking_in) asked
    ∙ ap (option_map AsksSchedule) (sym c.policy_in.ensures ∙ c.in-None.is)

pub returns-clause-asked : goal.returns-clause-asked
returns-clause-asked c =
    let same = ap (map string_bytes) c.deref.ensures.value ∙ c.in_ok-spelled.ensures in
    let asked : meaning_of table (map string_bytes c.deref.result.now) ≡ Some WantsHelp = c.in-Ok.ensures.asked
    ∙ ap (λ a. Some (meaning a)) c.in-Help.is in
    ap (λ (ws : List Text). option_and_then asking_in (meaning_of table ws)) (sym same)
    ∙ ap (option_and_then asking_in) asked

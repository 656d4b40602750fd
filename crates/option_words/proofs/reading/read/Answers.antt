use Rattle.std.proofs.Common.{◌≡◌, ◌∙◌, map, sym, None, inl, inr, false, ap}
use Rattle.std.specs.String.{string_bytes}
use Rattle.clap.specs.Words.{app_of, found_of, is_simple_and_free, kind_of}
use Rattle.clap.specs.declared.error.kind.ErrorKind.TheVariants.{DisplayHelp, OutOfMemory}
use Rattle.option_words.specs.Forms.{meaning_of}
use Rattle.option_words.specs.Words.{table_of}
use Rattle.option_words.proofs.Mistakes.{is_help, other_kind}
use Rattle.option_words.proofs.Rules.{plain_rule}
use Rattle.option_words.proofs.Whole.{Taken, known_refused, known_taken}
use Rattle.option_words.proofs.reading.read.Goals as goal

pub returns-in-Ok : goal.returns-in-Ok
returns-in-Ok c =
    let s = c.args.synopsis.now in
    let words = map string_bytes c.args.words.now in
    let found = found_of c.in-Ok.matches in
    let rule = c.in_ok-rule.ensures in
    let taken : Taken s words found = known_taken s rule.fits words found (app_of c.in_ok-rule.field-0) rule.rule
    c.in-Ok.ensures.kinds c.in-Ok.ensures.matches in
    record { asked = taken.gives; kinds = taken.taken; usage = λ is. absurd (cc) }

pub returns-in-DisplayHelp-clause-asked : goal.returns-in-DisplayHelp-clause-asked
returns-in-DisplayHelp-clause-asked c =
    let s = c.args.synopsis.now in
    let words = map string_bytes c.args.words.now in
    let k = kind_of c.in-Err.e in
    let rule = c.in_ok-rule.ensures in
    let help : k ≡ DisplayHelp = sym c.kind.ensures ∙ c.in-DisplayHelp.is in
    elim (c.in-Err.ensures.kinds (ap is_simple_and_free rule.rule ∙ plain_rule s)) [
      | inl memory ↦ let bad : DisplayHelp ≡ OutOfMemory = sym help ∙ memory in absurd (cc)
      | inr among ↦
          (known_refused s rule.fits words k (app_of c.in_ok-rule.field-0) rule.rule among).asks (ap is_help help)
    ]

pub returns : goal.returns
returns c =
    let s = c.args.synopsis.now in
    let words = map string_bytes c.args.words.now in
    let k = kind_of c.in-Err.e in
    let rule = c.in_ok-rule.ensures in
    let other : is_help k ≡ false = other_kind k (λ is. c.in_default.not-DisplayHelp (c.kind.ensures ∙ is)) in
    let none : meaning_of (table_of s) words ≡ None =
    elim (c.in-Err.ensures.kinds (ap is_simple_and_free rule.rule ∙ plain_rule s)) [
      | inl memory ↦ absurd (c.in_default.not-OutOfMemory (c.kind.ensures ∙ memory))
      | inr among ↦ (known_refused s rule.fits words k (app_of c.in_ok-rule.field-0) rule.rule among).none other
    ] in
    record { asked = tt; kinds = tt; usage = λ _. none }

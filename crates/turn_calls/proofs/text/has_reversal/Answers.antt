use Rattle.std.proofs.Common.{◌≡◌, ◌||◌, List, [], ◌∷◌, refl, ap, ◌∙◌, rules, tests}
use Rattle.std.specs.List.{list_any}
use Rattle.std.proofs.lemmas.Iterator.{YieldsList-from_slice}
use Rattle.std.proofs.lemmas.Iterator.Search.{any_from_yields_List}
use Rattle.lock_model.specs.Takes.{is_reversal, has_reversal}
use Rattle.lock_model.specs.declared.event.Entry.{Entry}
use Rattle.turn_calls.proofs.text.has_reversal.Goals as goal

some_reversal : (es : List Entry) → list_any (λ e. is_reversal e.event) es ≡ has_reversal es
some_reversal [] = refl
some_reversal (e ∷ es) = ap (λ b. is_reversal e.event || b) (some_reversal es)

pub returns : goal.returns
returns c =
    any_from_yields_List (λ (e : Entry). is_reversal e.event) _ _ _ c.any.ensures.ran
    (YieldsList-from_slice c.args.history.now cc) (λ x b q k. search (rules, tests))
    ∙ some_reversal c.args.history.now

use Rattle.step_machine.proofs.Names.{List, [], refl, ap, rules, tests, list_any, YieldsList-from_slice}
use Rattle.step_machine.proofs.Names.{any_from_yields_List, is_reversal, has_reversal, Entry}
use Rattle.std.proofs.Common.{◌≡◌, ◌||◌, ◌∷◌, ◌∙◌}
use Rattle.step_machine.proofs.machine.Machine.has_reversal.Goals as goal

some_reversal : (es : List Entry) → list_any (λ e. is_reversal e.event) es ≡ has_reversal es
some_reversal [] = refl
some_reversal (e ∷ es) = ap (λ b. is_reversal e.event || b) (some_reversal es)

pub returns : goal.returns
returns c =
    let es = c.args.self.now.log.entries in
    any_from_yields_List (λ (e : Entry). is_reversal e.event) _ _ _ c.any.ensures.ran (YieldsList-from_slice es cc)
    (λ x b q k. search (rules, tests)) ∙ some_reversal es

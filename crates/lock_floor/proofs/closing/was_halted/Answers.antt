use Rattle.lock_floor.proofs.Names.{sym, ap, eq-eqb, eqb-true, slots_items, at_or, halt_line, word_at}
use Rattle.std.proofs.Common.{◌≡◌, ◌∙◌}
use lib.ListN.{get_elem?}
use Rattle.lock_floor.proofs.closing.was_halted.Goals as goal

pub returns : goal.returns
returns c =
    let word : word_at (slots_items c.args.closed.now.words) halt_line ≡ c.word.result =
    at_or (slots_items c.args.closed.now.words) _ c.word.result 0
    (ap (λ i. get_elem? (slots_items c.args.closed.now.words) i) (sym c.halt_spot.ensures) ∙ c.word.ensures) in (
      (λ e. word ∙ eqb-true c.word.result 1 e),
      (λ e. eq-eqb c.word.result 1 (sym word ∙ e)),
    )

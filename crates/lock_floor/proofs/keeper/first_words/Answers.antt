use Rattle.lock_floor.proofs.Names.{rules, ℕ, List, set, replicate, sym, ap, subst, words_for, AreFirstWords}
use Rattle.std.proofs.Common.{◌≡◌, ◌∙◌}
use Rattle.lock_floor.proofs.Keeping.{words_at_first}
use Rattle.lock_floor.proofs.keeper.first_words.Goals as goal

pub returns : goal.returns
returns c =
    let zeros : c.in_ok-words.words.items ≡ replicate c.words_for.result 0 = search rules in
    let words : c.in_ok-words.words.items ≡ replicate (words_for c.args.slots) 0 = zeros
    ∙ ap (λ n. replicate n 0) c.words_for.ensures in
    subst (λ (z : List ℕ × ℕ). AreFirstWords c.args.threads c.args.slots (set z.0 z.1 c.args.threads))
    (λ i. (sym words i, sym c.awake_spot.ensures i)) (words_at_first c.args.threads c.args.slots)

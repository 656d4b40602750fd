use Rattle.std.proofs.Common.{◌≡◌, ◌++◌, drop, map}
use Rattle.lock_model.specs.Text.{spaced}
use Rattle.script_read.proofs.writer.words.push_words.Given as goal

abbrev pub invariant-loop-text : goal.invariant-loop-text
invariant-loop-text l =
    l.out.items ++ spaced (map (λ w. w.now) (drop l.text-index l.words))
    ≡ l.initial.out.items ++ spaced (map (λ w. w.now) l.words)

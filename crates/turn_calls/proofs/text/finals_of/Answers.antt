use Rattle.std.proofs.Common.{ℕ, List, [], ◌∷◌, ◌++◌, map, sym, ap, ap₂, ◌∙◌, arith}
use Rattle.std.specs.List.{range_with_len}
use Rattle.std.proofs.lemmas.List.{map-append}
use Rattle.std.proofs.lemmas.List.FromFn.{map-range_with_len_more}
use Rattle.lock_history.specs.Endings.{numbers_of}
use Rattle.lock_model.specs.declared.numbers.Prio.{Prio}
use Rattle.turn_calls.proofs.text.finals_of.Goals as goal

pub loop-t-preserved : goal.loop-t-preserved
loop-t-preserved c r h =
    let f : ℕ → ℕ × ℕ = λ t. (r.state.base t, r.state.effective t) in
    let pair : Prio × Prio = c.priorities.result in
    let t = c.loop-t.t in
    ap numbers_of c.in_ok-push.ensures.items
    ∙ map-append (λ (p : Prio × Prio). (p.0.0, p.1.0)) c.loop-t.finals.items (pair ∷ [])
    ∙ ap (λ (ns : List (ℕ × ℕ)). ns ++ (pair.0.0, pair.1.0) ∷ []) (c.loop-t.invariant r h)
    ∙ ap₂ (λ (b e : ℕ). map f (range_with_len 0 t) ++ (b, e) ∷ []) (c.priorities.ensures.base r h)
    (c.priorities.ensures.effective r h)
    ∙ sym (map-range_with_len_more f 0 t t (omega arith))

use Rattle.floor_calls.proofs.Names.{List, [], length, map, sym, ap, subst, append_assoc, arith, All-tail, arc_value}
use Rattle.floor_calls.proofs.Names.{into_iter_items, Knowledge, Pass, thread_at_rest, Stands, Thread, AtRest, Shared}
use Rattle.std.proofs.Common.{◌≡◌, ◌∷◌, ◌++◌, ◌∙◌, All}
use Rattle.floor_calls.proofs.opening.hand_out.Goals as goal

pub loop-pass-preserved : goal.loop-pass-preserved
loop-pass-preserved c =
    let at = c.loop-pass in
    let f = (arc_value c.args.shared.now).floor in
    let p : Pass Knowledge = c.in-Some.pass in
    let rest : List (Pass Knowledge) = into_iter_items c.next.new.self in
    let steps : into_iter_items at.pass-iterator ≡ p ∷ rest = c.in-Some.ensures.steps.0 in
    let made : c.new.result ≡ thread_at_rest f p =
    c.new.ensures ∙ ap (λ (s : Shared). thread_at_rest s.floor p) c.in_ok-mine.ensures in
    let pushed : c.push.new.self.items ≡ at.all.items ++ thread_at_rest f p ∷ [] =
    c.in_ok-push.ensures.items ∙ ap (λ (t : Thread). at.all.items ++ t ∷ []) made in
    record {
      handed =
          ap (λ (ts : List Thread). ts ++ map (thread_at_rest f) rest) pushed
          ∙ append_assoc at.all.items (thread_at_rest f p ∷ []) (map (thread_at_rest f) rest)
          ∙ ap (λ (ps : List (Pass Knowledge)). at.all.items ++ map (thread_at_rest f) ps) (sym steps)
          ∙ at.invariant.handed;
      stand = All-tail (λ (q : Pass Knowledge). Stands f AtRest q) p rest
          (subst (All (λ (q : Pass Knowledge). Stands f AtRest q)) steps at.invariant.stand);
      long =
          let was = at.invariant.long in
          let gone = c.in-Some.ensures.steps.1 in
          let short = ap length steps in
          omega arith;
    }

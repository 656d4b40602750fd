use Rattle.std.proofs.Common.{◌≡◌, ◌≤◌, ℕ, Some, ap, refl, rules, arith}
use Rattle.std.proofs.lemmas.Result.{on_ok_weaker}
use Rattle.lock_objects.specs.Represents.{wait_of, walk_of}
use Rattle.run_chart.specs.Bars.{bar_drawn, standing, waited_kind, walked_kind, woken_kind}
use Rattle.run_chart.proofs.Drawn.{adds_both, shown_is}
use Rattle.run_chart.proofs.Told.{row_told, stands_told, woken_told}
use Rattle.run_chart.proofs.bars.push_bars.Goals as goal
use Rattle.run_tracks.specs.Rows.{run_in}
use Rattle.run_tracks.specs.Tracks.{value_in}
use Rattle.run_tracks.specs.declared.threads.ThreadRow.{ThreadRow}

pub returns : goal.returns
returns c =
    let at = c.args.at.now in
    let plan = at.plan.now in
    let t = at.who.0 in
    let h = c.requires.run in
    let s = λ (n : ℕ). (run_in plan n).state in
    let stands = λ (n : ℕ). standing (s n) t in
    let row = λ (n : ℕ) (v : ThreadRow) (b : n ≤ at.to) (e : value_in n c.thread_rows.result.now.row ≡ Some v).
    row_told plan at.rows.now h t c.thread_rows.result.now c.thread_rows.ensures n
    (let low = c.requires.within in omega (arith, low, b)) v e in
    on_ok_weaker c.push_shown-3.result (λ walked.
    adds_both bar_drawn t at.from at.to _ (adds_both bar_drawn t at.from at.to _
    (adds_both bar_drawn t at.from at.to _ c.in_ok-push_holds.ensures
    (c.in_ok-push_shown.ensures (λ n. record { 0 = waited_kind (stands n) }) (λ n v u a b e k.
    shown_is u (waited_kind v.stands_on) (waited_kind (stands n)) (search rules)
    (ap waited_kind (stands_told plan h.proper n t v (row n v b e))))) (λ n. refl))
    (c.in_ok-push_shown-2.ensures (λ n. record { 0 = woken_kind ((s n).wait t) ((s n).blocked_on t) (stands n) })
    (λ n v u a b e k.
    shown_is u (woken_kind (wait_of v.wait) v.blocked_on v.stands_on)
    (woken_kind ((s n).wait t) ((s n).blocked_on t) (stands n)) (search rules)
    (woken_told plan h.proper n t v (row n v b e)))) (λ n. refl))
    (walked (λ n. record { 0 = walked_kind ((s n).walk t) }) (λ n v u a b e k.
    shown_is u (walked_kind (walk_of v.walk)) (walked_kind ((s n).walk t)) (search rules)
    (ap walked_kind (row n v b e).walk))) (λ n. refl)) c.push_shown-3.ensures

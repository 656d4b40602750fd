use Rattle.std.proofs.Common.{◌≡◌, ℕ, ◌+◌, Some, length, ap, refl, rules, subst, sym, arith}
use Rattle.std.specs.Prelude.{option_to_list, slice_get}
use Rattle.std.proofs.lemmas.Option.{slice_get_read}
use Rattle.lock_objects.specs.Represents.{hold_of}
use Rattle.run_chart.specs.Bars.{bar_drawn, held_kind, held_kinds}
use Rattle.run_chart.specs.Spans.{Adds}
use Rattle.run_chart.proofs.Drawn.{adds_both, adds_none, shown_is}
use Rattle.run_chart.proofs.Told.{so_at}
use Rattle.run_chart.proofs.Turns.{each_more}
use Rattle.run_chart.proofs.bars.push_holds.Goals as goal
use Rattle.run_tracks.specs.Rows.{run_in}

pub loop-l-init : goal.loop-l-init
loop-l-init c = let at = c.args.at.now in adds_none bar_drawn at.who.0 at.from at.to c.args.bars.now.items

pub loop-l-preserved : goal.loop-l-preserved
loop-l-preserved c =
    let at = c.args.at.now in
    let plan = at.plan.now in
    let t = at.who.0 in
    let l : ℕ = c.loop-l.l in
    let s = λ (n : ℕ). (run_in plan n).state in
    let tracks = c.as_slice-tracks.result.now in
    let track = c.index-tracks-l.result in
    let its = c.requires.run.told.columns.of_threads t c.thread_rows.result.now c.thread_rows.ensures in
    let here : slice_get c.thread_rows.result.now.held l ≡ Some track =
    subst (λ xs. slice_get xs l ≡ Some track) c.as_slice-tracks.ensures
    (slice_get_read tracks (length tracks) l track refl c.loop-l-test.true c.index-tracks-l.is) in
    adds_both bar_drawn t at.from at.to (λ n. held_kinds (s n) t (l + 1)) c.loop-l.invariant
    (c.in_ok-push_shown.ensures (λ n. record { 0 = held_kind l ((s n).held t l) }) (λ n mode shown a b e h.
    shown_is shown (held_kind l (hold_of mode)) (held_kind l ((s n).held t l)) (search rules)
    (ap (held_kind l) (so_at track (length at.rows.now.turns + 1) (λ m mode. hold_of mode ≡ (s m).held t l)
    (its.held l track here) n (let low = c.requires.within in omega (arith, low, b)) mode e))))
    (λ n. sym (each_more (λ k. option_to_list (held_kind k ((s n).held t k))) 0 l l (omega arith)))

pub returns : goal.returns
returns c =
    let at = c.args.at.now in
    let plan = at.plan.now in
    let t = at.who.0 in
    let locks = (c.requires.run.told.columns.of_threads t c.thread_rows.result.now c.thread_rows.ensures).locks in
    let all : c.loop-l.l ≡ length plan.locks =
    omega (arith, c.loop-l-test.false, c.loop-l.auto.l-end, ap length c.as_slice-tracks.ensures, locks) in
    subst (λ (l : ℕ). Adds bar_drawn t at.from at.to c.args.bars.now.items c.loop-l.bars.items
    (λ n. held_kinds (run_in plan n).state t l)) all c.loop-l.invariant

use Rattle.std.proofs.Common.{◌<◌, ◌≤◌, ◌≡◌, [], length, get_or, ap, sym, subst, refl, ◌∙◌, arith}
use Rattle.lock_floor.specs.Passes.{IsReady, first_pass}
use Rattle.lock_floor.specs.Floors.{Pass}
use Rattle.floor_table.specs.Views.{Knowledge}
use Rattle.floor_table.specs.Descriptions.{room_for}
use Rattle.lock_calls.proofs.First.{ready_first}
use Rattle.program_tests.proofs.floors.on_floor.Goals as goal

pub make-requires-clause-each : goal.make-requires-clause-each
make-requires-clause-each g c t d lt =
    let floor = c.in_ok-floor.floor in
    let made = c.in_ok-floor.ensures in
    let plan = c.in_ok-description.ensures in
    let value = c.as_mut_slice.ensures.value in
    let within : t < length c.in_ok-description.description.threads = omega (arith, lt, ap length value, made.count) in
    let first =
    ap (λ ps. get_or ps t d) value ∙ made.passes t d within
    ∙ ap (λ e. first_pass floor.table e t) (sym made.description) in
    let room : room_for floor.description t ≡ 1003 =
    ap (λ e. room_for e t) made.description ∙ plan.room t (omega (arith, within, plan.threads)) in
    subst (λ (p : Pass Knowledge). IsReady floor p × (p.view.share.held ≡ []) × (1003 ≤ p.view.spare)) (sym first)
    (ready_first floor t, refl, omega (arith, room))

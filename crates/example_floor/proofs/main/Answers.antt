use Rattle.std.proofs.Common.{◌<◌, length, get_or, ap, sym, subst, ◌∙◌, arith}
use Rattle.lock_floor.specs.Passes.{first_pass}
use Rattle.example_floor.specs.Counter.{IsCounter, IsReadyFor}
use Rattle.example_floor.proofs.First.{new_is_ready}
use Rattle.example_floor.proofs.main.Goals as goal

pub work_all-requires-clause-ready : goal.work_all-requires-clause-ready
work_all-requires-clause-ready g c κs t d lt =
    let floor = c.in_ok-floor.floor in
    let made = c.in_ok-floor.ensures in
    let counter = c.in_ok-description.ensures in
    let value = c.as_mut_slice.ensures.value in
    let within : t < length c.in_ok-description.field-0.threads = omega (arith, lt, ap length value, made.count) in
    let first =
    ap (λ ps. get_or ps t d) value ∙ made.passes t d within
    ∙ ap (λ e. first_pass floor.table e t) (sym made.description) in
    subst (IsReadyFor floor 3000) (sym first)
    (new_is_ready floor (subst IsCounter (sym made.description) counter) t (omega (arith, within, counter.threads)))

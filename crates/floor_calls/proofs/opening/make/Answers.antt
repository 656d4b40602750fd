use Rattle.floor_calls.proofs.Names.{List, sym, ap, subst, arith, arc_value, slice_index_or, first_thread, Thread}
use Rattle.std.proofs.Common.{◌≡◌}
use Rattle.floor_calls.proofs.Opened.{are_first, stand_all, threads_all}
use Rattle.floor_calls.proofs.opening.make.Goals as goal

pub hand_out-requires : goal.hand_out-requires
hand_out-requires c =
    let f = (arc_value c.in_ok-shared.shared).floor in
    let of = c.in_ok-floor.ensures in
    stand_all f c.in_ok-floor.passes.items
    (are_first f c.in_ok-floor.floor c.args.description c.in_ok-floor.passes.items
    (ap (λ s. s.floor) c.in_ok-shared.ensures) of.description of.count of.passes)

pub returns-clause-threads : goal.returns-clause-threads
returns-clause-threads c t d lt =
    let f = (arc_value c.in_ok-shared.shared).floor in
    let of = c.in_ok-floor.ensures in
    let ps = c.in_ok-floor.passes.items in
    subst (λ (ts : List Thread). slice_index_or ts t d ≡ first_thread f t) (sym c.in_ok-all.ensures)
    (threads_all f ps
    (are_first f c.in_ok-floor.floor c.args.description ps (ap (λ s. s.floor) c.in_ok-shared.ensures) of.description
    of.count of.passes) t d (omega (arith, lt, of.count)))

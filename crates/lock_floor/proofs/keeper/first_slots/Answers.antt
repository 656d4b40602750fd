use Rattle.lock_floor.proofs.Names.{rules, None, [], length, refl, ap, most_classes, first_cell, first_turnstile_chain}
use Rattle.lock_floor.proofs.Names.{first_sleep_chain, graph_place, Cell, Turnstiles, SleepQueues, Graph}
use Rattle.std.proofs.Common.{◌≡◌}
use Rattle.lock_floor.proofs.Keeping.{LaidOut, laid_more, laid_one, classes_fit}
use Rattle.lock_floor.proofs.keeper.first_slots.Goals as goal

pub returns-clause-each : goal.returns-clause-each
returns-clause-each c =
    let floor = c.args.description.now in
    let records = c.in_ok-slots.slots.items in
    let start : LaidOut floor (first_cell floor) records =
    record { count = c.in_ok-slots.ensures.count; each = c.in_ok-slots.ensures.each } in
    let cells : LaidOut floor (first_turnstile_chain floor) c.push_cells.new.slots.items =
    laid_more floor (first_cell floor) (length floor.keys) records c.push_cells.new.slots.items (Cell None)
    c.in_ok-push_cells.ensures (ap length c.as_slice.ensures) (λ j past low. (past, low, refl)) start in
    let turnstiles : LaidOut floor (first_sleep_chain floor) c.push_turnstiles.new.slots.items =
    laid_more floor (first_turnstile_chain floor) floor.chains c.push_cells.new.slots.items
    c.push_turnstiles.new.slots.items (Turnstiles []) c.in_ok-push_turnstiles.ensures refl
    (λ j past low. (past, low, refl)) cells in
    let sleepers : LaidOut floor (graph_place floor) c.push_sleep_queues.new.slots.items =
    laid_more floor (first_sleep_chain floor) floor.chains c.push_turnstiles.new.slots.items
    c.push_sleep_queues.new.slots.items (SleepQueues []) c.in_ok-push_sleep_queues.ensures refl
    (λ j past low. (past, low, refl)) turnstiles in
    let many : c.in_ok-new.field-0.value.classes ≡ most_classes = search rules in
    let edges : c.in_ok-new.field-0.value.edges ≡ [] = search rules in
    (laid_one floor (graph_place floor) c.push_sleep_queues.new.slots.items c.push.new.self.items
    (Graph c.in_ok-new.field-0) c.in_ok-push.ensures.items
    (refl, edges, classes_fit floor c.requires c.in_ok-new.field-0.value.classes many) sleepers).each

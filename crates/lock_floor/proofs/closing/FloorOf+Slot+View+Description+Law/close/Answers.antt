use Rattle.lock_floor.proofs.Names
use Names.{ℕ, arith, None, Option, List, length, map, cond, sym, ap, subst, list_any, slots_items, Description}
use Names.{ThreadPart, is_cell, Knowledge, IsClosing, Floor, Keeper, Closing}
use Rattle.std.proofs.Common.{◌≡◌, ◌<◌, ◌∙◌}
use Rattle.lock_floor.proofs.Closed.{left, record_home}
use Rattle.lock_floor.proofs.Ending.{last, cells_out, is_closing}
use Rattle.lock_floor.proofs.closing.FloorOf+Slot+View+Description+Law.close.Goals as goal

-- how many threads the floor has
count : (kept key : Description) (threads : List ThreadPart) → kept ≡ key → threads ≡ kept.threads
    → length threads ≡ length key.threads
count kept key threads same are = ap length (are ∙ ap (λ (d : Description). d.threads) same)

pub was_halted-halted-requires-clause-words : goal.was_halted-halted-requires-clause-words
was_halted-halted-requires-clause-words c =
    omega (arith, c.close_with-closed.ensures.counts.0, c.self.invariant.words)

pub was_halted-halted-requires-clause-full : goal.was_halted-halted-requires-clause-full
was_halted-halted-requires-clause-full c = c.close_with-closed.ensures.values.0

pub take_records-requires-clause-records : goal.take_records-requires-clause-records
take_records-requires-clause-records c t low =
    let key : Description = c.self.inside.board.shared.key in
    let v : Knowledge = c.keeper.inside.seat.me.0 in
    let final = last key v _ _ _ c.keeper.invariant.first c.close_with-closed.ensures.values.2 in
    let all = ap (λ (k : Keeper). length k.view.gathered) c.keeper.view_is ∙ c.requires.all
    ∙ sym (ap (λ (f : Floor Description). length f.description.threads) c.self.view_is) in
    let p = record_home key v _ _ final all t
    (subst (λ n. t < n) (count c.self.inside.description key c.as_slice-threads.result.now c.self.invariant.kept
    c.as_slice-threads.ensures) low) in
    (p.0, p.1)

pub take_cells-requires-clause-cells : goal.take_cells-requires-clause-cells
take_cells-requires-clause-cells c i low =
    let key : Description = c.self.inside.board.shared.key in
    let v : Knowledge = c.keeper.inside.seat.me.0 in
    let final = last key v _ _ _ c.keeper.invariant.first c.close_with-closed.ensures.values.2 in
    let all = ap (λ (k : Keeper). length k.view.gathered) c.keeper.view_is ∙ c.requires.all
    ∙ sym (ap (λ (f : Floor Description). length f.description.threads) c.self.view_is) in
    let same = count c.self.inside.description key c.as_slice-threads.result.now c.self.invariant.kept
    c.as_slice-threads.ensures in
    let keys = c.as_slice.ensures ∙ ap (λ (d : Description). d.keys) c.self.invariant.kept in
    let p = cells_out key v _ _ final all (length c.as_slice-threads.result.now) c.as_slice.result.now
    (slots_items c.take_records.new.closed.slots) same keys c.take_records.ensures.items i (0, 0) low in
    (_, p)

pub returns-clause-closing : goal.returns-clause-closing
returns-clause-closing c =
    let key : Description = c.self.inside.board.shared.key in
    let v : Knowledge = c.keeper.inside.seat.me.0 in
    let final = last key v _ _ _ c.keeper.invariant.first c.close_with-closed.ensures.values.2 in
    let all = ap (λ (k : Keeper). length k.view.gathered) c.keeper.view_is ∙ c.requires.all
    ∙ sym (ap (λ (f : Floor Description). length f.description.threads) c.self.view_is) in
    let same = count c.self.inside.description key c.as_slice-threads.result.now c.self.invariant.kept
    c.as_slice-threads.ensures in
    let keys = c.as_slice.ensures ∙ ap (λ (d : Description). d.keys) c.self.invariant.kept in
    let out = cells_out key v _ _ final all (length c.as_slice-threads.result.now) c.as_slice.result.now
    (slots_items c.take_records.new.closed.slots) same keys c.take_records.ensures.items in
    let x : Closing = record {
      recs = c.take_records.new.recs;
      logs = c.keeper.inside.logs;
      tables = c.take_cells.new.tables;
      halted = c.was_halted-halted.result;
    } in
    let column : ℕ → ℕ → Option ℕ = (left key v _ _ final all).table in
    let values = c.take_cells.ensures.values column out in
    subst (λ (z : Description × Knowledge).
    (left : IsClosing z.0 (map (λ g. g.0) z.1.gathered) x) × (left.past ≡ z.1.seen))
    (λ i. ((c.self.view_is i).description, (c.keeper.view_is i).view))
    (is_closing key v _ _ final all x record {
      logs = c.keeper.invariant.logs_are;
      count = c.take_records.ensures.count ∙ same;
      records = λ t d low. c.take_records.ensures.records t d (subst (λ n. t < n) (sym same) low);
      values = λ l k. values l k ∙ ap (λ ks. cond (list_any (is_cell l k) ks) (column l k) None) keys;
      none_taken = c.keeper.invariant.none_taken;
      none_held = c.keeper.invariant.none_held;
      halted = c.was_halted-halted.ensures;
    })

use Rattle.std.proofs.Common.{◌≡◌, length, ap, ◌∙◌, arith, vec_len}
use Rattle.lock_history.specs.Tickets.{entries_in, placed_by}
use Rattle.lock_history.proofs.Placed.{placed_all, written, length-placed_by, InOrder-placed}
use Rattle.lock_history.proofs.merging.merge.Goals as goal

length-places : (c : goal.After-from_vec) → length c.as_mut_slice.result.now ≡ length (entries_in c.args.logs.now)
length-places c = omega (arith, c.as_mut_slice.ensures.len, c.in_ok-entries.ensures.len, c.count.ensures)

history_is : (c : goal.After-from_vec)
    → c.from_vec.result ≡ placed_by c.as_mut_slice.result.now (entries_in c.args.logs.now)
history_is c =
    let all = entries_in c.args.logs.now in
    let places = c.as_mut_slice.result.now in
    let long : length c.place_all.new.places ≡ vec_len c.in_ok-entries.entries =
    ap length c.place_all.ensures ∙ length-placed_by places all ∙ c.as_mut_slice.ensures.len in
    c.from_vec.ensures ∙ written _ c.place_all.new.places c.in_ok-entries.entries.items long ∙ c.place_all.ensures

pub returns-clause-placed : goal.returns-clause-placed
returns-clause-placed c =
    placed_all c.as_mut_slice.result.now (entries_in c.args.logs.now) c.from_vec.result c.requires.tickets
    (length-places c) (history_is c)

pub returns-clause-in_order : goal.returns-clause-in_order
returns-clause-in_order c =
    InOrder-placed (entries_in c.args.logs.now) c.from_vec.result c.requires.tickets
    (ap length (history_is c) ∙ length-placed_by c.as_mut_slice.result.now (entries_in c.args.logs.now)
    ∙ length-places c)
    (returns-clause-placed c)

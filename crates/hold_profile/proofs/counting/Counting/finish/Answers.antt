use Rattle.std.proofs.Common.{ap, ◌∙◌, map, length, flat_map}
use Rattle.std.specs.List.{range_with_len}
use Rattle.hold_profile.specs.Counting.{line_in_end, row_lines}
use Rattle.hold_profile.proofs.Results.{lines_since, lines_total, tickets_below, profile_made}
use Rattle.hold_profile.proofs.counting.Counting.finish.Goals as goal

pub lines_in-requires-clause-since : goal.lines_in-requires-clause-since
lines_in-requires-clause-since c =
    rw c.as_slice.ensures.value
    (lines_since c.args.plan.now c.args.history.now c.args.self (tickets_below c.args.history.now c.requires.tickets)
    c.requires.few c.requires.counted)

pub lines_in-requires-clause-total : goal.lines_in-requires-clause-total
lines_in-requires-clause-total c =
    rw c.as_slice.ensures.value
    (lines_total c.args.plan.now c.args.history.now c.args.self (tickets_below c.args.history.now c.requires.tickets)
    c.requires.few c.requires.counted)

pub returns : goal.returns
returns c =
    profile_made c.args.plan.now c.args.history.now c.args.self c.requires.tickets c.requires.few c.requires.counted _
    (c.from_vec.ensures ∙ c.in_ok-locks.ensures
    ∙ ap (map (line_in_end (length c.args.history.now))) c.as_slice.ensures.value)
    (c.from_vec-2.ensures ∙ c.in_ok-orders.ensures
    ∙ ap (λ rows. flat_map (row_lines rows (length c.as_slice-2.result.now))
    (range_with_len 0 (length c.as_slice-2.result.now))) c.as_slice-3.ensures.value
    ∙ ap (λ classes. flat_map (row_lines c.args.self.orders.items (length classes)) (range_with_len 0 (length classes)))
    c.as_slice-2.ensures)

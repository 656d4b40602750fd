use Rattle.std.proofs.Common.{◌≡◌, ◌≤◌, length, reverse, sym, subst, ◌∙◌, arith}
use Rattle.std.proofs.lemmas.List.{take_all}
use Rattle.lock_history.specs.Tickets.{InOrder}
use Rattle.lock_history.proofs.Merged.{InOrder-reverse}
use Rattle.turn_calls.proofs.text.history_of.Goals as goal

pub of_log-requires : goal.of_log-requires
of_log-requires c =
    let run = c.requires.sound.run in
    let entries = c.history-entries.result.now in
    let all : length entries
    ≤ c.loop-entry.entry-index = omega (arith, c.loop-entry-test.false, c.loop-entry.auto.entry-index-end) in
    let same : c.loop-entry.log.entries ≡ reverse run.0.state.history =
    c.loop-entry.invariant.0 ∙ take_all c.loop-entry.entry-index entries all
    ∙ c.history-entries.ensures.history run.0 run.1 in
    subst InOrder (sym same) (InOrder-reverse run.0.state.history run.1.on_track.lawful.lawful.books.tickets_run)

use Rattle.std.proofs.Common.{length, ◌<◌, ap, sym, subst, ◌∙◌, arith}
use Rattle.std.proofs.lemmas.Grind.{common_steps}
use Rattle.std.specs.List.{All}
use Rattle.lock_history.specs.Tickets.{entries_in}
use Rattle.lock_model.specs.declared.event.Entry.{Entry}
use Rattle.lock_history.specs.Books.{Book}
use Rattle.lock_history.proofs.Placed.{All-of_log, placed_by-append}
use Rattle.lock_history.proofs.merging.place_all.Goals as goal

pub place-requires : goal.place-requires
place-requires c =
    let below : Entry → Type 0 = λ e. e.ticket < length c.loop-log.places in
    let all : All below (entries_in c.args.logs.now) = subst
    (λ n. All (λ (e : Entry). e.ticket < n) (entries_in c.args.logs.now)) (sym c.loop-log.auto.places) c.requires in
    subst (All below) (ap (λ (g : Book). g.entries) (sym c.log-item.is) ∙ sym c.as_slice.ensures)
    (All-of_log below c.args.logs.now c.loop-log.log-index c.log-item.result c.loop-log-test.true all)

pub loop-log-preserved : goal.loop-log-preserved
loop-log-preserved c = grind
    (arith, common_steps, placed_by-append, c.loop-log.invariant, c.place.ensures, c.as_slice.ensures, c.log-item.is)

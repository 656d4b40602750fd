use Rattle.std.proofs.Common.{[], ◌∷◌}
use Rattle.chart_html.proofs.Joined.{joined}
use Rattle.chart_html.proofs.threads.ThreadRowsListed.push.Goals as goal

pub returns : goal.returns
returns c =
    rw (c.in_ok-push_end.ensures, c.in_ok-push_items.ensures, c.in_ok-push_column-6.ensures) (
    rw (c.in_ok-push_column-5.ensures, c.in_ok-push_column-4.ensures, c.in_ok-push_column-3.ensures) (
    rw (c.in_ok-push_column-2.ensures, c.in_ok-push_column.ensures, c.in_ok-push_with_string.ensures) (
    rw (c.changes-rows.ensures.changes, c.as_slice.ensures, c.name_of.ensures)
    (joined c.args.out.now.items (_ ∷ _ ∷ _ ∷ _ ∷ _ ∷ _ ∷ _ ∷ _ ∷ _ ∷ _ ∷ _ ∷ _ ∷ _ ∷ _ ∷ _ ∷ []) _))))

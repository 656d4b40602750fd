use Rattle.std.proofs.Common.{[], ◌∷◌}
use Rattle.chart_html.proofs.Joined.{joined}
use Rattle.chart_html.proofs.data.push_data.Goals as goal

pub returns : goal.returns
returns c =
    rw (c.in_ok-push_words-2.ensures, c.in_ok-push_edits.ensures, c.in_ok-push_words.ensures) (
    rw (c.in_ok-push_items-5.ensures, c.in_ok-push_items-4.ensures, c.in_ok-push_items-3.ensures) (
    rw (c.in_ok-push_items-2.ensures, c.in_ok-push_items.ensures, c.in_ok-push_with_number-2.ensures) (
    rw (c.in_ok-push_with_number.ensures, c.as_slice.ensures, c.as_slice-2.ensures, c.as_slice-3.ensures) (
    rw (c.as_slice-4.ensures, c.as_slice-5.ensures, c.changes.ensures.changes, c.from.ensures, c.from-2.ensures)
    (joined c.args.out.now.items (_ ∷ _ ∷ _ ∷ _ ∷ _ ∷ _ ∷ _ ∷ _ ∷ _ ∷ _ ∷ _ ∷ _ ∷ _ ∷ _ ∷ []) _)))))

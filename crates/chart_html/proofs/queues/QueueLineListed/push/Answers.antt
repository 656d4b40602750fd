use Rattle.std.proofs.Common.{[], ◌∷◌}
use Rattle.chart_html.proofs.Joined.{joined}
use Rattle.chart_html.proofs.queues.QueueLineListed.push.Goals as goal

pub returns : goal.returns
returns c =
    rw (c.in_ok-push_words.ensures, c.in_ok-push_items-3.ensures, c.in_ok-push_items-2.ensures) (
    rw (c.in_ok-push_items.ensures, c.in_ok-push_with_string-2.ensures, c.in_ok-push_with_number.ensures) (
    rw (c.in_ok-push_with_string.ensures, c.as_slice.ensures, c.as_slice-2.ensures, c.as_slice-3.ensures) (
    rw (c.queue_name.ensures, c.thread_name.ensures, c.from.ensures)
    (joined c.args.out.now.items (_ ∷ _ ∷ _ ∷ _ ∷ _ ∷ _ ∷ _ ∷ _ ∷ _ ∷ []) _))))

use Rattle.std.proofs.Common.{[], ◌∷◌}
use Rattle.chart_html.proofs.Joined.{joined}
use Rattle.chart_html.proofs.data.LockDeclListed.push.Goals as goal

pub returns : goal.returns
returns c =
    rw (c.in_ok-push_words.ensures, c.in_ok-push_items.ensures, c.in_ok-push_with_string-2.ensures) (
    rw (c.in_ok-push_with_string.ensures, c.track_of.ensures, c.kind_word.ensures, c.as_bytes.ensures.value)
    (joined c.args.out.now.items (_ ∷ _ ∷ _ ∷ _ ∷ []) _))

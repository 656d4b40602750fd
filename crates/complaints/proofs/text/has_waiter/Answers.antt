use Rattle.std.proofs.Common.{◌≡◌, ◌∙◌, ◌||◌, ◌++◌, ◌∷◌, Bool, ap, sym, refl, true, false}
use Rattle.std.specs.List.{list_any}
use Rattle.script_read.specs.Reading.{Lacks}
use Rattle.complaints.specs.Complaints.{Text, has_waiter, is_of}
use Rattle.complaints.proofs.Items.{items-cut, items-last}
use Rattle.complaints.proofs.text.has_waiter.Goals as goal

cut_at : (thread rest item behind : Text) → rest ≡ item ++ 44 ∷ behind → Lacks 44 item
    → has_waiter thread rest ≡ (is_of thread item || has_waiter thread behind)
cut_at thread rest item behind is lacks = ap (has_waiter thread) is
    ∙ ap (list_any (is_of thread)) (items-cut item behind lacks)

or_false : (b : Bool) → (b || false) ≡ b
or_false true = refl
or_false false = refl

pub returns-then-is_of : goal.returns-then-is_of
returns-then-is_of c =
    let thread = c.args.thread.now in
    let cut = cut_at thread c.loop-item.rest.now c.in-Some.item.now c.in-Some.behind.now c.in-Some.ensures.cut
    c.in-Some.ensures.first in
    sym (c.loop-item.invariant ∙ cut
    ∙ ap (λ b. b || has_waiter thread c.in-Some.behind.now) (sym c.is_of.ensures ∙ c.if-is_of.true))

pub loop-item-preserved : goal.loop-item-preserved
loop-item-preserved c =
    let thread = c.args.thread.now in
    let cut = cut_at thread c.loop-item.rest.now c.in-Some.item.now c.in-Some.behind.now c.in-Some.ensures.cut
    c.in-Some.ensures.first in
    c.loop-item.invariant ∙ cut
    ∙ ap (λ b. b || has_waiter thread c.in-Some.behind.now) (sym c.is_of.ensures ∙ c.if-is_of.false)

pub returns : goal.returns
returns c =
    let thread = c.args.thread.now in
    let rest = c.loop-item.rest.now in
    c.is_of-2.ensures ∙ sym
    (c.loop-item.invariant ∙ ap (list_any (is_of thread)) (items-last rest c.in_default.ensures.none)
    ∙ or_false (is_of thread rest))

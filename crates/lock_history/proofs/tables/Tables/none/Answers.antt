use Rattle.std.proofs.Common.{sym, ap, subst, ◌∙◌}
use Rattle.std.specs.List.Sorted.{IsStrictlySortedBy}
use Rattle.std.specs.Map.{keys_of}
use Rattle.lock_model.specs.History.{place_cmp}
use Rattle.lock_history.specs.Books.{present_of}
use Rattle.lock_history.proofs.Slots.{nothing}
use Rattle.lock_history.proofs.tables.Tables.none.Goals as goal

pub returns : goal.returns
returns c = ap present_of c.new.ensures.empty ∙ nothing

pub invariant_of-result : goal.invariant_of-result
unfolding IsStrictlySortedBy
invariant_of-result c = subst (IsStrictlySortedBy place_cmp) (sym (ap keys_of c.new.ensures.empty)) tt

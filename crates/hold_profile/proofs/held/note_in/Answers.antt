use Rattle.std.proofs.Common.{rules, ◌≡◌, not, nat_eq, sym, ap, ◌∙◌, inl, inr}
use Rattle.std.specs.List.{filter}
use Rattle.std.proofs.lemmas.Fn.{filter_same}
use Rattle.lock_model.specs.declared.numbers.LockNo.{LockNo}
use Rattle.hold_profile.specs.Counting.{held_after}
use Rattle.hold_profile.proofs.held.note_in.Goals as goal

pub returns-in-Ends : goal.returns-in-Ends
returns-in-Ends c =
    let kept : c.retain.new.self.items ≡ filter (λ (k : LockNo). not (nat_eq c.args.l.0 k.0)) c.args.held.now.items =
    filter_same _ _ _ (λ x b f' k. search rules) _ _ c.retain.ensures.filtered in
    elim c.in-Ends.is [
      | inl e ↦ kept ∙ sym (ap (λ w. held_after w c.args.l c.args.held.now.items) e)
      | inr e ↦ kept ∙ sym (ap (λ w. held_after w c.args.l c.args.held.now.items) e)
    ]

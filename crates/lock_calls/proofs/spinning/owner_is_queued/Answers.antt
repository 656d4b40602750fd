use Rattle.lock_calls.proofs.Names.{Bool, Some, None, length, sym, inl, inr, subst, arith, cases_lt, same_Some, word_of}
use Rattle.lock_calls.proofs.Names.{Knowledge, AsksOwner, asks, nobody}
use Rattle.std.proofs.Common.{◌≡◌, ◌∙◌}
use Rattle.lock_calls.proofs.spinning.owner_is_queued.Goals as goal

pub returns-in-Some-clause-asks : goal.returns-in-Some-clause-asks
returns-in-Some-clause-asks c =
    let floor = c.args.floor.now.description in
    let o = c.in-Some.owner.0 in
    let owner = sym c.in-Some.ensures in
    elim (cases_lt o (length floor.threads)) [
      | inl low ↦ asks o owner c.find_queued.ensures.view (c.find_queued.ensures.found low)
      | inr high ↦
          let none = c.find_queued.ensures.beyond high in
          subst (λ (z : Bool × Knowledge). AsksOwner floor (word_of c.args.seen) z.0 c.args.pass.now.view z.1)
          (λ i. (sym none.0 i, sym none.1 i))
          (nobody (λ u e low.
          let same = same_Some u o (sym e ∙ owner) in
          absurd (omega (arith, same, low, high))))
    ]

pub returns-in-None-clause-asks : goal.returns-in-None-clause-asks
returns-in-None-clause-asks c =
    nobody (λ u e low. absurd (let z : None ≡ Some u = c.in-None.ensures ∙ e in cc))

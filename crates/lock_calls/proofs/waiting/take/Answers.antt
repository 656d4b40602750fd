use Rattle.lock_calls.proofs.Names.{true, false, IfErr, sym, subst, IsHalt, WasNotTaken}
use Rattle.std.proofs.Common.{◌≡◌, ◌∙◌}
use Rattle.lock_calls.proofs.waiting.take.Goals as goal

pub unreachable-requires : goal.unreachable-requires
unreachable-requires g c =
    let halted = subst (λ r. WasNotTaken c.args.floor.now.description c.args.l c.args.mode r c.args.pass.now.view
    c.take_or_halt.new.pass.view) c.in-Err-Halted.field-0-is c.in-Err-Halted.ensures.refused in
    let z : true ≡ false = sym c.requires.turnstile ∙ halted.sleeps in
    cc

pub returns-in-Err-Reversal-clause-reversed : goal.returns-in-Err-Reversal-clause-reversed
returns-in-Err-Reversal-clause-reversed g c =
    subst (λ r. WasNotTaken c.args.floor.now.description c.args.l c.args.mode r c.args.pass.now.view
    c.take_or_halt.new.pass.view) c.in-Err-Reversal.field-0-is c.in-Err-Reversal.ensures.refused

pub returns-in-Err-Reversal-clause-bare : goal.returns-in-Err-Reversal-clause-bare
returns-in-Err-Reversal-clause-bare g c = λ none.
    absurd (subst IsHalt c.in-Err-Reversal.field-0-is
    (subst (λ r. IfErr r IsHalt) c.in-Err-Reversal.is (c.take_or_halt.ensures.bare none)))

use Rattle.step_machine.proofs.Names.{true, false, refl, sym, ap, is_back}
use Rattle.std.proofs.Common.{◌≡◌, ◌||◌, ◌∙◌}
use Rattle.step_machine.proofs.Kit.{aside_stays, read}
use Rattle.step_machine.proofs.Waking.{resumed}
use Rattle.step_machine.proofs.machine.Machine.resume.Goals.{then-is_back, else-is_back}
use Rattle.step_machine.proofs.machine.Machine.resume.Goals as goal

pub returns-clause-step : goal.returns-clause-step
returns-clause-step c q cause k s h lawful g =
    let th = c.index_mut-thread.result.now in
    let wants : c.if-is_back.thread ≡ (is_back th.wait || th.wants) = elim c.if-is_back.branch [
      | then-is_back w ↦ let e : (is_back th.wait) ≡ true = sym c.is_back.ensures ∙ w.if-is_back.true in
          w.thread-is ∙ w.if-is_back.true ∙ sym (ap (λ b. b || th.wants) e)
      | else-is_back w ↦ let e : (is_back th.wait) ≡ false = sym c.is_back.ensures ∙ w.if-is_back.false in
          w.thread-is ∙ sym (ap (λ b. b || th.wants) e)
    ] in
    rw (c.from.ensures, wants)
    (resumed th h g (read h.threads g.thread c.from.ensures c.index_mut-thread.ensures.value))

pub returns-clause-progress : goal.returns-clause-progress
returns-clause-progress c =
    let m = c.requires.may in
    rw c.from.ensures
    (aside_stays _ _ _ (read m.2.threads m.4.2.thread c.from.ensures c.index_mut-thread.ensures.value) refl)

use Rattle.step_machine.proofs.Names.{true, false, sym, ap, is_reversal, with_base}
use Rattle.std.proofs.Common.{◌≡◌, ◌||◌, ◌∙◌}
use Rattle.step_machine.proofs.Ending.{read_at}
use Rattle.step_machine.proofs.Stamping.{is_noted, base_set, no_base_set}
use Rattle.step_machine.proofs.machine.Machine.edit.Goals.{then-is_reversal, else-is_reversal}
use Rattle.step_machine.proofs.machine.Machine.edit.Goals as goal

pub returns-in-Some-clause-threads : goal.returns-in-Some-clause-threads
returns-in-Some-clause-threads c =
    let ths = c.args.self.now.threads.items in
    let th = c.index_mut-thread.result.now in
    let at = read_at _ c.from.ensures c.requires.thread c.index_mut-thread.ensures.value in
    let cut : c.if-is_reversal.thread ≡ (is_reversal c.args.event || th.cut) = elim c.if-is_reversal.branch [
      | then-is_reversal w ↦
          let e : (is_reversal c.args.event) ≡ true = sym c.is_reversal.ensures ∙ w.if-is_reversal.true in
          w.thread-is ∙ w.if-is_reversal.true ∙ sym (ap (λ b. b || th.cut) e)
      | else-is_reversal w ↦
          let e : (is_reversal c.args.event) ≡ false = sym c.is_reversal.ensures ∙ w.if-is_reversal.false in
          w.thread-is ∙ sym (ap (λ b. b || th.cut) e)
    ] in
    is_noted c.args.event c.args.t.0 c.from.result ths th c.fell_asleep-thread.result c.if-is_reversal.thread
    c.set_base.new.self c.from.ensures at c.fell_asleep-thread.ensures cut
    (c.set_base.ensures ∙ ap (with_base c.in-Some.prio.0) c.deref_mut.ensures.value
    ∙ base_set c.args.event c.new_base.result c.in-Some.prio th.record.value c.new_base.ensures c.in-Some.is)

pub returns-in_default-clause-threads : goal.returns-in_default-clause-threads
returns-in_default-clause-threads c =
    let ths = c.args.self.now.threads.items in
    let th = c.index_mut-thread.result.now in
    let at = read_at _ c.from.ensures c.requires.thread c.index_mut-thread.ensures.value in
    let cut : c.if-is_reversal.thread ≡ (is_reversal c.args.event || th.cut) = elim c.if-is_reversal.branch [
      | then-is_reversal w ↦
          let e : (is_reversal c.args.event) ≡ true = sym c.is_reversal.ensures ∙ w.if-is_reversal.true in
          w.thread-is ∙ w.if-is_reversal.true ∙ sym (ap (λ b. b || th.cut) e)
      | else-is_reversal w ↦
          let e : (is_reversal c.args.event) ≡ false = sym c.is_reversal.ensures ∙ w.if-is_reversal.false in
          w.thread-is ∙ sym (ap (λ b. b || th.cut) e)
    ] in
    is_noted c.args.event c.args.t.0 c.from.result ths th c.fell_asleep-thread.result c.if-is_reversal.thread
    th.record.value c.from.ensures at c.fell_asleep-thread.ensures cut
    (no_base_set c.args.event c.new_base.result th.record.value c.new_base.ensures c.in_default.not-Some)

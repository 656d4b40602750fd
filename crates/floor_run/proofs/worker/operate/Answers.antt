use Rattle.floor_run.proofs.Names.{ℕ, suc, Some, slice_get, arith, ap, sym, subst, slice_get_within, operations_of, Op}
use Rattle.floor_run.proofs.Names.{Knowledge, Pass, IsBefore}
use Rattle.std.proofs.Common.{◌≡◌, ◌+◌, ◌∙◌}
use Rattle.floor_run.proofs.Cutting.{not_taken, slept_halted}
use Rattle.floor_run.proofs.Operating as lemma
use Rattle.floor_run.proofs.worker.operate.Goals as goal
use Rattle.floor_run.proofs.worker.operate.Goals.{in-Take+in-Ok, in-Try+in-Ok-try_take, in-EndTry, in-Release, in-Set, in-Add, in-Get, in-Base, in-Show, in-Sleep+in-Ok-sleep_on, in-WakeOne, in-WakeAll}

pub take_or_halt-requires-clause-may : goal.take_or_halt-requires-clause-may
take_or_halt-requires-clause-may g c =
    lemma.may_take _ _ c.requires.given c.requires.proper _ _ _ c.requires.before c.in-Take.l
    c.in-Take.mode (c.requires.op ∙ ap Some c.in-Take.is)

pub try_take-requires-clause-may : goal.try_take-requires-clause-may
try_take-requires-clause-may g c =
    lemma.may_try _ _ c.requires.given c.requires.proper _ _ _ c.requires.before c.in-Try.l
    c.in-Try.mode c.in-Try.past (c.requires.op ∙ ap Some c.in-Try.is)

pub release_held-requires-clause-may : goal.release_held-requires-clause-may
release_held-requires-clause-may g c =
    lemma.may_release _ _ c.requires.given c.requires.proper _ _ _ c.requires.before c.in-Release.l
    (c.requires.op ∙ ap Some c.in-Release.is)

pub edit-requires-clause-held : goal.edit-requires-clause-held
edit-requires-clause-held g c =
    (lemma.may_set _ _ c.requires.given c.requires.proper _ _ _ c.requires.before c.in-Set.l
    c.in-Set.key c.in-Set.value (c.requires.op ∙ ap Some c.in-Set.is)).0

pub edit-requires-clause-named : goal.edit-requires-clause-named
edit-requires-clause-named g c =
    (lemma.may_set _ _ c.requires.given c.requires.proper _ _ _ c.requires.before c.in-Set.l
    c.in-Set.key c.in-Set.value (c.requires.op ∙ ap Some c.in-Set.is)).1

pub edit-requires-clause-room : goal.edit-requires-clause-room
edit-requires-clause-room g c =
    lemma.room_for_one _ _ c.requires.given c.requires.proper _ _ _ c.requires.before c.args.op
    c.requires.op

pub edit-requires-in-Add-clause-held : goal.edit-requires-in-Add-clause-held
edit-requires-in-Add-clause-held g c =
    (lemma.may_add _ _ c.requires.given c.requires.proper _ _ _ c.requires.before c.in-Add.l
    c.in-Add.key c.in-Add.amount (c.requires.op ∙ ap Some c.in-Add.is)).0

pub edit-requires-in-Add-clause-named : goal.edit-requires-in-Add-clause-named
edit-requires-in-Add-clause-named g c =
    (lemma.may_add _ _ c.requires.given c.requires.proper _ _ _ c.requires.before c.in-Add.l
    c.in-Add.key c.in-Add.amount (c.requires.op ∙ ap Some c.in-Add.is)).1

pub edit-requires-in-Add-clause-room : goal.edit-requires-in-Add-clause-room
edit-requires-in-Add-clause-room g c =
    lemma.room_for_one _ _ c.requires.given c.requires.proper _ _ _ c.requires.before c.args.op
    c.requires.op

pub read-requires-clause-held : goal.read-requires-clause-held
read-requires-clause-held g c =
    (lemma.may_get _ _ c.requires.given c.requires.proper _ _ _ c.requires.before c.in-Get.l
    c.in-Get.key (c.requires.op ∙ ap Some c.in-Get.is)).0

pub read-requires-clause-named : goal.read-requires-clause-named
read-requires-clause-named g c =
    (lemma.may_get _ _ c.requires.given c.requires.proper _ _ _ c.requires.before c.in-Get.l
    c.in-Get.key (c.requires.op ∙ ap Some c.in-Get.is)).1

pub read-requires-clause-room : goal.read-requires-clause-room
read-requires-clause-room g c =
    lemma.room_for_one _ _ c.requires.given c.requires.proper _ _ _ c.requires.before c.args.op
    c.requires.op

pub set_base-requires-clause-room : goal.set_base-requires-clause-room
set_base-requires-clause-room g c =
    lemma.room_for_one _ _ c.requires.given c.requires.proper _ _ _ c.requires.before c.args.op
    c.requires.op

pub show-requires-clause-room : goal.show-requires-clause-room
show-requires-clause-room g c =
    lemma.room_for_one _ _ c.requires.given c.requires.proper _ _ _ c.requires.before c.args.op
    c.requires.op

pub sleep_on-requires-clause-ready : goal.sleep_on-requires-clause-ready
sleep_on-requires-clause-ready g c = c.requires.before.ready

pub sleep_on-requires-clause-may : goal.sleep_on-requires-clause-may
sleep_on-requires-clause-may g c =
    lemma.may_wait _ _ c.requires.given c.requires.proper _ _ _ c.requires.before c.in-Sleep.c
    (c.requires.op ∙ ap Some c.in-Sleep.is)

pub sleep_on-requires-clause-lock : goal.sleep_on-requires-clause-lock
sleep_on-requires-clause-lock g c =
    lemma.lock_there _ _ c.requires.given c.requires.proper _ _ _ c.requires.before c.in-Sleep.c
    (c.requires.op ∙ ap Some c.in-Sleep.is)

pub wake_one-requires-clause-may : goal.wake_one-requires-clause-may
wake_one-requires-clause-may g c =
    lemma.may_wake_one _ _ c.requires.given c.requires.proper _ _ _ c.requires.before c.in-WakeOne.c
    (c.requires.op ∙ ap Some c.in-WakeOne.is)

pub wake_all-requires-clause-may : goal.wake_all-requires-clause-may
wake_all-requires-clause-may g c =
    lemma.may_wake_all _ _ c.requires.given c.requires.proper _ _ _ c.requires.before c.in-WakeAll.c
    (c.requires.op ∙ ap Some c.in-WakeAll.is)

pub overflow_add-result : goal.overflow_add-result
overflow_add-result g c =
    omega (
      arith,
      lemma.few_operations c.args.plan.now c.args.pass.now.view.thread c.requires.proper,
      slice_get_within
          (operations_of c.args.plan.now c.args.pass.now.view.thread) c.args.n c.args.op c.requires.op,
    )

pub returns-clause-before : goal.returns-clause-before
returns-clause-before g c =
    let plan = c.args.plan.now in
    let f = c.args.floor.now in
    let q = c.requires.given in
    let p = c.requires.proper in
    let t = c.args.pass.now.view.thread in
    let b = c.requires.before in
    let next : suc c.args.n ≡ c.args.n + 1 = omega arith in
    let at : (x : Op) → c.args.op ≡ x → slice_get (operations_of plan t) c.args.n ≡ Some x = λ x is. c.requires.op
    ∙ ap Some is in
    let leads : (y : Pass Knowledge) → c.match-op.pass ≡ y → IsBefore plan f t (suc c.args.n) y
    → IsBefore plan f t (c.args.n + 1) c.match-op.pass =
    λ y same h. subst (λ (z : ℕ × Pass Knowledge). IsBefore plan f t z.0 z.1) (λ i. (next i, sym same i)) h in
    elim c.match-op.branch [
      | in-Take+in-Ok w ↦ leads w.take_or_halt.new.pass w.pass-is
          (lemma.took plan f q p t c.args.n c.args.pass.now b w.take_or_halt.new.pass w.in-Take.l w.in-Take.mode
          (at _ w.in-Take.is) w.take_or_halt.ensures.ready w.in-Ok.ensures.entry)
      | in-Try+in-Ok-try_take w ↦ leads w.try_take.new.pass w.pass-is
          (lemma.tried plan f q p t c.args.n c.args.pass.now b w.try_take.new.pass w.in-Try.l w.in-Try.mode
          w.in-Try.past (at _ w.in-Try.is) w.try_take.ensures.ready w.in-Ok-try_take.ensures.gained)
      | in-EndTry w ↦ leads c.args.pass.now w.pass-is
          (lemma.passed_endtry plan f q p t c.args.n c.args.pass.now b (at _ w.in-EndTry.is))
      | in-Release w ↦ leads w.release_held.new.pass w.pass-is
          (lemma.released plan f q p t c.args.n c.args.pass.now b w.release_held.new.pass w.in-Release.l
          (at _ w.in-Release.is) w.release_held.ensures.ready w.release_held.ensures.entry)
      | in-Set w ↦ leads w.edit.new.pass w.pass-is
          (lemma.set plan f q p t c.args.n c.args.pass.now b w.edit.new.pass w.in-Set.l w.in-Set.key w.in-Set.value
          (at _ w.in-Set.is) w.edit.ensures.ready w.edit.ensures.entry)
      | in-Add w ↦ leads w.edit-in-Add.new.pass w.pass-is
          (lemma.added plan f q p t c.args.n c.args.pass.now b w.edit-in-Add.new.pass w.in-Add.l w.in-Add.key
          w.in-Add.amount (at _ w.in-Add.is) w.edit-in-Add.ensures.ready w.edit-in-Add.ensures.entry)
      | in-Get w ↦ leads w.read.new.pass w.pass-is
          (lemma.got plan f q p t c.args.n c.args.pass.now b w.read.new.pass w.in-Get.l w.in-Get.key w.read.result
          (at _ w.in-Get.is) w.read.ensures.ready w.read.ensures.entry)
      | in-Base w ↦ leads w.set_base.new.pass w.pass-is
          (lemma.based plan f q p t c.args.n c.args.pass.now b w.set_base.new.pass w.in-Base.prio (at _ w.in-Base.is)
          w.set_base.ensures.ready w.set_base.ensures.entry)
      | in-Show w ↦ leads w.show.new.pass w.pass-is
          (lemma.shown plan f q p t c.args.n c.args.pass.now b w.show.new.pass w.show.result.0 w.show.result.1
          (at _ w.in-Show.is) w.show.ensures.ready w.show.ensures.entry)
      | in-Sleep+in-Ok-sleep_on w ↦ leads w.sleep_on.new.pass w.pass-is
          (lemma.slept plan f q p t c.args.n c.args.pass.now b w.sleep_on.new.pass w.in-Sleep.c (at _ w.in-Sleep.is)
          w.sleep_on.ensures.ready w.in-Ok-sleep_on.ensures.woken)
      | in-WakeOne w ↦ leads w.wake_one.new.pass w.pass-is
          (lemma.woke_one plan f q p t c.args.n c.args.pass.now b w.wake_one.new.pass w.in-WakeOne.c
          (at _ w.in-WakeOne.is) w.wake_one.ensures.ready w.wake_one.ensures.woken)
      | in-WakeAll w ↦ leads w.wake_all.new.pass w.pass-is
          (lemma.woke_all plan f q p t c.args.n c.args.pass.now b w.wake_all.new.pass w.in-WakeAll.c
          (at _ w.in-WakeAll.is) w.wake_all.ensures.ready w.wake_all.ensures.woken)
    ]

pub returns-in-Err-clause-cut : goal.returns-in-Err-clause-cut
returns-in-Err-clause-cut g c =
    not_taken _ _ c.requires.given c.requires.proper _ _ _ c.requires.before c.take_or_halt.new.pass c.in-Take.l
    c.in-Take.mode c.in-Err.field-0 (c.requires.op ∙ ap Some c.in-Take.is) c.take_or_halt.ensures.ready
    c.in-Err.ensures.refused

pub returns-in-Err-try_take-clause-before : goal.returns-in-Err-try_take-clause-before
returns-in-Err-try_take-clause-before g c =
    lemma.found_busy _ _ c.requires.given c.requires.proper _ _ _ c.requires.before
    c.try_take.new.pass c.in-Try.l c.in-Try.mode c.in-Try.past _ (c.requires.op ∙ ap Some c.in-Try.is)
    c.try_take.ensures.ready c.in-Err-try_take.ensures.busy c.in-Err-try_take.ensures.noted

pub returns-in-Err-try_take-clause-further : goal.returns-in-Err-try_take-clause-further
returns-in-Err-try_take-clause-further g c =
    lemma.further_on _ _ c.requires.given c.requires.proper _ _ _ c.requires.before c.in-Try.l
    c.in-Try.mode c.in-Try.past (c.requires.op ∙ ap Some c.in-Try.is)

pub returns-in-Err-sleep_on-clause-cut : goal.returns-in-Err-sleep_on-clause-cut
returns-in-Err-sleep_on-clause-cut g c =
    slept_halted _ _ c.requires.given c.requires.proper _ _ _ c.requires.before c.sleep_on.new.pass c.in-Sleep.c
    (c.requires.op ∙ ap Some c.in-Sleep.is) c.sleep_on.ensures.ready c.in-Err-sleep_on.ensures.halted

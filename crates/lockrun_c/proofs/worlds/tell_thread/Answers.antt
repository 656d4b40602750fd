use Rattle.std.proofs.Common.{ℕ, Some, ap, subst}
use Rattle.lockrun_c.specs.Worlds.{HasNoThread, IsSeen}
use Rattle.lockrun_c.proofs.worlds.tell_thread.Goals as goal

pub returns-in-Some-clause-told : goal.returns-in-Some-clause-told
returns-in-Some-clause-told c = λ z. (
  c.in-Some.world,
  ap Some c.in-Some.ensures.taken,
  subst (λ (t : ℕ). IsSeen t c.in-Some.world c.tell_thread_in.new.told) c.byte_of.ensures
      (c.tell_thread_in.ensures.told z),
)

pub returns-in-Some-clause-no_such : goal.returns-in-Some-clause-no_such
returns-in-Some-clause-no_such c = λ z. (
  c.in-Some.world,
  ap Some c.in-Some.ensures.taken,
  subst (λ (t : ℕ). HasNoThread t c.in-Some.world) c.byte_of.ensures (c.tell_thread_in.ensures.no_such z),
)

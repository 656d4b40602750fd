-- A thread of the machine at its begin and at its end.
use Rattle.std.specs.Prelude.{◌≡◌, ℕ, ◌≤◌, Bool, true, false, ◌&&◌, ◌||◌, nat_le, [], None, List, length, slice_get, Some}
use Rattle.std.specs.Vec.{vec_capacity}
use Rattle.lock_model.specs.Counts.{is_empty}
use Rattle.thread_records.specs.Records.{made}
use Rattle.lock_model.specs.declared.plan.QueueName.TheVariants.{Lock, Chan}
use Rattle.prio_lending.specs.declared.walk.Walk as walks
use Rattle.prio_lending.specs.declared.walk.Walk.TheVariants as walk
use Rattle.step_machine.specs.declared.thread.Thread.{Thread}
use Rattle.lock_objects.specs.Marked.{places_of}
use Rattle.lock_objects.specs.declared.wait.Wait.{Wait}
use Rattle.lock_objects.specs.declared.wait.Wait.TheVariants.{Running, Queued, Woken}
use Rattle.lock_model.specs.declared.plan.ThreadDecl.{ThreadDecl}

-- it runs, has all its objects at home, and has made no operation
pub record IsNew (t base : ℕ) (th : Thread) : Type 0 where
  pub its_record : th.record.value ≡ made t base
  pub running : th.wait ≡ Running
  pub no_walk : th.walk ≡ walk.None
  pub holds_none : th.held.items ≡ []
  pub held_room : 8 ≤ vec_capacity th.held
  pub unmarked : places_of th.marked ≡ []
  pub awake : th.waits_on ≡ None
  pub at_begin : th.next_op ≡ 0
  pub wants_none : th.wants ≡ false
  pub uncut : th.cut ≡ false

-- threads of a plan at their begin, in order
pub record AreNew (decls : List ThreadDecl) (ths : List Thread) : Type 0 where
  pub number : length ths ≡ length decls
  pub each : (t : ℕ) (th : Thread) (d : ThreadDecl) → slice_get ths t ≡ Some th
      → slice_get decls t ≡ Some d → IsNew t d.base.0 th

-- whether a wait word says Woken from a channel: the thread has the lock of its wait to gain
abbrev pub is_back : Wait → Bool
is_back Running = false
is_back Queued = false
is_back (Woken (Lock l)) = false
is_back (Woken (Chan d)) = true

abbrev pub has_no_walk : walks.Walk → Bool
has_no_walk walk.None = true
has_no_walk (walk.AtLock l) = false
has_no_walk (walk.AtThread t) = false

-- whether it has so many operations behind it or was cut, owes nothing and holds nothing
abbrev pub thread_has_ended : ℕ → Thread → Bool
thread_has_ended operations th =
    (nat_le operations th.next_op || th.cut) && has_no_walk th.walk && is_empty (places_of th.marked)
    && is_empty th.held.items

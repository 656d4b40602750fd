-- A woken thread runs again, and has the lock of its wait to gain.
use Rattle.step_machine.proofs.Names
use Names.{ℕ, Bool, slice_get, Option, Some, is_some, refl, sym, ap, with_item, Config, State, Running, Cause, BySignal}
use Names.{is_taking_back, MayResume, after_resume, wanted_after, QueueName, Lock, Chan, put_same, put_other, Machine}
use Names.{Thread, Wait, Represents, thread_in, wait_of, is_back}
use Rattle.std.proofs.Common.{◌≡◌, ◌||◌, ◌∙◌}
use Rattle.lock_state.specs.State.{Woken}
use Rattle.lock_objects.specs.declared.wait.Wait.TheVariants as wait
use Rattle.step_machine.proofs.Kit.{thread_changed, shown_by}

-- where it was woken from a channel it has the lock of its wait to gain
wants_behind : (c : Config) (w : Wait) (q : QueueName) (cause : Cause) (back : Bool) (wanted : Option ℕ)
    → wait_of w ≡ Woken q cause → (is_back w || is_some wanted) ≡ is_some (wanted_after c q cause back wanted)
wants_behind c wait.Running q cause back wanted e = absurd cc
wants_behind c wait.Queued q cause back wanted e = absurd cc
wants_behind c (wait.Woken f) q cause back wanted e =
    let from : f ≡ q = cc in
    let signal : BySignal ≡ cause = cc in
    go f ∙ (λ i. is_some (wanted_after c (from i) (signal i) back wanted))
  where
    go : (x : QueueName) → (is_back (wait.Woken x) || is_some wanted) ≡ is_some (wanted_after c x BySignal back wanted)
    go (Lock l) = refl
    go (Chan d) = refl

-- the thread with a wait word that says Running
abbrev pub running : Thread → Thread
running th = record th { wait = wait.Running; wants = is_back th.wait || th.wants }

pub resumed : {m : Machine} {c : Config} {s : State} {t : ℕ} {q : QueueName} {cause : Cause} (th : Thread)
    → Represents c m s → MayResume c s t q cause → slice_get m.threads.items t ≡ Some th
    → Represents c (record m { threads = with_item m.threads t (running th) }) (after_resume c s t q cause)
unfolding after_resume
resumed {m = m} {c = c} {s = s} {t = t} {q = q} {cause = cause} th h g at =
    let old = h.threads.thread t th at in
    shown_by (after_resume c s t q cause) h refl refl h.words h.queues h.sleepers
    (thread_changed (after_resume c s t q cause) (running th) h.threads g.thread
    (record {
      columns = λ i. record (old.columns i) {
        wait = sym (put_same s.wait t Running) i;
        wants = (ap (λ b. is_back th.wait || b) (ap (λ x. x.wants) old.columns)
            ∙ wants_behind c th.wait q cause (is_taking_back (s.log t)) (s.wanted t)
            (ap (λ x. x.wait) old.columns ∙ g.woken)
            ∙ sym (ap is_some (put_same s.wanted t (wanted_after c q cause (is_taking_back (s.log t)) (s.wanted t)))))
            i;
      };
      one_loan_each = old.one_loan_each;
      held = old.held;
      marked = old.marked;
    })
    (λ u d i. record (thread_in s u) {
      wait = put_other s.wait t Running u (λ e. d (sym e)) i;
      wants = is_some
          (put_other s.wanted t (wanted_after c q cause (is_taking_back (s.log t)) (s.wanted t)) u (λ e. d (sym e)) i);
    }))

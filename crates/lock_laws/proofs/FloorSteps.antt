-- On a running floor a thread that is Queued and about to stand on a queue has its own record out.
use Rattle.lock_laws.proofs.Names
use Names.{ℕ, Some, None, arith, sym, subst, Config, Cause, QueueName, State, Running, Queued, Woken, put, start_state}
use Names.{LawfulFloor, QueuedHasRecord, after_seek, after_look, after_gain, after_drop, after_stamp, after_ready}
use Names.{after_unready, after_enter, after_open, after_mark, after_resume, after_enter_sleep, after_open_sleep}
use Names.{after_add, after_wake, after_abort, after_claim, after_lend, after_shift, after_end_walk, RecordOf}
use Names.{after_take, after_give, after_admit, after_refuse, after_count_out, after_count_in, after_count_self_in}
use Names.{after_count_end, after_halt, Step, TakesItem, GivesItem, Readies, Unreadies, Enters, EntersSleepQueue, Adds}
use Names.{Marks, Resumes, May, after, HasOut, IsFloorStep}
use Rattle.std.proofs.Common.{◌≡◌, ◌≢◌}
use Rattle.lock_laws.proofs.Kit.{columns}
use Rattle.lock_laws.proofs.Steps.{keeps}
use Rattle.lock_laws.proofs.StateAtStart as start

module _ (s : State) (h : QueuedHasRecord s.wait s.blocked_on s.record_with) where
  ready : (t : ℕ) → s.record_with t ≡ Some t → QueuedHasRecord (put s.wait t Queued) s.blocked_on s.record_with
  unfolding QueuedHasRecord
  ready t o u = grind (arith, columns, h u, o)

  runs : (t : ℕ) → QueuedHasRecord (put s.wait t Running) s.blocked_on s.record_with
  unfolding QueuedHasRecord
  runs t u = grind (arith, columns, h u)

  stands : (t : ℕ) (q : QueueName) → QueuedHasRecord s.wait (put s.blocked_on t (Some q)) s.record_with
  unfolding QueuedHasRecord
  stands t q u = grind (arith, columns, h u)

  woken : (t : ℕ) (q : QueueName) (cause : Cause)
      → QueuedHasRecord (put s.wait t (Woken q cause)) (put s.blocked_on t None) s.record_with
  unfolding QueuedHasRecord
  woken t q cause u = grind (arith, columns, h u)

  taken : (t v : ℕ) → s.record_with v ≡ None → QueuedHasRecord s.wait s.blocked_on (put s.record_with v (Some t))
  unfolding QueuedHasRecord
  taken t v o u = grind (arith, columns, h u, o)

  given : (t v : ℕ) → s.record_with v ≡ Some t → (v ≡ t → s.wait t ≡ Queued → s.blocked_on t ≢ None)
      → QueuedHasRecord s.wait s.blocked_on (put s.record_with v None)
  unfolding QueuedHasRecord
  given t v o d u = grind (arith, columns, h u, o, d)

record_kept : (chains : ℕ) (c : Config) (s : State) (step : Step) → May c s step → HasOut chains c s step
    → QueuedHasRecord s.wait s.blocked_on s.record_with
    → QueuedHasRecord (after c s step).wait (after c s step).blocked_on (after c s step).record_with
unfolding after_seek after_look after_gain after_drop after_stamp after_ready after_unready after_enter after_open
    after_mark after_resume after_enter_sleep after_open_sleep after_add after_wake after_claim after_lend after_shift
    after_end_walk after_admit after_refuse after_count_out after_count_in after_count_self_in after_count_end
    after_halt after_abort after_take after_give
record_kept chains c s (TakesItem t (RecordOf v)) g o h = taken s h t v g.home
record_kept chains c s (GivesItem t (RecordOf v)) g o h = given s h t v g.out g.done
record_kept chains c s (Readies t q) g o h = ready s h t o.1
record_kept chains c s (Unreadies t q) g o h = runs s h t
record_kept chains c s (Enters t l mode x) g o h = stands s h t _
record_kept chains c s (EntersSleepQueue t l mode x) g o h = stands s h t _
record_kept chains c s (Adds t d x) g o h = stands s h t _
record_kept chains c s (Marks t m ms) g o h = woken s h m.thread m.queue m.cause
record_kept chains c s (Resumes t q cause) g o h = runs s h t
record_kept chains c s other g o h = h

pub begins : (c : Config) → LawfulFloor c (start_state c)
unfolding start_state QueuedHasRecord
begins c = record { lawful = start.lawful c; queued_has_record = λ t e f. absurd cc }

pub floor_keeps : (chains : ℕ) (c : Config) (s n : State) → IsFloorStep chains c s n → LawfulFloor c s → LawfulFloor c n
floor_keeps chains c s n p h =
    let there : LawfulFloor c (after c s p.0) =
    record {
      lawful = keeps c s p.0 p.1.may h.lawful;
      queued_has_record = record_kept chains c s p.0 p.1.may p.1.has_out h.queued_has_record;
    } in
    subst (LawfulFloor c) (sym p.2) there

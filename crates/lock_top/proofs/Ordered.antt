-- What a call answers of a script of an ordered plan: no run of it is stuck or reversed, and one of its threads is
-- done.
use Rattle.std.proofs.Common.{◌≡◌, ◌≢◌, ℕ, Bool, true, false, List, Option, Some, None, refl, sym, ap, subst, ◌∙◌, inl, inr}
use Rattle.std.specs.Option.{option_map_or}
use Rattle.command_line.specs.Forms.{is_run, runs_threads, words_of}
use Rattle.command_line.specs.declared.args.Command.{Command}
use Rattle.command_line.specs.declared.args.Command.TheVariants.{Check, Profile, Run, Step, Ticks}
use Rattle.command_line.specs.declared.args.LockrunArgs.{LockrunArgs}
use Rattle.complaints.specs.declared.status.Status.{Status}
use Rattle.complaints.specs.declared.status.Status.TheVariants.{Done, BadScript, ReadFault, WriteFault, NoMemory, Stuck, Reversed, TooLong, TooBig, Usage}
use Rattle.floor_run.proofs.Ordered.{ordered_done}
use Rattle.lock_model.specs.Operations.{IsProper}
use Rattle.lock_model.specs.OrderedPlans.{IsOrdered}
use Rattle.lock_model.specs.Script.{IsAccepted}
use Rattle.lock_model.specs.Text.{Ending, IsDone, IsStuck, IsReversed, IsTooLong}
use Rattle.lock_model.specs.declared.plan.Plan.{Plan}
use Rattle.lock_state.specs.Run.{scheduled_run}
use Rattle.run_laws.proofs.OrderedRuns.{ordered_not_stuck, ordered_not_reversed}
use Rattle.script_laws.proofs.Accepted.{accepted_proper}
use Rattle.tick_sleep.specs.Script as ticks
use Rattle.top_ends.specs.Calls.{Told}
use Rattle.lock_top.specs.Calls.{NeverStops, WritesAll, WritesOutput, WritesWhole}
use Rattle.lock_top.specs.Output.{IsOutput, IsOutputBy, IsOutputOfCounts, IsOutputOfLocks, IsOutputOfProfile, IsOutputOfReading, IsOutputOfSchedule, IsOutputOfThreads, IsOutputOfTickReading, IsOutputOfTicks, IsOutputWhereSaid, has_text, status_of}

-- 1. Statuses that tell of no run that was stopped

abbrev IsUnstopped : Status → Type 0
IsUnstopped status = (status ≢ Stuck) × (status ≢ Reversed)

done_unstopped : IsUnstopped Done
done_unstopped = ((λ e. absurd cc), (λ e. absurd cc))

bad_unstopped : IsUnstopped BadScript
bad_unstopped = ((λ e. absurd cc), (λ e. absurd cc))

usage_unstopped : IsUnstopped Usage
usage_unstopped = ((λ e. absurd cc), (λ e. absurd cc))

its_status : {pair made : Status × List ℕ} → pair ≡ made → pair.0 ≡ made.0
its_status e = ap (λ (p : Status × List ℕ). p.0) e

same_unstopped : {pair made : Status × List ℕ} → pair ≡ made → IsUnstopped made.0 → IsUnstopped pair.0
same_unstopped e h = subst IsUnstopped (sym (its_status e)) h

by_ending : (ending : Ending) → ending ≢ IsStuck → ending ≢ IsReversed → IsUnstopped (status_of ending)
by_ending IsDone stuck reversed = done_unstopped
by_ending IsStuck stuck reversed = absurd (stuck refl)
by_ending IsReversed stuck reversed = absurd (reversed refl)
by_ending IsTooLong stuck reversed = ((λ e. absurd cc), (λ e. absurd cc))

-- 2. By the command

module _ (bytes : List ℕ) (plan : Plan) (accepted : IsAccepted bytes plan) (i : IsOrdered plan) where
  p : IsProper plan
  p = accepted_proper bytes plan accepted

  of_plan : (of : Plan → Status × List ℕ → Type 0) (pair : Status × List ℕ) → IsOutputOfLocks of bytes pair
      → of plan pair
  unfolding IsOutputOfLocks IsAccepted
  of_plan of pair h = subst (λ r. IsOutputOfReading of r pair) accepted h

  scheduled : (chains turns : ℕ) → IsUnstopped (status_of (scheduled_run plan chains turns).ending)
  unfolding scheduled_run
  scheduled chains turns = by_ending _ (ordered_not_stuck plan turns p i) (ordered_not_reversed plan turns p i)

  threads_done : (pair : Status × List ℕ) → IsOutputOfThreads plan pair → pair.0 ≡ Done
  threads_done pair h = its_status h.same ∙ ap status_of (ordered_done plan h.outcome p i h.run)

  threads : (pair : Status × List ℕ) → IsOutputOfThreads plan pair → IsUnstopped pair.0
  threads pair h = subst IsUnstopped (sym (threads_done pair h)) done_unstopped

  by_ticks : (pair : Status × List ℕ) → IsOutputOfTicks bytes pair → IsUnstopped pair.0
  unfolding IsOutputOfTicks
  by_ticks pair h = go (ticks.reading_of bytes) h
    where
      go : (r : ticks.Reading) → IsOutputOfTickReading r pair → IsUnstopped pair.0
      go (ticks.Reads its) k = same_unstopped k done_unstopped
      go (ticks.Faulty line code) k = same_unstopped k bad_unstopped

  by_command : (command : Command) (chains turns : ℕ) (pair : Status × List ℕ)
      → IsOutputBy command chains turns bytes pair → IsUnstopped pair.0
  by_command Check chains turns pair h = same_unstopped (of_plan IsOutputOfCounts pair h) done_unstopped
  by_command Step chains turns pair h =
      same_unstopped (of_plan (IsOutputOfSchedule chains turns) pair h) (scheduled chains turns)
  by_command Run chains turns pair h = threads pair (of_plan IsOutputOfThreads pair h)
  by_command Ticks chains turns pair h = by_ticks pair h
  by_command Profile chains turns pair h =
      same_unstopped (of_plan (IsOutputOfProfile chains turns) pair h) (scheduled chains turns)

  -- 3. By the words

  unstopped : (words : List (List ℕ)) (pair : Status × List ℕ) → IsOutput words bytes pair → IsUnstopped pair.0
  unstopped words pair h = go (words_of words) h
    where
      go : (said : Option LockrunArgs) → IsOutputWhereSaid said bytes pair → IsUnstopped pair.0
      go None k = same_unstopped k usage_unstopped
      go (Some said) k = by_command said.command said.chains said.turns pair k

  run_by : (command : Command) (chains turns : ℕ) (pair : Status × List ℕ) → runs_threads command ≡ true
      → IsOutputBy command chains turns bytes pair → pair.0 ≡ Done
  run_by Check chains turns pair r h = absurd cc
  run_by Step chains turns pair r h = absurd cc
  run_by Run chains turns pair r h = threads_done pair (of_plan IsOutputOfThreads pair h)
  run_by Ticks chains turns pair r h = absurd cc
  run_by Profile chains turns pair r h = absurd cc

  run_done : (words : List (List ℕ)) (pair : Status × List ℕ) → is_run words ≡ true → IsOutput words bytes pair
      → pair.0 ≡ Done
  run_done words pair r h = go (words_of words) r h
    where
      go : (said : Option LockrunArgs) → option_map_or (λ (x : LockrunArgs). runs_threads x.command) said false ≡ true
          → IsOutputWhereSaid said bytes pair → pair.0 ≡ Done
      go None e k = absurd cc
      go (Some said) e k = run_by said.command said.chains said.turns pair e k

-- 4. What a call promises

-- a status without a text tells of no run
textless : (status : Status) → has_text status ≡ false → IsUnstopped status
textless Done e = absurd cc
textless BadScript e = absurd cc
textless ReadFault e = ((λ q. absurd cc), (λ q. absurd cc))
textless WriteFault e = ((λ q. absurd cc), (λ q. absurd cc))
textless NoMemory e = ((λ q. absurd cc), (λ q. absurd cc))
textless Stuck e = absurd cc
textless Reversed e = absurd cc
textless TooLong e = absurd cc
textless TooBig e = ((λ q. absurd cc), (λ q. absurd cc))
textless Usage e = ((λ q. absurd cc), (λ q. absurd cc))

pub never_stops : (words : List (List ℕ)) (status : Status) (source old new : Told)
    → WritesOutput words status source old new → NeverStops status source
never_stops words status None old new h = tt
never_stops words status (Some bytes) old new h = λ plan accepted i. go plan accepted i (has_text status) refl
  where
    go : (plan : Plan) → IsAccepted bytes plan → IsOrdered plan → (b : Bool) → has_text status ≡ b
        → IsUnstopped status
    go plan accepted i true e = let o = h.output e in unstopped bytes plan accepted i words (status, o.0) o.1
    go plan accepted i false e = textless status e

pub writes_all : (words : List (List ℕ)) (status : Status) (source old new : Told)
    → WritesOutput words status source old new → WritesWhole status source → WritesAll words status source
writes_all words status None old new h whole = record { text = tt; ordered = λ r. tt }
writes_all words status (Some bytes) old new h whole = record {
  text = whole;
  ordered = λ r plan few accepted i. elim (whole few) [
    | inl text ↦ let o = h.output text in inl (run_done bytes plan accepted i words (status, o.0) r o.1)
    | inr no_memory ↦ inr no_memory
  ];
}

-- What belongs to the bytes of a source, and that the states of a script's run are lawful.
use Rattle.std.proofs.Common.{◌≡◌, ℕ, List, refl, sym, ap, subst}
use Rattle.std.proofs.lemmas.List.{reverse-reverse}
use Rattle.std.specs.FinMap.{entries}
use Rattle.lock_model.specs.Operations.{IsProper}
use Rattle.lock_model.specs.History.{tables_of, value_at}
use Rattle.lock_state.specs.Facts.{Lawful}
use Rattle.lock_state.specs.Run.{scheduled_run}
use Rattle.lock_model.specs.Script.{IsAccepted, IsFaulty}
use Rattle.lock_model.specs.Text.{counts_text, fault_text}
use Rattle.lock_model.specs.declared.plan.Plan.{Plan}
use Rattle.lock_model.specs.declared.event.Entry.{Entry}
use Rattle.script_laws.proofs.Accepted.{accepted_proper}
use Rattle.lock_laws.proofs.Derived.{effective, tables}
use Rattle.order_laws.proofs.OrderFacts.Cycle.{no_cycle}
use Rattle.run_laws.proofs.LegalRuns.{outcomes_are_legal}
use Rattle.run_laws.proofs.Turning.{behind_course}
use Rattle.lock_model.specs.Plans.{config_of}
use Rattle.script_read.specs.declared.fault.ReadError.{ReadError}
use Rattle.script_read.specs.declared.fault.ReadError.TheVariants.{Memory, Script}
use Rattle.script_read.specs.Reading.{Refuses}
use Rattle.complaints.specs.declared.status.Status.{Status}
use Rattle.complaints.specs.declared.status.Status.TheVariants.{BadScript, Done}
use Rattle.tick_sleep.specs.Reading as reading
use Rattle.tick_sleep.specs.Script as ticks
use Rattle.tick_sleep.specs.Text.{tick_run}
use Rattle.tick_sleep.specs.declared.plan.TickPlan.{TickPlan}
use Rattle.lock_top.specs.Output.{IsFaultOf, IsLawfulRun, IsLawfulState, IsOutputOfCounts, IsOutputOfLocks, IsOutputOfReading, IsOutputOfTickReading, IsOutputOfTicks, TellsTables, state_behind}

-- each state of the run of a proper plan is lawful
lawful_state : (plan : Plan) (n : ℕ) → IsProper plan → IsLawfulState (config_of plan) (state_behind plan n)
lawful_state plan n proper =
    let on = behind_course plan n proper in
    record {
      lawful = on.lawful;
      ordered = on.ordered;
      no_cycle = no_cycle (config_of plan) (state_behind plan n) on.ordered;
      taken = on.taken;
      best =
          λ still free t within. effective (config_of plan) (state_behind plan n) t on.lawful.lawful still free within;
    }

-- a lawful state's tables are what its history leaves
last_tables : (plan : Plan) (chains turns : ℕ) → Lawful (config_of plan) (state_behind plan turns)
    → TellsTables (state_behind plan turns) (scheduled_run plan chains turns).tables
unfolding scheduled_run value_at
last_tables plan chains turns lawful = (
  tables_of (state_behind plan turns).history,
  refl,
  λ l k. sym (tables (config_of plan) (state_behind plan turns) l k lawful),
)

lawful_run : (plan : Plan) (chains turns : ℕ) → IsProper plan → IsLawfulRun plan chains turns
unfolding scheduled_run
lawful_run plan chains turns proper = record {
  states = λ n. lawful_state plan n proper;
  legal = outcomes_are_legal plan chains turns proper;
  tables = last_tables plan chains turns (lawful_state plan turns proper).lawful.lawful;
  replay = ap (λ (h : List Entry). entries (tables_of h)) (sym (reverse-reverse (state_behind plan turns).history));
}

pub accepted_lawful : (bytes : List ℕ) (plan : Plan) (chains turns : ℕ) → IsAccepted bytes plan
    → IsLawfulRun plan chains turns
accepted_lawful bytes plan chains turns accepted = lawful_run plan chains turns (accepted_proper bytes plan accepted)

-- What belongs to a script of locks is what belongs to its plan.
module _ (of : Plan → Status × List ℕ → Type 0) (bytes : List ℕ) where
  pub accepted_output : (plan : Plan) (pair : Status × List ℕ) → IsAccepted bytes plan → of plan pair
      → IsOutputOfLocks of bytes pair
  unfolding IsOutputOfLocks IsAccepted
  accepted_output plan pair accepted made = subst (λ r. IsOutputOfReading of r pair) (sym accepted) made

  -- and what belongs to other bytes is the line of their first fault
  pub refused_output : (e : ReadError) → Refuses bytes e → IsFaultOf (IsOutputOfLocks of bytes) e
  unfolding IsOutputOfLocks IsFaulty
  refused_output (Script fault) refused =
      subst (λ r. IsOutputOfReading of r (BadScript, fault_text fault.line fault.code)) (sym refused) refl
  refused_output (Memory e) refused = tt

pub accepted_counts : (bytes : List ℕ) (plan : Plan) (text : List ℕ) → IsAccepted bytes plan → text ≡ counts_text plan
    → IsOutputOfLocks IsOutputOfCounts bytes (Done, text)
accepted_counts bytes plan text accepted is =
    let pair : List ℕ → Status × List ℕ = λ t. (Done, t) in
    accepted_output IsOutputOfCounts bytes plan (Done, text) accepted (ap pair is)

-- The same of a script of ticks.
pub accepted_ticks : (bytes : List ℕ) (plan : TickPlan) (text : List ℕ) → ticks.IsAccepted bytes plan
    → text ≡ tick_run plan → IsOutputOfTicks bytes (Done, text)
unfolding IsOutputOfTicks ticks.IsAccepted
accepted_ticks bytes plan text accepted is =
    let pair : List ℕ → Status × List ℕ = λ t. (Done, t) in
    subst (λ r. IsOutputOfTickReading r (Done, text)) (sym accepted) (ap pair is)

pub refused_ticks : (bytes : List ℕ) (e : ReadError) → reading.Refuses bytes e
    → IsFaultOf (IsOutputOfTicks bytes) e
unfolding IsOutputOfTicks ticks.IsFaulty
refused_ticks bytes (Script fault) refused =
    subst (λ r. IsOutputOfTickReading r (BadScript, fault_text fault.line fault.code)) (sym refused) refl
refused_ticks bytes (Memory e) refused = tt

-- What is printed of a world's run is what the definition prints of it.
use Rattle.std.proofs.Common.{◌≡◌, ℕ, Bool, true, false, sym, ap, subst, Result, Ok, Err, IfOk, ◌∙◌}
use Rattle.std.specs.Prelude.{if◌then◌else◌}
use Rattle.std.specs.FinMap.{entries}
use Rattle.std.specs.Global.{Vec}
use Rattle.lock_model.specs.History.{tables_of}
use Rattle.lock_model.specs.Text.{Ending, IsStuck, IsTooLong, text_of}
use Rattle.lock_model.specs.declared.plan.Plan.{Plan}
use Rattle.lock_model.specs.declared.turn.Turn.{Turn}
use Rattle.lock_state.specs.Run.{Run, all_ended, ending_of, outcome_of, run_behind, whole_ending}
use Rattle.step_machine.specs.declared.machine.Machine.{Machine}
use Rattle.step_world.specs.Runs.{IsRunOf}
use Rattle.step_world.specs.Worlds.{World, Represents}
use Rattle.turn_calls.specs.Texts.{IsShown, as_it_stands, nobody_goes_on, outcome_with, text_of_run}
use Rattle.turn_calls.specs.declared.text.Shown.{Shown}

pub is_outcome : (w : World) (r : Run) (shown : Shown) → Represents w r → IsShown w.plan w.chains r shown
    → outcome_with shown w.machine.tables ≡ outcome_of w.plan w.chains (as_it_stands w.plan r)
is_outcome w r shown h s =
    let its_tables : entries w.machine.tables.present
    ≡ entries (tables_of r.state.history) = ap entries h.shows.shows.tables in
    λ i. record {
      history = s.history i;
      queues = s.queues i;
      finals = s.finals i;
      tables = its_tables i;
      ending = s.ending i;
    }

-- How it ended where all threads have ended, and where some haven't.
pub whole : (plan : Plan) (r : Run) (e : Ending) → all_ended plan r ≡ true → e ≡ whole_ending r.state.history
    → e ≡ ending_of plan (as_it_stands plan r)
whole plan r e i same =
    same
    ∙ sym (ap
    (λ (b : Bool). if b then whole_ending r.state.history else (if nobody_goes_on plan r then IsStuck else IsTooLong))
    i)

pub cut : (plan : Plan) (r : Run) (b : Bool) → all_ended plan r ≡ false → nobody_goes_on plan r ≡ b
    → (if b then IsStuck else IsTooLong) ≡ ending_of plan (as_it_stands plan r)
cut plan r b i j =
    ap (λ (x : Bool). if x then IsStuck else IsTooLong) (sym j)
    ∙ sym (ap
    (λ (x : Bool). if x then whole_ending r.state.history else (if nobody_goes_on plan r then IsStuck else IsTooLong))
    i)

-- A turn of a world that was lent is one of the objects that it was lent of.
pub lent_turn : {E : Type 0} (answer : Result Turn E) (old before after : World) (m : Machine) (t : ℕ) → before ≡ old
    → after.plan ≡ before.plan → m ≡ after.machine
    → IfOk answer (λ a. (r : Run) → Represents before r → Represents after (run_behind before.plan r t))
    → IfOk answer (λ a. (r : Run) → Represents old r → IsRunOf old.plan m (run_behind old.plan r t))
lent_turn (Ok a) old before after m t e i j turn = λ r h.
    let made : Represents after (run_behind before.plan r t) = turn r
    (subst (λ (w : World). Represents w r) (sym e) h) in
    let its : IsRunOf before.plan m (run_behind before.plan r t) =
    subst (λ (n : Machine). IsRunOf before.plan n (run_behind before.plan r t)) (sym j)
    (subst (λ (p : Plan). IsRunOf p after.machine (run_behind before.plan r t)) i made) in
    subst (λ (w : World). IsRunOf w.plan m (run_behind w.plan r t)) e its
lent_turn (Err x) old before after m t e i j turn = tt

-- and the text that is made with its tables is that of its run as it stands
pub lent_text : {E : Type 0} (made : Result (Vec ℕ) E) (old w : World) (plan : Plan) (m : Machine) (shown : Shown)
    → w ≡ old → plan ≡ w.plan → m ≡ w.machine
    → ((r : Run) → Represents w r → IsShown w.plan w.chains r shown)
    → IfOk made (λ text. text.items ≡ text_of plan (outcome_with shown m.tables))
    → IfOk made (λ text. (r : Run) → Represents old r → text.items ≡ text_of_run old.plan old.chains r)
lent_text (Ok text) old w plan m shown e i j told is = λ r h.
    let its : Represents w r = subst (λ (x : World). Represents x r) (sym e) h in
    is
    ∙ ap (λ (p : Plan). text_of p (outcome_with shown m.tables)) i
    ∙ ap (λ (n : Machine). text_of w.plan (outcome_with shown n.tables)) j
    ∙ ap (text_of w.plan) (is_outcome w r shown its (told r its))
    ∙ ap (λ (x : World). text_of_run x.plan x.chains r) e
lent_text (Err x) old w plan m shown e i j told is = tt

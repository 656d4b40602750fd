-- What is printed of a course is what the definition prints of it.
use Rattle.step_world.proofs.Names
use Names.{ℕ, Bool, true, false, cond, List, [], reverse, map, refl, sym, ap, subst, reverse-append, entries, tables_of}
use Names.{config_of, is_reversal, has_reversal, IsReversed, IsDone, Run, outcome_of, queue_lines, threads_of}
use Names.{whole_ending, Entry, Plan, InOrder, ending_of, outcome_seen, line_seen, Outcome, InOrder-reverse, Machine}
use Names.{finals_of, IsRunOf, World, Represents}
use Rattle.std.proofs.Common.{◌≡◌, ◌||◌, ◌∷◌, ◌++◌, ◌∙◌}
use Rattle.lock_state.specs.Run as run
use Rattle.lock_history.specs.Endings.{numbers_of}
use Rattle.step_world.proofs.Outcomes.{finals_are}

-- whether a refusal stands among entries doesn't depend on their order
reversal-push : (es : List Entry) (e : Entry) → has_reversal (es ++ e ∷ []) ≡ (is_reversal e.event || has_reversal es)
reversal-push [] e = refl
reversal-push (x ∷ xs) e = ap (λ b. is_reversal x.event || b) (reversal-push xs e)
    ∙ swap (is_reversal x.event) (is_reversal e.event)
  where
    swap : (a b : Bool) → (a || (b || has_reversal xs)) ≡ (b || (a || has_reversal xs))
    swap true true = refl
    swap true false = refl
    swap false b = refl

reversal-reverse : (es : List Entry) → has_reversal (reverse es) ≡ has_reversal es
reversal-reverse [] = refl
reversal-reverse (e ∷ es) = ap has_reversal (reverse-append (e ∷ []) es) ∙ reversal-push (reverse es) e
    ∙ ap (λ b. is_reversal e.event || b) (reversal-reverse es)

-- so one of its log says how it ended where all threads have ended
pub ended_with : (w : World) {r : Run} {b : Bool} → Represents w r → has_reversal w.machine.log.entries ≡ b
    → whole_ending r.state.history ≡ cond b IsReversed IsDone
ended_with w {r} h e = ap (λ b. cond b IsReversed IsDone)
    (sym (reversal-reverse r.state.history) ∙ ap has_reversal (sym h.shows.shows.history) ∙ e)

-- the entries of its log are in order
pub log_in_order : (plan : Plan) (m : Machine) (r : Run) → IsRunOf plan m r → InOrder m.log.entries
log_in_order plan m r h = subst InOrder (sym h.shows.shows.history)
    (InOrder-reverse r.state.history h.on_track.lawful.lawful.books.tickets_run)

-- what is printed of a run
pub printed : (w : World) (k : run.Course) (o : Outcome) → Represents w k.run → o.history ≡ w.machine.log.entries
    → map line_seen o.queues ≡ queue_lines w.chains (config_of w.plan) k.run.state
    → numbers_of o.finals ≡ finals_of w.machine → o.tables ≡ w.machine.tables
    → ending_of o.last ≡ run.ending_of w.plan k → outcome_seen o ≡ outcome_of w.plan w.chains k
printed w k o h history queues finals tables last =
    let its_history : o.history ≡ reverse k.run.state.history = history ∙ h.shows.shows.history in
    let its_finals : numbers_of o.finals ≡ map {B = ℕ × ℕ} (λ t. (k.run.state.base t, k.run.state.effective t))
    (threads_of w.plan) = finals ∙ finals_are w.plan w.machine k.run h.shows in
    let its_tables : entries o.tables.present
    ≡ entries (tables_of k.run.state.history) = ap entries (ap (λ (t : _). t.present) tables ∙ h.shows.shows.tables) in
    λ i.
    record { history = its_history i; queues = queues i; finals = its_finals i; tables = its_tables i; ending = last i }

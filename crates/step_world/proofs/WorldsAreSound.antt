-- A world shows a run on track from its begin on, and each turn of it is the run's.
use Rattle.step_world.proofs.Names.{ℕ, false, length, IsProper, config_of, Run, start_run, run_behind, has_ended, Plan}
use Rattle.step_world.proofs.Names.{Turn, begins_on_track, turned, RepresentsRun, IsRunOf, Follows, Machine}
use Rattle.std.proofs.Common.{◌≡◌, ◌<◌}

-- what a machine shows at the begin
pub at_begin : (plan : Plan) (m : Machine) → IsProper plan → RepresentsRun plan m (start_run (config_of plan))
    → IsRunOf plan m (start_run (config_of plan))
at_begin plan m p h = record { shows = h; on_track = begins_on_track plan p }

-- and behind a turn
pub behind_turn : (plan : Plan) (old new : Machine) (answer : Turn) (t : ℕ) → IsProper plan → t < length plan.threads
    → Follows plan t old new answer (λ r. Unit {0}) → (r : Run) → IsRunOf plan old r
    → IsRunOf plan new (run_behind plan r t)
behind_turn plan old new answer t p l follows r h =
    record { shows = (follows r h tt).1; on_track = turned plan r t p h.on_track l }

-- and behind one of a thread that hasn't ended
pub behind_going : (plan : Plan) (old new : Machine) (answer : Turn) (t : ℕ) → IsProper plan → t < length plan.threads
    → Follows plan t old new answer (λ r. has_ended plan r t ≡ false) → (r : Run) → IsRunOf plan old r
    → has_ended plan r t ≡ false → IsRunOf plan new (run_behind plan r t)
behind_going plan old new answer t p l follows r h runs =
    record { shows = (follows r h runs).1; on_track = turned plan r t p h.on_track l }

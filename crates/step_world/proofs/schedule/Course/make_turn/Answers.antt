use Rattle.step_world.proofs.Names.{ap, Course, turn_seen}
use Rattle.std.proofs.Common.{◌∙◌}
use Rattle.step_world.proofs.OneTurn.{course_turned, course_told, none_turned, none_told}
use Rattle.step_world.proofs.schedule.Course.make_turn.Goals as goal

pub returns-clause-course : goal.returns-clause-course
returns-clause-course c k h =
    let taken = c.in_ok-t.ensures in
    let w = c.turn-turn.ensures in
    course_turned {first = c.take_first.new.self} {behind = c.turn-turn.new.self} taken.world taken.idle taken.some
    w.coming w.idle (record { answer_is = w.answer; turn = w.turn }) c.note.ensures h

pub returns-clause-turn : goal.returns-clause-turn
returns-clause-turn c k h =
    let taken = c.in_ok-t.ensures in
    let w = c.turn-turn.ensures in
    course_told c.take_first.new.self {behind = c.turn-turn.new.self.world} taken.world taken.some
    (record { answer_is = w.answer; turn = w.turn }) h

pub returns-clause-still : goal.returns-clause-still
returns-clause-still c i = ap (λ (x : Course). x.world) c.note.ensures ∙ c.turn-turn.ensures.still i
    ∙ c.in_ok-t.ensures.world

-- or nobody came
pub returns-in_err-t-clause-course : goal.returns-in_err-t-clause-course
returns-in_err-t-clause-course c k h = let none = c.in_err-t.ensures.none in none_turned none.0 none.1 h

pub returns-in_err-t-clause-turn : goal.returns-in_err-t-clause-turn
returns-in_err-t-clause-turn c k h = ap turn_seen c.from_residual.ensures ∙ none_told c.in_err-t.ensures.none.0 h

use Rattle.step_world.proofs.Names.{Bool, false, cond, Option, Some, None, IfNone, sym, ap, subst, refl, is_none}
use Rattle.step_world.proofs.Names.{is_empty, ThreadNo, Turn, after_turn, round_of, is_over, first_turn, IsCourse}
use Rattle.std.proofs.Common.{◌≡◌, ◌++◌, ◌∙◌}
use Rattle.lock_state.specs.Run as run
use Rattle.step_world.proofs.Scheduling.{IsReady, none_comes, one_made, round_ready, still_ready}
use Rattle.step_world.proofs.schedule.Course.go_on.Goals as goal
use Rattle.step_world.proofs.schedule.Course.go_on.Goals.{After-make_turn, then-is_through, else-is_through}

-- the run isn't over
going : (c : After-make_turn) (k : run.Course) → IsCourse c.args.self.now k
    → is_over c.args.self.now.world.plan k ≡ false
going c k h = sym (c.is_over.ensures k h) ∙ c.if-is_over.false

-- and somebody comes
ready : (c : After-make_turn) (k : run.Course) → IsCourse c.args.self.now k
    → IsReady c.args.self.now.world.plan c.if-is_through.self k
ready c k h =
    let plan = c.args.self.now.world.plan in
    let through = ap is_empty h.coming ∙ sym c.is_through.ensures.through in
    elim c.if-is_through.branch [
      | then-is_through b ↦
          rw b.self-is (round_ready plan b.begin_round.new.self k (ap (λ w. w.plan) b.begin_round.ensures.world)
          (b.begin_round.ensures.course k h) (none_comes k.coming (through ∙ b.if-is_through.true)) (going c k h))
      | else-is_through b ↦ rw b.self-is (still_ready plan c.args.self.now k refl h (through ∙ b.if-is_through.false))
    ]

-- so one has a turn
made : (c : After-make_turn) (k : run.Course) → IsCourse c.args.self.now k → is_none c.make_turn.result ≡ false
made c k h = let r = ready c k h in
    one_made c.if-is_through.self.world.plan r.from.run r.from.coming c.make_turn.result r.some
    (c.make_turn.ensures.turn r.from r.is_course)

pub returns-clause-course : goal.returns-clause-course
returns-clause-course c k h =
    let r = ready c k h in
    let plan = c.args.self.now.world.plan in
    subst (λ (j : run.Course). IsCourse c.make_turn.new.self j)
    (r.makes ∙ sym (ap (λ (b : Bool). cond b k (after_turn plan k k.coming)) (going c k h)))
    (c.make_turn.ensures.course r.from r.is_course)

pub returns-clause-turn : goal.returns-clause-turn
returns-clause-turn c k h =
    let r = ready c k h in
    let plan = c.args.self.now.world.plan in
    c.make_turn.ensures.turn r.from r.is_course ∙ r.first
    ∙ sym (ap (λ (b : Bool). cond b None (first_turn plan k.run (k.coming ++ round_of plan k.run))) (going c k h))

pub returns-clause-over : goal.returns-clause-over
returns-clause-over c k h = made c k h ∙ sym (going c k h)

pub returns-clause-unchanged : goal.returns-clause-unchanged
returns-clause-unchanged c =
    let r = c.is_through.ensures.run in
    let k : run.Course = record { run = r.0; coming = c.args.self.now.coming; idle = c.args.self.now.idle } in
    go c.make_turn.result (made c k (record { shows = r.1; coming = refl; idle = refl }))
  where
    go : (o : Option (ThreadNo × Turn)) → is_none o ≡ false → IfNone o (c.make_turn.new.self ≡ c.args.self.now)
    go None e = absurd cc
    go (Some m) e = tt

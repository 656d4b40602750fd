use Rattle.step_world.proofs.Names
use Names.{length, map, List, [], Option, Some, None, IfSome, option_map, refl, sym, ap, subst, none-some, same_Some}
use Names.{config_of, Mark, ThreadNo, QueueName, marked_thread, places_of, mark_of, Run, read, Place, World, Represents}
use Names.{first_marked, first_thread}
use Rattle.std.proofs.Common.{◌≡◌, ◌<◌, ◌∷◌, ◌∙◌}
use Rattle.step_world.proofs.world.World.wakes_next.Goals as goal

firsts : (q : QueueName) (ps : List Place) → first_thread ps ≡ first_marked (map (mark_of q) ps)
firsts q [] = refl
firsts q (p ∷ ps) = refl

-- the thread is one of the plan's
within : (c : goal.After-first_of) → c.args.t.0 < length c.self.inside.plan.now.threads
within c = subst (λ (w : World). c.args.t.0 < length w.plan.threads) (sym c.self.view_is) c.requires

next : (c : goal.After-first_of) (r : Run)
    → Represents (record {
      plan = c.self.inside.plan.now;
      chains = c.self.inside.chains;
      machine = c.self.inside.machine;
    }) r
    → option_map (λ u. u.0) c.first_of.result ≡ first_marked (r.state.marked c.args.t.0)
next c r h =
    let th = c.index.result.now in
    let at = read h.shows.shows.threads (within c) c.from.ensures c.index.ensures in
    c.first_of.ensures ∙ firsts th.marked_from (places_of th.marked)
    ∙ ap (λ x. first_marked x.marked) (h.shows.shows.threads.thread c.args.t.0 th at).columns

pub returns-clause-next : goal.returns-clause-next
returns-clause-next c = rw (← c.self.view_is) (next c)

pub returns-clause-thread : goal.returns-clause-thread
returns-clause-thread c =
    let r = c.self.invariant.run in
    rw (← c.self.view_is) (go (r.0.state.marked c.args.t.0) refl c.first_of.result (next c r.0 r.1))
  where
    go : (ms : List Mark) → c.self.invariant.run.0.state.marked c.args.t.0 ≡ ms → (o : Option ThreadNo)
        → option_map (λ u. u.0) o ≡ first_marked ms → IfSome o (λ u. u.0 < length c.self.inside.plan.now.threads)
    go ms e None i = tt
    go [] e (Some u) i = absurd (none-some u.0 (sym i))
    go (m ∷ ms) e (Some u) i =
        let r = c.self.invariant.run in
        subst (λ n. n < length c.self.inside.plan.now.threads) (sym (same_Some u.0 m.thread i))
        (marked_thread (config_of c.self.inside.plan.now) r.0.state c.args.t.0 m ms r.1.on_track.lawful.lawful
        (within c) e)

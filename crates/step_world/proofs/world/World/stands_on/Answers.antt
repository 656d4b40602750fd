use Rattle.step_world.proofs.Names.{Some, None, rules, sym, subst, config_of, World, Represents}
use Rattle.std.proofs.Common.{◌≡◌, ◌∙◌}
use Rattle.step_world.proofs.Telling.{stands_nowhere, stands_there}
use Rattle.step_world.proofs.world.World.stands_on.Goals as goal

pub returns-in_err-q : goal.returns-in_err-q
returns-in_err-q c r q h =
    let none : c.from_residual.result ≡ None = search rules in
    let unnamed : r.state.blocked_on c.args.t.0 ≡ None = sym (c.blocked_on.ensures r h) ∙ c.in_err-q.was in
    rw none (stands_nowhere (config_of c.args.self.now.plan) r.state h.on_track.lawful.lawful c.args.t.0 unnamed q)

pub returns : goal.returns
returns c r q h =
    let named : r.state.blocked_on c.args.t.0 ≡ Some c.in_ok-q.q = sym (c.blocked_on.ensures r h) ∙ c.in_ok-q.was in
    let there : (v : World) → v ≡ c.args.self.now
    → Represents v r = λ v e. subst (λ (w : World). Represents w r) (sym e) h in
    let inside = there _ c.self.view_is in
    rw c.then_some.ensures
    (stands_there (config_of c.self.inside.plan.now) r.state inside.on_track.lawful.lawful c.args.t.0 c.in_ok-q.q
    c.stands.result named (c.stands.ensures r.state inside.shows.shows inside.on_track.lawful.lawful) q)

use Rattle.std.proofs.Common.{Bool, not, ◌&&◌, sym, ap, ◌∙◌}
use Rattle.turn_policy.specs.Choosing.{is_queued}
use Rattle.turn_policy.proofs.Runnable.{gathered_owing, gathered_running, not_gathered}
use Rattle.turn_policy.proofs.choosing.is_gathered.Goals as goal

pub returns-then-has_ended : goal.returns-then-has_ended
returns-then-has_ended c r h =
    not_gathered c.args.world.now.plan r c.args.t.0 c.args.owing_only
    (sym (c.has_ended.ensures r h) ∙ c.if-has_ended.true)

pub returns-then-owes : goal.returns-then-owes
returns-then-owes c r h =
    gathered_owing c.args.world.now.plan r c.args.t.0 c.args.owing_only c.requires.proper h.on_track
    (sym (c.has_ended.ensures r h) ∙ c.if-has_ended.false) (sym (c.owes.ensures r h) ∙ c.if-owes.true)

pub returns-then-not-owing_only : goal.returns-then-not-owing_only
returns-then-not-owing_only c r h =
    ap (λ (b : Bool). not b) (c.is_queued.ensures ∙ ap is_queued (c.wait.ensures r h))
    ∙ sym (ap (λ (b : Bool). not b && not (is_queued (r.state.wait c.args.t.0))) c.if-not-owing_only.true)
    ∙ gathered_running c.args.world.now.plan r c.args.t.0 c.args.owing_only c.requires.proper h.on_track
    (sym (c.has_ended.ensures r h) ∙ c.if-has_ended.false) (sym (c.owes.ensures r h) ∙ c.if-owes.false)

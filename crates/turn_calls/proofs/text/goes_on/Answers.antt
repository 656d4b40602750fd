use Rattle.std.proofs.Common.{sym, ap, inl, inr, ◌∙◌}
use Rattle.turn_calls.proofs.States.{acts, goes_by}
use Rattle.turn_calls.proofs.text.goes_on.Goals as goal

pub returns-in-Running : goal.returns-in-Running
returns-in-Running c r h =
    let by = goes_by c.args.world.now.plan r c.args.t.0 c.requires.sound.proper h.on_track c.state_of.result
    (c.state_of.ensures r h) in
    elim c.in-Running.is [ inl e ↦ ap acts (sym e) ∙ by | inr e ↦ ap acts (sym e) ∙ by ]

pub returns-in-Queued : goal.returns-in-Queued
returns-in-Queued c r h =
    ap acts (sym c.in-Queued.is)
    ∙ goes_by c.args.world.now.plan r c.args.t.0 c.requires.sound.proper h.on_track c.state_of.result
    (c.state_of.ensures r h)

pub returns-in-Idle : goal.returns-in-Idle
returns-in-Idle c r h =
    let by = goes_by c.args.world.now.plan r c.args.t.0 c.requires.sound.proper h.on_track c.state_of.result
    (c.state_of.ensures r h) in
    elim c.in-Idle.is [ inl e ↦ ap acts (sym e) ∙ by | inr e ↦ ap acts (sym e) ∙ by ]

-- What a mark says.
use Rattle.std.specs.Prelude.{Bool, false, ◌||◌}
use Rattle.lock_model.specs.declared.event.Event.{Event}
use Rattle.lock_model.specs.Events.{wakes_nobody}
use Rattle.lock_model.specs.Takes.{is_reversal}
use Rattle.chart_layout.specs.declared.layout.MarkKind.{MarkKind}
use Rattle.chart_layout.specs.declared.layout.MarkKind.TheVariants.{Noted, Did, Idle}

-- a take that was refused for its order, or a wake that found nobody asleep
abbrev pub came_to_nothing : Event → Bool
came_to_nothing event = is_reversal event || wakes_nobody event

-- whether a mark is of one
abbrev pub is_refusal : MarkKind → Bool
is_refusal (Noted event) = came_to_nothing event
is_refusal (Did kind) = false
is_refusal Idle = false

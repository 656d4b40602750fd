use Rattle.std.proofs.Common.{◌∙◌, append_assoc, refl}
use Rattle.std.proofs.lemmas.Result.{on_ok_weaker}
use Rattle.chart_trace.specs.Events.{event_value}
use Rattle.chart_trace.proofs.tracks.push_process.Goals as goal

pub returns : goal.returns
unfolding event_value
returns c = on_ok_weaker c.push_tokens.result (λ e. e ∙ simp append_assoc refl) c.push_tokens.ensures

use Rattle.step_world.proofs.Names.{ℕ, sym, ap, FinMap, get, place_cmp, value_at, TablesReplay}
use Rattle.std.proofs.Common.{◌∙◌}
use Rattle.step_world.proofs.world.World.value.Goals as goal

pub returns : goal.returns
unfolding TablesReplay value_at
returns c =
    rw (← c.self.view_is)
    (λ r h. c.get.ensures ∙ ap (λ (m : FinMap place_cmp ℕ). get m (c.args.l.0, c.args.key)) h.shows.shows.tables
    ∙ sym (h.on_track.lawful.lawful.books.tables_replay_logs c.args.l.0 c.args.key))

use Rattle.lock_floor.proofs.Names.{ap, config_in, event_of, cell_after}
use Rattle.std.proofs.Common.{◌∙◌}
use Rattle.lock_floor.proofs.Replaying as law
use Rattle.lock_floor.proofs.laws.changes_act_on_changes.Goals as goal

pub returns-clause-tables : goal.returns-clause-tables
returns-clause-tables c floor l key change old new m =
    law.tables_changed (config_in floor) m.state old.thread l key change

pub returns-clause-value : goal.returns-clause-value
returns-clause-value c floor l key change old new m =
    ap (λ f. f l.0 key) (law.tables_changed (config_in floor) m.state old.thread l key change)
    ∙ law.key_changed m.state.table l key change
    ∙ ap (cell_after (event_of l key change)) (law.replayed floor (event_of l key change) old new m l.0 key)

pub returns-clause-others : goal.returns-clause-others
returns-clause-others c floor l key change old new m k other apart =
    ap (λ f. f k other) (law.tables_changed (config_in floor) m.state old.thread l key change)
    ∙ law.others_stay m.state.table l key change k other apart

pub returns-clause-replay : goal.returns-clause-replay
returns-clause-replay c floor l key change old new m k other =
    law.replayed_behind floor (event_of l key change) old new m k other

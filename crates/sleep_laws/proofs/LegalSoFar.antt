-- The history of each lawful state keeps the law as far as that says nothing of operations.
use Rattle.sleep_laws.proofs.Names.{ℕ, Bool, true, List, [], Option, Config, HaltsOnlyWhenRunning, IsLegalSoFar, Entry}
use Rattle.sleep_laws.proofs.Names.{Lawful, State, SleepersFit}
use Rattle.std.proofs.Common.{◌∷◌}

-- as far as each lawful state keeps it
pub legal_so_far : (at_work : ℕ → Option ℕ) (c : Config) (s : State) (is_run : Bool) → Lawful c s
    → SleepersFit at_work c s → HaltsOnlyWhenRunning is_run s.history → IsLegalSoFar c is_run s.history
legal_so_far at_work c s is_run h k halts = record {
  tickets_run = h.books.tickets_run;
  sections_exclude = h.books.sections_exclude;
  edits_in_sections = h.books.edits_in_sections;
  reads_replay = h.books.reads_replay;
  wakings_name_sleepers = k.wakings_name_sleepers;
  halts_only_when_running = halts;
  shown_is_explained = h.books.shown_is_explained;
}

-- where threads run, halts may stand
pub may_halt : (es : List Entry) → HaltsOnlyWhenRunning true es
unfolding HaltsOnlyWhenRunning
may_halt [] = tt
may_halt (e ∷ es) = (λ x. absurd cc, may_halt es)

-- The law of a history, whole: a record of its parts. The parts that hold behind each entry stand first, and then those
-- that need a plan, or whole histories.
use Rattle.std.specs.Prelude.{◌≡◌, Bool, true, false, not, ◌&&◌, List}
use Rattle.lock_model.specs.BusyWords.{BusyIsExplained}
use Rattle.lock_model.specs.Config.{Config}
use Rattle.lock_model.specs.Halts.{HaltsAreHonest}
unfoldable use Rattle.lock_model.specs.History.{TicketsRun, SectionsExclude, EditsInSections, ReadsReplay, ShownIsExplained}
unfoldable use Rattle.lock_model.specs.Law.{WakingsNameSleepers, HaltsOnlyWhenRunning, EntriesFollowOperations}
use Rattle.lock_model.specs.Plans.{config_of}
use Rattle.lock_model.specs.Takes.{OrdersAreLegal}
use Rattle.lock_model.specs.declared.plan.Plan.{Plan}
use Rattle.lock_model.specs.declared.event.Entry.{Entry}

-- 1. The parts that hold behind each entry, whatever operations its threads have

pub record IsLegalSoFar (c : Config) (is_run : Bool) (history : List Entry) : Type 0 where
  pub tickets_run : TicketsRun history
  pub sections_exclude : SectionsExclude c history
  pub edits_in_sections : EditsInSections c history
  pub reads_replay : ReadsReplay history
  pub wakings_name_sleepers : WakingsNameSleepers c history
  pub halts_only_when_running : HaltsOnlyWhenRunning is_run history
  pub shown_is_explained : ShownIsExplained c history

-- 2. The law. Is_run says whether threads ran, or the run was a scheduled one; cut_short whether a scheduled run ended
-- stuck or too long. Threads that ran come to their end. Of lock orders the law speaks where each take has come to its
-- end, and of busy words where threads ran

pub record IsLegal (plan : Plan) (is_run cut_short : Bool) (history : List Entry) : Type 0 where
  pub so_far : IsLegalSoFar (config_of plan) is_run history
  pub entries_follow_operations : EntriesFollowOperations plan (not is_run && cut_short) history
  pub orders_are_legal : cut_short ≡ false → OrdersAreLegal (config_of plan) history
  pub halts_are_honest : HaltsAreHonest (config_of plan) history
  pub busies_are_explained : is_run ≡ true → BusyIsExplained (config_of plan) history

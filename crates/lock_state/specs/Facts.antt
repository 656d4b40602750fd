-- A lawful state: the facts that hold between any two steps, in groups.
pub mod Queues
pub mod Waits
pub mod Words
pub mod Loans
pub mod Books
pub mod Sleeps
pub mod Orders
pub mod Takes
pub mod Counts
pub mod Halts
use Rattle.lock_model.specs.Config.{Config}
use Rattle.lock_state.specs.State.{State}
unfoldable pub use Rattle.lock_model.specs.History.{TicketsRun, SectionsExclude, EditsInSections, ReadsReplay, ShownIsExplained}
unfoldable pub use Rattle.lock_state.specs.Facts.Queues.{OneTurnstileEach, OneSleepQueueEach, OneNodeEach, TurnstileIsLent, SleepQueueIsLent, HeadsFitWaiters, BitsShowWaiters, ListsAscend, MutexWaitersAreExclusive}
unfoldable pub use Rattle.lock_state.specs.Facts.Waits.{StandsOnce, OnlyThreadsStand, StandingIsQueued, QueuedHasRecord, QueuedStands, StandingWants, WokenWants, CalledWants, StandingIsUncalled, WokenIsUncalled, FreeWordHasCalled, FreeMutexShowsNone}
unfoldable pub use Rattle.lock_state.specs.Facts.Words.{WordsMatchHolders, OnlyThreadsHold, HeldAreListed}
pub use Rattle.lock_state.specs.Facts.Words.{WordMatchesHolders, owns, shares}
unfoldable pub use Rattle.lock_state.specs.Facts.Loans.{EffectiveIsLeast, OwnersHold, ChannelsHaveNoOwner, LoansAreLeast, LoansAreWithOwners, LoansAreOnHeads, KeptIsEffective, EffectiveIsKnown, LoansAreKnown, KeptIsKnown}
unfoldable pub use Rattle.lock_state.specs.Facts.Books.{NextIsNew, LogsAreParts, TablesReplay, BasesReplay, SectionsAreHeld, OutIsNarrow, NothingIsOut}
unfoldable pub use Rattle.lock_model.specs.Orders.{HasNoCycle}
unfoldable pub use Rattle.lock_state.specs.Facts.Orders.{WantsAreOrdered, HoldsAreOrdered, SleepersAreOrdered, WokenAreOrdered, AbortedWant, HaltsAreOrdered, TakesAreInGraph}
unfoldable pub use Rattle.lock_model.specs.Takes.{ReversalsHaveCause}
unfoldable pub use Rattle.lock_state.specs.Facts.Takes.{OnlyLocksAreHeld, EdgesAreOfTakes, TakersAreOpen, RefusalsHaveCause}
unfoldable pub use Rattle.lock_state.specs.Facts.Counts.{
  AwakeIsCounted,
  TermsFitParking,
  CountedInIsNextMarked,
  ParkedHasNoWalk,
  RestingHasNoMarks,
  ParkedHasNothingOut,
  RestingStands,
  SelfAbortedIsWoken,
  EndedRuns,
  EndedIsBare,
  EndedIsCounted,
  FinderIsAlone,
}
unfoldable pub use Rattle.lock_state.specs.Facts.Halts.{
  StandersAreOpen,
  RestingHasReleased,
  WantedIsTaken,
  SleepersTakeNothing,
  HaltedWantNothing,
  UnhaltedBefore,
  HaltedSince,
  HaltsHaveCauses,
}

-- where objects are, who stands in which order, and what a word shows of it
pub record QueueFacts (c : Config) (s : State) : Type 0 where
  pub one_turnstile_each : OneTurnstileEach c s.turnstile s.head s.free_list s.marked
  pub one_sleep_queue_each : OneSleepQueueEach c s.sleep_queue s.head s.free_list s.marked
  pub one_node_each : OneNodeEach c s.loan_home s.loan
  pub turnstile_is_lent : TurnstileIsLent c s.turnstile s.blocked_on
  pub sleep_queue_is_lent : SleepQueueIsLent c s.sleep_queue s.blocked_on
  pub heads_fit_waiters : HeadsFitWaiters s.lists s.free_list s.head s.owner
  pub bits_show_waiters : BitsShowWaiters s.word s.lists
  pub lists_ascend : ListsAscend c s.lists
  pub mutex_waiters_are_exclusive : MutexWaitersAreExclusive c s.lists

-- who stands, who wants what, and who is called for a free lock
pub record WaitFacts (c : Config) (s : State) : Type 0 where
  pub stands_once : StandsOnce c s.lists s.marked s.blocked_on
  pub only_threads_stand : OnlyThreadsStand c s.blocked_on
  pub standing_is_queued : StandingIsQueued s.blocked_on s.wait
  pub standing_wants : StandingWants s.blocked_on s.wanted
  pub woken_wants : WokenWants s.wait s.wanted
  pub called_wants : CalledWants s.called s.wanted
  pub standing_is_uncalled : StandingIsUncalled s.blocked_on s.called
  pub woken_is_uncalled : WokenIsUncalled s.wait s.called
  pub free_word_has_called : FreeWordHasCalled c s.word s.marked s.wait s.called
  pub free_mutex_shows_none : FreeMutexShowsNone c s.word

-- words and the holders that they name
pub record WordFacts (c : Config) (s : State) : Type 0 where
  pub words_match_holders : WordsMatchHolders c s.word s.held
  pub only_threads_hold : OnlyThreadsHold c s.held
  pub held_are_listed : HeldAreListed s.held s.held_locks

-- priorities: effective ones, loans and those that queues keep
pub record LoanFacts (c : Config) (s : State) : Type 0 where
  pub effective_is_least : EffectiveIsLeast c s.effective s.base s.loan
  pub owners_hold : OwnersHold c s.owner s.head s.word
  pub channels_have_no_owner : ChannelsHaveNoOwner s.owner
  pub loans_are_least : LoansAreLeast c s.owner s.walk s.loan s.lists
  pub loans_are_with_owners : LoansAreWithOwners s.loan s.owner
  pub loans_are_on_heads : LoansAreOnHeads s.loan s.head
  pub kept_is_effective : KeptIsEffective c s.walk s.effective s.lists
  pub effective_is_known : EffectiveIsKnown c s.effective s.history
  pub loans_are_known : LoansAreKnown c s.loan s.history
  pub kept_is_known : KeptIsKnown c s.lists s.history

-- logs, tables and the history
pub record BookFacts (c : Config) (s : State) : Type 0 where
  pub next_is_new : NextIsNew s.next s.history
  pub logs_are_parts : LogsAreParts s.log s.history
  pub tables_replay_logs : TablesReplay s.table s.history
  pub bases_replay : BasesReplay c s.base s.history
  pub sections_are_held : SectionsAreHeld c s.history s.held
  pub tickets_run : TicketsRun s.history
  pub sections_exclude : SectionsExclude c s.history
  pub edits_in_sections : EditsInSections c s.history
  pub reads_replay : ReadsReplay s.history
  pub shown_is_explained : ShownIsExplained c s.history

-- what is out
pub record ItemFacts (c : Config) (s : State) : Type 0 where
  pub out_is_narrow : OutIsNarrow s.turnstile_chain_with s.sleep_chain_with s.record_with
      s.cell_with s.graph_with

-- a state in which all of these hold
pub record Lawful (c : Config) (s : State) : Type 0 where
  pub queues : QueueFacts c s
  pub waits : WaitFacts c s
  pub words : WordFacts c s
  pub loans : LoanFacts c s
  pub books : BookFacts c s
  pub items : ItemFacts c s

-- A state between two steps of a running floor: lawful, and a thread that is Queued and about to stand on a queue has
-- its own record out.
pub record LawfulFloor (c : Config) (s : State) : Type 0 where
  pub lawful : Lawful c s
  pub queued_has_record : QueuedHasRecord s.wait s.blocked_on s.record_with

-- A state between two turns of a scheduled run: lawful, nothing is out, and each Queued thread stands on a queue or
-- is in a marked list.
pub record LawfulTurn (c : Config) (s : State) : Type 0 where
  pub lawful : Lawful c s
  pub nothing_out : NothingIsOut s.turnstile_chain_with s.sleep_chain_with s.record_with
      s.cell_with s.graph_with
  pub queued_stands : QueuedStands s.wait s.blocked_on

-- A state whose steps all kept to the order that was admitted: beside a lawful one.
pub record Ordered (c : Config) (s : State) : Type 0 where
  pub no_cycle : HasNoCycle s.edges
  pub wants_are_ordered : WantsAreOrdered c s.wanted s.held s.edges
  pub holds_are_ordered : HoldsAreOrdered c s.held_locks s.edges
  pub sleepers_are_ordered : SleepersAreOrdered c s.blocked_on s.held s.edges
  pub woken_are_ordered : WokenAreOrdered c s.wait s.held s.edges
  pub aborted_want : AbortedWant s.wait s.wanted
  pub halts_are_ordered : HaltsAreOrdered c s.noted s.held s.edges
  pub takes_are_in_graph : TakesAreInGraph c s.edges s.history

-- A state whose class graph is that of its takes: beside an ordered one.
pub record Taken (c : Config) (s : State) : Type 0 where
  pub only_locks_are_held : OnlyLocksAreHeld c s.held
  pub edges_are_of_takes : EdgesAreOfTakes c s.edges s.taking s.log s.held s.history
  pub takers_are_open : TakersAreOpen c s.taking s.log s.held s.history
  pub refusals_have_cause : RefusalsHaveCause c s.noted s.edges s.history
  pub reversals_have_cause : ReversalsHaveCause c s.edges s.history

-- A state of a running floor whose threads are counted: beside a lawful one.
pub record Counted (c : Config) (s : State) : Type 0 where
  pub awake_is_counted : AwakeIsCounted c s.awake s.counted_out s.counted_in
  pub terms_fit_parking : TermsFitParking c s.counted_out s.counted_in s.phase s.wait s.counting
  pub counted_in_is_next_marked : CountedInIsNextMarked s.counting s.marked s.record_with
  pub parked_has_no_walk : ParkedHasNoWalk s.phase s.walk
  pub resting_has_no_marks : RestingHasNoMarks s.phase s.marked
  pub parked_has_nothing_out : ParkedHasNothingOut s.phase s.turnstile_chain_with
      s.sleep_chain_with s.record_with s.cell_with s.graph_with
  pub resting_stands : RestingStands s.phase s.has_ended s.blocked_on s.wait
  pub self_aborted_is_woken : SelfAbortedIsWoken s.phase s.wait
  pub ended_runs : EndedRuns s.has_ended s.wait
  pub ended_is_bare : EndedIsBare s.has_ended s.held s.wanted
  pub ended_is_counted : EndedIsCounted c s.ended s.has_ended
  pub finder_is_alone : FinderIsAlone c s.phase s.wait s.counting

-- A state of a running floor whose wants fit its takes: who wants a lock takes it, and who has the halt of a take to
-- note wants none. It holds beside an ordered one.
pub record WantsFitTakes (s : State) : Type 0 where
  pub wanted_is_taken : WantedIsTaken s.wanted s.taking
  pub halted_want_nothing : HaltedWantNothing s.noted s.wanted s.blocked_on s.wait

-- A state of a running floor whose halts are explained: beside one whose threads are counted, and whose steps kept to
-- the order.
pub record Explained (c : Config) (s : State) : Type 0 where
  pub standers_are_open : StandersAreOpen c s.blocked_on s.held s.history
  pub resting_has_released : RestingHasReleased c s.phase s.blocked_on s.held
  pub wants : WantsFitTakes s
  pub sleepers_take_nothing : SleepersTakeNothing s.blocked_on s.wait s.taking
  pub unhalted_before : UnhaltedBefore c s.halted s.history
  pub halted_since : HaltedSince c s.halted s.halted_at s.next s.history
  pub halts_have_causes : HaltsHaveCauses c s.halted s.halted_at s.has_ended s.taking s.history

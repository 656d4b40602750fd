-- The state at the start of a plan is lawful.
use Rattle.lock_laws.proofs.Names
use Names.{ℕ, zero, suc, Bool, true, false, not, eqb, ltb, [], None, refl, sym, arith, inl, inr, eq-eqb, ne_eqb}
use Names.{cases_eq, cases_lt, lt-ltb, le-ltb, sum_below, one, least, is_turnstile, State, start_state, Config}
use Names.{tables_of, value_at, sections_in, Lawful, OneTurnstileEach, OneSleepQueueEach, OneNodeEach, TurnstileIsLent}
use Names.{SleepQueueIsLent, HeadsFitWaiters, BitsShowWaiters, ListsAscend, MutexWaitersAreExclusive, StandsOnce}
use Names.{OnlyThreadsStand, StandingIsQueued, StandingWants, WokenWants, CalledWants, StandingIsUncalled}
use Names.{WokenIsUncalled, FreeWordHasCalled, FreeMutexShowsNone, WordsMatchHolders, OnlyThreadsHold, HeldAreListed}
use Names.{EffectiveIsLeast, OwnersHold, ChannelsHaveNoOwner, LoansAreLeast, LoansAreWithOwners, LoansAreOnHeads}
use Names.{KeptIsEffective, EffectiveIsKnown, LoansAreKnown, KeptIsKnown, NextIsNew, LogsAreParts, TablesReplay}
use Names.{BasesReplay, SectionsAreHeld, OutIsNarrow, TicketsRun, SectionsExclude, EditsInSections, ReadsReplay}
use Names.{ShownIsExplained, only, turnstile_places, sleep_queue_places, loans_on, callers, get-empty, place_cmp}
use Rattle.std.proofs.Common.{◌≡◌, ◌+◌, ◌&&◌}
use Rattle.lock_laws.proofs.Kit.{sum_below-zero}
use Rattle.lock_laws.proofs.Shown.{base_known}

sum_below-each : (n k : ℕ) → sum_below n (λ j. one (eqb k j)) ≡ one (ltb k n)
unfolding sum_below
sum_below-each zero k = rw (le-ltb k 0 (omega arith)) refl
sum_below-each (suc n) k =
    let r = sum_below-each n k in
    elim (cases_eq k n) [
      | inl e ↦ rw (eq-eqb k n e, lt-ltb k (suc n) (omega arith))
          (let z : one (ltb k n) ≡ 0 = rw (le-ltb k n (omega arith)) refl in omega arith)
      | inr e ↦ rw (ne_eqb k n e) (elim (cases_lt k n) [
        | inl l ↦
            rw (lt-ltb k (suc n) (omega arith)) (let z : one (ltb k n) ≡ 1 = rw (lt-ltb k n l) refl in omega arith)
        | inr l ↦
            rw (le-ltb k (suc n) (omega arith)) (let z : one (ltb k n) ≡ 0 = rw (le-ltb k n l) refl in omega arith)
      ])
    ]

least-none : (n d : ℕ) → least n (λ j. None) d ≡ d
unfolding least
least-none zero d = refl
least-none (suc n) d = least-none n d

only_zero : (b : Bool) → only b 0 ≡ 0
only_zero true = refl
only_zero false = refl

module _ (c : Config) where
  abbrev s : State
  s = start_state c

  one_turnstile : OneTurnstileEach c s.turnstile s.head s.free_list s.marked
  unfolding start_state OneTurnstileEach turnstile_places
  one_turnstile n =
      let a = sum_below-each c.threads n in
      let b = sum_below-zero c.locks (λ l. only (is_turnstile (c.kind l)) 0)
      (λ l i. only_zero (is_turnstile (c.kind l))) in
      let d = sum_below-zero c.threads (λ t. 0) (λ t i. refl) in
      omega arith

  one_sleep_queue : OneSleepQueueEach c s.sleep_queue s.head s.free_list s.marked
  unfolding start_state OneSleepQueueEach sleep_queue_places
  one_sleep_queue n =
      let a = sum_below-each c.threads n in
      let b = sum_below-zero c.locks (λ l. only (not (is_turnstile (c.kind l))) 0)
      (λ l i. only_zero (not (is_turnstile (c.kind l)))) in
      let d = sum_below-zero c.threads (λ t. 0) (λ t i. refl) in
      let e = sum_below-zero c.chans (λ t. 0) (λ t i. refl) in
      omega arith

  one_node : OneNodeEach c s.loan_home s.loan
  unfolding start_state OneNodeEach loans_on
  one_node n =
      let a = sum_below-zero c.threads (λ t. sum_below c.locks (λ l. 0))
      (λ t i. sum_below-zero c.locks (λ l. 0) (λ l j. refl)) in
      home (ltb n c.threads) (sum_below c.threads (λ t. sum_below c.locks (λ l. 0))) a
    where
      home : (b : Bool) (k : ℕ) → k ≡ 0 → one (b && true) + k ≡ one b
      home true k e = omega arith
      home false k e = omega arith

  narrow : OutIsNarrow s.turnstile_chain_with s.sleep_chain_with s.record_with s.cell_with s.graph_with
  unfolding start_state OutIsNarrow
  narrow t i j e f = grind arith

  pub lawful : Lawful c s
  unfolding start_state TurnstileIsLent SleepQueueIsLent HeadsFitWaiters BitsShowWaiters ListsAscend
      MutexWaitersAreExclusive StandsOnce OnlyThreadsStand StandingIsQueued StandingWants WokenWants CalledWants
      StandingIsUncalled WokenIsUncalled FreeWordHasCalled callers FreeMutexShowsNone WordsMatchHolders OnlyThreadsHold
      HeldAreListed EffectiveIsLeast OwnersHold ChannelsHaveNoOwner LoansAreLeast LoansAreWithOwners LoansAreOnHeads
      KeptIsEffective EffectiveIsKnown LoansAreKnown KeptIsKnown NextIsNew LogsAreParts TablesReplay value_at tables_of
      BasesReplay SectionsAreHeld sections_in TicketsRun SectionsExclude EditsInSections ReadsReplay ShownIsExplained
  lawful =
      let z = sum_below-zero c.threads (λ t. 0) (λ t i. refl) in
      record {
        queues = record {
          one_turnstile_each = one_turnstile;
          one_sleep_queue_each = one_sleep_queue;
          one_node_each = one_node;
          turnstile_is_lent = λ t. refl;
          sleep_queue_is_lent = λ t. refl;
          heads_fit_waiters = λ q. record { balanced = refl; no_free = λ e. refl; no_owner = λ e. refl };
          bits_show_waiters = λ l. record { exclusive = refl; shared = refl };
          lists_ascend = λ l e. (tt, tt);
          mutex_waiters_are_exclusive = λ l e. refl;
        };
        waits = record {
          stands_once = λ t q. omega arith;
          only_threads_stand = λ t q e. absurd cc;
          standing_is_queued = λ t q e. absurd cc;
          standing_wants = λ t l e. absurd cc;
          woken_wants = λ t l e. absurd cc;
          called_wants = λ t l e. absurd cc;
          standing_is_uncalled = λ t q e. refl;
          woken_is_uncalled = λ t e. refl;
          free_word_has_called = λ l. omega arith;
          free_mutex_shows_none = λ l e. omega arith;
        };
        words = record {
          words_match_holders = λ l. record { owner = λ t. refl; sharers_are_counted = z; some_sharer = λ e. cc };
          only_threads_hold = λ t l m e. absurd cc;
          held_are_listed = λ t l. refl;
        };
        loans = record {
          effective_is_least = λ t. sym (least-none c.locks (c.declared_base t));
          owners_hold = λ l. refl;
          channels_have_no_owner = λ d. refl;
          loans_are_least = λ l o e w. absurd cc;
          loans_are_with_owners = λ t l x e. absurd cc;
          loans_are_on_heads = λ t l x e. absurd cc;
          kept_is_effective = λ l e. (tt, tt);
          effective_is_known = λ t i. base_known c [] t i;
          loans_are_known = λ t l x e. absurd cc;
          kept_is_known = λ l e. (tt, tt);
        };
        books = record {
          next_is_new = refl;
          logs_are_parts = λ t. refl;
          tables_replay_logs = λ l k. sym (get-empty place_cmp (l, k));
          bases_replay = λ t. refl;
          sections_are_held = λ t l m e. absurd cc;
          tickets_run = tt;
          sections_exclude = tt;
          edits_in_sections = tt;
          reads_replay = tt;
          shown_is_explained = tt;
        };
        items = record {
          out_is_narrow = narrow;
        };
      }

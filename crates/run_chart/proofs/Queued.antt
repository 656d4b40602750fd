-- The lists of a lock's queue, by the lines of the queues that aren't empty.
use Rattle.std.proofs.Common.{◌≡◌, ◌≢◌, ℕ, zero, suc, ◌+◌, ◌<◌, ◌≤◌, Bool, true, false, cond, ◌==◌, ◌||◌, List, [], ◌∷◌, ◌++◌, append_assoc, flat_map, length, map, Option, Some, None, refl, sym, ap, inl, inr, arith, ◌∙◌}
use Rattle.std.specs.Prelude.{unwrap_or}
use Rattle.std.specs.List.{find, list_any, range_with_len}
use Rattle.std.proofs.lemmas.Bool.{cases_eq, ne_eqb}
use Rattle.std.proofs.lemmas.List.{length-map}
use Rattle.std.proofs.lemmas.Option.{slice_get_past}
use Rattle.lock_history.specs.Outcomes.{line_seen, waiter_seen}
use Rattle.lock_history.specs.declared.outcome.QueueLine.{QueueLine}
use Rattle.lock_laws.proofs.Beyond.{beyond_none}
use Rattle.lock_laws.proofs.Kit.{is_queue_same}
use Rattle.run_laws.proofs.Turning.{behind_course}
use Rattle.lock_model.specs.Plans.{config_of}
use Rattle.lock_model.specs.Queues.{Lists, Waiter, is_queue, chan_queue, lock_queue, waiting}
use Rattle.lock_model.specs.Text as text
use Rattle.lock_model.specs.Words.{is_turnstile}
use Rattle.lock_model.specs.declared.numbers.Prio.{Prio}
use Rattle.lock_model.specs.declared.numbers.ThreadNo.{ThreadNo}
use Rattle.lock_model.specs.declared.plan.Kind.{Kind}
use Rattle.lock_model.specs.declared.plan.Kind.TheVariants.{Mtx}
use Rattle.lock_model.specs.declared.plan.Plan.{Plan}
use Rattle.lock_model.specs.declared.plan.QueueName.{QueueName}
use Rattle.lock_state.specs.Facts.{Lawful, HeadsFitWaiters}
use Rattle.lock_state.specs.Run.{line_of_queue, queue_lines}
use Rattle.lock_state.specs.State.{State}
use Rattle.run_chart.specs.Lines.{is_line_of, lists_of}
use Rattle.run_chart.specs.Runs.{IsRunOf}
use Rattle.run_chart.proofs.Told.{so_at}
use Rattle.run_tracks.specs.Rows.{run_in}
use Rattle.run_tracks.specs.Tracks.{value_in}
use Rattle.run_tracks.specs.declared.rows.Rows.{Rows}

-- 1. The first line of a queue

abbrev no_lists : Lists
no_lists = record { exclusive = []; shared = [] }

abbrev lists_in : ℕ → List text.QueueLine → Lists
lists_in l [] = no_lists
lists_in l (line ∷ lines) = cond (is_queue line.queue (lock_queue l))
    (record { exclusive = line.exclusive; shared = line.shared }) (lists_in l lines)

found_lists : (l : ℕ) (lines : List QueueLine) → lists_of (find (is_line_of l) lines) ≡ lists_in l (map line_seen lines)
found_lists l [] = refl
found_lists l (line ∷ lines) = go (is_line_of l line) (found_lists l lines)
  where
    go : (b : Bool) → lists_of (find (is_line_of l) lines) ≡ lists_in l (map line_seen lines)
        → lists_of (cond b (Some line) (find (is_line_of l) lines))
        ≡ cond b (lists_of (Some line)) (lists_in l (map line_seen lines))
    go true h = refl
    go false h = h

-- whether a thread waits, as a line of the queue tells it
pub any_seen : (t : ℕ) (ws : List (ThreadNo × Prio))
    → list_any (λ w. w.0.0 == t) ws ≡ list_any (λ w. w.thread == t) (map waiter_seen ws)
any_seen t [] = refl
any_seen t (w ∷ ws) = ap (λ b. (w.0.0 == t) || b) (any_seen t ws)

-- 2. The lines of a state

no_waiters : (q : Lists) → waiting q ≡ 0 → no_lists ≡ q
no_waiters q e = go q.exclusive q.shared e
  where
    go : (xs ys : List Waiter) → length xs + length ys ≡ 0 → no_lists ≡ record { exclusive = xs; shared = ys }
    go [] [] e = refl
    go (x ∷ xs) ys e = absurd (omega arith)
    go [] (y ∷ ys) e = absurd (omega arith)

module _ (chains : ℕ) (s : State) (fits : HeadsFitWaiters s.lists s.free_list s.head s.owner) where
  abbrev of_lock : ℕ → List text.QueueLine
  of_lock k = line_of_queue chains s (lock_queue k) k (s.head (lock_queue k))

  abbrev of_chan : ℕ → List text.QueueLine
  of_chan d = line_of_queue chains s (chan_queue d) d (s.head (chan_queue d))

  -- no line is of another queue,
  passed : (l n : ℕ) (q : QueueName) (o : Option ℕ) (rest : List text.QueueLine) → is_queue q (lock_queue l) ≡ false
      → lists_in l (line_of_queue chains s q n o ++ rest) ≡ lists_in l rest
  passed l n q None rest e = refl
  passed l n q (Some h) rest e = ap (λ b. cond b (s.lists q) (lists_in l rest)) e

  -- and that of the lock has its waiters
  met : (l n : ℕ) (rest : List text.QueueLine) → lists_in l rest ≡ no_lists
      → lists_in l (of_lock l ++ rest) ≡ s.lists (lock_queue l)
  unfolding HeadsFitWaiters
  met l n rest none = go (s.head (lock_queue l)) refl
    where
      go : (o : Option ℕ) → s.head (lock_queue l) ≡ o
          → lists_in l (line_of_queue chains s (lock_queue l) l o ++ rest) ≡ s.lists (lock_queue l)
      go (Some h) e = ap (λ b. cond b (s.lists (lock_queue l)) (lists_in l rest)) (is_queue_same (lock_queue l))
      go None e =
          let here = fits (lock_queue l) in
          let free = here.no_free e in
          let balanced = here.balanced in
          none ∙ no_waiters (s.lists (lock_queue l)) (sym balanced ∙ rw (free, e) refl)

  no_chans : (l a n : ℕ) → lists_in l (flat_map of_chan (range_with_len a n)) ≡ no_lists
  no_chans l a zero = refl
  no_chans l a (suc n) = passed l a (chan_queue a) (s.head (chan_queue a))
      (flat_map of_chan (range_with_len (a + 1) n)) refl ∙ no_chans l (a + 1) n

  -- the lines of the locks from one on, where those that are no locks have no waiters
  there : (l a n : ℕ) (rest : List text.QueueLine) → lists_in l rest ≡ no_lists
      → (a + n ≤ l → no_lists ≡ s.lists (lock_queue l))
      → (l < a → lists_in l (flat_map of_lock (range_with_len a n) ++ rest) ≡ no_lists)
      × (a ≤ l → lists_in l (flat_map of_lock (range_with_len a n) ++ rest) ≡ s.lists (lock_queue l))
  there l a zero rest none past = (λ i. none, λ i. none ∙ past (omega (arith, i)))
  there l a (suc n) rest none past =
      let behind = flat_map of_lock (range_with_len (a + 1) n) ++ rest in
      let later = there l (a + 1) n rest none (λ i. past (omega (arith, i))) in
      let split = ap (lists_in l) (append_assoc (of_lock a) (flat_map of_lock (range_with_len (a + 1) n)) rest) in
      let pass = λ (other : a ≢ l).
      split ∙ passed l a (lock_queue a) (s.head (lock_queue a)) behind (ne_eqb a l other) in (
        λ i. pass (λ e. omega (arith, e, i)) ∙ later.0 (omega (arith, i)),
        λ i. elim (cases_eq a l) [
          | inl e ↦ split ∙ ap (λ (k : ℕ). lists_in l (of_lock k ++ behind)) e
              ∙ met l a behind (later.0 (omega (arith, e)))
          | inr e ↦ pass e ∙ later.1 (omega (arith, i, e))
        ],
      )

-- 3. The waiters of a lock in a row

beyond_kind : (plan : Plan) (l : ℕ) → length plan.locks ≤ l → is_turnstile ((config_of plan).kind l) ≡ true
beyond_kind plan l i = ap (λ (o : Option Kind). is_turnstile (unwrap_or o Mtx))
    (slice_get_past (map (λ d. d.kind) plan.locks) l (omega (arith, i, length-map plan.locks (λ d. d.kind))))

pub waiters_told : (plan : Plan) (rows : Rows) → IsRunOf plan rows → (n : ℕ) → n ≤ length rows.turns → (l : ℕ)
    (lines : List QueueLine) → value_in n rows.queues ≡ Some lines
    → lists_of (find (is_line_of l) lines) ≡ (run_in plan n).state.lists (lock_queue l)
waiters_told plan rows h n within l lines e =
    found_lists l lines ∙ ap (lists_in l) is
    ∙ (there h.chains s fits l 0 (length plan.locks) chans (no_chans h.chains s fits l 0 (length plan.chans))
    (λ i. no_waiters (s.lists (lock_queue l)) (beyond_none (config_of plan) s lawful l (omega (arith, i))
    (beyond_kind plan l (omega (arith, i)))))).1 (omega arith)
  where
    s : State
    s = (run_in plan n).state

    lawful : Lawful (config_of plan) s
    lawful = (behind_course plan n h.proper).lawful.lawful

    fits : HeadsFitWaiters s.lists s.free_list s.head s.owner
    fits = lawful.queues.heads_fit_waiters

    chans : List text.QueueLine
    chans = flat_map (of_chan h.chains s fits) (range_with_len 0 (length plan.chans))

    is : map line_seen lines ≡ queue_lines h.chains (config_of plan) s
    is = so_at rows.queues (length rows.turns + 1)
        (λ m lines. map line_seen lines ≡ queue_lines h.chains (config_of plan) (run_in plan m).state)
        h.told.columns.of_queues n (omega (arith, within)) lines e

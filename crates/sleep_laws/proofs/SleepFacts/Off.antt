-- How often threads were aborted off channels: what changes it, and whom it speaks of.
use Rattle.sleep_laws.proofs.Names
use Names.{ℕ, Bool, false, eqb, not, List, [], Option, Some, None, refl, ap, arith, nat_tests, Config, one, sum_below}
use Names.{Waiter, Mark, is_queue, chan_queue, dealt, QueueName, State, Wait, Note, put, is_woken, Lawful}
use Names.{StandingIsQueued, is_signal, times_marked, is_chan, signals, aborts, is_aborted, is_chan_halt, aborted}
use Names.{SleepersFit, SleepersAreUnhalted, off, columns, is_queue_same, sum_below-put, sum_below-zero, times_named}
use Names.{marked_once, marked_nowhere_else}
use Rattle.std.proofs.Common.{◌≡◌, ◌+◌, ◌<◌, ◌≤◌, ◌&&◌, ◌∷◌}

-- 1. Marks

-- a signal's marks are no aborts
pub no_aborts-dealt : (u : ℕ) (q : QueueName) (ws : List Waiter) (xs : List ℕ) (h : Option ℕ)
    → aborts u (dealt q ws xs h) ≡ 0
no_aborts-dealt u q [] xs h = refl
no_aborts-dealt u q (w ∷ ws) [] None = refl
no_aborts-dealt u q (w ∷ ws) [] (Some h) = grind (arith, no_aborts-dealt u q ws [] None)
no_aborts-dealt u q (w ∷ ws) (x ∷ xs) h = grind (arith, no_aborts-dealt u q ws xs h)

-- a mark from a channel is a signal or an abort
pub marks_split : (u d : ℕ) (ms : List Mark) → times_marked u (chan_queue d) ms ≤ signals u ms + aborts u ms
marks_split u d [] = omega arith
marks_split u d (m ∷ ms) = go m.queue (is_signal m.cause) (marks_split u d ms)
  where
    go : (q : QueueName) (b : Bool) → times_marked u (chan_queue d) ms ≤ signals u ms + aborts u ms
        → one (is_queue (chan_queue d) q && eqb u m.thread) + times_marked u (chan_queue d) ms
        ≤ (one (is_chan q && (b && eqb u m.thread)) + signals u ms) +
        (one (is_chan q && (not b && eqb u m.thread)) + aborts u ms)
    go q b i = grind arith

-- where each mark of a thread is from one queue, its signals and aborts are at most its marks from there
wakes_at : (u : ℕ) (q : QueueName) (ms : List Mark) → ((r : QueueName) → 1 ≤ times_marked u r ms → r ≡ q)
    → signals u ms + aborts u ms ≤ times_marked u q ms
wakes_at u q [] f = omega arith
wakes_at u q (m ∷ ms) f =
    let rest = wakes_at u q ms (λ r l. f r (omega arith)) in
    grind (arith, nat_tests, f m.queue, is_queue_same m.queue)

module _ (c : Config) (s : State) (u : ℕ) (l : Lawful c s) where
  pub wakes_named : (q : QueueName) (v : ℕ) → v < c.threads → s.blocked_on u ≡ Some q
      → signals u (s.marked v) + aborts u (s.marked v) ≤ times_marked u q (s.marked v)
  wakes_named q v lt e =
      wakes_at u q (s.marked v) (λ r i. let a = times_named c s u v r l lt i in cc)

  -- a thread whose record names no queue is in no marked list
  pub aborts_nowhere : (v : ℕ) → v < c.threads → s.blocked_on u ≡ None → aborts u (s.marked v) ≡ 0
  aborts_nowhere v lt e =
      grind (arith, wakes_at u (chan_queue 0) (s.marked v) (λ r i. absurd (none r i)), none (chan_queue 0))
    where
      none : (r : QueueName) → 1 ≤ times_marked u r (s.marked v) → ⊥
      none r i = let a = times_named c s u v r l lt i in cc

-- 2. Wait words and notes

pub unwoken_unaborted : (w : Wait) → is_woken w ≡ false → is_aborted w ≡ 0
unwoken_unaborted w e = grind arith

pub unnoted_unhalted : (o : Option Note) → o ≡ None → is_chan_halt o ≡ 0
unnoted_unhalted o e = grind arith

-- 3. Changes

module _ (c : Config) (s : State) where
  -- a marked list is changed, with as many aborts in it
  pub off_marked : (t : ℕ) (ms : List Mark) → t < c.threads → ((u : ℕ) → aborts u (s.marked t) ≡ aborts u ms)
      → aborted c (put s.marked t ms) s.wait s.noted ≡ off c s
  unfolding aborted
  off_marked t ms lt same i u = here u i
    where
      here : (u : ℕ) → sum_below c.threads (λ v. aborts u (put s.marked t ms v)) + is_aborted (s.wait u) + is_chan_halt
          (s.noted u)
          ≡ sum_below c.threads (λ v. aborts u (s.marked v)) + is_aborted (s.wait u) + is_chan_halt (s.noted u)
      here u = let a = sum_below-put c.threads (aborts u) s.marked t ms lt in omega (arith, same u)

  -- a wait word is changed, which told and tells of no wake
  pub off_waits : (t : ℕ) (w : Wait) → is_woken (s.wait t) ≡ false → is_woken w ≡ false
      → aborted c s.marked (put s.wait t w) s.noted ≡ off c s
  unfolding aborted
  off_waits t w was is i u = here u i
    where
      here : (u : ℕ) → sum_below c.threads (λ v. aborts u (s.marked v)) + is_aborted (put s.wait t w u) + is_chan_halt
          (s.noted u)
          ≡ sum_below c.threads (λ v. aborts u (s.marked v)) + is_aborted (s.wait u) + is_chan_halt (s.noted u)
      here u = grind (arith, columns, unwoken_unaborted (s.wait t) was, unwoken_unaborted w is)

  -- a note is changed for one that tells as much
  pub off_noted : (t : ℕ) (o : Option Note) → is_chan_halt (s.noted t) ≡ is_chan_halt o
      → aborted c s.marked s.wait (put s.noted t o) ≡ off c s
  unfolding aborted
  off_noted t o same i u = here u i
    where
      here : (u : ℕ) → sum_below c.threads (λ v. aborts u (s.marked v)) + is_aborted (s.wait u) + is_chan_halt
          (put s.noted t o u)
          ≡ sum_below c.threads (λ v. aborts u (s.marked v)) + is_aborted (s.wait u) + is_chan_halt (s.noted u)
      here u = grind (arith, columns, same)

  -- a thread that acts was aborted where it has that to note
  pub off_acting : (t : ℕ) → Lawful c s → s.blocked_on t ≡ None → is_woken (s.wait t) ≡ false
      → off c s t ≡ is_chan_halt (s.noted t)
  unfolding aborted
  off_acting t l none unwoken =
      let a = sum_below-zero c.threads (λ v. aborts t (s.marked v)) (λ v lt. aborts_nowhere c s t l v lt none) in
      let b = unwoken_unaborted (s.wait t) unwoken in
      omega arith

-- who stands on a channel, or is in a marked list from there by a signal, wasn't aborted
module _ {at_work : ℕ → Option ℕ} {c : Config} {s : State} (l : Lawful c s) (h : SleepersFit at_work c s) (u d : ℕ)
    (e : s.blocked_on u ≡ Some (chan_queue d)) where
  pub off_listed : ((v : ℕ) → v < c.threads → aborts u (s.marked v) ≡ 0) → off c s u ≡ 0
  unfolding aborted StandingIsQueued SleepersAreUnhalted
  off_listed none =
      let a = sum_below-zero c.threads (λ v. aborts u (s.marked v)) none in
      let b = ap is_aborted (l.waits.standing_is_queued u (chan_queue d) e) in
      let n = h.sleepers_are_unhalted u d e in
      omega arith

  pub off_signalled : (t : ℕ) → t < c.threads → 1 ≤ signals u (s.marked t) → off c s u ≡ 0
  off_signalled t lt i = off_listed (λ v k.
      let b = wakes_named c s u l (chan_queue d) v k e in
      let a = wakes_named c s u l (chan_queue d) t lt e in
      grind (arith, marked_once c s u l (chan_queue d) t lt, marked_nowhere_else c s u l (chan_queue d) t v lt k))

  pub off_standing : ((v : ℕ) → v < c.threads → times_marked u (chan_queue d) (s.marked v) ≡ 0) → off c s u ≡ 0
  off_standing none = off_listed (λ v k.
      let b = wakes_named c s u l (chan_queue d) v k e in
      let z = none v k in
      omega arith)

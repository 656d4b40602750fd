-- The begin of a round, looks, and the steps on a thread's own wait word that put it on no queue, keep each fact.
use Rattle.lock_laws.proofs.Names
use Names.{ℕ, Bool, false, Some, None, refl, sym, ap, inl, inr, arith, cases_eq, State, Wait, Running, Queued, put}
use Names.{Config, is_woken, MaySeek, MayLook, MayReady, MayUnready, after_seek, after_look, after_ready, after_unready}
use Names.{Lawful, StandingIsQueued, WokenWants, WokenIsUncalled, FreeWordHasCalled, callers, calls_woken, QueueName}
use Rattle.std.proofs.Common.{◌≡◌, ◌<◌, ◌∙◌}
use Rattle.lock_laws.proofs.Kit.{columns, put_same, put_other, sum_below-put}

module _ (c : Config) (s : State) (t l : ℕ) (by_try : Bool) (g : MaySeek c s t l by_try) (h : Lawful c s) where
  pub seek_lawful : Lawful c (after_seek s t l by_try)
  unfolding after_seek
  seek_lawful = assumption h

module _ (c : Config) (s : State) (t l : ℕ) (counts : Bool) (g : MayLook c s t l counts) (h : Lawful c s) where
  pub look_lawful : Lawful c (after_look s t l counts)
  unfolding after_look
  look_lawful = assumption h

calls_none : (k : ℕ) (w : Wait) → is_woken w ≡ false → calls_woken k w ≡ 0
calls_none k w e = grind arith

-- a thread that isn't woken gets another wait word
module _ (c : Config) (s : State) (t : ℕ) (v : Wait) (thread : t < c.threads) (was : is_woken (s.wait t) ≡ false)
    (is : is_woken v ≡ false) (stands : (q : QueueName) → s.blocked_on t ≡ Some q → v ≡ Queued) (h : Lawful c s) where
  queued : StandingIsQueued s.blocked_on (put s.wait t v)
  unfolding StandingIsQueued
  queued u q e = elim (cases_eq t u) [
    | inl i ↦ rw (← i, put_same s.wait t v) (stands q (ap s.blocked_on i ∙ e))
    | inr i ↦ rw (put_other s.wait t v u i) (h.waits.standing_is_queued u q e)
  ]

  woken_wants : WokenWants (put s.wait t v) s.wanted
  unfolding WokenWants
  woken_wants u k = grind (arith, columns, h.waits.woken_wants u k)

  woken_uncalled : WokenIsUncalled (put s.wait t v) s.called
  unfolding WokenIsUncalled
  woken_uncalled u = grind (arith, columns, h.waits.woken_is_uncalled u)

  called : FreeWordHasCalled c s.word s.marked (put s.wait t v) s.called
  unfolding FreeWordHasCalled callers
  called k =
      let a = sum_below-put c.threads (calls_woken k) s.wait t v thread in
      let b = calls_none k (s.wait t) was in
      let d = calls_none k v is in
      omega (arith, h.waits.free_word_has_called k)

  waits_lawful : Lawful c (record s { wait = put s.wait t v })
  waits_lawful = assumption (queued, woken_wants, woken_uncalled, called)

pub ready_lawful : (c : Config) (s : State) (t : ℕ) → MayReady c s t → Lawful c s → Lawful c (after_ready s t)
unfolding after_ready
ready_lawful c s t g h = waits_lawful c s t Queued g.thread (ap is_woken g.running) refl (λ q e. refl) h

pub unready_lawful : (c : Config) (s : State) (t : ℕ) → MayUnready c s t → Lawful c s → Lawful c (after_unready s t)
unfolding after_unready
unready_lawful c s t g h = waits_lawful c s t Running g.thread (ap is_woken g.queued) refl
    (λ q e. absurd (let z : None ≡ Some q = sym g.unnamed ∙ e in cc)) h

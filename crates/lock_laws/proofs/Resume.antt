-- A resume keeps each fact.
use Rattle.lock_laws.proofs.Names
use Names.{ℕ, Option, Some, None, sym, ap, inl, inr, arith, cases_eq, at_option, State, Running, Woken, put, Config}
use Names.{Cause, BySignal, ByAbort, is_woken, is_taking_back, MayResume, after_resume, called_after, wanted_after}
use Names.{Lawful, StandingIsQueued, StandingWants, WokenWants, CalledWants, StandingIsUncalled, WokenIsUncalled}
use Names.{FreeWordHasCalled, callers, calls_woken, QueueName, Lock, Chan}
use Rattle.std.proofs.Common.{◌≡◌, ◌+◌, ◌≤◌, ◌∙◌}
use Rattle.lock_laws.proofs.Kit.{columns, put_same, put_other, sum_below-put}

-- a thread that its wait word calls for a lock is called by its share after the resume
called_still : (k : ℕ) (q : QueueName) (cause : Cause) (o : Option ℕ) → o ≡ None
    → calls_woken k (Woken q cause) + at_option k o ≤ at_option k (called_after q cause o)
called_still k q cause o e = grind arith

module _ (c : Config) (s : State) (t : ℕ) (q : QueueName) (cause : Cause) (g : MayResume c s t q cause)
    (h : Lawful c s) where
  abbrev n : State
  n = after_resume c s t q cause

  uncalled : s.called t ≡ None
  unfolding WokenIsUncalled
  uncalled = h.waits.woken_is_uncalled t (ap is_woken g.woken)

  pub unnamed : (r : QueueName) → s.blocked_on t ≡ Some r → ⊥
  unfolding StandingIsQueued
  unnamed r e = let z = ap is_woken (sym g.woken ∙ h.waits.standing_is_queued t r e) in cc

  standing_queued : StandingIsQueued n.blocked_on n.wait
  unfolding after_resume StandingIsQueued
  standing_queued u r e =
      elim (cases_eq t u) [
        | inl i ↦ absurd (unnamed r (ap s.blocked_on i ∙ e))
        | inr i ↦ rw (put_other s.wait t Running u i) (h.waits.standing_is_queued u r e)
      ]

  standing_wants : StandingWants n.blocked_on n.wanted
  unfolding after_resume StandingWants
  standing_wants u k e =
      elim (cases_eq t u) [
        | inl i ↦ absurd (unnamed _ (ap s.blocked_on i ∙ e))
        | inr i ↦ rw (put_other s.wanted t (wanted_after c q cause (is_taking_back (s.log t)) (s.wanted t)) u i)
            (h.waits.standing_wants u k e)
      ]

  woken_wants : WokenWants n.wait n.wanted
  unfolding after_resume WokenWants
  woken_wants u k = grind (arith, columns, h.waits.woken_wants u k)

  by_cause : (k : ℕ) (r : QueueName) (a : Cause) → s.wait t ≡ Woken r a → called_after r a (s.called t) ≡ Some k
      → wanted_after c r a (is_taking_back (s.log t)) (s.wanted t) ≡ Some k
  unfolding WokenWants
  by_cause k (Lock l) BySignal e f = h.waits.woken_wants t l.0 e ∙ f
  by_cause k (Lock l) ByAbort e f = absurd (let z : None ≡ Some k = sym uncalled ∙ f in cc)
  by_cause k (Chan d) BySignal e f = absurd (let z : None ≡ Some k = sym uncalled ∙ f in cc)
  by_cause k (Chan d) ByAbort e f = absurd (let z : None ≡ Some k = sym uncalled ∙ f in cc)

  called_wants : CalledWants n.called n.wanted
  unfolding after_resume CalledWants
  called_wants u k e =
      elim (cases_eq t u) [
        | inl i ↦ rw (← i, put_same s.wanted t (wanted_after c q cause (is_taking_back (s.log t)) (s.wanted t)))
            (by_cause k q cause g.woken (sym (put_same s.called t (called_after q cause (s.called t)))
            ∙ ap (put s.called t (called_after q cause (s.called t))) i ∙ e))
        | inr i ↦ rw (put_other s.wanted t (wanted_after c q cause (is_taking_back (s.log t)) (s.wanted t)) u i)
            (h.waits.called_wants u k (sym (put_other s.called t (called_after q cause (s.called t)) u i) ∙ e))
      ]

  standing_uncalled : StandingIsUncalled n.blocked_on n.called
  unfolding after_resume StandingIsUncalled
  standing_uncalled u r e =
      elim (cases_eq t u) [
        | inl i ↦ absurd (unnamed r (ap s.blocked_on i ∙ e))
        | inr i ↦ rw (put_other s.called t (called_after q cause (s.called t)) u i) (h.waits.standing_is_uncalled u r e)
      ]

  woken_uncalled : WokenIsUncalled n.wait n.called
  unfolding after_resume WokenIsUncalled
  woken_uncalled u = grind (arith, columns, h.waits.woken_is_uncalled u)

  called : FreeWordHasCalled c n.word n.marked n.wait n.called
  unfolding after_resume FreeWordHasCalled callers
  called k =
      let d = sum_below-put c.threads (at_option k) s.called t (called_after q cause (s.called t)) g.thread in
      let b = sum_below-put c.threads (calls_woken k) s.wait t Running g.thread in
      let e = ap (calls_woken k) g.woken in
      let f = called_still k q cause (s.called t) uncalled in
      omega (arith, h.waits.free_word_has_called k)

  pub lawful : Lawful c n
  unfolding after_resume
  lawful =
      assumption (standing_queued, standing_wants, woken_wants, called_wants, standing_uncalled, woken_uncalled, called)

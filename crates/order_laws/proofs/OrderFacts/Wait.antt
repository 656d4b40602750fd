-- Coming to stand on a queue, being woken and running again keep the facts of orders.
use Rattle.order_laws.proofs.Names
use Names.{ℕ, Bool, true, false, cond, List, Option, Some, None, refl, sym, ap, inl, inr, subst, cases_eq, ne_eqb}
use Names.{same_Some, Config, NotHeld, Holds, IsEdge, Cause, BySignal, ByAbort, Mark, lock_queue, chan_queue, State}
use Names.{HeldLock, Wait, Running, Queued, Woken, Note, OrderRefused, SleepHalted, put, IsGainedLast, is_woken}
use Names.{is_taking_back, after_ready, after_unready, MayMark, MayResume, HasReleased, wanted_after, noted_after}
use Names.{after_enter, after_mark, after_resume, after_enter_sleep, after_add, Lawful, Ordered, HeldAreListed}
use Names.{StandingWants, WantsAreOrdered, HoldsAreOrdered, SleepersAreOrdered, WokenAreOrdered, AbortedWant}
use Names.{HaltsAreOrdered, is_listed, LeadTo, OthersLeadTo, AreOrdered, ChanNo, Mode, QueueName, Lock, Chan, put_same}
use Names.{put_other, arith}
use Rattle.std.proofs.Common.{◌≡◌, ◌∷◌, ◌∙◌}
use Rattle.lock_laws.proofs.Mark as mark
use Rattle.order_laws.proofs.OrderFacts.Lists.{listed_held, each_at}

-- 1. An enter of the wanted lock

module _ (c : Config) (s : State) (t l : ℕ) (e : s.wanted t ≡ Some l) (h : Ordered c s) where
  abbrev standing : ℕ → Option QueueName
  standing = put s.blocked_on t (Some (lock_queue l))

  same_wanted : (u : ℕ) → put s.wanted t (Some l) u ≡ s.wanted u
  same_wanted u = elim (cases_eq t u) [
    | inl x ↦ rw (← x, put_same s.wanted t (Some l)) (sym e)
    | inr x ↦ put_other s.wanted t (Some l) u x
  ]

  enter_wants : WantsAreOrdered c (put s.wanted t (Some l)) s.held s.edges
  unfolding WantsAreOrdered
  enter_wants u k f = h.wants_are_ordered u k (sym (same_wanted u) ∙ f)

  enter_aborted : AbortedWant s.wait (put s.wanted t (Some l))
  unfolding AbortedWant
  enter_aborted u k f = same_wanted u ∙ h.aborted_want u k f

  enter_sleepers : SleepersAreOrdered c standing s.held s.edges
  unfolding SleepersAreOrdered
  enter_sleepers u d f = elim (cases_eq t u) [
    | inl x ↦ absurd (let z : Some (lock_queue l)
        ≡ Some (chan_queue d) = sym (put_same s.blocked_on t (Some (lock_queue l))) ∙ ap standing x ∙ f in cc)
    | inr x ↦ h.sleepers_are_ordered u d (sym (put_other s.blocked_on t (Some (lock_queue l)) u x) ∙ f)
  ]

  pub enters : (mode : Mode) (x : ℕ) → Ordered c (after_enter s t l mode x)
  unfolding after_enter
  enters mode x = assumption (h, enter_wants, enter_aborted, enter_sleepers)

  pub enters_sleep_queue : (mode : Mode) (x : ℕ) → Ordered c (after_enter_sleep s t l mode x)
  unfolding after_enter_sleep
  enters_sleep_queue mode x = assumption (h, enter_wants, enter_aborted, enter_sleepers)

-- 2. An add

chan_number : (a b : ℕ) → ◌≡◌ {A = Option QueueName} (Some (chan_queue a)) (Some (chan_queue b)) → a ≡ b
chan_number a b e = grind arith

module _ (c : Config) (s : State) (t d x : ℕ) (g : IsGainedLast s t (c.chan_lock d) false) (f : Lawful c s)
    (h : Ordered c s) where
  abbrev asleep : ℕ → Option QueueName
  asleep = put s.blocked_on t (Some (chan_queue d))

  abbrev its : HeldLock
  its = record { lock = c.chan_lock d; by_try = false }

  may_return : OthersLeadTo c s.edges (s.held t) (c.chan_lock d)
  unfolding HoldsAreOrdered HeldAreListed
  may_return k m e ne =
      let o : AreOrdered c s.edges (its ∷ g.others) = subst (AreOrdered c s.edges) g.last (h.holds_are_ordered t) in
      let i : is_listed k (its ∷ g.others) ≡ true = ap (is_listed k) (sym g.last) ∙ f.words.held_are_listed t k
      ∙ listed_held (s.held t k) m e in
      each_at c s.edges g.others (c.class (c.chan_lock d)) k (o.0 refl)
      (let z = rw (ne_eqb k (c.chan_lock d) ne) at i in z)

  add_sleepers : SleepersAreOrdered c asleep s.held s.edges
  unfolding SleepersAreOrdered
  add_sleepers u b e = elim (cases_eq t u) [
    | inl y ↦
        let z = chan_number d b (sym (put_same s.blocked_on t (Some (chan_queue d))) ∙ ap asleep y ∙ e) in
        subst (λ k. OthersLeadTo c s.edges (s.held u) (c.chan_lock k)) z
        (subst (λ v. OthersLeadTo c s.edges (s.held v) (c.chan_lock d)) y may_return)
    | inr y ↦ h.sleepers_are_ordered u b (sym (put_other s.blocked_on t (Some (chan_queue d)) u y) ∙ e)
  ]

  pub adds : Ordered c (after_add s t d x)
  unfolding after_add
  adds = assumption (h, add_sleepers)

-- 3. The own wait word

module _ (c : Config) (s : State) (t : ℕ) (w : Wait) (unwoken : is_woken w ≡ false) (h : Ordered c s) where
  not_woken : (u : ℕ) (q : QueueName) (cause : Cause) → t ≡ u → put s.wait t w u ≡ Woken q cause → ⊥
  not_woken u q cause x e =
      let z = sym unwoken ∙ ap is_woken (sym (put_same s.wait t w) ∙ ap (put s.wait t w) x ∙ e) in
      cc

  word_woken : WokenAreOrdered c (put s.wait t w) s.held s.edges
  unfolding WokenAreOrdered
  word_woken u d cause e = elim (cases_eq t u) [
    | inl x ↦ absurd (not_woken u (chan_queue d) cause x e)
    | inr x ↦ h.woken_are_ordered u d cause (sym (put_other s.wait t w u x) ∙ e)
  ]

  word_aborted : AbortedWant (put s.wait t w) s.wanted
  unfolding AbortedWant
  word_aborted u k e = elim (cases_eq t u) [
    | inl x ↦ absurd (not_woken u (lock_queue k) ByAbort x e)
    | inr x ↦ h.aborted_want u k (sym (put_other s.wait t w u x) ∙ e)
  ]

pub readies : (c : Config) (s : State) (t : ℕ) → Ordered c s → Ordered c (after_ready s t)
unfolding after_ready
readies c s t h = assumption (h, word_woken c s t Queued refl h, word_aborted c s t Queued refl h)

pub unreadies : (c : Config) (s : State) (t : ℕ) → Ordered c s → Ordered c (after_unready s t)
unfolding after_unready
unreadies c s t h = assumption (h, word_woken c s t Running refl h, word_aborted c s t Running refl h)

-- 4. A mark

queue_of : QueueName → Wait → QueueName
queue_of q Running = q
queue_of q Queued = q
queue_of q (Woken r cause) = r

module _ (c : Config) (s : State) (t : ℕ) (m : Mark) (ms : List Mark) (g : MayMark c s t m ms) (f : Lawful c s)
    (h : Ordered c s) where
  abbrev called : ℕ
  called = m.thread

  abbrev woken : ℕ → Wait
  woken = put s.wait called (Woken m.queue m.cause)

  abbrev nowhere : ℕ → Option QueueName
  nowhere = put s.blocked_on called None

  its_queue : (u : ℕ) (q : QueueName) (cause : Cause) → called ≡ u → woken u ≡ Woken q cause → s.blocked_on u ≡ Some q
  unfolding queue_of
  its_queue u q cause x e =
      let z : m.queue ≡ q = ap (queue_of q) (sym (put_same s.wait called (Woken m.queue m.cause)) ∙ ap woken x ∙ e) in
      ap s.blocked_on (sym x) ∙ mark.blocked_on c s t m ms g f ∙ ap Some z

  mark_sleepers : SleepersAreOrdered c nowhere s.held s.edges
  unfolding SleepersAreOrdered
  mark_sleepers u d e = elim (cases_eq called u) [
    | inl x ↦
        absurd (let z : None ≡ Some (chan_queue d) = sym (put_same s.blocked_on called None) ∙ ap nowhere x ∙ e in cc)
    | inr x ↦ h.sleepers_are_ordered u d (sym (put_other s.blocked_on called None u x) ∙ e)
  ]

  mark_woken : WokenAreOrdered c woken s.held s.edges
  unfolding WokenAreOrdered SleepersAreOrdered
  mark_woken u d cause e = elim (cases_eq called u) [
    | inl x ↦ h.sleepers_are_ordered u d (its_queue u (chan_queue d) cause x e)
    | inr x ↦ h.woken_are_ordered u d cause (sym (put_other s.wait called (Woken m.queue m.cause) u x) ∙ e)
  ]

  mark_aborted : AbortedWant woken s.wanted
  unfolding AbortedWant StandingWants
  mark_aborted u k e = elim (cases_eq called u) [
    | inl x ↦ f.waits.standing_wants u k (its_queue u (lock_queue k) ByAbort x e)
    | inr x ↦ h.aborted_want u k (sym (put_other s.wait called (Woken m.queue m.cause) u x) ∙ e)
  ]

  pub marks : Ordered c (after_mark c s t m ms)
  unfolding after_mark
  marks = assumption (h, mark_sleepers, mark_woken, mark_aborted)

-- 5. A resume

halt_number : ℕ → Option Note → ℕ
halt_number k None = k
halt_number k (Some (OrderRefused a b)) = k
halt_number k (Some (SleepHalted (Lock l))) = l.0
halt_number k (Some (SleepHalted (Chan d))) = k

module _ (c : Config) (s : State) (t : ℕ) (q : QueueName) (cause : Cause) (g : MayResume c s t q cause)
    (h : Ordered c s) where
  abbrev back : Bool
  back = is_taking_back (s.log t)

  abbrev wants_now : Option ℕ
  wants_now = wanted_after c q cause back (s.wanted t)

  abbrev notes_now : Option Note
  notes_now = noted_after q cause back (s.noted t)

  kept_or_none : (b : Bool) (k : ℕ) (o : Option ℕ) → cond b o None ≡ Some k → o ≡ Some k
  kept_or_none true k o e = e
  kept_or_none false k o e = absurd cc

  from_channel : (d : ChanNo) (cause : Cause) → s.wait t ≡ Woken (Chan d) cause → HasReleased c s t (Chan d) → (k : ℕ)
      → Some (c.chan_lock d.0) ≡ Some k → LeadTo c s.edges (s.held t) k
  unfolding WokenAreOrdered
  from_channel d cause w r k e = λ j m f.
      subst (λ x. IsEdge s.edges (c.class j) (c.class x)) (same_Some (c.chan_lock d.0) k e)
      (h.woken_are_ordered t d.0 cause w j m f
      (λ x. let z : NotHeld ≡ Holds m = sym r ∙ ap (s.held t) (sym x) ∙ f in cc))

  by_queue : (q : QueueName) (cause : Cause) → s.wait t ≡ Woken q cause → HasReleased c s t q → (k : ℕ)
      → wanted_after c q cause back (s.wanted t) ≡ Some k → LeadTo c s.edges (s.held t) k
  unfolding WantsAreOrdered
  by_queue (Lock l) BySignal w r k e = h.wants_are_ordered t k e
  by_queue (Lock l) ByAbort w r k e = h.wants_are_ordered t k (kept_or_none back k (s.wanted t) e)
  by_queue (Chan d) BySignal w r k e = from_channel d BySignal w r k e
  by_queue (Chan d) ByAbort w r k e = from_channel d ByAbort w r k e

  resume_wants : WantsAreOrdered c (put s.wanted t wants_now) s.held s.edges
  unfolding WantsAreOrdered
  resume_wants u k e = elim (cases_eq t u) [
    | inl x ↦ subst (λ v. LeadTo c s.edges (s.held v) k) x (by_queue q cause g.woken g.released k
        (sym (put_same s.wanted t wants_now) ∙ ap (put s.wanted t wants_now) x ∙ e))
    | inr x ↦ h.wants_are_ordered u k (sym (put_other s.wanted t wants_now u x) ∙ e)
  ]

  resume_aborted : AbortedWant (put s.wait t Running) (put s.wanted t wants_now)
  unfolding AbortedWant
  resume_aborted u k e = elim (cases_eq t u) [
    | inl x ↦ absurd (not_woken c s t Running refl h u (lock_queue k) ByAbort x e)
    | inr x ↦ put_other s.wanted t wants_now u x ∙ h.aborted_want u k (sym (put_other s.wait t Running u x) ∙ e)
  ]

  by_note : (q : QueueName) (cause : Cause) → s.wait t ≡ Woken q cause → (k : ℕ)
      → noted_after q cause back (s.noted t) ≡ Some (SleepHalted (lock_queue k)) → LeadTo c s.edges (s.held t) k
  unfolding HaltsAreOrdered AbortedWant WantsAreOrdered halt_number
  by_note q cause w k e = grind arith

  resume_halts : HaltsAreOrdered c (put s.noted t notes_now) s.held s.edges
  unfolding HaltsAreOrdered
  resume_halts u k e = elim (cases_eq t u) [
    | inl x ↦ subst (λ v. LeadTo c s.edges (s.held v) k) x
        (by_note q cause g.woken k (sym (put_same s.noted t notes_now) ∙ ap (put s.noted t notes_now) x ∙ e))
    | inr x ↦ h.halts_are_ordered u k (sym (put_other s.noted t notes_now u x) ∙ e)
  ]

  pub resumes : Ordered c (after_resume c s t q cause)
  unfolding after_resume
  resumes = assumption (h, word_woken c s t Running refl h, resume_wants, resume_aborted, resume_halts)

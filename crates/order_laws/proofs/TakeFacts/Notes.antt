-- The begin of a round, a resume and an entry that keep to the order keep the facts of takes.
use Rattle.order_laws.proofs.Names
use Names.{ℕ, Bool, true, false, not, eqb, List, [], Option, Some, None, refl, sym, ap, inl, inr, subst, cases_eq}
use Names.{Config, any_below, Holds, is_unheld, open_in, IsEdge, taken_by, take_edges, has_open, ReversalHasCause}
use Names.{Cause, State, Note, OrderRefused, put, EndsTake, IsBackFrom, IsTakenInOrder, MayStamp, is_taking_back}
use Names.{taking_from, taking_after, entry_of, after_seek, after_stamp, taking_by, noted_after, after_resume, Lawful}
use Names.{Taken, HeldAreListed, EdgesAreOfTakes, TakersAreOpen, RefusalsHaveCause, ReversalsHaveCause, QueueName}
use Names.{Event, Entry, is_listed, Mode, put_same, put_other, other_sections, arith}
use Rattle.std.proofs.Common.{◌≡◌, ◌⊎◌, ◌&&◌, ◌∷◌, ◌∙◌}
use Rattle.order_laws.proofs.OrderFacts.Lists.{listed_held}
use Rattle.order_laws.proofs.TakeFacts.Tests.{InProgress, take_stays, take_gives}
use Rattle.order_laws.proofs.TakeFacts.Holds.{carried}

-- 1. The begin of a round. In order a blocking call seeks the lock that it wants, and so takes already; or its thread
-- holds nothing, so that its take gives no edge

sought_before : (by_try : Bool) (wanted : Option ℕ) (l : ℕ) (taking : Option ℕ) → (by_try ≡ true) ⊎ (wanted ≡ Some l)
    → taking_from by_try wanted l taking ≡ taking
sought_before true wanted l taking k = refl
sought_before false None l taking (inl e) = absurd cc
sought_before false None l taking (inr e) = absurd cc
sought_before false (Some j) l taking k = refl

module _ (c : Config) (s : State) (t l : ℕ) (by_try : Bool) (k : IsTakenInOrder s t l by_try) (f : Lawful c s)
    (h : Taken c s) where
  abbrev sought : ℕ → Option ℕ
  sought = put s.taking t (taking_from by_try (s.wanted t) l (s.taking t))

  abbrev HoldsNothing : ℕ → Type 0
  HoldsNothing u = (j : ℕ) (mode : Mode) → s.held u j ≡ Holds mode → ⊥

  no_hold : s.held_locks t ≡ [] → HoldsNothing t
  unfolding HeldAreListed
  no_hold none j mode e =
      let z : false ≡ true = ap (is_listed j) (sym none) ∙ f.words.held_are_listed t j
      ∙ listed_held (s.held t j) mode e in
      cc

  -- each thread takes what it took, or holds nothing
  takes_or_free : (u : ℕ) → (s.taking u ≡ sought u) ⊎ HoldsNothing u
  takes_or_free u = elim (cases_eq t u) [
    | inl x ↦ subst (λ j. (s.taking j ≡ sought j) ⊎ HoldsNothing j) x (own by_try refl)
    | inr x ↦ inl (sym (put_other s.taking t _ u x))
  ]
    where
      as_before : (by_try ≡ true) ⊎ (s.wanted t ≡ Some l) → s.taking t ≡ sought t
      as_before w = sym (put_same s.taking t _ ∙ sought_before by_try (s.wanted t) l (s.taking t) w)

      own : (b : Bool) → by_try ≡ b → (s.taking t ≡ sought t) ⊎ HoldsNothing t
      own true e = inl (as_before (inl e))
      own false e = elim (k e) [ inl w ↦ inl (as_before (inr w)) | inr free ↦ inr (no_hold free.bare) ]

  seek_edges : EdgesAreOfTakes c s.edges sought s.log s.held s.history
  seek_edges = carried c s.edges s.taking sought s.log s.log s.held s.held s.history s.history
      (λ a b p. elim (takes_or_free p.thread) [
        | inl e ↦ inr (record {
          thread = p.thread;
          its = p.its;
          lock = p.lock;
          other = p.other;
          below = p.below;
          mode = p.mode;
          takes = sym e ∙ p.takes;
          not_back = p.not_back;
          holds = p.holds;
          apart = p.apart;
          from = p.from;
          to = p.to;
        })
        | inr none ↦ absurd (none p.other p.mode p.holds)
      ])
      (λ a b x. x) h.edges_are_of_takes

  seek_open : TakersAreOpen c sought s.log s.held s.history
  unfolding TakersAreOpen
  seek_open u j takes back i mode held ne = elim (takes_or_free u) [
    | inl e ↦ h.takers_are_open u j (e ∙ takes) back i mode held ne
    | inr none ↦ absurd (none i mode held)
  ]

  pub seeks : Taken c (after_seek s t l by_try)
  unfolding after_seek
  seeks = assumption (h, seek_edges, seek_open)

-- 2. A resume

back_takes : (c : Config) (s : State) (t : ℕ) (q : QueueName) → IsBackFrom s t q → is_taking_back (s.log t) ≡ false
    → taking_by c q (s.taking t) ≡ s.taking t
back_takes c s t q k b = grind arith

refused_before : (q : QueueName) (cause : Cause) (back : Bool) (o : Option Note) (l k : ℕ)
    → noted_after q cause back o ≡ Some (OrderRefused l k) → o ≡ Some (OrderRefused l k)
refused_before q cause back o l k e = grind arith

module _ (c : Config) (s : State) (t : ℕ) (q : QueueName) (cause : Cause) (k : IsBackFrom s t q) (h : Taken c s) where
  abbrev resumed : ℕ → Option ℕ
  resumed = put s.taking t (taking_by c q (s.taking t))

  -- who doesn't take a lock back takes what it took
  same_taking : (u : ℕ) → is_taking_back (s.log u) ≡ false → resumed u ≡ s.taking u
  same_taking u b = elim (cases_eq t u) [
    | inl x ↦ ap resumed (sym x) ∙ put_same s.taking t (taking_by c q (s.taking t))
        ∙ back_takes c s t q k (ap (λ v. is_taking_back (s.log v)) x ∙ b) ∙ ap s.taking x
    | inr x ↦ put_other s.taking t (taking_by c q (s.taking t)) u x
  ]

  resume_edges : EdgesAreOfTakes c s.edges resumed s.log s.held s.history
  resume_edges = carried c s.edges s.taking resumed s.log s.log s.held s.held s.history s.history
      (λ a b p. inr (record {
        thread = p.thread;
        its = p.its;
        lock = p.lock;
        other = p.other;
        below = p.below;
        mode = p.mode;
        takes = same_taking p.thread p.not_back ∙ p.takes;
        not_back = p.not_back;
        holds = p.holds;
        apart = p.apart;
        from = p.from;
        to = p.to;
      }))
      (λ a b i. i) h.edges_are_of_takes

  resume_open : TakersAreOpen c resumed s.log s.held s.history
  unfolding TakersAreOpen
  resume_open u i e b j m f ne = h.takers_are_open u i (sym (same_taking u b) ∙ e) b j m f ne

  resume_refusals : RefusalsHaveCause c
      (put s.noted t (noted_after q cause (is_taking_back (s.log t)) (s.noted t))) s.edges s.history
  unfolding RefusalsHaveCause
  resume_refusals u l j e = h.refusals_have_cause u l j (elim (cases_eq t u) [
    | inl x ↦ ap s.noted (sym x) ∙ refused_before q cause (is_taking_back (s.log t)) (s.noted t) l j
        (sym (put_same s.noted t _) ∙ ap (put s.noted t _) x ∙ e)
    | inr x ↦ sym (put_other s.noted t _ u x) ∙ e
  ])

  pub resumes : Taken c (after_resume c s t q cause)
  unfolding after_resume
  resumes = assumption (h, resume_edges, resume_open, resume_refusals)

-- 3. An entry

none_after : (e : Event) → taking_after e None ≡ None
none_after e = grind arith

-- an entry that ends a take, or the wait of a thread in one, leaves nothing to take
ended : (c : Config) (back : Bool) (e : Event) (l : ℕ) (o : Option ℕ) → EndsTake c back e l → taking_after e o ≡ None
ended c back e l o i = grind arith

-- outside a wait it ends a take
ends_take : (c : Config) (back : Bool) (e : Event) (l : ℕ) → EndsTake c back e l → back ≡ false → taken_by e ≡ Some l
ends_take c back e l i b = grind arith

module _ (c : Config) (s : State) (t : ℕ) (e : Event) (g : MayStamp c s t e)
    (k : (l : ℕ) → s.taking t ≡ Some l → EndsTake c (is_taking_back (s.log t)) e l) (h : Taken c s) where
  abbrev new : Entry
  new = entry_of s t e

  abbrev now : ℕ → Option ℕ
  now = put s.taking t (taking_after e (s.taking t))

  abbrev log : ℕ → List Entry
  log = put s.log t (new ∷ s.log t)

  -- then the thread takes nothing
  none_now : now t ≡ None
  none_now = put_same s.taking t (taking_after e (s.taking t)) ∙ go (s.taking t) refl
    where
      go : (o : Option ℕ) → s.taking t ≡ o → taking_after e (s.taking t) ≡ None
      go None i = ap (taking_after e) i ∙ none_after e
      go (Some l) i = ended c (is_taking_back (s.log t)) e l (s.taking t) (k l i)

  noted_or_on : (a b : ℕ) → InProgress c s.taking s.log s.held a b
      → IsEdge (take_edges c (new ∷ s.history)) a b ⊎ InProgress c now log s.held a b
  unfolding TakersAreOpen
  noted_or_on a b p = elim (cases_eq t p.thread) [
    | inl j ↦
        let x : taken_by e ≡ Some p.lock = ends_take c (is_taking_back (s.log t)) e p.lock
        (k p.lock (ap s.taking j ∙ p.takes)) (ap (λ v. is_taking_back (s.log v)) j ∙ p.not_back) in
        let o : open_in c s.history t p.other ≡ Holds p.mode = ap (λ v. open_in c s.history v p.other) j
        ∙ h.takers_are_open p.thread p.lock p.takes p.not_back p.other p.mode p.holds p.apart in
        let i = take_gives c new s.history p.lock p.other p.mode x p.below o in
        inl (subst (λ v. IsEdge (take_edges c (new ∷ s.history)) v b) p.from
        (subst (λ v. IsEdge (take_edges c (new ∷ s.history)) (c.class p.other) v) p.to i))
    | inr j ↦ inr (record {
      thread = p.thread;
      its = p.its;
      lock = p.lock;
      other = p.other;
      below = p.below;
      mode = p.mode;
      takes = put_other s.taking t (taking_after e (s.taking t)) p.thread j ∙ p.takes;
      not_back = ap is_taking_back (put_other s.log t (new ∷ s.log t) p.thread j) ∙ p.not_back;
      holds = p.holds;
      apart = p.apart;
      from = p.from;
      to = p.to;
    })
  ]

  stamp_edges : EdgesAreOfTakes c s.edges now log s.held (new ∷ s.history)
  stamp_edges = carried c s.edges s.taking now s.log log s.held s.held s.history (new ∷ s.history) noted_or_on
      (take_stays c new s.history) h.edges_are_of_takes

  -- the sections of another thread
  others_open : (u j : ℕ) → (t ≡ u → ⊥) → open_in c (new ∷ s.history) u j ≡ open_in c s.history u j
  unfolding after_stamp
  others_open u j n = ap (λ x. x.now) (other_sections c s t e u j n)

  stamp_open : TakersAreOpen c now log s.held (new ∷ s.history)
  unfolding TakersAreOpen
  stamp_open u i a b j m f ne = elim (cases_eq t u) [
    | inl x ↦ absurd (let q : None ≡ Some i = sym none_now ∙ ap now x ∙ a in cc)
    | inr x ↦ others_open u j x
        ∙ h.takers_are_open u i (sym (put_other s.taking t (taking_after e (s.taking t)) u x) ∙ a)
        (ap is_taking_back (sym (put_other s.log t (new ∷ s.log t) u x)) ∙ b) j m f ne
  ]

  stamp_refusals : RefusalsHaveCause c (put s.noted t None) s.edges (new ∷ s.history)
  unfolding RefusalsHaveCause
  stamp_refusals u l j a = elim (cases_eq t u) [
    | inl x ↦ absurd
        (let z : None ≡ Some (OrderRefused l j) = sym (put_same s.noted t None) ∙ ap (put s.noted t None) x ∙ a in cc)
    | inr x ↦
        let r = h.refusals_have_cause u l j (sym (put_other s.noted t None u x) ∙ a) in
        let same : has_open c (new ∷ s.history) u j ≡ has_open c s.history u j = λ i. any_below c.locks
        (λ v. eqb (c.class v) j && not (is_unheld (others_open u v x i))) in
        (same ∙ r.0, r.1)
  ]

  reversal : (a : Event) → MayStamp c s t a → ReversalHasCause c s.edges a s.history t
  unfolding RefusalsHaveCause
  reversal a x = grind arith

  stamp_reversals : ReversalsHaveCause c s.edges (new ∷ s.history)
  unfolding ReversalsHaveCause
  stamp_reversals = (reversal e g, h.reversals_have_cause)

  pub stamps : Taken c (after_stamp c s t e)
  unfolding after_stamp
  stamps = assumption (h, stamp_edges, stamp_open, stamp_refusals, stamp_reversals)

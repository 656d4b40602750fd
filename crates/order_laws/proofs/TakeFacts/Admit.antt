-- An admission and a refusal keep the facts of takes.
use Rattle.order_laws.proofs.Names
use Names.{ℕ, true, eqb, List, [], Option, Some, None, refl, sym, ap, inl, inr, eq-eqb, subst, map, cases_eq, or_cases}
use Names.{or_left, or_right, reverse-reverse, Config, Holds, open_in, is_edge, IsFirstToForbid, edges_behind, forbids}
use Names.{take_edges, has_open, ReversalHasCause, IsAmong, Grows, new_or_old, old_stays, forbids_none, first_forbids}
use Names.{says_forbids, State, HeldLock, Note, OrderRefused, SleepHalted, put, MayAdmit, MayRefuse, held_classes}
use Names.{after_admit, after_refuse, Lawful, Taken, HeldAreListed, OnlyLocksAreHeld, EdgesAreOfTakes, TakersAreOpen}
use Names.{RefusalsHaveCause, ReversalsHaveCause, is_listed, in_progress, Mode, Event, Reversed, Entry, put_same}
use Names.{put_other}
use Rattle.std.proofs.Common.{◌≡◌, ◌∷◌, ◌∙◌}
use Rattle.order_laws.proofs.OrderFacts.Lists.{is_held, among_reverse}
use Rattle.order_laws.proofs.TakeFacts.Tests.{InProgress, says_progress, progress_says, open_says, forbids_on}

-- 1. The lock of a held class

listed_by : (c : Config) (hs : List HeldLock) (a : ℕ) → IsAmong a (map (λ h. c.class h.lock) hs)
    → (k : ℕ) × (is_listed k hs ≡ true) × (c.class k ≡ a)
listed_by c [] a i = absurd i
listed_by c (h ∷ hs) a i = elim i [
  | inl x ↦ (h.lock, rw (eq-eqb h.lock h.lock refl) refl, x)
  | inr x ↦ let r = listed_by c hs a x in (r.0, or_right (eqb r.0 h.lock) (is_listed r.0 hs) r.1, r.2)
]

-- a lock of a thread, in its mode
pub record HasHeld (c : Config) (s : State) (t a : ℕ) : Type 0 where
  pub lock : ℕ
  pub mode : Mode
  pub holds : s.held t lock ≡ Holds mode
  pub from : c.class lock ≡ a

pub has_held : (c : Config) (s : State) (t a : ℕ) → Lawful c s → IsAmong a (held_classes c (s.held_locks t))
    → HasHeld c s t a
unfolding HeldAreListed
has_held c s t a f i =
    let hs = s.held_locks t in
    let x = subst (IsAmong a) (reverse-reverse (map (λ h. c.class h.lock) hs))
    (among_reverse a (held_classes c hs) i) in
    let r = listed_by c hs a x in
    let m = is_held (s.held t r.0) (sym (f.words.held_are_listed t r.0) ∙ r.1) in
    record { lock = r.0; mode = m.0; holds = m.1; from = r.2 }

pub first_among : (es : List (ℕ × ℕ)) (held : List ℕ) (w k : ℕ) → IsFirstToForbid es held w k → IsAmong k held
first_among es [] w k i = absurd i
first_among es (h ∷ held) w k i = elim i [ inl x ↦ inl x.1 | inr x ↦ inr (first_among es held w k x.1) ]

-- 2. More edges

pub reversals_on : (c : Config) (es fs : List (ℕ × ℕ)) → Grows es fs → (history : List Entry)
    → ReversalsHaveCause c es history → ReversalsHaveCause c fs history
unfolding ReversalsHaveCause
reversals_on c es fs g [] h = tt
reversals_on c es fs g (e ∷ history) h = (one e.event history e.thread.0 h.0, reversals_on c es fs g history h.1)
  where
    one : (e : Event) (past : List Entry) (t : ℕ) → ReversalHasCause c es e past t → ReversalHasCause c fs e past t
    one (Reversed l held) past t r = (r.0, forbids_on es fs g held.0 (c.class l.0) r.1)
    one other past t r = tt

module _ (c : Config) (s : State) (t l : ℕ) (g : MayAdmit c s t l) (f : Lawful c s) (h : Taken c s) where
  abbrev hs : List ℕ
  hs = held_classes c (s.held_locks t)

  abbrev w : ℕ
  w = c.class l

  abbrev es : List (ℕ × ℕ)
  es = edges_behind s.edges hs w

  abbrev taking : ℕ → Option ℕ
  taking = put s.taking t (Some l)

  more : Grows s.edges es
  more = old_stays s.edges hs w

  goes_on : (a b : ℕ) → InProgress c s.taking s.log s.held a b → InProgress c taking s.log s.held a b
  goes_on a b p = elim (cases_eq t p.thread) [
    | inl i ↦ absurd (let z : None ≡ Some p.lock = sym g.free.takes ∙ ap s.taking i ∙ p.takes in cc)
    | inr i ↦ record {
      thread = p.thread;
      its = p.its;
      lock = p.lock;
      other = p.other;
      below = p.below;
      mode = p.mode;
      takes = put_other s.taking t (Some l) p.thread i ∙ p.takes;
      not_back = p.not_back;
      holds = p.holds;
      apart = p.apart;
      from = p.from;
      to = p.to;
    }
  ]

  begins : (a b : ℕ) → IsAmong a hs → w ≡ b → InProgress c taking s.log s.held a b
  unfolding OnlyLocksAreHeld
  begins a b i x =
      let r = has_held c s t a f i in
      let apart : r.lock ≡ l → ⊥ = λ j. forbids_none s.edges hs w a g.admitted i (inl (sym r.from ∙ ap c.class j)) in
      record {
        thread = t;
        its = g.free.thread;
        lock = l;
        other = r.lock;
        below = h.only_locks_are_held t r.lock r.mode r.holds;
        mode = r.mode;
        takes = put_same s.taking t (Some l);
        not_back = g.free.awake;
        holds = r.holds;
        apart = apart;
        from = r.from;
        to = x;
      }

  admit_edges : EdgesAreOfTakes c es taking s.log s.held s.history
  unfolding EdgesAreOfTakes
  admit_edges a b i =
      let noted = is_edge (take_edges c s.history) a b in
      let going = in_progress c taking s.log s.held a b in
      elim (new_or_old s.edges hs w a b i) [
        | inl x ↦ or_right noted going (progress_says c taking s.log s.held a b (begins a b x.0 x.1))
        | inr x ↦ elim (or_cases noted (in_progress c s.taking s.log s.held a b) (h.edges_are_of_takes a b x)) [
          | inl y ↦ or_left noted going y
          | inr y ↦ or_right noted going
              (progress_says c taking s.log s.held a b (goes_on a b (says_progress c s.taking s.log s.held a b y)))
        ]
      ]

  admit_open : TakersAreOpen c taking s.log s.held s.history
  unfolding TakersAreOpen
  admit_open u k e b j m i ne = elim (cases_eq t u) [
    | inl x ↦ ap (λ v. open_in c s.history v j) (sym x) ∙ g.free.sections j m (ap (λ v. s.held v j) x ∙ i)
    | inr x ↦ h.takers_are_open u k (sym (put_other s.taking t (Some l) u x) ∙ e) b j m i ne
  ]

  admit_refusals : RefusalsHaveCause c s.noted es s.history
  unfolding RefusalsHaveCause
  admit_refusals u j k e =
      let r = h.refusals_have_cause u j k e in
      (r.0, forbids_on s.edges es more k (c.class j) r.1)

  pub admits : Taken c (after_admit c s t l)
  unfolding after_admit
  admits = assumption
      (h, admit_edges, admit_open, admit_refusals, reversals_on c s.edges es more s.history h.reversals_have_cause)

-- 3. A refusal

refused_lock : ℕ → Option Note → ℕ
refused_lock d None = d
refused_lock d (Some (OrderRefused l k)) = l
refused_lock d (Some (SleepHalted q)) = d

refused_class : ℕ → Option Note → ℕ
refused_class d None = d
refused_class d (Some (OrderRefused l k)) = k
refused_class d (Some (SleepHalted q)) = d

module _ (c : Config) (s : State) (t l k : ℕ) (g : MayRefuse c s t l k) (f : Lawful c s) (h : Taken c s) where
  named_open : has_open c s.history t k ≡ true
  unfolding OnlyLocksAreHeld
  named_open =
      let r = has_held c s t k f (first_among s.edges (held_classes c (s.held_locks t)) (c.class l) k g.refused) in
      open_says c s.history t r.lock k r.mode (h.only_locks_are_held t r.lock r.mode r.holds) r.from
      (g.free.sections r.lock r.mode r.holds)

  named_forbids : forbids s.edges k (c.class l) ≡ true
  named_forbids = says_forbids s.edges (c.class l) k
      (first_forbids s.edges (held_classes c (s.held_locks t)) (c.class l) k g.refused)

  refuse_refusals : RefusalsHaveCause c (put s.noted t (Some (OrderRefused l k))) s.edges s.history
  unfolding RefusalsHaveCause refused_lock refused_class
  refuse_refusals u j i e = elim (cases_eq t u) [
    | inl x ↦
        let z : Some (OrderRefused l k) ≡ Some (OrderRefused j i) = sym (put_same s.noted t (Some (OrderRefused l k)))
        ∙ ap (put s.noted t (Some (OrderRefused l k))) x ∙ e in
        let a : l ≡ j = ap (refused_lock l) z in
        let b : k ≡ i = ap (refused_class k) z in (
          ap (λ v. has_open c s.history v i) (sym x) ∙ ap (has_open c s.history t) (sym b) ∙ named_open,
          ap (λ v. forbids s.edges v (c.class j)) (sym b) ∙ ap (λ v. forbids s.edges k (c.class v)) (sym a)
              ∙ named_forbids,
        )
    | inr x ↦ h.refusals_have_cause u j i (sym (put_other s.noted t (Some (OrderRefused l k)) u x) ∙ e)
  ]

  pub refuses : Taken c (after_refuse s t l k)
  unfolding after_refuse
  refuses = assumption (h, refuse_refusals)

-- A gain, a claim and a release that keep to the order keep the facts of takes.
use Rattle.order_laws.proofs.Names
use Names.{ℕ, Bool, List, Option, Some, None, sym, ap, inl, inr, subst, cases_eq, or_cases, or_left, or_right, Config}
use Names.{Hold, NotHeld, Holds, is_edge, IsEdge, take_edges, Grows, State, put_at, after_gain, after_drop, after_open}
use Names.{after_open_sleep, after_claim, Taken, OnlyLocksAreHeld, EdgesAreOfTakes, TakersAreOpen, in_progress, Mode}
use Names.{Excl, Entry, put_at_same, put_at_other, put_at_beside}
use Rattle.std.proofs.Common.{◌≡◌, ◌⊎◌, ◌<◌, ◌∙◌}
use Rattle.order_laws.proofs.TakeFacts.Tests.{InProgress, says_progress, progress_says}

-- where each take that was in progress is noted, or still in progress
pub carried : (c : Config) (edges : List (ℕ × ℕ)) (taking taking' : ℕ → Option ℕ) (log log' : ℕ → List Entry)
    (held held' : ℕ → ℕ → Hold) (es es' : List Entry)
    → ((a b : ℕ) → InProgress c taking log held a b
    → IsEdge (take_edges c es') a b ⊎ InProgress c taking' log' held' a b)
    → Grows (take_edges c es) (take_edges c es') → EdgesAreOfTakes c edges taking log held es
    → EdgesAreOfTakes c edges taking' log' held' es'
unfolding EdgesAreOfTakes
carried c edges taking taking' log log' held held' es es' on more h a b i =
    elim (or_cases (is_edge (take_edges c es) a b) (in_progress c taking log held a b) (h a b i)) [
      | inl x ↦ or_left (is_edge (take_edges c es') a b) (in_progress c taking' log' held' a b) (more a b x)
      | inr x ↦ elim (on a b (says_progress c taking log held a b x)) [
        | inl y ↦ or_left (is_edge (take_edges c es') a b) (in_progress c taking' log' held' a b) y
        | inr y ↦ or_right (is_edge (take_edges c es') a b) (in_progress c taking' log' held' a b)
            (progress_says c taking' log' held' a b y)
      ]
    ]

-- 1. A gain of the lock that is taken, or by a thread that takes none

module _ (c : Config) (s : State) (t l : ℕ) (mode : Mode) (lt : l < c.locks) (unheld : s.held t l ≡ NotHeld)
    (k : (j : ℕ) → s.taking t ≡ Some j → j ≡ l) (h : Taken c s) where
  abbrev held : ℕ → ℕ → Hold
  held = put_at s.held t l (Holds mode)

  holds_yet : (u j : ℕ) (m : Mode) → s.held u j ≡ Holds m → held u j ≡ Holds m
  holds_yet u j m f = elim (cases_eq t u) [
    | inl x ↦ elim (cases_eq l j) [
      | inl y ↦ absurd (let z : NotHeld ≡ Holds m = sym unheld ∙ (λ i. s.held (x i) (y i)) ∙ f in cc)
      | inr y ↦ put_at_beside s.held t l (Holds mode) u j y ∙ f
    ]
    | inr x ↦ put_at_other s.held t l (Holds mode) u j x ∙ f
  ]

  gain_locks : OnlyLocksAreHeld c held
  unfolding OnlyLocksAreHeld
  gain_locks u j m f = elim (cases_eq t u) [
    | inl x ↦ elim (cases_eq l j) [
      | inl y ↦ subst (λ i. i < c.locks) y lt
      | inr y ↦ h.only_locks_are_held u j m (sym (put_at_beside s.held t l (Holds mode) u j y) ∙ f)
    ]
    | inr x ↦ h.only_locks_are_held u j m (sym (put_at_other s.held t l (Holds mode) u j x) ∙ f)
  ]

  gain_edges : EdgesAreOfTakes c s.edges s.taking s.log held s.history
  gain_edges = carried c s.edges s.taking s.taking s.log s.log s.held held s.history s.history
      (λ a b p. inr (record {
        thread = p.thread;
        its = p.its;
        lock = p.lock;
        other = p.other;
        below = p.below;
        mode = p.mode;
        takes = p.takes;
        not_back = p.not_back;
        holds = holds_yet p.thread p.other p.mode p.holds;
        apart = p.apart;
        from = p.from;
        to = p.to;
      }))
      (λ a b i. i) h.edges_are_of_takes

  gain_open : TakersAreOpen c s.taking s.log held s.history
  unfolding TakersAreOpen
  gain_open u i e b j m f ne = elim (cases_eq t u) [
    | inl x ↦ h.takers_are_open u i e b j m
        (sym (put_at_beside s.held t l (Holds mode) u j (λ y. ne (sym y ∙ sym (k i (ap s.taking x ∙ e))))) ∙ f) ne
    | inr x ↦ h.takers_are_open u i e b j m (sym (put_at_other s.held t l (Holds mode) u j x) ∙ f) ne
  ]

pub gains : (c : Config) (s : State) (t l : ℕ) (mode : Mode) (by_try : Bool) → l < c.locks → s.held t l ≡ NotHeld
    → ((j : ℕ) → s.taking t ≡ Some j → j ≡ l) → Taken c s → Taken c (after_gain s t l mode by_try)
unfolding after_gain
gains c s t l mode by_try lt u k h =
    assumption (h, gain_locks c s t l mode lt u k h, gain_edges c s t l mode lt u k h, gain_open c s t l mode lt u k h)

pub claims : (c : Config) (s : State) (t l x : ℕ) (by_try : Bool) → l < c.locks → s.held t l ≡ NotHeld
    → ((j : ℕ) → s.taking t ≡ Some j → j ≡ l) → Taken c s → Taken c (after_claim c s t l x by_try)
unfolding after_claim
claims c s t l x by_try lt u k h =
    assumption (h, gain_locks c s t l Excl lt u k h, gain_edges c s t l Excl lt u k h, gain_open c s t l Excl lt u k h)

-- 2. A release by a thread that takes nothing

module _ (c : Config) (s : State) (t l : ℕ) (n : s.taking t ≡ None) (h : Taken c s) where
  abbrev left : ℕ → ℕ → Hold
  left = put_at s.held t l NotHeld

  was_held : (u j : ℕ) (m : Mode) → left u j ≡ Holds m → s.held u j ≡ Holds m
  was_held u j m e = elim (cases_eq t u) [
    | inl x ↦ elim (cases_eq l j) [
      | inl y ↦
          absurd (let z : NotHeld ≡ Holds m = sym (put_at_same s.held t l NotHeld) ∙ (λ i. left (x i) (y i)) ∙ e in cc)
      | inr y ↦ sym (put_at_beside s.held t l NotHeld u j y) ∙ e
    ]
    | inr x ↦ sym (put_at_other s.held t l NotHeld u j x) ∙ e
  ]

  left_locks : OnlyLocksAreHeld c left
  unfolding OnlyLocksAreHeld
  left_locks u j m f = h.only_locks_are_held u j m (was_held u j m f)

  left_edges : EdgesAreOfTakes c s.edges s.taking s.log left s.history
  left_edges = carried c s.edges s.taking s.taking s.log s.log s.held left s.history s.history
      (λ a b p. elim (cases_eq t p.thread) [
        | inl i ↦ absurd (let z : None ≡ Some p.lock = sym n ∙ ap s.taking i ∙ p.takes in cc)
        | inr i ↦ inr (record {
          thread = p.thread;
          its = p.its;
          lock = p.lock;
          other = p.other;
          below = p.below;
          mode = p.mode;
          takes = p.takes;
          not_back = p.not_back;
          holds = put_at_other s.held t l NotHeld p.thread p.other i ∙ p.holds;
          apart = p.apart;
          from = p.from;
          to = p.to;
        })
      ])
      (λ a b i. i) h.edges_are_of_takes

  left_open : TakersAreOpen c s.taking s.log left s.history
  unfolding TakersAreOpen
  left_open u i e b j m f ne = h.takers_are_open u i e b j m (was_held u j m f) ne

  pub drops : Taken c (after_drop s t l)
  unfolding after_drop
  drops = assumption (h, left_locks, left_edges, left_open)

  pub opens : Taken c (after_open c s t l)
  unfolding after_open
  opens = assumption (h, left_locks, left_edges, left_open)

  pub opens_sleep_queue : Taken c (after_open_sleep c s t l)
  unfolding after_open_sleep
  opens_sleep_queue = assumption (h, left_locks, left_edges, left_open)

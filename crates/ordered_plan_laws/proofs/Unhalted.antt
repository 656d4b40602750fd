-- A legal history of an ordered plan's threads whose halts are honest: at the moment that they name, each thread that
-- had a section open would have waited for a lock declared behind its own, which another had. So nobody was halted.
use Rattle.std.proofs.Common.{◌≡◌, ℕ, zero, suc, ◌+◌, ◌<◌, ◌≤◌, Bool, true, false, not, ◌&&◌, cond, eqb, List, [], ◌∷◌, ◌++◌, length, slice_get, Some, None, ◌⊎◌, refl, sym, ap, inl, inr, arith, eq-eqb, subst, ◌∙◌}
use Rattle.std.proofs.lemmas.Bool.{cases_lt, or_cases, or_left, or_from, or_parts, and_parts}
use Rattle.std.specs.List.{list_any}
use Rattle.std.specs.Prelude.{unwrap_or, option_map}
use Rattle.std.proofs.lemmas.Option.{slice_get-map}
use Rattle.lock_model.specs.Config.{Config}
use Rattle.lock_model.specs.Counts.{is_empty}
use Rattle.lock_model.specs.Events.{facets, of_sleep, is_falling, is_end}
use Rattle.lock_model.specs.Halts.{entries_below, entries_since, ends_asleep, is_sleeping, waits_for_another, awaited_by, first_was_awaited, HaltsComeSince, HaltsAreHonest}
use Rattle.lock_model.specs.History.{TicketsRun, open_in, entries_of}
use Rattle.lock_model.specs.Holds.{NotHeld, Holds, is_unheld}
use Rattle.lock_model.specs.Law as law
use Rattle.lock_model.specs.Law.{LeadsTo, Point, Before, Asleep, Cut, IsAtEnd, EntriesFollowOperations, FollowsOperations, is_halt, is_named}
use Rattle.lock_model.specs.Legal.{IsLegal}
use Rattle.lock_model.specs.Operations.{IsProper, hold_in}
use Rattle.lock_model.specs.OrderedPlans.{IsOrdered}
use Rattle.lock_model.specs.Plans.{config_of, operations_of}
use Rattle.lock_model.specs.Takes.{is_reversal, has_reversal}
use Rattle.lock_model.specs.declared.plan.Kind.{Kind}
use Rattle.lock_model.specs.declared.plan.Mode.{Mode}
use Rattle.lock_model.specs.declared.plan.Op.{Op}
use Rattle.lock_model.specs.declared.plan.Op.TheVariants as op
use Rattle.lock_model.specs.declared.plan.Plan.{Plan}
use Rattle.lock_model.specs.declared.plan.ThreadDecl.{ThreadDecl}
use Rattle.lock_model.specs.declared.event.Event.{Event}
use Rattle.lock_model.specs.declared.event.Event.TheVariants.{Locked, HaltedLock, Woke, HaltedChan}
use Rattle.lock_model.specs.declared.event.Entry.{Entry}
use Rattle.lock_laws.proofs.Best.{any_below-true}
use Rattle.lock_laws.proofs.HeldLists.{held_none}
use Rattle.lock_laws.proofs.OwnEntries.{own_section}
use Rattle.order_laws.proofs.OrderFacts.Lists.{is_held}
use Rattle.count_laws.proofs.Moments.{below-new, since-new, below-old, since-old, all_below, none_since, own_below}
use Rattle.ordered_plan_laws.proofs.Following.{IsBeforeTake, TakesAt, lock_taken, came, SleepsAt, HasWait, AllLead, all_led, has_cut, cuts, was_cut, open_is_held, lower_open, its_lock}
use Rattle.ordered_plan_laws.proofs.Unrefused.{all_lead, unrefused}

-- 1. Entries below a moment and since

-- the threads' entries below a moment lead somewhere too
all_lead_below : (plan : Plan) (p : ℕ) (es : List Entry) → TicketsRun es → AllLead plan es
    → AllLead plan (entries_below p es)
unfolding TicketsRun entries_below
all_lead_below plan p [] r h = h
all_lead_below plan p (e ∷ es) r h = elim (cases_lt e.ticket p) [
  | inl old ↦
      let same = below-old p e es old ∙ ap (λ xs. e ∷ xs) (all_below p es r.1 (omega (arith, r.0, old))) in
      subst (AllLead plan) (sym same) h
  | inr new ↦
      subst (AllLead plan) (sym (below-new p e es new)) (all_lead_below plan p es r.1 (all_led plan e es h))
]

-- a thread's entries are those since the moment and those below it
own_parts : (p t : ℕ) (es : List Entry) → TicketsRun es
    → entries_of es t ≡ entries_of (entries_since p es) t ++ entries_of (entries_below p es) t
unfolding TicketsRun entries_below entries_since
own_parts p t [] r = refl
own_parts p t (e ∷ es) r = elim (cases_lt e.ticket p) [
  | inl old ↦
      let none : entries_since p es ≡ [] = none_since p es r.1 (omega (arith, r.0, old)) in
      let rest : entries_of es t ≡ entries_of (entries_below p es) t =
      own_parts p t es r.1 ∙ ap (λ xs. entries_of xs t ++ entries_of (entries_below p es) t) none in
      ap (λ xs. cond (eqb e.thread.0 t) (e ∷ xs) xs) rest
      ∙ sym (λ i. entries_of ((since-old p e es old ∙ none) i) t ++ entries_of (below-old p e es old i) t)
  | inr new ↦
      push (eqb e.thread.0 t) (entries_of es t) (entries_of (entries_since p es) t)
      (entries_of (entries_below p es) t) (own_parts p t es r.1)
      ∙ sym (λ i. entries_of (since-new p e es new i) t ++ entries_of (below-new p e es new i) t)
]
  where
    push : (b : Bool) (xs ys zs : List Entry) → xs ≡ ys ++ zs → cond b (e ∷ xs) xs ≡ cond b (e ∷ ys) ys ++ zs
    push true xs ys zs q = ap (λ es. e ∷ es) q
    push false xs ys zs q = q

-- an entry below the moment is no halt's
early : (p : ℕ) (e : Entry) → (is_halt e.event ≡ true → p ≤ e.ticket) → e.ticket < p → is_halt e.event ≡ false
early p e later old = grind arith

-- so there nobody was cut, where no take was refused
uncut_below : (c : Config) (p : ℕ) (es : List Entry) → has_reversal es ≡ false → HaltsComeSince c p es
    → has_cut (entries_below p es) ≡ false
unfolding HaltsComeSince entries_below
uncut_below c p [] n h = refl
uncut_below c p (e ∷ es) n h =
    let q = or_parts (is_reversal e.event) (has_reversal es) n in
    let rest = uncut_below c p es q.1 h.2 in
    elim (cases_lt e.ticket p) [
      | inl old ↦
          ap has_cut (below-old p e es old)
          ∙ or_from (cuts e.event) (has_cut (entries_below p es))
          (or_from (is_reversal e.event) (is_halt e.event) q.0 (early p e h.0 old)) rest
      | inr new ↦ ap has_cut (below-new p e es new) ∙ rest
    ]

own_uncut : (t : ℕ) (es : List Entry) → has_cut es ≡ false → has_cut (entries_of es t) ≡ false
own_uncut t [] n = refl
own_uncut t (e ∷ es) n =
    let q = or_parts (cuts e.event) (has_cut es) n in
    go (eqb e.thread.0 t) q.0 (own_uncut t es q.1)
  where
    go : (b : Bool) → cuts e.event ≡ false → has_cut (entries_of es t) ≡ false
        → has_cut (cond b (e ∷ entries_of es t) (entries_of es t)) ≡ false
    go true here rest = or_from (cuts e.event) (has_cut (entries_of es t)) here rest
    go false here rest = rest

-- where no thread has made an entry since the moment, nobody was halted
none_halted : (c : Config) (p : ℕ) (es : List Entry)
    → ((t : ℕ) → is_empty (entries_of (entries_since p es) t) ≡ true) → HaltsComeSince c p es
    → list_any (λ e. is_halt e.event) es ≡ false
unfolding HaltsComeSince
none_halted c p [] none h = refl
none_halted c p (e ∷ es) none h = elim (cases_lt e.ticket p) [
  | inl old ↦
      or_from (is_halt e.event) (list_any (λ x. is_halt x.event) es) (early p e h.0 old)
      (none_halted c p es (λ t. ap (λ xs. is_empty (entries_of xs t)) (sym (since-old p e es old)) ∙ none t) h.2)
  | inr new ↦
      let t = e.thread.0 in
      let z : false ≡ true = sym (ap (λ b. is_empty (cond b (e ∷ entries_of (entries_since p es) t)
      (entries_of (entries_since p es) t))) (eq-eqb t t refl))
      ∙ sym (ap (λ xs. is_empty (entries_of xs t)) (since-new p e es new)) ∙ none t in
      absurd cc
]

-- 2. What a thread was at

none_at : {A : Type 0} (xs : List A) (i : ℕ) → length xs ≤ i → slice_get xs i ≡ None
none_at [] i le = refl
none_at (x ∷ xs) zero le = absurd (omega (arith, le))
none_at (x ∷ xs) (suc i) le = none_at xs i (omega (arith, le))

-- a number that is no thread's has no operations,
pub no_operations : (plan : Plan) (t : ℕ) → length plan.threads ≤ t → operations_of plan t ≡ []
no_operations plan t le =
    ap (λ x. unwrap_or x []) (slice_get-map (λ d. d.ops) plan.threads t
    ∙ ap (option_map (λ (d : ThreadDecl). d.ops)) (none_at plan.threads t le))

-- and so no entries
none_of : {A : Type 0} (xs : List A) (n : ℕ) (x : A) → xs ≡ [] → slice_get xs n ≡ Some x → ⊥
none_of xs n x i e = grind arith

starts : {kind : ℕ → Kind} (ops : List Op) (es : List Entry) (point : Point) → ops ≡ [] → LeadsTo kind ops es point
    → (point ≡ Before 0) × (es ≡ [])
starts ops _ _ i law.begins = (refl, refl)
starts ops _ _ i (law.goes_on {es} {n} {o} {p} e l next gives) = absurd (none_of ops n o i next)
starts ops es _ i (law.skips_endtry {n = n} l next) = absurd (none_of ops n op.EndTry i next)
starts ops _ _ i (law.wakes_up {es} {n} {d} e l next its) = absurd (none_of ops n (op.Sleep d) i next)
starts ops _ _ i (law.is_woken_by_a_halt {es} {n} {d} e l next its) = absurd (none_of ops n (op.Sleep d) i next)
starts ops _ _ i (law.gives_back {es} {h} {hs} e l its) =
    absurd (let z : Cut (h ∷ hs) ≡ Before 0 = (starts ops es (Cut (h ∷ hs)) i l).0 in cc)

nothing_done : {kind : ℕ → Kind} (ops : List Op) (es : List Entry) (point : Point) → ops ≡ []
    → LeadsTo kind ops es point → es ≡ []
nothing_done ops es point i l = (starts ops es point i l).1

first_empty : (xs ys : List Entry) → xs ++ ys ≡ [] → is_empty xs ≡ true
first_empty xs ys e = grind arith

-- before a take of a lock of which another thread has an open section
pub record Awaits (plan : Plan) (past : List Entry) (t : ℕ) : Type 0 where
  pub point : Point
  pub leads : LeadsTo (config_of plan).kind (operations_of plan t) (entries_of past t) point
  pub lock : ℕ
  pub before : IsBeforeTake (operations_of plan t) point lock
  pub holder : ℕ
  pub its : holder < (config_of plan).threads
  pub mode : Mode
  pub opens : open_in (config_of plan) past holder lock ≡ Holds mode

module _ (plan : Plan) (p : IsProper plan) (o : IsOrdered plan) where
  abbrev c : Config
  c = config_of plan

  no_wait : {A : Type 0} (t : ℕ) → HasWait (operations_of plan t) → A
  no_wait t w = absurd (let z : true ≡ false = o.no_wait_nor_try t w.n (op.Sleep w.chan) w.waits in cc)

  awaits : (past : List Entry) (t : ℕ) (e : Event) (point : Point)
      → LeadsTo c.kind (operations_of plan t) (entries_of past t) point
      → TakesAt (operations_of plan t) point (lock_taken (facets e).take) → SleepsAt (operations_of plan t) e
      → waits_for_another c past t (awaited_by c e) ≡ true → Awaits plan past t
  awaits past t (Locked l mode) point leads at sleeps w =
      let r = any_below-true c.threads (λ u. not (eqb u t) && not (is_unheld (open_in c past u l.0))) w in
      let m = is_held (open_in c past r.0 l.0) (and_parts (not (eqb r.0 t)) _ r.2).1 in
      record { point = point; leads = leads; lock = l.0; before = at; holder = r.0; its = r.1; mode = m.0; opens = m.1 }
  awaits past t (HaltedLock l) point leads at sleeps w =
      let r = any_below-true c.threads (λ u. not (eqb u t) && not (is_unheld (open_in c past u l.0))) w in
      let m = is_held (open_in c past r.0 l.0) (and_parts (not (eqb r.0 t)) _ r.2).1 in
      record { point = point; leads = leads; lock = l.0; before = at; holder = r.0; its = r.1; mode = m.0; opens = m.1 }
  awaits past t (Woke d) point leads at sleeps w = no_wait t (sleeps refl)
  awaits past t (HaltedChan d) point leads at sleeps w = no_wait t (sleeps refl)
  awaits past t other point leads at sleeps w = absurd cc

  -- the oldest of its entries since then tells of it
  first_awaits : (past : List Entry) (t : ℕ) (es : List Entry) (point : Point)
      → LeadsTo c.kind (operations_of plan t) (es ++ entries_of past t) point
      → first_was_awaited c past t es ≡ true → Awaits plan past t
  first_awaits past t [] point l w = absurd cc
  first_awaits past t (e ∷ []) point l w =
      let x = came c.kind (operations_of plan t) e (entries_of past t) point l in
      awaits past t e.event x.point x.leads x.takes x.sleeps w
  first_awaits past t (e ∷ d ∷ es) point l w =
      let x = came c.kind (operations_of plan t) e (d ∷ es ++ entries_of past t) point l in
      first_awaits past t (d ∷ es) x.point x.leads w

  unslept : (t : ℕ) (es : List Entry) (point : Point) → LeadsTo c.kind (operations_of plan t) es point
      → ends_asleep es ≡ true → ⊥
  unslept t [] point l e = absurd cc
  unslept t (x ∷ es) point l e =
      no_wait t ((came c.kind (operations_of plan t) x es point l).sleeps
      (or_left (is_falling (of_sleep x.event)) (is_end (of_sleep x.event)) e))

  -- 3. The moment

  module _ (history : List Entry) (legal : IsLegal plan true false history) where
    abbrev h : HaltsAreHonest c history
    h = legal.halts_are_honest

    abbrev past : List Entry
    past = entries_below h.moment history

    abbrev since : List Entry
    since = entries_since h.moment history

    leads : AllLead plan history
    leads = all_lead plan p o history legal

    led_past : AllLead plan past
    led_past = all_lead_below plan h.moment history legal.so_far.tickets_run leads

    uncut : has_cut past ≡ false
    uncut = uncut_below c h.moment history (unrefused plan p o history legal) h.comes_first

    -- who has made no entry since has no section open
    closed : (t : ℕ) → is_empty (entries_of since t) ≡ true → (k : ℕ) (mode : Mode)
        → open_in c past t k ≡ Holds mode → ⊥
    unfolding EntriesFollowOperations
    closed t none k mode i = by_point f.point f.leads (f.whole refl)
      where
        f : FollowsOperations plan false history t
        f = legal.entries_follow_operations t

        same : entries_of past t ≡ entries_of history t
        same = own_below h.moment t history none

        still : open_in c history t k ≡ Holds mode
        still = own_section c history t k ∙ ap (λ es. open_in c es t k) (sym same) ∙ sym (own_section c past t k) ∙ i

        by_point : (point : Point) → LeadsTo c.kind (operations_of plan t) (entries_of history t) point
            → IsAtEnd (operations_of plan t) point → ⊥
        by_point (Before n) l e =
            let held = open_is_held plan p o t history n l k in
            let bare = ap (λ hs. hold_in hs k) (held_none plan p t n (omega (arith, e))) in
            let z : NotHeld ≡ Holds mode = sym (held ∙ bare) ∙ still in
            cc
        by_point (Asleep n) l e = e
        by_point (Cut hs) l e =
            let was = was_cut c.kind (operations_of plan t) (entries_of history t) (Cut hs) hs refl l in
            let z : false ≡ true = sym (own_uncut t past uncut) ∙ ap has_cut same ∙ was in
            cc

    -- each thread has made none, or waited for a lock that another had
    at : (t : ℕ) → t < c.threads → (is_empty (entries_of since t) ≡ true) ⊎ Awaits plan past t
    at t lt = elim (or_cases (is_empty (entries_of since t)) _ (h.honest t lt)) [
      | inl x ↦ inl x
      | inr x ↦ elim (or_cases (is_sleeping past t) _ x) [
        | inl y ↦ absurd (unslept t (entries_of past t) (led_past t).point (led_past t).leads
            (and_parts (ends_asleep (entries_of past t)) (not (is_named past t)) y).0)
        | inr y ↦ inr (first_awaits past t (entries_of since t) (leads t).point
            (subst (λ es. LeadsTo c.kind (operations_of plan t) es (leads t).point)
            (own_parts h.moment t history legal.so_far.tickets_run) (leads t).leads) y)
      ]
    ]

    -- who has a section open waits for a lock declared behind that; so at last for none
    climb : (n t j : ℕ) (mode : Mode) → t < c.threads → open_in c past t j ≡ Holds mode → c.locks ≤ j + n → ⊥
    climb zero t j mode lt i le = elim (at t lt) [
      | inl none ↦ closed t none j mode i
      | inr x ↦
          let up = lower_open plan p o t past x.point x.lock x.leads x.before j mode i in
          let low = its_lock plan p o t x.point x.lock x.before in
          omega (arith, up, low, le)
    ]
    climb (suc n) t j mode lt i le = elim (at t lt) [
      | inl none ↦ closed t none j mode i
      | inr x ↦
          let up = lower_open plan p o t past x.point x.lock x.leads x.before j mode i in
          climb n x.holder x.lock x.mode x.its x.opens (omega (arith, up, le))
    ]

    idle : (t : ℕ) → is_empty (entries_of since t) ≡ true
    idle t = elim (cases_lt t c.threads) [
      | inl lt ↦ elim (at t lt) [
        | inl none ↦ none
        | inr x ↦ absurd (climb c.locks x.holder x.lock x.mode x.its x.opens (omega arith))
      ]
      | inr le ↦ first_empty (entries_of since t) (entries_of past t)
          (sym (own_parts h.moment t history legal.so_far.tickets_run)
          ∙ nothing_done (operations_of plan t) (entries_of history t) (leads t).point (no_operations plan t le)
          (leads t).leads)
    ]

    pub unhalted : list_any (λ e. is_halt e.event) history ≡ false
    unhalted = none_halted c h.moment history idle h.comes_first

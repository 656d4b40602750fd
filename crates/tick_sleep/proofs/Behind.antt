-- What an event leaves as it was, and how far it lets time go on.
use Rattle.std.proofs.Common.{◌≡◌, ℕ, zero, suc, ◌+◌, ◌*◌, ◌≤◌, Bool, true, false, ◌&&◌, cond, List, [], ◌∷◌, ◌++◌, length, drop, set, Option, None, Some, slice_get, append_assoc, refl, sym, ap, subst, arith, ◌∙◌}
use Rattle.std.specs.List.{list_all}
use Rattle.std.proofs.lemmas.Bool.Decides.{nat_tests}
use Rattle.lock_model.specs.declared.numbers.Prio.{Prio}
use Rattle.lock_model.specs.declared.numbers.ThreadNo.{ThreadNo}
use Rattle.tick_sleep.specs.Plans.{can_happen}
use Rattle.tick_sleep.specs.Ticks.{TickState, start, sleep_answer, slept, is_interruptible, without, behind}
use Rattle.tick_sleep.specs.Text.{text_from, event_lines, sleeping_lines, tick_run}
use Rattle.lock_model.specs.Text.{line_of}
use Rattle.std.specs.Prelude.{codes}
use Rattle.std.proofs.lemmas.List.{drop_all}
use Rattle.tick_sleep.specs.declared.plan.TickPlan.{TickPlan}
use Rattle.tick_sleep.specs.declared.plan.SleeperDecl.{SleeperDecl}
use Rattle.tick_sleep.specs.declared.plan.Slept.{Slept}
use Rattle.tick_sleep.specs.declared.plan.Slept.TheVariants.{Queued, Asleep, Interrupted}
use Rattle.tick_sleep.specs.declared.plan.TickEvent.{TickEvent}
use Rattle.tick_sleep.specs.declared.plan.TickEvent.TheVariants.{Sleep, WakeOne, WakeAll, Post, Tick}

slept_keeps : (a : Slept) (s : TickState) (t : ThreadNo) (key : ℕ) (ticks : Option ℕ) (sig : Bool)
    → ((slept a s t key ticks sig).prios ≡ s.prios) × ((slept a s t key ticks sig).tick ≡ s.tick)
slept_keeps Queued s t key ticks sig = (refl, refl)
slept_keeps Asleep s t key ticks sig = (refl, refl)
slept_keeps Interrupted s t key ticks sig = (refl, refl)

pub prios_kept : (s : TickState) (v : TickEvent) → (behind s v).prios ≡ s.prios
prios_kept s (Sleep t key ticks sig) = (slept_keeps (sleep_answer s t.0 sig) s t key ticks sig).0
prios_kept s (WakeOne key) = refl
prios_kept s (WakeAll key) = refl
prios_kept s (Post t) =
    elim (is_interruptible t.0 s.sleepers) as
    (λ b. (cond b (record s { sleepers = without t.0 s.sleepers }) (record s { posted = set s.posted t.0 true })).prios
    ≡ s.prios) [ true ↦ refl | false ↦ refl ]
prios_kept s (Tick n) = refl

pub not_long : (s : TickState) (v : TickEvent) (threads : ℕ) → can_happen threads v ≡ true
    → (behind s v).tick ≤ s.tick + 1000
not_long s (Sleep t key ticks sig) threads h = let e = (slept_keeps (sleep_answer s t.0 sig) s t key ticks sig).1 in
    omega (arith, e)
not_long s (WakeOne key) threads h = omega arith
not_long s (WakeAll key) threads h = omega arith
not_long s (Post t) threads h =
    elim (is_interruptible t.0 s.sleepers) as
    (λ b. (cond b (record s { sleepers = without t.0 s.sleepers }) (record s { posted = set s.posted t.0 true })).tick ≤
    s.tick + 1000) [ true ↦ omega arith | false ↦ omega arith ]
not_long s (Tick n) threads h = grind (arith, nat_tests, h)

-- the next event and those behind it
pub next_event : (vs : List TickEvent) (e : ℕ) (v : TickEvent) → slice_get vs e ≡ Some v
    → drop e vs ≡ v ∷ drop (suc e) vs
next_event [] e v f = absurd cc
next_event (u ∷ vs) zero v f = ap (λ (x : TickEvent). x ∷ vs) (pick u v f)
  where
    or_else : TickEvent → Option TickEvent → TickEvent
    or_else d None = d
    or_else d (Some x) = x

    pick : (a b : TickEvent) → ◌≡◌ {A = Option TickEvent} (Some a) (Some b) → a ≡ b
    pick a b i = ap (or_else a) i
next_event (u ∷ vs) (suc e) v f = next_event vs e v f

pub next_lines : (ds : List SleeperDecl) (e : ℕ) (s : TickState) (vs : List TickEvent) (v : TickEvent)
    → text_from ds e s (v ∷ vs) ≡ event_lines ds e s v ++ text_from ds (suc e) (behind s v) vs
unfolding text_from
next_lines ds e s vs v = refl

pub each_can : (threads : ℕ) (vs : List TickEvent) (e : ℕ) (v : TickEvent) → list_all (can_happen threads) vs ≡ true
    → slice_get vs e ≡ Some v → can_happen threads v ≡ true
each_can threads [] e v h f = absurd cc
each_can threads (u ∷ vs) zero v h f = let a = ap (can_happen threads) (pick u v f) in
    and_first (can_happen threads u) (list_all (can_happen threads) vs) h a
  where
    or_else : TickEvent → Option TickEvent → TickEvent
    or_else d None = d
    or_else d (Some x) = x

    pick : (a b : TickEvent) → ◌≡◌ {A = Option TickEvent} (Some a) (Some b) → a ≡ b
    pick a b i = ap (or_else a) i

    and_first : (a b : Bool) → (a && b) ≡ true → a ≡ can_happen threads v → can_happen threads v ≡ true
    and_first true b i j = sym j
    and_first false b i j = absurd cc
each_can threads (u ∷ vs) (suc e) v h f =
    each_can threads vs e v (and_rest (can_happen threads u) (list_all (can_happen threads) vs) h) f
  where
    and_rest : (a b : Bool) → (a && b) ≡ true → b ≡ true
    and_rest true b i = i
    and_rest false b i = absurd cc

-- the lines of one event more
pub lines_on : (ds : List SleeperDecl) (e : ℕ) (s new : TickState) (vs : List TickEvent) (v : TickEvent)
    (out more total : List ℕ) → slice_get vs e ≡ Some v → out ++ text_from ds e s (drop e vs) ≡ total
    → more ≡ out ++ event_lines ds e s v → new ≡ behind s v
    → more ++ text_from ds (e + 1) new (drop (e + 1) vs) ≡ total
lines_on ds e s new vs v out more total here was pushed after =
    let next : suc e ≡ e + 1 = omega arith in
    subst (λ (m : ℕ). more ++ text_from ds m new (drop m vs) ≡ total) next (
    rw (pushed, after) (append_assoc out (event_lines ds e s v) (text_from ds (suc e) (behind s v) (drop (suc e) vs)))
    ∙ ap (λ (r : List ℕ). out ++ r)
    (sym (next_lines ds e s (drop (suc e) vs) v) ∙ ap (text_from ds e s) (sym (next_event vs e v here))) ∙ was)

-- and the last ones
pub last_lines : (plan : TickPlan) (e : ℕ) (s : TickState) (out mid all : List ℕ) → length plan.events ≤ e
    → out ++ text_from plan.sleepers e s (drop e plan.events) ≡ text_from plan.sleepers 0 (start plan.sleepers)
    plan.events
    → mid ≡ out ++ sleeping_lines 0 plan.sleepers s.sleepers → all ≡ mid ++ line_of (codes "ok") []
    → all ≡ tick_run plan
unfolding text_from tick_run
last_lines plan e s out mid all ended was pushed end =
    let none : drop e plan.events ≡ [] = drop_all e plan.events ended in
    end ∙ ap (λ (m : List ℕ). m ++ line_of (codes "ok") []) pushed
    ∙ append_assoc out (sleeping_lines 0 plan.sleepers s.sleepers) (line_of (codes "ok") [])
    ∙ ap (λ (vs : List TickEvent). out ++ text_from plan.sleepers e s vs) (sym none) ∙ was

-- what one event more comes to
pub one_event : (ds : List SleeperDecl) (vs : List TickEvent) (e : ℕ) (s new : TickState) (v : TickEvent)
    (out more total : List ℕ) (prios : List Prio) → list_all (can_happen (length ds)) vs ≡ true
    → slice_get vs e ≡ Some v → out ++ text_from ds e s (drop e vs) ≡ total → more ≡ out ++ event_lines ds e s v
    → new ≡ behind s v
    → s.prios ≡ prios → s.tick ≤ 1000 * e → (more ++ text_from ds (e + 1) new (drop (e + 1) vs) ≡ total)
    × (new.prios ≡ prios) × (new.tick ≤ 1000 * (e + 1))
one_event ds vs e s new v out more total prios each here was pushed after same early = (
  lines_on ds e s new vs v out more total here was pushed after,
  ap (λ (n : TickState). n.prios) after ∙ prios_kept s v ∙ same,
  let ticks = ap (λ (n : TickState). n.tick) after in
      let long = not_long s v (length ds) (each_can (length ds) vs e v each here) in
      omega (arith, ticks, long, early),
)

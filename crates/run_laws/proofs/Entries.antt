-- An operation makes one entry at most and leaves one lock more, or it is a wait, which makes two and leaves what
-- was held. Where a lock is given back that is one entry, and one lock less. So behind n operations a thread's
-- entries and the locks that it holds are 2 * n at most. While an operation is left, or a thread that was cut holds
-- a lock, the entries of a run are fewer than twice the operations.
use Rattle.run_laws.proofs.Names
use Names.{ℕ, zero, suc, Bool, true, false, cond, eqb, Option, Some, None, List, [], length, length-append, slice_get}
use Names.{reverse, refl, sym, ap, inl, inr, eq-eqb, arith, subst, map, unwrap_or, sum_by, cases_eq, cases_lt, ne_eqb}
use Names.{true≢false, slice_get_within, slice_get_past, length-map, length-reverse, All-cons, All-nil, sum-map}
use Names.{sum_by-cons, sum_below, config_of, operations_of, IsProper, of_locks, operations_in_all, held_of, held_after}
use Names.{entries_of, LeadsTo, Gives, Point, Before, Asleep, Cut, Run, was_cut, waits_on, held_now, Op, EndTry, Sleep}
use Names.{OfLocks, NoLock, Acquires, ClosesBlock, Releases, EditsAt, ReadsAt, SleepsOn, WakesOn, Plan, ThreadDecl}
use Names.{Entry, Event, Held, IsOnTrack, point_by, point_in, gained_order, sum_below-same, sum_below-change}
use Names.{sum_below-at, sum_below-zero, fewer_without, next_leads, try_passes}
use Rattle.std.proofs.Common.{◌≡◌, ◌≢◌, ◌+◌, ◌*◌, ◌<◌, ◌≤◌, ◌∷◌, ◌∙◌}
use Rattle.std.specs.List.{All}
use Rattle.lock_model.specs.Law as law

-- 1. Sums

-- a sum by its first place
sum_below-first : (n : ℕ) (f : ℕ → ℕ) → sum_below (suc n) f ≡ f 0 + sum_below n (λ j. f (suc j))
unfolding sum_below
sum_below-first zero f = refl
sum_below-first (suc n) f = let rest : sum_below (suc n) f ≡ f 0 + sum_below n (λ j. f (suc j)) = sum_below-first n f in
    omega arith

-- sums of columns of which one is nowhere above the other,
pub sum_below-most : (n : ℕ) (f g : ℕ → ℕ) → ((j : ℕ) → f j ≤ g j) → sum_below n f ≤ sum_below n g
unfolding sum_below
sum_below-most zero f g h = omega arith
sum_below-most (suc n) f g h = let rest = sum_below-most n f g h in omega (arith, h n)

-- doubled,
pub sum_below-twice : (n : ℕ) (f : ℕ → ℕ) → sum_below n (λ j. 2 * f j) ≡ 2 * sum_below n f
unfolding sum_below
sum_below-twice zero f = refl
sum_below-twice (suc n) f = omega (arith, sum_below-twice n f)

-- and somewhere below it
sum_below-less : (n : ℕ) (f g : ℕ → ℕ) (i : ℕ) → ((j : ℕ) → f j ≤ g j) → i < n → f i < g i
    → sum_below n f < sum_below n g
unfolding sum_below
sum_below-less zero f g i h l k = absurd (omega arith)
sum_below-less (suc n) f g i h l k =
    elim (cases_eq i n) [
      | inl e ↦ let here : f n < g n = subst (λ j. f j < g j) e k in omega (arith, here, sum_below-most n f g h)
      | inr e ↦ let rest = sum_below-less n f g i h (omega arith) k in omega (arith, rest, h n)
    ]

-- the operations of all threads, thread by thread
abbrev operations_at : List ThreadDecl → ℕ → List Op
operations_at ds t = unwrap_or (slice_get (map (λ d. d.ops) ds) t) []

pub in_all : (ds : List ThreadDecl)
    → sum_by (λ d. length d.ops) ds ≡ sum_below (length ds) (λ t. length (operations_at ds t))
unfolding sum_below
in_all [] = refl
in_all (d ∷ ds) = sum_by-cons (λ (d : ThreadDecl). length d.ops) d ds ∙ ap (λ n. length d.ops + n) (in_all ds)
    ∙ sym (sum_below-first (length ds) (λ t. length (operations_at (d ∷ ds) t)))

-- 2. The entries that lead a thread to a point

-- how many locks it holds there
abbrev held_at : List Op → Point → ℕ
held_at ops (Before n) = length (held_of ops n)
held_at ops (Asleep n) = length (held_of ops n)
held_at ops (Cut hs) = length hs

-- how many entries lead there at most, with those locks
abbrev most_at : List Op → Point → ℕ
most_at ops (Before n) = 2 * n
most_at ops (Asleep n) = 2 * n + 1
most_at ops (Cut hs) = 2 * length ops

-- an operation gains one lock at most
gains_one : (o : OfLocks) (hs : List Held) → length (held_after o hs) ≤ length hs + 1
gains_one NoLock hs = omega arith
gains_one (Acquires h) hs = omega (arith, length-append hs (h ∷ []))
gains_one ClosesBlock hs = omega arith
gains_one (Releases l) hs = omega (arith, fewer_without l.0 hs)
gains_one (EditsAt l key) hs = omega arith
gains_one (ReadsAt l key) hs = omega arith
gains_one (SleepsOn d) hs = omega arith
gains_one (WakesOn d) hs = omega arith

-- a thread's entries are few at a point, which is within its operations
pub record AreFew (ops : List Op) (entries : ℕ) (point : Point) : Type 0 where
  pub few : entries + held_at ops point ≤ most_at ops point
  pub within : most_at ops point ≤ 2 * length ops

module _ (plan : Plan) (p : IsProper plan) (t : ℕ) where
  abbrev ops : List Op
  ops = operations_of plan t

  abbrev held : ℕ → ℕ
  held n = length (held_of ops n)

  next_held : (n : ℕ) (op : Op) → slice_get ops n ≡ Some op → held (suc n) ≤ held n + 1
  next_held n op e =
      omega (arith, ap length (next_leads plan p t n op e).behind, gains_one (of_locks op) (held_of ops n))

  -- the first entry of an operation leads on
  gives_few : (n : ℕ) (op : Op) (e : Event) (point : Point) (m : ℕ)
      → Gives (config_of plan).kind (held_of ops n) n op e point → slice_get ops n ≡ Some op → m + held n ≤ 2 * n
      → AreFew ops (suc m) point
  gives_few n _ _ _ m (law.is_reversed l mode class) e h =
      record { few = omega (arith, length-reverse (held_of ops n), slice_get_within ops n _ e); within = omega arith }
  gives_few n _ _ _ m (law.is_halted l mode sx) e h =
      record { few = omega (arith, length-reverse (held_of ops n), slice_get_within ops n _ e); within = omega arith }
  gives_few n _ _ _ m (law.finds_busy l mode past seen w f a) e h =
      let b = try_passes plan p t n l mode past e in
      record { few = omega (arith, b.further, ap length b.leaves); within = omega (arith, b.within) }
  gives_few n _ _ _ m (law.sleeps d) e h =
      record { few = omega arith; within = omega (arith, slice_get_within ops n _ e) }
  gives_few n op event point m gives e h =
      record { few = omega (arith, next_held n op e); within = omega (arith, slice_get_within ops n op e) }

  -- so do all of them
  pub leads_few : (es : List Entry) (point : Point) → LeadsTo (config_of plan).kind ops es point
      → AreFew ops (length es) point
  leads_few _ _ law.begins = record { few = omega arith; within = omega arith }
  leads_few _ _ (law.goes_on {es} {n} {o = op} {p = point} e l next gives) =
      gives_few n op e.event point (length es) gives next (leads_few es (Before n) l).few
  leads_few es _ (law.skips_endtry {n = n} l next) =
      let before = leads_few es (Before n) l in
      record {
        few = omega (arith, next_held n EndTry next, before.few);
        within = omega (arith, slice_get_within ops n EndTry next);
      }
  leads_few _ _ (law.wakes_up {es} {n} {d} e l next its) =
      let before = leads_few es (Asleep n) l in
      record {
        few = omega (arith, ap length (next_leads plan p t n (Sleep d) next).behind, before.few);
        within = omega (arith, slice_get_within ops n (Sleep d) next);
      }
  leads_few _ _ (law.is_woken_by_a_halt {es} {n} {d} e l next its) =
      let before = leads_few es (Asleep n) l in
      record {
        few = omega (arith, length-reverse (held_of ops n), slice_get_within ops n (Sleep d) next, before.few);
        within = omega arith;
      }
  leads_few _ _ (law.gives_back {es} {h} {hs} e l its) =
      let before = leads_few es (Cut (h ∷ hs)) l in
      record { few = omega (arith, before.few); within = omega arith }

-- 3. The entries of a run

-- one entry more, of a thread below n
one_entry : (n t : ℕ) (f : ℕ → ℕ) → t < n → sum_below n (λ u. cond (eqb t u) (suc (f u)) (f u)) ≡ suc (sum_below n f)
one_entry n t f lt =
    let g : ℕ → ℕ = λ u. cond (eqb t u) (suc (f u)) (f u) in
    let here : g t ≡ suc (f t) = ap (λ b. cond b (suc (f t)) (f t)) (eq-eqb t t refl) in
    omega (arith, sum_below-change n f g t lt (λ u ne. sym (ap (λ b. cond b (suc (f u)) (f u)) (ne_eqb t u ne))), here)

-- how many entries a thread has, with one more that is its own or not
with_entry : (b : Bool) (e : Entry) (es : List Entry)
    → length (cond b (e ∷ es) es) ≡ cond b (suc (length es)) (length es)
with_entry true e es = refl
with_entry false e es = refl

-- where no other threads than those below n have entries, all entries are theirs, and each entry is of one of them
pub record AreOf (n : ℕ) (es : List Entry) : Type 0 where
  pub count : length es ≡ sum_below n (λ u. length (entries_of es u))
  pub threads : All (λ (e : Entry). e.thread.0 < n) es

pub counted : (n : ℕ) (es : List Entry) → ((u : ℕ) → n ≤ u → length (entries_of es u) ≡ 0) → AreOf n es
counted n [] none =
    record { count = sym (sum_below-zero n (λ u. 0) (λ j l. refl)); threads = All-nil (λ (e : Entry). e.thread.0 < n) }
counted n (e ∷ es) none =
    grown (counted n es (λ u l. (rest (eqb t u) u (sym (with_entry (eqb t u) e (entries_of es u)) ∙ none u l)).1))
  where
    t : ℕ
    t = e.thread.0

    rest : (b : Bool) (u : ℕ) → cond b (suc (length (entries_of es u))) (length (entries_of es u)) ≡ 0
        → (b ≡ false) × (length (entries_of es u) ≡ 0)
    rest true u z = absurd (omega arith)
    rest false u z = (refl, z)

    its : n ≤ t → ⊥
    its l =
        let z = (rest (eqb t t) t (sym (with_entry (eqb t t) e (entries_of es t)) ∙ none t l)).0 in
        true≢false (sym (eq-eqb t t refl) ∙ z)

    below : t < n
    below = elim (cases_lt t n) [ inl l ↦ l | inr l ↦ absurd (its l) ]

    grown : AreOf n es → AreOf n (e ∷ es)
    grown before = record {
      count =
          ap suc before.count
          ∙ sym (one_entry n t (λ u. length (entries_of es u)) below)
          ∙ sum_below-same n _ (λ u. length (entries_of (e ∷ es) u))
          (λ u l. sym (with_entry (eqb t u) e (entries_of es u)));
      threads = All-cons (λ (x : Entry). x.thread.0 < n) e es below before.threads;
    }

module _ (plan : Plan) (r : Run) (p : IsProper plan) (k : IsOnTrack plan r) where
  abbrev its_ops : ℕ → List Op
  its_ops u = operations_of plan u

  abbrev entries : ℕ → ℕ
  entries u = length (entries_of r.state.history u)

  led : (u : ℕ) → AreFew (its_ops u) (entries u) (point_in plan r u)
  led u = leads_few plan p u (entries_of r.state.history u) (point_in plan r u) (k.follows u)

  -- so each thread has two entries for an operation at most, and one without operations none
  each_few : (u : ℕ) → entries u ≤ 2 * length (its_ops u)
  each_few u = omega (arith, (led u).few, (led u).within)

  none_beyond : (u : ℕ) → length plan.threads ≤ u → entries u ≡ 0
  none_beyond u l =
      let none : its_ops u ≡ [] =
      ap (λ (o : Option (List Op)). unwrap_or o [])
      (slice_get_past (map (λ (d : ThreadDecl). d.ops) plan.threads) u
      (omega (arith, length-map plan.threads (λ (d : ThreadDecl). d.ops)))) in
      omega (arith, each_few u, ap length none)

  -- where one thread has fewer there is room for an entry
  room : (t : ℕ) → t < length plan.threads → entries t < 2 * length (its_ops t)
      → length r.state.history < 2 * operations_in_all plan
  room t lt fewer =
      let most = sum_below-less (length plan.threads) entries (λ u. 2 * length (its_ops u)) t each_few lt fewer in
      omega (
        arith,
        (counted (length plan.threads) r.state.history none_beyond).count,
        most,
        sum_below-twice
            (length plan.threads) (λ u. length (its_ops u)),
        sum-map (λ (d : ThreadDecl). length d.ops) plan.threads,
        in_all plan.threads,
      )

  -- as one that has an operation left,
  left_fewer : (t : ℕ) → was_cut r.state t ≡ false → r.next_op t < length (its_ops t)
      → entries t < 2 * length (its_ops t)
  left_fewer t uncut left = go (waits_on (r.state.log t)) refl
    where
      go : (o : Option ℕ) → waits_on (r.state.log t) ≡ o → entries t < 2 * length (its_ops t)
      go None e = let few : entries t + length (held_of (its_ops t) (r.next_op t)) ≤ 2 * r.next_op t =
          rw (uncut, e) at (led t).few in omega arith
      go (Some d) e = let few : entries t + length (held_of (its_ops t) (r.next_op t)) ≤ 2 * r.next_op t + 1 =
          rw (uncut, e) at (led t).few in omega arith

  -- or one that was cut and holds a lock
  cut_fewer : (t : ℕ) → was_cut r.state t ≡ true → r.state.held_locks t ≢ [] → entries t < 2 * length (its_ops t)
  cut_fewer t cut holds = go (held_now plan r t) refl
    where
      point : Bool → Point
      point b = point_by b (held_now plan r t) (r.next_op t) (waits_on (r.state.log t))

      few : entries t + length (reverse (held_now plan r t)) ≤ 2 * length (its_ops t)
      few = subst (λ b. entries t + held_at (its_ops t) (point b) ≤ most_at (its_ops t) (point b)) cut (led t).few

      go : (hs : List Held) → held_now plan r t ≡ hs → entries t < 2 * length (its_ops t)
      go [] e = absurd (holds (k.listed t ∙ ap gained_order e))
      go (h ∷ hs) e = omega (arith, few, length-reverse (held_now plan r t), ap length e)

pub entries_below : (plan : Plan) (r : Run) (t : ℕ) → IsProper plan → IsOnTrack plan r → t < length plan.threads
    → was_cut r.state t ≡ false
    → r.next_op t < length (operations_of plan t) → length r.state.history < 2 * operations_in_all plan
entries_below plan r t p k lt uncut left = room plan r p k t lt (left_fewer plan r p k t uncut left)

pub cut_entries_below : (plan : Plan) (r : Run) (t : ℕ) → IsProper plan → IsOnTrack plan r → t < length plan.threads
    → was_cut r.state t ≡ true
    → r.state.held_locks t ≢ [] → length r.state.history < 2 * operations_in_all plan
cut_entries_below plan r t p k lt cut holds = room plan r p k t lt (cut_fewer plan r p k t cut holds)

-- the operation that is left is not the last that can be
pub next_op_below : (plan : Plan) (r : Run) (t : ℕ) → IsProper plan → IsOnTrack plan r → t < length plan.threads
    → r.next_op t < length (operations_of plan t) → r.next_op t < 20000
next_op_below plan r t p k lt left =
    omega (
      arith,
      p.operations,
      sum-map (λ (d : ThreadDecl). length d.ops) plan.threads,
      in_all plan.threads,
      sum_below-at (length plan.threads) (λ u. length (operations_of plan u)) t lt,
    )

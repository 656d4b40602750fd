-- Where sleep queues and nodes are, while threads lie down and get up: each is in one place.
use Rattle.std.proofs.Common.{◌≡◌, ◌≢◌, ℕ, zero, suc, ◌+◌, ◌≤◌, ◌<◌, true, false, cond, eqb, nat_lt, List, [], ◌∷◌, length, map, set, slice_get, unwrap_or, option_map, Option, None, Some, IsSome, refl, sym, ap, subst, arith, ◌∙◌, inl, inr, eq-eqb}
use Rattle.std.specs.Prelude.{is_some}
use Rattle.std.proofs.lemmas.Bool.{cases_Bool, cases_eq, ne_eqb}
use Rattle.std.proofs.lemmas.Bool.Decides.{nat_tests}
use Rattle.lock_model.specs.Counts.{one, some, times, at_option}
use Rattle.lock_model.specs.Queues.{Waiter, times_waiting, handed_out, free_after, is_queue, chan_queue}
use Rattle.lock_model.specs.declared.plan.QueueName.{QueueName}
use Rattle.sleep_queues.specs.Seen.{SleepQueue, Place}
use Rattle.sleep_queues.specs.Lists.{place, with_last, LastHasNone, AllButLastHold}
use Rattle.wait_objects.specs.Seen.{Kept}
use Rattle.chain_table.specs.Chains.{head_of, without}
use Rattle.chain_table.proofs.Names.{Decides-is_queue}
use Rattle.tick_sleep.specs.Tables.{lying_at, home_at, times_lying, lent, times_lent, times_home, AreHeads, kept_by, homes_with, CanGoHome}
use Rattle.tick_sleep.proofs.Buckets.{set_here, set_there}

-- 1. The chain without a head

abbrev pub lent_at : Option SleepQueue → List ℕ
lent_at None = []
lent_at (Some h) = lent h.contents

pub lying-without : (t : ℕ) (q : QueueName) (es : List (QueueName × SleepQueue))
    → times_lying t (without q es) + times_waiting t (lying_at (head_of q es)) ≡ times_lying t es
lying-without t q [] = refl
lying-without t q (e ∷ es) =
    let m = lying-without t q es in
    elim (is_queue q e.0) as
    (λ b. times_lying t (cond b es (e ∷ without q es)) + times_waiting t
    (lying_at (cond b (Some e.1) (head_of q es))) ≡ times_waiting t e.1.contents.exclusive + times_lying t es) [
      | true ↦ omega arith
      | false ↦ omega arith
    ]

pub lent-without : (x : ℕ) (q : QueueName) (es : List (QueueName × SleepQueue))
    → times_lent x (without q es) + times x (lent_at (head_of q es)) ≡ times_lent x es
lent-without x q [] = refl
lent-without x q (e ∷ es) =
    let m = lent-without x q es in
    elim (is_queue q e.0) as
    (λ b. times_lent x (cond b es (e ∷ without q es)) + times x (lent_at (cond b (Some e.1) (head_of q es))) ≡ times
    x (lent e.1.contents) + times_lent x es) [
      | true ↦ omega arith
      | false ↦ omega arith
    ]

pub heads-without : (q : QueueName) (es : List (QueueName × SleepQueue)) → AreHeads es → AreHeads (without q es)
heads-without q [] h = tt
heads-without q (e ∷ es) h = elim (is_queue q e.0) as (λ b. AreHeads (cond b es (e ∷ without q es))) [
  | true ↦ h.2
  | false ↦ (h.0, h.1, heads-without q es h.2)
]

pub head_found : (q : QueueName) (es : List (QueueName × SleepQueue)) (h : SleepQueue) → AreHeads es
    → head_of q es ≡ Some h → (h.contents.exclusive ≢ []) × (h.contents.shared ≡ [])
head_found q [] h a e = absurd cc
head_found q (x ∷ es) h a e = elim (cases_Bool (is_queue q x.0)) [
  | inl i ↦ let same : x.1 ≡ h = pick_same (rw i at e) in
      subst (λ (s : SleepQueue). (s.contents.exclusive ≢ []) × (s.contents.shared ≡ [])) same (a.0, a.1)
  | inr i ↦ head_found q es h a.2 (rw i at e)
]
  where
    pick : Option SleepQueue → SleepQueue
    pick None = h
    pick (Some s) = s

    pick_same : ◌≡◌ {A = Option SleepQueue} (Some x.1) (Some h) → x.1 ≡ h
    pick_same j = ap pick j

-- 2. What lies on each key

pub other_queue : (j k : ℕ) → j ≢ k → is_queue (chan_queue j) (chan_queue k) ≡ false
other_queue j k ne = ne_eqb j k ne

pub same_queue : (k : ℕ) → is_queue (chan_queue k) (chan_queue k) ≡ true
same_queue k = eq-eqb k k refl

pub head-others : (r q : QueueName) (es : List (QueueName × SleepQueue)) → is_queue r q ≡ false
    → head_of r (without q es) ≡ head_of r es
head-others r q [] ne = refl
head-others r q (e ∷ es) ne = elim (cases_Bool (is_queue q e.0)) [
  | inl i ↦ let same : q ≡ e.0 = (Decides-is_queue q e.0).0 i in let other : is_queue r e.0 ≡ false =
      ap (is_queue r) (sym same) ∙ ne in rw (i, other) refl
  | inr i ↦ rw i (ap (λ (o : Option SleepQueue). cond (is_queue r e.0) (Some e.1) o) (head-others r q es ne))
]

-- 3. Homes

module _ (homes : List (Option Kept)) where
  pub home_set : (t : ℕ) (o : Option Kept) → t < length homes → home_at t (set homes t o) ≡ o
  home_set t o l = ap (λ (r : Option (Option Kept)). unwrap_or r None) (set_here homes t o l)

  pub home_other : (t u : ℕ) (o : Option Kept) → t ≢ u → home_at u (set homes t o) ≡ home_at u homes
  home_other t u o ne = ap (λ (r : Option (Option Kept)). unwrap_or r None) (set_there homes t u o ne)

pub home_within : (homes : List (Option Kept)) (t : ℕ) (k : Kept) → home_at t homes ≡ Some k → t < length homes
home_within [] t k e = absurd cc
home_within (o ∷ homes) zero k e = omega arith
home_within (o ∷ homes) (suc t) k e = let m = home_within homes t k e in omega arith

pub nothing_there : (homes : List (Option Kept)) (t : ℕ) → t < length homes → some (home_at t homes) ≡ 0
    → slice_get homes t ≡ Some None
nothing_there [] t l e = absurd (omega arith)
nothing_there (None ∷ homes) zero l e = refl
nothing_there (Some k ∷ homes) zero l e = absurd (omega arith)
nothing_there (o ∷ homes) (suc t) l e = nothing_there homes t (omega arith) e

pub some_there : (homes : List (Option Kept)) (t : ℕ) → t < length homes → slice_get homes t ≡ Some (home_at t homes)
some_there [] t l = absurd (omega arith)
some_there (o ∷ homes) zero l = refl
some_there (o ∷ homes) (suc t) l = some_there homes t (omega arith)

abbrev pub at_home : ℕ → Option Kept → ℕ
at_home x o = at_option x (option_map (λ (k : Kept). k.object) o)

pub times_home-set : (x : ℕ) (homes : List (Option Kept)) (t : ℕ) (o : Option Kept) → t < length homes
    → times_home x (set homes t o) + at_home x (home_at t homes) ≡ times_home x homes + at_home x o
times_home-set x [] t o l = absurd (omega arith)
times_home-set x (p ∷ homes) zero o l = omega arith
times_home-set x (p ∷ homes) (suc t) o l = let m = times_home-set x homes t o (omega arith) in omega arith

pub some_is : (o : Option Kept) → is_some o ≡ nat_lt 0 (some o)
some_is None = refl
some_is (Some k) = refl

-- 4. Those that were taken off

abbrev pub times_going : ℕ → List Place → ℕ
times_going u [] = 0
times_going u (p ∷ ps) = one (eqb u p.thread) + times_going u ps

abbrev pub times_object : ℕ → List Place → ℕ
times_object x [] = 0
times_object x (p ∷ ps) = at_option x p.object + times_object x ps

abbrev pub AllHold : List Place → Type 0
AllHold [] = Unit {0}
AllHold (p ∷ ps) = IsSome p.object × AllHold ps

abbrev pub places : List Waiter → List ℕ → List Place
places ws ns = map place (handed_out ws ns None)

pub going_are : (u : ℕ) (ws : List Waiter) (ns : List ℕ) → times_going u (places ws ns) ≡ times_waiting u ws
going_are u [] ns = refl
going_are u (w ∷ ws) [] = ap (λ n. one (eqb u w.thread) + n) (going_are u ws [])
going_are u (w ∷ ws) (n ∷ ns) = ap (λ m. one (eqb u w.thread) + m) (going_are u ws ns)

pub objects_are : (x : ℕ) (ws : List Waiter) (ns : List ℕ)
    → times_object x (places ws ns) + times x (free_after ws ns) ≡ times x ns
objects_are x [] ns = omega arith
objects_are x (w ∷ ws) [] = let m = objects_are x ws [] in let n = no_free ws in omega arith
  where
    no_free : (vs : List Waiter) → times x (free_after vs []) ≡ 0
    no_free [] = refl
    no_free (v ∷ vs) = refl
objects_are x (w ∷ ws) (n ∷ ns) = let m = objects_are x ws ns in omega arith

pub going_last : (u n : ℕ) (ps : List Place) → times_going u (with_last n ps) ≡ times_going u ps
going_last u n [] = refl
going_last u n (p ∷ []) = refl
going_last u n (p ∷ q ∷ ps) = ap (λ m. one (eqb u p.thread) + m) (going_last u n (q ∷ ps))

pub objects_last : (x n : ℕ) (ps : List Place) → LastHasNone ps
    → times_object x (with_last n ps) ≡ times_object x ps + one (eqb x n)
objects_last x n [] h = absurd h
objects_last x n (p ∷ []) h = let z = ap (at_option x) h in omega arith
objects_last x n (p ∷ q ∷ ps) h = let m = objects_last x n (q ∷ ps) h in omega arith

pub hold_last : (n : ℕ) (ps : List Place) → AllButLastHold ps → AllHold (with_last n ps)
hold_last n [] h = tt
hold_last n (p ∷ []) h = (refl, tt)
hold_last n (p ∷ q ∷ ps) h = (h.0, hold_last n (q ∷ ps) h.1)

has_some : (o : Option ℕ) → (o ≡ None → ⊥) → IsSome o
has_some None h = absurd (h refl)
has_some (Some x) h = refl

pub hold_others : (ps : List Place) → AllButLastHold ps → (LastHasNone ps → ⊥) → AllHold ps
hold_others [] h none = tt
hold_others (p ∷ []) h none = (has_some p.object none, tt)
hold_others (p ∷ q ∷ ps) h none = (h.0, hold_others (q ∷ ps) h.1 none)

kept_some : (p : Place) → IsSome p.object → (some (kept_by p) ≡ 1)
    × ((x : ℕ) → at_home x (kept_by p) ≡ at_option x p.object)
kept_some p h = go p.object h
  where
    go : (o : Option ℕ) → IsSome o
        → (some (option_map (λ (x : ℕ). let k : Kept = record { object = x; thread = p.thread } in k) o) ≡ 1)
        × ((x : ℕ) → at_option x
        (option_map (λ (k : Kept). k.object)
        (option_map (λ (x : ℕ). let k : Kept = record { object = x; thread = p.thread } in k) o)) ≡ at_option x o)
    go None s = absurd cc
    go (Some y) s = (refl, λ x. refl)

pub length_set : (homes : List (Option Kept)) (t : ℕ) (o : Option Kept) → length (set homes t o) ≡ length homes
length_set [] t o = refl
length_set (p ∷ homes) zero o = refl
length_set (p ∷ homes) (suc t) o = ap suc (length_set homes t o)

-- at most one node of each thread is at home or on its way
abbrev pub FitsHome : List Place → List (Option Kept) → Type 0
FitsHome ps homes = (u : ℕ) → some (home_at u homes) + times_going u ps ≤ one (nat_lt u (length homes))

fits_next : (p : Place) (ps : List Place) (homes : List (Option Kept)) → IsSome p.object → FitsHome (p ∷ ps) homes
    → (p.thread < length homes) × (some (home_at p.thread homes) ≡ 0) × FitsHome ps (set homes p.thread (kept_by p))
fits_next p ps homes h fits =
    let here = fits p.thread in
    let mine : one (eqb p.thread p.thread) ≡ 1 = ap one (eq-eqb p.thread p.thread refl) in
    let within : p.thread < length homes = grind (arith, nat_tests, here, mine) in
    let empty : some (home_at p.thread homes) ≡ 0 = grind (arith, nat_tests, here, mine) in (
      within,
      empty,
      λ u.
          let there = fits u in
          let size = length_set homes p.thread (kept_by p) in
          elim (cases_eq u p.thread) [
            | inl e ↦
                let now : some (home_at u (set homes p.thread (kept_by p))) ≡ 1 =
                ap (λ v. some (home_at v (set homes p.thread (kept_by p)))) e
                ∙ ap some (home_set homes p.thread (kept_by p) within) ∙ (kept_some p h).0 in
                let c : one (eqb u p.thread) ≡ 1 = ap one (eq-eqb u p.thread e) in
                rw size (omega (arith, there, now, c))
            | inr ne ↦
                let same : some (home_at u (set homes p.thread (kept_by p))) ≡ some (home_at u homes) =
                ap some (home_other homes p.thread u (kept_by p) (λ i. ne (sym i))) in
                let c : one (eqb u p.thread) ≡ 0 = ap one (ne_eqb u p.thread ne) in
                rw size (omega (arith, there, same, c))
          ],
    )

pub can_go : (ps : List Place) (homes : List (Option Kept)) → AllHold ps → FitsHome ps homes → CanGoHome ps homes
can_go [] homes h fits = tt
can_go (p ∷ ps) homes h fits =
    let n = fits_next p ps homes h.0 fits in
    (h.0, nothing_there homes p.thread n.0 n.1, can_go ps (set homes p.thread (kept_by p)) h.1 n.2)

pub size_with : (ps : List Place) (homes : List (Option Kept)) → length (homes_with ps homes) ≡ length homes
size_with [] homes = refl
size_with (p ∷ ps) homes = size_with ps (set homes p.thread (kept_by p)) ∙ length_set homes p.thread (kept_by p)

pub nodes_with : (ps : List Place) (homes : List (Option Kept)) → AllHold ps → FitsHome ps homes → (u : ℕ)
    → some (home_at u (homes_with ps homes)) ≡ some (home_at u homes) + times_going u ps
nodes_with [] homes h fits u = omega arith
nodes_with (p ∷ ps) homes h fits u =
    let n = fits_next p ps homes h.0 fits in
    let more = nodes_with ps (set homes p.thread (kept_by p)) h.1 n.2 u in
    elim (cases_eq u p.thread) [
      | inl e ↦
          let now : some (home_at u (set homes p.thread (kept_by p))) ≡ 1 =
          ap (λ v. some (home_at v (set homes p.thread (kept_by p)))) e
          ∙ ap some (home_set homes p.thread (kept_by p) n.0) ∙ (kept_some p h.0).0 in
          let was : some (home_at u homes) ≡ 0 = ap (λ v. some (home_at v homes)) e ∙ n.1 in
          let c : one (eqb u p.thread) ≡ 1 = ap one (eq-eqb u p.thread e) in
          omega (arith, more, now, was, c)
      | inr ne ↦
          let same : some (home_at u (set homes p.thread (kept_by p))) ≡ some (home_at u homes) =
          ap some (home_other homes p.thread u (kept_by p) (λ i. ne (sym i))) in
          let c : one (eqb u p.thread) ≡ 0 = ap one (ne_eqb u p.thread ne) in
          omega (arith, more, same, c)
    ]

none_at : (x : ℕ) (o : Option Kept) → some o ≡ 0 → at_home x o ≡ 0
none_at x None e = refl
none_at x (Some k) e = absurd (omega arith)

pub objects_with : (ps : List Place) (homes : List (Option Kept)) → AllHold ps → FitsHome ps homes → (x : ℕ)
    → times_home x (homes_with ps homes) ≡ times_home x homes + times_object x ps
objects_with [] homes h fits x = omega arith
objects_with (p ∷ ps) homes h fits x =
    let n = fits_next p ps homes h.0 fits in
    let more = objects_with ps (set homes p.thread (kept_by p)) h.1 n.2 x in
    let here = times_home-set x homes p.thread (kept_by p) n.0 in
    let was = none_at x (home_at p.thread homes) n.1 in
    let now = (kept_some p h.0).1 x in
    omega (arith, more, here, was, now)

abbrev pub AreOwn : List (Option Kept) → Type 0
AreOwn homes = (t : ℕ) (k : Kept) → home_at t homes ≡ Some k → k.thread ≡ t

kept_own : (p : Place) (k : Kept) → kept_by p ≡ Some k → k.thread ≡ p.thread
kept_own p k e = go p.object e
  where
    pick : Option Kept → ℕ
    pick None = p.thread
    pick (Some j) = j.thread

    go : (o : Option ℕ) → option_map (λ (x : ℕ). let j : Kept = record { object = x; thread = p.thread } in j) o ≡ Some
        k → k.thread ≡ p.thread
    go None i = absurd cc
    go (Some x) i = sym (ap pick i)

pub own_set : (homes : List (Option Kept)) (t : ℕ) (o : Option Kept) → t < length homes
    → ((k : Kept) → o ≡ Some k → k.thread ≡ t) → AreOwn homes → AreOwn (set homes t o)
own_set homes t o l mine own = λ u k e. elim (cases_eq u t) [
  | inl i ↦ mine k (sym (ap (λ v. home_at v (set homes t o)) i ∙ home_set homes t o l) ∙ e) ∙ sym i
  | inr ne ↦ own u k (sym (home_other homes t u o (λ i. ne (sym i))) ∙ e)
]

pub own_with : (ps : List Place) (homes : List (Option Kept)) → AllHold ps → FitsHome ps homes → AreOwn homes
    → AreOwn (homes_with ps homes)
own_with [] homes h fits own = own
own_with (p ∷ ps) homes h fits own =
    let n = fits_next p ps homes h.0 fits in
    own_with ps (set homes p.thread (kept_by p)) h.1 n.2 (own_set homes p.thread (kept_by p) n.0 (kept_own p) own)

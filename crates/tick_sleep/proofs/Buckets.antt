-- The buckets of the wheel, where a sleeper comes, goes, or is the next of its tick.
use Rattle.std.proofs.Common.{◌≡◌, ◌≢◌, ℕ, zero, suc, ◌+◌, ◌%◌, ◌≤◌, ◌<◌, true, false, ◌==◌, cond, eqb, List, [], ◌∷◌, ◌++◌, length, replicate, set, find, option_map, slice_get, unwrap_or, Option, None, Some, refl, sym, ap, subst, arith, ◌∙◌, inl, inr, eq-eqb}
use Rattle.std.proofs.lemmas.Bool.{cases_eq, ne_eqb}
use Rattle.std.proofs.lemmas.Grind.{flat_map-append}
use Rattle.lock_model.specs.declared.numbers.ThreadNo.{ThreadNo}
use Rattle.tick_sleep.specs.Limits.{round}
use Rattle.tick_sleep.specs.declared.plan.TickSleeper.{TickSleeper}
use Rattle.tick_sleep.specs.declared.wheel.Callout.{Callout}
use Rattle.tick_sleep.specs.Ticks.{is_of, without}
use Rattle.tick_sleep.specs.Wheels.{bucket_at, without_callout, callout_due, callout_in, callouts_in, ShowsSleepers}
use Rattle.tick_sleep.specs.Rolls.{is_tick, first_at}
use Rattle.tick_sleep.proofs.Once.{found_cases, is_of-same}

-- 1. Places of a list

module _ {A : Type 0} where
  pub set_here : (xs : List A) (i : ℕ) (x : A) → i < length xs → slice_get (set xs i x) i ≡ Some x
  set_here [] i x l = absurd (omega arith)
  set_here (y ∷ xs) zero x l = refl
  set_here (y ∷ xs) (suc i) x l = set_here xs i x (omega arith)

  pub set_there : (xs : List A) (i j : ℕ) (x : A) → i ≢ j → slice_get (set xs i x) j ≡ slice_get xs j
  set_there [] i j x ne = refl
  set_there (y ∷ xs) zero zero x ne = absurd (ne refl)
  set_there (y ∷ xs) zero (suc j) x ne = refl
  set_there (y ∷ xs) (suc i) zero x ne = refl
  set_there (y ∷ xs) (suc i) (suc j) x ne = set_there xs i j x (λ e. ne (ap suc e))

-- 2. The bucket of a tick

pub shown_bucket : (wheel : List (List Callout)) (ss : List TickSleeper) (tick : ℕ) → tick % round < round
    → ShowsSleepers wheel ss → bucket_at tick wheel ≡ callouts_in (tick % round) ss
shown_bucket wheel ss tick l h = ap (λ (o : Option (List Callout)). unwrap_or o []) (h (tick % round) l)

into : (bucket : ℕ) (t : ThreadNo) (due : ℕ) → due % round ≡ bucket
    → callout_due bucket t (Some due) ≡ (record { t = t; due = due }) ∷ []
into bucket t due e = rw (eq-eqb (due % round) bucket e) refl

beside : (bucket : ℕ) (t : ThreadNo) (due : ℕ) → due % round ≢ bucket → callout_due bucket t (Some due) ≡ []
beside bucket t due ne = rw (ne_eqb (due % round) bucket ne) refl

-- 3. One comes

pub last_callouts : (bucket : ℕ) (ss : List TickSleeper) (s : TickSleeper)
    → callouts_in bucket (ss ++ s ∷ []) ≡ callouts_in bucket ss ++ callout_in bucket s
last_callouts bucket ss s = flat_map-append (callout_in bucket) ss (s ∷ [])
    ∙ ap (λ (cs : List Callout). callouts_in bucket ss ++ cs) (no_more (callout_in bucket s))
  where
    no_more : (cs : List Callout) → cs ++ [] ≡ cs
    no_more [] = refl
    no_more (c ∷ cs) = ap (λ (ds : List Callout). c ∷ ds) (no_more cs)

all_of : (cs : List Callout) → cs ++ [] ≡ cs
all_of [] = refl
all_of (c ∷ cs) = ap (λ (ds : List Callout). c ∷ ds) (all_of cs)

-- without a due tick it falls into none
pub untimed_comes : (wheel : List (List Callout)) (ss : List TickSleeper) (s : TickSleeper) → s.due ≡ None
    → ShowsSleepers wheel ss → ShowsSleepers wheel (ss ++ s ∷ [])
untimed_comes wheel ss s e h = λ bucket l.
    h bucket l ∙ ap (λ (cs : List Callout). Some cs)
    (sym (last_callouts bucket ss s ∙ ap (λ (o : Option ℕ). callouts_in bucket ss ++ callout_due bucket s.t o) e
    ∙ all_of (callouts_in bucket ss)))

pub timed_comes : (wheel : List (List Callout)) (ss : List TickSleeper) (s : TickSleeper) (due : ℕ) → s.due ≡ Some due
    → length wheel ≡ round → due % round < round → ShowsSleepers wheel ss
    → ShowsSleepers (set wheel (due % round) (bucket_at due wheel ++ (record { t = s.t; due = due }) ∷ []))
    (ss ++ s ∷ [])
timed_comes wheel ss s due e size small h = λ bucket l.
    let falls : callouts_in bucket (ss ++ s ∷ []) ≡ callouts_in bucket ss ++ callout_due bucket s.t (Some due) =
    last_callouts bucket ss s ∙ ap (λ (o : Option ℕ). callouts_in bucket ss ++ callout_due bucket s.t o) e in
    elim (cases_eq (due % round) bucket) [
      | inl i ↦
          let here = set_here wheel (due % round) (bucket_at due wheel ++ (record { t = s.t; due = due }) ∷ [])
          (omega arith) in
          let was = shown_bucket wheel ss due small h in
          ap (λ (b : ℕ). slice_get
          (set wheel (due % round) (bucket_at due wheel ++ (record { t = s.t; due = due }) ∷ [])) b) (sym i) ∙ here
          ∙ ap (λ (cs : List Callout). Some cs)
          (ap (λ (cs : List Callout). cs ++ (record { t = s.t; due = due }) ∷ [])
          (was ∙ ap (λ (b : ℕ). callouts_in b ss) i)
          ∙ sym (falls ∙ ap (λ (cs : List Callout). callouts_in bucket ss ++ cs) (into bucket s.t due i)))
      | inr ne ↦
          set_there wheel (due % round) bucket (bucket_at due wheel ++ (record { t = s.t; due = due }) ∷ []) ne
          ∙ h bucket l
          ∙ ap (λ (cs : List Callout). Some cs)
          (sym (falls ∙ ap (λ (cs : List Callout). callouts_in bucket ss ++ cs) (beside bucket s.t due ne)
          ∙ all_of (callouts_in bucket ss)))
    ]

-- there are no more callouts than sleepers
pub few_callouts : (bucket : ℕ) (ss : List TickSleeper) → length (callouts_in bucket ss) ≤ length ss
few_callouts bucket [] = omega arith
few_callouts bucket (s ∷ ss) = by s.due (few_callouts bucket ss)
  where
    by : (o : Option ℕ) → length (callouts_in bucket ss) ≤ length ss
        → length (callout_due bucket s.t o ++ callouts_in bucket ss) ≤ suc (length ss)
    by None l = omega arith
    by (Some due) l = elim (eqb (due % round) bucket) as
        (λ b. length (cond b ((record { t = s.t; due = due }) ∷ []) [] ++ callouts_in bucket ss) ≤ suc (length ss))
        [ true ↦ omega arith | false ↦ omega arith ]

-- 4. One goes

-- it isn't in the bucket
pub others_stay : (bucket : ℕ) (ss : List TickSleeper) (s : TickSleeper) → find (is_of s.t.0) ss ≡ Some s
    → callout_in bucket s ≡ [] → callouts_in bucket (without s.t.0 ss) ≡ callouts_in bucket ss
others_stay bucket [] s f none = refl
others_stay bucket (r ∷ ss) s f none = elim (found_cases (is_of s.t.0) r ss s f) [
  | inl g ↦ rw (g.1, is_of-same s.t.0 s refl, none) refl
  | inr g ↦ rw g.0 (ap (λ (cs : List Callout). callout_in bucket r ++ cs) (others_stay bucket ss s g.1 none))
]

-- or it is
pub callout_goes : (bucket : ℕ) (ss : List TickSleeper) (s : TickSleeper) (c : Callout) → find (is_of s.t.0) ss ≡ Some s
    → callout_in bucket s ≡ c ∷ [] → c.t.0 ≡ s.t.0
    → callouts_in bucket (without s.t.0 ss) ≡ without_callout s.t.0 (callouts_in bucket ss)
callout_goes bucket [] s c f here own = absurd cc
callout_goes bucket (r ∷ ss) s c f here own = elim (found_cases (is_of s.t.0) r ss s f) [
  | inl g ↦ rw (g.1, is_of-same s.t.0 s refl, here, eq-eqb c.t.0 s.t.0 own) refl
  | inr g ↦ rw g.0 (by r.due g.0 (callout_goes bucket ss s c g.1 here own))
]
  where
    by : (o : Option ℕ) → is_of s.t.0 r ≡ false
        → callouts_in bucket (without s.t.0 ss) ≡ without_callout s.t.0 (callouts_in bucket ss)
        → callout_due bucket r.t o ++ callouts_in bucket (without s.t.0 ss) ≡ without_callout s.t.0
        (callout_due bucket r.t o ++ callouts_in bucket ss)
    by None other more = more
    by (Some due) other more =
        elim (eqb (due % round) bucket) as
        (λ b. cond b ((record { t = r.t; due = due }) ∷ []) [] ++ callouts_in bucket (without s.t.0 ss) ≡
        without_callout s.t.0 (cond b ((record { t = r.t; due = due }) ∷ []) [] ++ callouts_in bucket ss)) [
          | true ↦ rw other (ap (λ (cs : List Callout). (record { t = r.t; due = due }) ∷ cs) more)
          | false ↦ more
        ]

pub untimed_goes : (wheel : List (List Callout)) (ss : List TickSleeper) (s : TickSleeper)
    → find (is_of s.t.0) ss ≡ Some s → s.due ≡ None → ShowsSleepers wheel ss → ShowsSleepers wheel (without s.t.0 ss)
untimed_goes wheel ss s f e h = λ bucket l. h bucket l
    ∙ ap (λ (cs : List Callout). Some cs) (sym (others_stay bucket ss s f (ap (callout_due bucket s.t) e)))

pub timed_goes : (wheel : List (List Callout)) (ss : List TickSleeper) (s : TickSleeper) (due : ℕ)
    → find (is_of s.t.0) ss ≡ Some s → s.due ≡ Some due → length wheel ≡ round → due % round < round
    → ShowsSleepers wheel ss
    → ShowsSleepers (set wheel (due % round) (without_callout s.t.0 (bucket_at due wheel))) (without s.t.0 ss)
timed_goes wheel ss s due f e size small h = λ bucket l.
    elim (cases_eq (due % round) bucket) [
      | inl i ↦
          let here = set_here wheel (due % round) (without_callout s.t.0 (bucket_at due wheel)) (omega arith) in
          let was = shown_bucket wheel ss due small h in
          ap (λ (b : ℕ). slice_get (set wheel (due % round) (without_callout s.t.0 (bucket_at due wheel))) b) (sym i)
          ∙ here
          ∙ ap (λ (cs : List Callout). Some cs)
          (ap (without_callout s.t.0) (was ∙ ap (λ (b : ℕ). callouts_in b ss) i)
          ∙ sym (callout_goes bucket ss s (record { t = s.t; due = due }) f
          (ap (callout_due bucket s.t) e ∙ into bucket s.t due i) refl))
      | inr ne ↦
          set_there wheel (due % round) bucket (without_callout s.t.0 (bucket_at due wheel)) ne ∙ h bucket l
          ∙ ap (λ (cs : List Callout). Some cs)
          (sym (others_stay bucket ss s f (ap (callout_due bucket s.t) e ∙ beside bucket s.t due ne)))
    ]

-- 5. The next of a tick

pub first_of_tick : (tick : ℕ) (ss : List TickSleeper)
    → option_map (λ (c : Callout). c.t) (find (λ (c : Callout). c.due == tick) (callouts_in (tick % round) ss)) ≡
    first_at tick ss
first_of_tick tick [] = refl
first_of_tick tick (s ∷ ss) = by s.due (first_of_tick tick ss)
  where
    thread : Option Callout → Option ThreadNo
    thread o = option_map (λ (c : Callout). c.t) o

    by : (o : Option ℕ) → thread (find (λ (c : Callout). c.due == tick) (callouts_in (tick % round) ss)) ≡ first_at tick
        ss
        → thread (find (λ (c : Callout). c.due == tick)
        (callout_due (tick % round) s.t o ++ callouts_in (tick % round) ss)) ≡ option_map (λ (r : TickSleeper). r.t)
        (cond (is_tick tick o) (Some s) (find (λ r. is_tick tick r.due) ss))
    by None more = more
    by (Some due) more = elim (cases_eq due tick) [
      | inl e ↦ rw (eq-eqb (due % round) (tick % round) (ap (λ (n : ℕ). n % round) e), eq-eqb due tick e) refl
      | inr ne ↦ rw (ne_eqb due tick ne)
          (elim (eqb (due % round) (tick % round)) as
          (λ b. thread (find (λ (c : Callout). c.due == tick)
          (cond b ((record { t = s.t; due = due }) ∷ []) [] ++ callouts_in (tick % round) ss)) ≡ first_at tick ss) [
            | true ↦ rw (ne_eqb due tick ne) more
            | false ↦ more
          ])
    ]

-- 6. No callouts

pub none_shown : ShowsSleepers (replicate round []) []
none_shown = λ bucket l. empties round bucket l
  where
    empties : (n i : ℕ) → i < n → slice_get (replicate {A = List Callout} n []) i ≡ Some []
    empties zero i l = absurd (omega arith)
    empties (suc n) zero l = refl
    empties (suc n) (suc i) l = empties n i (omega arith)

pub one_more_bucket : (n : ℕ) → replicate {A = List Callout} n [] ++ [] ∷ [] ≡ replicate (n + 1) []
one_more_bucket n = let next : suc n ≡ n + 1 = omega arith in
    subst (λ (m : ℕ). replicate {A = List Callout} n [] ++ [] ∷ [] ≡ replicate m []) next (go n)
  where
    go : (m : ℕ) → replicate {A = List Callout} m [] ++ [] ∷ [] ≡ replicate (suc m) []
    go zero = refl
    go (suc m) = ap (λ (bs : List (List Callout)). [] ∷ bs) (go m)

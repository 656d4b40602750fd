-- The entries below a ticket and those from it on, where tickets run: behind a new entry, at the end of the history,
-- and of a thread that has made none since.
use Rattle.std.proofs.Common.{◌≡◌, ℕ, ◌<◌, ◌≤◌, Bool, true, false, cond, eqb, List, [], ◌∷◌, length, Option, refl, sym, ap, inl, inr, arith, ◌∙◌}
use Rattle.std.proofs.lemmas.Bool.{cases_eq, cases_lt, ne_eqb}
use Rattle.std.proofs.lemmas.Bool.Decides.{nat_tests}
use Rattle.lock_model.specs.Config.{Config}
use Rattle.lock_model.specs.Counts.{is_empty}
use Rattle.lock_model.specs.Halts.{entries_below, entries_since, ends_asleep, is_sleeping, waits_for_another, is_honest_to, HaltsComeSince}
use Rattle.lock_model.specs.History.{TicketsRun, entries_of}
use Rattle.lock_model.specs.Law.{is_named}
use Rattle.lock_model.specs.declared.event.Entry.{Entry}
use Rattle.lock_state.specs.Facts.Halts.{NobodyIsHalted, has_cause}

-- 1. Where an entry comes

module _ (p : ℕ) (e : Entry) (es : List Entry) where
  pub below-new : p ≤ e.ticket → entries_below p (e ∷ es) ≡ entries_below p es
  unfolding entries_below
  below-new le = grind (arith, nat_tests)

  pub since-new : p ≤ e.ticket → entries_since p (e ∷ es) ≡ e ∷ entries_since p es
  unfolding entries_since
  since-new le = grind (arith, nat_tests)

  pub below-old : e.ticket < p → entries_below p (e ∷ es) ≡ e ∷ entries_below p es
  unfolding entries_below
  below-old le = grind (arith, nat_tests)

  pub since-old : e.ticket < p → entries_since p (e ∷ es) ≡ entries_since p es
  unfolding entries_since
  since-old le = grind (arith, nat_tests)

-- 2. At the end of a history

none_below : (p : ℕ) → entries_below p [] ≡ []
unfolding entries_below
none_below p = refl

none_from : (p : ℕ) → entries_since p [] ≡ []
unfolding entries_since
none_from p = refl

pub all_below : (p : ℕ) (es : List Entry) → TicketsRun es → length es ≤ p → entries_below p es ≡ es
unfolding TicketsRun
all_below p [] r le = none_below p
all_below p (e ∷ es) r le = below-old p e es (omega (arith, r.0, le))
    ∙ ap (λ xs. e ∷ xs) (all_below p es r.1 (omega (arith, le)))

pub none_since : (p : ℕ) (es : List Entry) → TicketsRun es → length es ≤ p → entries_since p es ≡ []
unfolding TicketsRun
none_since p [] r le = none_from p
none_since p (e ∷ es) r le = since-old p e es (omega (arith, r.0, le)) ∙ none_since p es r.1 (omega (arith, le))

-- where nobody was halted so far, each halt to come comes since any moment
pub halts_to_come : (c : Config) (p : ℕ) (es : List Entry) → NobodyIsHalted c es → HaltsComeSince c p es
unfolding HaltsComeSince NobodyIsHalted
halts_to_come c p [] n = tt
halts_to_come c p (e ∷ es) n = (
  λ x. absurd (let z : true ≡ false = sym x ∙ n.0 in cc),
  λ t x. absurd (let z : true ≡ false = sym x ∙ n.1 t in cc),
  halts_to_come c p es n.2,
)

-- 3. A thread that has made no entry since

module _ (p t : ℕ) where
  -- its entries are all below
  pub own_below : (es : List Entry) → is_empty (entries_of (entries_since p es) t) ≡ true
      → entries_of (entries_below p es) t ≡ entries_of es t
  own_below [] e = ap (λ xs. entries_of xs t) (none_below p)
  own_below (e ∷ es) none = elim (cases_lt e.ticket p) [
    | inl old ↦
        let a = below-old p e es old in
        let b = since-old p e es old in
        let rest = own_below es (ap (λ xs. is_empty (entries_of xs t)) (sym b) ∙ none) in
        ap (λ xs. entries_of xs t) a ∙ ap (λ xs. cond (eqb e.thread.0 t) (e ∷ xs) xs) rest
    | inr new ↦
        let a = below-new p e es new in
        let b = since-new p e es new in
        let s : is_empty (cond (eqb e.thread.0 t) (e ∷ entries_of (entries_since p es) t)
        (entries_of (entries_since p es) t)) ≡ true = ap (λ xs. is_empty (entries_of xs t)) (sym b) ∙ none in
        elim (cases_eq e.thread.0 t) [
          | inl x ↦ absurd (grind (arith, nat_tests, s, x))
          | inr x ↦
              let rest = own_below es (rw (ne_eqb e.thread.0 t x) at s) in
              ap (λ xs. entries_of xs t) a ∙ rest
              ∙ sym (ap (λ b. cond b (e ∷ entries_of es t) (entries_of es t)) (ne_eqb e.thread.0 t x))
        ]
  ]

  -- and where no waking names it since its last one, none below does
  pub unnamed_below : (es : List Entry) → is_empty (entries_of (entries_since p es) t) ≡ true
      → is_named es t ≡ false → is_named (entries_below p es) t ≡ false
  unfolding is_named
  unnamed_below [] none n = rw (none_below p) refl
  unnamed_below (e ∷ es) none n = elim (cases_lt e.ticket p) [
    | inl old ↦
        let b = since-old p e es old in
        let rest = unnamed_below es (ap (λ xs. is_empty (entries_of xs t)) (sym b) ∙ none) in
        rw (below-old p e es old) (grind (arith, n, rest))
    | inr new ↦
        let b = since-new p e es new in
        let s : is_empty (cond (eqb e.thread.0 t) (e ∷ entries_of (entries_since p es) t)
        (entries_of (entries_since p es) t)) ≡ true = ap (λ xs. is_empty (entries_of xs t)) (sym b) ∙ none in
        elim (cases_eq e.thread.0 t) [
          | inl x ↦ absurd (grind (arith, nat_tests, s, x))
          | inr x ↦
              let other = ne_eqb e.thread.0 t x in
              let rest = unnamed_below es (rw other at s) in
              rw (below-new p e es new) (rest (grind (arith, n, other)))
        ]
  ]

  -- so one that sleeps now slept then
  pub slept_then : (es : List Entry) → is_empty (entries_of (entries_since p es) t) ≡ true
      → is_sleeping es t ≡ true → is_sleeping (entries_below p es) t ≡ true
  slept_then es none a =
      let own = own_below es none in
      let z = ap ends_asleep own in
      let u = unnamed_below es none in
      grind (arith, a, z, u)

-- 4. What a cause is

-- a cause that doesn't rest on what is taken, or on the end, stays
pub cause_kept : (c : Config) (a b : Bool) (x y : Option ℕ) (p : ℕ) (es : List Entry) (t : ℕ)
    → (a ≡ true → b ≡ true)
    → (waits_for_another c (entries_below p es) t x ≡ true → waits_for_another c (entries_below p es) t y ≡ true)
    → has_cause c a x p es t ≡ true → has_cause c b y p es t ≡ true
cause_kept c a b x y p es t f g h = grind (arith, f, g, h)

-- it tells that a halt is honest
pub cause_honest : (c : Config) (a : Bool) (x : Option ℕ) (p : ℕ) (es : List Entry) (t : ℕ)
    → has_cause c a x p es t ≡ true → is_honest_to c p es t ≡ true
cause_honest c a x p es t h = grind (arith, h)

-- Laws of sections: who has one open holds the lock, and no two that exclude each other are open.
use Rattle.lock_laws.proofs.Names
use Names.{ℕ, cond, refl, sym, ap, eq-eqb, arith, sharers, Config, State, Hold, NotHeld, Holds, Sections, sections_in}
use Names.{sections_by, open_in, left_in, begun_by, IsAlone, IsInSection, IsReplayed, Asks, after_stamp, Lawful}
use Names.{SectionsAreHeld, OnlyThreadsHold, TablesReplay, Mode, Excl, Shared, Event}
use Rattle.std.proofs.Common.{◌≡◌, ◌∙◌}
use Rattle.lock_laws.proofs.Words.{owner_is, has_sharer}

module _ (c : Config) (s : State) (h : Lawful c s) where
  -- two threads hold a lock only where both share it
  pub apart : (t u l : ℕ) (mode : Mode) → s.held t l ≡ Holds Excl → s.held u l ≡ Holds mode → t ≡ u
  unfolding OnlyThreadsHold
  apart t u l Excl e f = let a = owner_is c s t l h e in let b = owner_is c s u l h f in cc
  apart t u l Shared e f =
      let a = ap sharers (owner_is c s t l h e) in
      let b = has_sharer c s u l h (h.words.only_threads_hold u l Shared f) f in
      absurd (omega arith)

  -- a section may begin where the lock is held in its mode and the thread has none open
  pub alone : (t l : ℕ) (mode : Mode) → s.held t l ≡ Holds mode → open_in c s.history t l ≡ NotHeld
      → IsAlone c s.history l mode
  unfolding SectionsAreHeld
  alone t l Shared e f = λ u x.
      let a = apart u t l Shared (h.books.sections_are_held u l Excl x) e in
      let b : open_in c s.history t l ≡ Holds Excl = rw (← a) x in
      absurd (let z : NotHeld ≡ Holds Excl = sym f ∙ b in cc)
  alone t l Excl e f = λ u. go u (open_in c s.history u l) refl
    where
      go : (u : ℕ) (x : Hold) → open_in c s.history u l ≡ x → x ≡ NotHeld
      go u NotHeld y = refl
      go u (Holds m) y =
          let a = apart t u l m e (h.books.sections_are_held u l m y) in
          let b : open_in c s.history t l ≡ Holds m = rw a y in
          absurd (let z : NotHeld ≡ Holds m = sym f ∙ b in cc)

  -- what an event needs where it begins a section
  pub begins_held : (t : ℕ) (e : Event) → Asks c s t e → (l : ℕ) (mode : Mode) → begun_by c e
      (left_in c s.history t l) l ≡ Holds mode → (s.held t l ≡ Holds mode) × (open_in c s.history t l ≡ NotHeld)
  begins_held t e a l mode f = grind arith

  -- the section that is open after an event is of a lock that is held
  pub sections_held : (t : ℕ) (e : Event) → Asks c s t e → (l : ℕ) (mode : Mode)
      → (sections_by c e l (sections_in c s.history t l)).now ≡ Holds mode → s.held t l ≡ Holds mode
  unfolding SectionsAreHeld
  sections_held t e a l mode x = grind arith

  pub asks_section : (t : ℕ) (e : Event) → Asks c s t e → IsInSection c e s.history t
  asks_section t e a = grind arith

  pub asks_replayed : (t : ℕ) (e : Event) → Asks c s t e → IsReplayed e s.history
  unfolding TablesReplay
  asks_replayed t e a = grind arith

-- its own sections behind an entry of a thread, and that which is open
pub own_sections_by : (c : Config) (s : State) (t : ℕ) (e : Event) (l : ℕ)
    → sections_in c (after_stamp c s t e).history t l ≡ sections_by c e l (sections_in c s.history t l)
unfolding after_stamp sections_in
own_sections_by c s t e l =
    ap (λ b. cond b (sections_by c e l (sections_in c s.history t l)) (sections_in c s.history t l)) (eq-eqb t t refl)

pub own_section : (c : Config) (s : State) (t : ℕ) (e : Event) (l : ℕ)
    → open_in c (after_stamp c s t e).history t l ≡ (sections_by c e l (sections_in c s.history t l)).now
own_section c s t e l = ap (λ (x : Sections). x.now) (own_sections_by c s t e l)

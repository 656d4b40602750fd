-- A stamp keeps each fact.
use Rattle.lock_laws.proofs.Names
use Names.{ℕ, suc, Bool, true, false, cond, eqb, Option, Some, refl, ap, inl, inr, arith, eq-eqb, ne_eqb, cases_eq}
use Names.{eqb-true, any_below, State, Loan, put, Config, Holds, base_in, base_by, sections_in, sections_by, entries_of}
use Names.{MayStamp, after_stamp, base_after, effective_after, effective_of, prio_of, entry_of, lock_queue, stands}
use Names.{Lawful, StandsOnce, EffectiveIsLeast, KeptIsEffective, EffectiveIsKnown, LoansAreKnown, KeptIsKnown}
use Names.{NextIsNew, LogsAreParts, TablesReplay, BasesReplay, SectionsAreHeld, TicketsRun, SectionsExclude}
use Names.{EditsInSections, ReadsReplay, ShownIsExplained, IsKnown, Event, Base, Entry}
use Rattle.std.proofs.Common.{◌≡◌, ◌||◌, ◌∷◌}
use Rattle.lock_laws.proofs.Kit.{each_place, put_same, put_other}
use Rattle.lock_laws.proofs.Lending.{effective-base, each_of-elsewhere, each_of-map, by_least}
use Rattle.lock_laws.proofs.Tables.{table_step}
use Rattle.lock_laws.proofs.Sections.{alone, begins_held, sections_held, asks_section, asks_replayed}
use Rattle.lock_laws.proofs.Shown.{still_known, asks_shown}

-- a base priority is what the history with the entry leaves
base_step : (f : ℕ → ℕ) (x : Event) (t u b : ℕ) → f u ≡ b → base_after x t f u ≡ cond (eqb t u) (base_by x b) b
unfolding put
base_step f x t u b h = grind arith

module _ (c : Config) (s : State) (t : ℕ) (e : Event) (g : MayStamp c s t e) (h : Lawful c s) where
  abbrev n : State
  n = after_stamp c s t e

  abbrev entry : Entry
  entry = entry_of s t e

  -- 1. Priorities

  least : EffectiveIsLeast c n.effective n.base n.loan
  unfolding after_stamp
  least = go e
    where
      go : (x : Event) → EffectiveIsLeast c (effective_after c x t s.loan s.effective) (base_after x t s.base) s.loan
      go (Base p) = effective-base c s.effective s.base s.loan t p.0 h.loans.effective_is_least
      go other = h.loans.effective_is_least

  nowhere : (l : ℕ) → stands t (s.lists (lock_queue l)) ≡ 0
  unfolding StandsOnce
  nowhere l = grind (arith, h.waits.stands_once t (lock_queue l), g.acting.unnamed)

  kept : KeptIsEffective c n.walk n.effective n.lists
  unfolding after_stamp KeptIsEffective
  kept = go e
    where
      go : (x : Event) → KeptIsEffective c s.walk (effective_after c x t s.loan s.effective) s.lists
      go (Base p) = λ l k. each_of-elsewhere c s.walk s.effective t _ (s.lists (lock_queue l)) (nowhere l)
          (h.loans.kept_is_effective l k)
      go other = h.loans.kept_is_effective

  -- 2. Known priorities

  loans_known : LoansAreKnown c n.loan n.history
  unfolding after_stamp LoansAreKnown
  loans_known u l x y = still_known c s.history entry x.prio (h.loans.loans_are_known u l x y)

  kept_known : KeptIsKnown c n.lists n.history
  unfolding after_stamp KeptIsKnown
  kept_known l k = each_of-map (λ w. IsKnown c s.history w.kept) (λ w. IsKnown c (entry ∷ s.history) w.kept)
      (s.lists (lock_queue l)) (λ w i x. still_known c s.history entry w.kept x) (h.loans.kept_is_known l k)

  own_known : (p : ℕ) → IsKnown c n.history p → IsKnown c n.history (effective_of c (s.loan t) p)
  unfolding after_stamp LoansAreKnown
  own_known p k = by_least (IsKnown c (entry ∷ s.history)) c.locks (λ l. prio_of (s.loan t l)) p k
      (λ l q i x. go l q (s.loan t l) refl x)
    where
      go : (l q : ℕ) (o : Option Loan) → s.loan t l ≡ o → prio_of o ≡ Some q → IsKnown c (entry ∷ s.history) q
      go l q o y x = grind arith

  new_known : (p : ℕ) → e ≡ Base (record { 0 = p }) → IsKnown c n.history p
  unfolding after_stamp
  new_known p y = rw (y, eq-eqb p p refl) (or_true (any_below c.threads (λ u. eqb (c.declared_base u) p)))
    where
      or_true : (b : Bool) → (b || true) ≡ true
      or_true true = refl
      or_true false = refl

  effective_known : EffectiveIsKnown c n.effective n.history
  unfolding after_stamp EffectiveIsKnown
  effective_known u lt = go e refl
    where
      old : IsKnown c (entry ∷ s.history) (s.effective u)
      old = still_known c s.history entry (s.effective u) (h.loans.effective_is_known u lt)

      go : (x : Event) → e ≡ x → IsKnown c (entry ∷ s.history) (effective_after c x t s.loan s.effective u)
      go (Base p) y = elim (cases_eq t u) [
        | inl z ↦ rw (← z, put_same s.effective t (effective_of c (s.loan t) p.0)) (own_known p.0 (new_known p.0 y))
        | inr z ↦ rw (put_other s.effective t (effective_of c (s.loan t) p.0) u z) old
      ]
      go other y = old

  -- 3. Books

  next : NextIsNew n.next n.history
  unfolding after_stamp NextIsNew
  next = ap suc h.books.next_is_new

  logs : LogsAreParts n.log n.history
  unfolding after_stamp LogsAreParts
  logs = each_place t
      (λ u. put s.log t (entry ∷ s.log t) u ≡ cond (eqb t u) (entry ∷ entries_of s.history u) (entries_of s.history u))
      (rw (put_same s.log t (entry ∷ s.log t), eq-eqb t t refl) (ap (λ es. entry ∷ es) (h.books.logs_are_parts t)))
      (λ u ne. rw (put_other s.log t (entry ∷ s.log t) u ne, ne_eqb t u ne) (h.books.logs_are_parts u))

  tables : TablesReplay n.table n.history
  unfolding after_stamp TablesReplay
  tables = table_step s.table entry s.history h.books.tables_replay_logs

  bases : BasesReplay c n.base n.history
  unfolding after_stamp BasesReplay
  bases u = base_step s.base e t u (base_in c s.history u) (h.books.bases_replay u)

  sections : SectionsAreHeld c n.history n.held
  unfolding after_stamp SectionsAreHeld sections_in
  sections u l mode x = go (eqb t u) refl x
    where
      go : (b : Bool) → eqb t u ≡ b
          → (cond b (sections_by c e l (sections_in c s.history u l)) (sections_in c s.history u l)).now ≡ Holds mode
          → s.held u l ≡ Holds mode
      go true y z = let i : t ≡ u = eqb-true t u y in rw (← i) (sections_held c s h t e g.asks l mode (rw i z))
      go false y z = h.books.sections_are_held u l mode z

  -- 4. The law of the history

  tickets : TicketsRun n.history
  unfolding after_stamp TicketsRun NextIsNew
  tickets = (h.books.next_is_new, h.books.tickets_run)

  exclude : SectionsExclude c n.history
  unfolding after_stamp SectionsExclude
  exclude = (
    λ l mode x. let r = begins_held c s h t e g.asks l mode x in alone c s h t l mode r.0 r.1,
    h.books.sections_exclude,
  )

  edits : EditsInSections c n.history
  unfolding after_stamp EditsInSections
  edits = (asks_section c s h t e g.asks, h.books.edits_in_sections)

  reads : ReadsReplay n.history
  unfolding after_stamp ReadsReplay
  reads = (asks_replayed c s h t e g.asks, h.books.reads_replay)

  shown : ShownIsExplained c n.history
  unfolding after_stamp ShownIsExplained
  shown = (asks_shown c s h t g.thread e g.asks, h.books.shown_is_explained)

  pub lawful : Lawful c n
  unfolding after_stamp
  lawful = assumption (
    least,
    kept,
    loans_known,
    kept_known,
    effective_known,
    next,
    logs,
    tables,
    bases,
    sections,
    tickets,
    exclude,
    edits,
    reads,
    shown,
  )

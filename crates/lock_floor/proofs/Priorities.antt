-- A thread that has its own record out: the record says what the columns say, so the thread may show its priorities,
-- and change its base.
use Rattle.lock_floor.proofs.Names
use Names.{ℕ, Bool, None, Some, [], length, refl, sym, ap, subst, Vec, Global, Box, Me, rest, Book, Base, Shown, Held}
use Names.{Prio, RecordColumns, RepresentsRecord, record_in, State, TakesItem, Stamps, HasItem, RecordOf, ThreadRec}
use Names.{Description, Slot, Record, Cell, Turnstiles, SleepQueues, Graph, slot_of, Fits, MayMake, Knowledge, IsAtRest}
use Names.{Marked, IsTied, IsOfKind, Takes, arith}
use Rattle.std.proofs.Common.{◌≡◌, ◌<◌, ◌∷◌, ◌∙◌}
use Rattle.lock_floor.proofs.May.{may_take, says_its}
use Rattle.lock_floor.proofs.Resting.{open_as_held, may_note, rest_with}
use Rattle.lock_floor.proofs.Taking.{record_at}

-- the place of a thread's own record
pub own_place : (floor : Description) (v : Knowledge) (me : Me Slot Knowledge) (who : ℕ) (locks : Vec Held)
    (marked : Marked) (book : Book) (fin : Bool) → IsTied who locks marked book fin me → me.0 ≡ v
    → v.description ≡ floor → slot_of floor (RecordOf v.thread) ≡ Some who
own_place floor v me who locks marked book fin tied is its =
    let same : who ≡ v.thread = tied.thread ∙ ap (λ (w : Knowledge). w.thread) is in
    let low : who < length floor.threads =
    subst (λ (d : Description). who < length d.threads) (ap (λ (w : Knowledge). w.description) is ∙ its)
    tied.of_floor in
    ap (λ t. slot_of floor (RecordOf t)) (sym same) ∙ record_at floor who low

-- what was taken from a record's place is a record
pub a_record : (t : ℕ) (x : Slot) → IsOfKind (RecordOf t) x → (b : Box ThreadRec Global) × (x ≡ Record b)
a_record t e its = grind arith

-- so that is what the thread has out
pub record_out : (floor : Description) (t j : ℕ) (v a : Knowledge) → Takes floor (RecordOf t) j v a
    → (b : Box ThreadRec Global) × (a.out ≡ (j, Record b) ∷ rest a.out)
record_out floor t j v a taken =
    let its = a_record t taken.value taken.kind in (
      its.0,
      subst (λ (w : Knowledge). w.out ≡ (j, Record its.0) ∷ rest w.out) (sym taken.view)
          (ap (λ x. (j, x) ∷ v.out) its.1),
    )

-- a thread at rest may take it
pub may_take_own : (floor : Description) (v : Knowledge) → IsAtRest floor v
    → MayMake floor v (λ s. s.record_with v.thread ≡ None) (TakesItem v.thread (RecordOf v.thread) ∷ [])
may_take_own floor v r = may_take floor v (RecordOf v.thread) r.runs r.nothing_out r.no_round r.going (λ s f. f.thread)

module _ (floor : Description) (v a : Knowledge) (j : ℕ) (b : Box ThreadRec Global)
    (place : slot_of floor (RecordOf v.thread) ≡ Some j) (r : IsAtRest floor v)
    (taken : Takes floor (RecordOf v.thread) j v a) (last : a.out ≡ (j, Record b) ∷ rest a.out) where
  its : a.thread ≡ v.thread
  its = ap (λ (w : Knowledge). w.thread) taken.view

  -- it says what the columns say
  has_record : (s : State) → Fits floor a s → HasItem s a.thread (RecordOf a.thread)
      × RepresentsRecord b.value (record_in s a.thread)
  has_record s f = says_its floor a (RecordOf a.thread) j (Record b) (ap (λ t. slot_of floor (RecordOf t)) its ∙ place)
      last s f

  at_rest : IsAtRest floor (record a { out = [] })
  at_rest = rest_with floor v a (RecordOf v.thread) j refl r taken

  pub may_show : (base effective : Prio) → base.0 ≡ b.value.base → effective.0 ≡ b.value.effective
      → MayMake floor a (λ s. Unit {0}) (Stamps a.thread (Shown base effective) ∷ [])
  may_show base effective base_is effective_is =
      may_note floor a at_rest (Shown base effective) (λ s f.
      let out = has_record s f in (
        record {
          its_base = base_is ∙ ap (λ (x : RecordColumns). x.base) out.1.columns;
          its_effective = effective_is ∙ ap (λ (x : RecordColumns). x.effective) out.1.columns;
          sections = λ l mode held. open_as_held floor a at_rest s f l ∙ held;
        },
        out.0,
      ))

  pub may_base : (prio : Prio) → MayMake floor a (λ s. Unit {0}) (Stamps a.thread (Base prio) ∷ [])
  may_base prio = may_note floor a at_rest (Base prio) (λ s f. (tt, (has_record s f).0))

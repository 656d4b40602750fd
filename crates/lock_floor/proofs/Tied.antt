-- A pass stays tied to what its seat knows.
use Rattle.lock_floor.proofs.Names
use Names.{ℕ, Bool, true, false, Some, List, [], inl, inr, refl, sym, ap, subst, reverse, length, vec_capacity}
use Names.{cases_eq, reverse-append, Vec, Me, rest, Book, without_lock, Config, Entry, Held, Mark, word_of, Marked}
use Names.{Item, Description, Slot, slot_of, Role, Knowledge, seeing, Floor, Pass, AreMarked, IsTied, looked, put_down}
use Names.{took, gave, stamped, arith}
use Rattle.std.proofs.Common.{◌≡◌, ◌-◌, ◌<◌, ◌≤◌, ◌∷◌, ◌++◌, ◌∙◌}
use Rattle.lock_floor.specs.Passes.{IsOf}
use Rattle.lock_floor.proofs.Looking.{Looked}
use Rattle.lock_floor.proofs.Taking.{Taken}

-- a pass is the floor's behind a call, too
pub of_floor_still : (f : Floor Description) (old inside new : Pass Knowledge) → inside ≡ old → IsOf f old
    → new.table ≡ inside.table → new.view.description ≡ inside.view.description → new.finished ≡ inside.finished
    → IsOf f new
of_floor_still f old inside new same own table description finished = grind arith

-- what of a seat's knowledge an entry alone changes, or no step
abbrev Lasting : Type 0
Lasting = Role × Description × ℕ × List Entry × ℕ

abbrev pub lasting : Knowledge → Lasting
lasting v = (v.role, v.description, v.thread, v.share.log, v.spare)

-- behind a step that makes no entry, with these locks and those who are to be woken
pub tied_then : (who : ℕ) (locks left : Vec Held) (marked others : Marked) (book : Book) (fin : Bool)
    (me behind : Me Slot Knowledge) (then : Knowledge) → fin ≡ false → IsTied who locks marked book fin me
    → behind.0 ≡ seeing behind.0.seen then → behind.1 ≡ behind.0.out → lasting then ≡ lasting me.0
    → left.items ≡ then.share.held → 8 ≤ vec_capacity left
    → AreMarked then.description others then.share.doing.marked → IsTied who left others book fin behind
tied_then who locks left marked others book fin me behind then going h v out same held room marks =
    let s : lasting behind.0 ≡ lasting me.0 = ap lasting v ∙ same in
    record {
      role = ap (λ (z : Lasting). z.0) s ∙ h.role;
      thread = h.thread ∙ sym (ap (λ (z : Lasting). z.2) s);
      of_floor = subst (λ (z : Lasting). who < length z.1.threads) (sym s) h.of_floor;
      few = h.few;
      held = held ∙ sym (ap (λ (w : Knowledge). w.share.held) v);
      room = room;
      marks = subst (λ (w : Knowledge). AreMarked w.description others w.share.doing.marked) (sym v) marks;
      log = h.log ∙ ap reverse (sym (ap (λ (z : Lasting). z.3) s));
      spare = h.spare ∙ sym (ap (λ (z : Lasting). z.4) s);
      out = out;
      done = λ e. absurd (let z : false ≡ true = sym going ∙ e in cc);
      runs = λ e. absurd (let z : false ≡ true = sym going ∙ e in cc);
      rests = λ e. absurd (let z : false ≡ true = sym going ∙ e in cc);
      bare = λ e. absurd (let z : false ≡ true = sym going ∙ e in cc);
    }

-- with its own
pub tied_on : (who : ℕ) (locks : Vec Held) (marked : Marked) (book : Book) (fin : Bool) (me behind : Me Slot Knowledge)
    (then : Knowledge) → fin ≡ false → IsTied who locks marked book fin me → behind.0 ≡ seeing behind.0.seen then
    → behind.1 ≡ behind.0.out → lasting then ≡ lasting me.0 → then.share.held ≡ me.0.share.held
    → then.share.doing.marked ≡ me.0.share.doing.marked → IsTied who locks marked book fin behind
tied_on who locks marked book fin me behind then going h v out same held marks =
    tied_then who locks locks marked marked book fin me behind then going h v out same (h.held ∙ sym held) h.room
    (subst (λ (z : Lasting × List Mark). AreMarked z.0.1 marked z.1) (λ i. (sym same i, sym marks i)) h.marks)

-- after a look at a lock's word
pub tied_looked : (who : ℕ) (locks : Vec Held) (marked : Marked) (book : Book) (fin : Bool)
    (me behind : Me Slot Knowledge) (floor : Description) (l n : ℕ) → fin ≡ false → IsTied who locks marked book fin me
    → Looked floor l me n behind → IsTied who locks marked book fin behind
tied_looked who locks marked book fin me behind floor l n going h told =
    let v : behind.0 ≡ seeing behind.0.seen (looked me.0 l (word_of n)) = ap (λ (m : Me Slot Knowledge). m.0) told.1 in
    tied_on who locks marked book fin me behind (looked me.0 l (word_of n)) going h v
    (ap (λ (m : Me Slot Knowledge). m.1) told.1 ∙ h.out ∙ sym (ap (λ w. w.out) v)) refl refl refl

-- without a lock that was put down
pub tied_without : (who l : ℕ) (locks left : Vec Held) (marked : Marked) (book : Book) (fin : Bool)
    (me behind : Me Slot Knowledge) → IsTied who locks marked book fin me
    → behind ≡ (seeing behind.0.seen (put_down me.0 l), me.1) → left.items ≡ without_lock l locks.items
    → 8 ≤ vec_capacity left → IsTied who left marked book fin behind
tied_without who l locks left marked book fin me behind h e items room =
    let bare : fin ≡ true → without_lock l me.0.share.held ≡ [] = λ q. ap (without_lock l) (h.bare q) in
    subst (IsTied who left marked book fin) (sym e) (assumption (items ∙ ap (without_lock l) h.held, bare, h))

-- after a try to take what a place has
pub tied_taken : (who : ℕ) (locks : Vec Held) (marked : Marked) (book : Book) (fin : Bool)
    (me behind : Me Slot Knowledge) (floor : Description) (i : Item) (j found : ℕ) → slot_of floor i ≡ Some j
    → fin ≡ false → IsTied who locks marked book fin me → Taken floor j me found behind
    → IsTied who locks marked book fin behind × (behind.0.description ≡ me.0.description)
tied_taken who locks marked book fin me behind floor i j found place going h told =
    elim (cases_eq found 0) [
      | inl e ↦
          let t = told.0 e i place in
          let v : behind.0 ≡ seeing behind.0.seen (took me.0 i j t.0.value) = t.0.view in (
            tied_on who locks marked book fin me behind (took me.0 i j t.0.value) going h v
                (t.1 ∙ ap (λ xs. (j, t.0.value) ∷ xs) h.out ∙ sym (ap (λ w. w.out) v)) refl refl refl,
            ap (λ w. w.description) v,
          )
      | inr ne ↦
          let v : behind.0 ≡ seeing behind.0.seen me.0 = ap (λ (m : Me Slot Knowledge). m.0) (told.1 ne).0 in
          let out : behind.1 ≡ me.1 = ap (λ (m : Me Slot Knowledge). m.1) (told.1 ne).0 in (
            tied_on who locks marked book fin me behind me.0 going h v (out ∙ h.out ∙ sym (ap (λ w. w.out) v)) refl refl
                refl,
            ap (λ w. w.description) v,
          )
    ]

-- after a give
pub tied_given : (who : ℕ) (locks : Vec Held) (marked : Marked) (book : Book) (fin : Bool)
    (me behind : Me Slot Knowledge) (i : Item) → fin ≡ false → IsTied who locks marked book fin me
    → behind ≡ (seeing behind.0.seen (gave me.0 i), rest me.1) → IsTied who locks marked book fin behind
tied_given who locks marked book fin me behind i going h is =
    let v : behind.0 ≡ seeing behind.0.seen (gave me.0 i) = ap (λ (m : Me Slot Knowledge). m.0) is in
    tied_on who locks marked book fin me behind (gave me.0 i) going h v
    (ap (λ (m : Me Slot Knowledge). m.1) is ∙ ap rest h.out ∙ sym (ap (λ w. w.out) v)) refl refl refl

-- after an entry, by which values that are out may have changed
pub tied_stamped : (who : ℕ) (locks : Vec Held) (marked : Marked) (book after : Book) (fin : Bool)
    (me behind : Me Slot Knowledge) (c : Config) (e : Entry) (out : List (ℕ × Slot)) → fin ≡ false
    → IsTied who locks marked book fin me → after ≡ record { entries = book.entries ++ e ∷ []; spare = book.spare - 1 }
    → behind ≡ (seeing behind.0.seen (record (stamped c me.0 e) { out = out }), out)
    → IsTied who locks marked after fin behind
tied_stamped who locks marked book after fin me behind c e out going h put is =
    subst (λ (z : Book × Me Slot Knowledge). IsTied who locks marked z.0 fin z.1) (λ i. (sym put i, sym is i)) record {
      role = h.role;
      thread = h.thread;
      of_floor = h.of_floor;
      few = h.few;
      held = h.held;
      room = h.room;
      marks = h.marks;
      log = ap (λ es. es ++ e ∷ []) h.log ∙ sym (reverse-append (e ∷ []) me.0.share.log);
      spare = ap (λ n. n - 1) h.spare;
      out = refl;
      done = λ q. absurd (let z : false ≡ true = sym going ∙ q in cc);
      runs = λ q. absurd (let z : false ≡ true = sym going ∙ q in cc);
      rests = λ q. absurd (let z : false ≡ true = sym going ∙ q in cc);
      bare = λ q. absurd (let z : false ≡ true = sym going ∙ q in cc);
    }

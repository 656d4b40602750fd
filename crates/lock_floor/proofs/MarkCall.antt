-- What the call that wakes the first of a marked list needs of its parts, and what it was told.
use Rattle.lock_floor.proofs.Names
use Names.{ℕ, Bool, false, List, [], refl, sym, ap, subst, with_value, Vec, Global, Box, Me, Allows, rest, Book, Mark}
use Names.{Held, QueueName, IsAway, cause_by, node_of, record_woken, Marked, WokenOff, Marks, ThreadRec, config_in}
use Names.{spot, wait_line, wait_number, FloorHolds, MayMake, Makes, Knowledge, OfThread, StandsOn, seeing, Description}
use Names.{Slot, Record, AreMarked, HasFirstOut, MarksFirst, MayMark, marked_first, out_marked, IsTied, arith}
use Rattle.std.proofs.Common.{◌≡◌, ◌∷◌, ◌∙◌}
use Rattle.lock_objects.specs.Marked.{IsFirst}
use Rattle.lock_objects.specs.declared.marked.Woken.{Woken}
use Rattle.lock_floor.proofs.MarkStep.{MarkedFirst, mark_allowed}
use Rattle.lock_floor.proofs.Tied.{tied_then}
use Rattle.lock_floor.proofs.Marked.{first_thread, first_cause, first_record, others_marked}

module _ (floor : Description) (me : Me Slot Knowledge) (w : Woken) (old new : Marked) (slot u : ℕ)
    (need : MayMark floor me.0) (are : AreMarked floor old me.0.share.doing.marked) (first : IsFirst w old new)
    (out : me.1 ≡ me.0.out) (at : slot ≡ u) (u_is : u ≡ (node_of w).place.thread) where
  abbrev m : Mark
  m = need.first.mark

  abbrev ms : List Mark
  ms = need.first.others

  abbrev box : Box ThreadRec Global
  box = need.first.box

  thread_is : u ≡ m.thread
  thread_is = u_is ∙ first_thread floor old new w me.0.share.doing.marked m ms are need.first.marked first

  last : me.1 ≡ (slot, Record box) ∷ rest me.1
  last = out ∙ need.first.last ∙ (λ i. (sym (at ∙ thread_is) i, Record box) ∷ rest (sym out i))

  -- before the work on the record
  pub back_last : (x : Box ThreadRec Global) × (me.1 ≡ (slot, Record x) ∷ rest me.1) × IsAway w x.value
      × ((node_of w).place.thread ≡ x.value.thread)
  back_last = grind arith

  -- behind it
  module _ (me2 : Me Slot Knowledge) (view : me2.0 ≡ me.0)
      (value : (b : Box ThreadRec Global) → me.1 ≡ (slot, Record b) ∷ rest me.1
      → me2.1 ≡ (slot, Record (with_value b (record_woken w b.value))) ∷ rest me.1) where
    worked_here : me2.1 ≡ out_marked (config_in floor) m box me.0.out
    worked_here = value box last
        ∙ (λ i. (
          (at ∙ thread_is) i,
          Record
              (with_value box
              (first_record floor old new w me.0.share.doing.marked m ms are need.first.marked first box.value i)),
        ) ∷ rest (out i))

    abbrev first_behind : HasFirstOut me2.0
    first_behind = record {
      mark = m;
      others = ms;
      marked = ap (λ (k : Knowledge). k.share.doing.marked) view ∙ need.first.marked;
      box = box;
      last = subst (λ (k : Knowledge). k.out ≡ (m.thread, Record box) ∷ rest k.out) (sym view) need.first.last;
    }

    worked : me2.1 ≡ out_marked (config_in floor) m box me2.0.out
    worked = worked_here ∙ ap (λ (k : Knowledge). out_marked (config_in floor) m box k.out) (sym view)

    -- the word is that of a thread that was woken by the cause by which it was taken off
    module _ (x : ℕ) (x_is : (q : QueueName) → x ≡ wait_number (WokenOff q (cause_by w))) where
      says : x ≡ wait_number (WokenOff m.queue m.cause)
      says = x_is m.queue ∙ ap (λ cause. wait_number (WokenOff m.queue cause))
          (sym (first_cause floor old new w me.0.share.doing.marked m ms are need.first.marked first))

      pub call_allowed : me.0.role ≡ OfThread → (slots id : ℕ)
          → Allows (FloorHolds floor) slots id me2 (spot (wait_line u)) (λ k. x) (λ k. MarkedFirst floor me2 x)
      call_allowed was slots id =
          let may = subst (λ (k : Knowledge). MayMake floor k (λ s. Unit {0}) (Marks k.thread m ms ∷ [])) (sym view)
          need.may in
          subst (λ n. Allows (FloorHolds floor) slots id me2 (spot (wait_line n)) (λ k. x)
          (λ k. MarkedFirst floor me2 x)) (sym thread_is)
          (mark_allowed floor me2 (ap (λ (k : Knowledge). k.role) view ∙ was) first_behind x says worked slots id may)

    module _ (x : ℕ) (behind : Me Slot Knowledge) (told : MarkedFirst floor me2 x behind) where
      its : (behind ≡ (seeing behind.0.seen (marked_first me2.0 m ms me2.1), me2.1))
          × Makes floor (Marks me2.0.thread m ms ∷ []) me2.0 behind.0
          × (m.thread ≡ me2.0.thread → me2.0.pose ≡ StandsOn m.queue)
      its = told m ms first_behind.marked

      pub call_view : behind.0 ≡ seeing behind.0.seen
          (marked_first me.0 m ms (out_marked (config_in floor) m box me.0.out))
      call_view = ap (λ (k : Me Slot Knowledge). k.0) its.0
          ∙ (λ i. seeing behind.0.seen (marked_first (view i) m ms (worked_here i)))

      pub call_marks : MarksFirst floor u me.0 behind.0
      call_marks = record {
        first = need.first;
        thread = sym thread_is;
        view = call_view;
        step = subst (λ (k : Knowledge). Makes floor (Marks k.thread m ms ∷ []) k behind.0) view its.1;
        itself = λ e. sym (ap (λ (k : Knowledge). k.pose) view)
            ∙ its.2 (sym thread_is ∙ e ∙ sym (ap (λ (k : Knowledge). k.thread) view));
      }

      pub call_tied : (who : ℕ) (locks : Vec Held) (book : Book) (fin : Bool) → fin ≡ false → me.0.description ≡ floor
          → IsTied who locks old book fin me → IsTied who locks new book fin behind
      call_tied who locks book fin going mine h =
          let left : AreMarked floor new ms =
          others_marked floor old new w me.0.share.doing.marked m ms are need.first.marked first in
          tied_then who locks locks old new book fin me behind
          (marked_first me.0 m ms (out_marked (config_in floor) m box me.0.out)) going h call_view
          (ap (λ (k : Me Slot Knowledge). k.1) its.0 ∙ worked_here ∙ sym (ap (λ k. k.out) call_view)) refl h.held h.room
          (subst (λ (d : Description). AreMarked d new ms) (sym mine) left)

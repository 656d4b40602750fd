use Rattle.lock_floor.proofs.Names.{false, refl, sym, ap, subst, Me, Knowledge, Description, Slot, Marked, Floor, Pass}
use Rattle.lock_floor.proofs.Names.{AreMarked, MarksFirst, MayMark}
use Rattle.std.proofs.Common.{◌≡◌, ◌∙◌}
use Rattle.lock_floor.proofs.MarkCall.{back_last, call_allowed, call_view, call_marks, call_tied}
use Rattle.lock_floor.proofs.Tied.{of_floor_still}
use Rattle.lock_floor.proofs.marking.FloorOf+Slot+View+Description+Law.mark.Goals as goal

-- what the call needs, on the floor and the pass as they are inside
module _ (f g : Floor Description) (p q : Pass Knowledge) (same_floor : f ≡ g) (same_pass : p ≡ q) where
  need_inside : MayMark g.description q.view → MayMark f.description p.view
  need_inside = subst (λ (z : Floor Description × Pass Knowledge). MayMark z.0.description z.1.view)
      (λ i. (sym same_floor i, sym same_pass i))

  mine : q.view.description ≡ g.description → p.view.description ≡ f.description
  mine e = ap (λ (k : Pass Knowledge). k.view.description) same_pass ∙ e
      ∙ sym (ap (λ (k : Floor Description). k.description) same_floor)

  are_inside : (marked : Marked) → q.view.description ≡ g.description
      → AreMarked p.view.description marked p.view.share.doing.marked
      → AreMarked f.description marked p.view.share.doing.marked
  are_inside marked e = subst (λ d. AreMarked d marked p.view.share.doing.marked) (mine e)

pub hand_back-requires-clause-last : goal.hand_back-requires-clause-last
hand_back-requires-clause-last c =
    back_last c.self.inside.board.shared.key c.pass.inside.seat.me c.in-Some.woken c.pass.inside.marked c.pop.new.self
    c.from.result c.thread-u.result.0
    (need_inside _ _ _ _ c.self.view_is c.pass.view_is c.requires.may)
    (are_inside _ _ _ _ c.self.view_is c.pass.view_is c.pass.inside.marked c.requires.own.description
    c.pass.invariant.marks)
    c.in-Some.ensures.some c.pass.invariant.out c.from.ensures c.thread-u.ensures

pub say_woken-requires-clause-may : goal.say_woken-requires-clause-may
say_woken-requires-clause-may c =
    call_allowed c.self.inside.board.shared.key c.pass.inside.seat.me c.in-Some.woken c.pass.inside.marked
    c.pop.new.self c.from.result c.thread-u.result.0
    (need_inside _ _ _ _ c.self.view_is c.pass.view_is c.requires.may)
    (are_inside _ _ _ _ c.self.view_is c.pass.view_is c.pass.inside.marked c.requires.own.description
    c.pass.invariant.marks)
    c.in-Some.ensures.some c.pass.invariant.out c.from.ensures c.thread-u.ensures c.hand_back.new.seat.me
    c.hand_back.ensures.view c.hand_back.ensures.value c.word_for-word.result c.word_for-word.ensures
    c.pass.invariant.role c.self.inside.board.shared.table_id.slots c.hand_back.new.seat.id

module _ (c : goal.After-say_woken) where
  abbrev key : Description
  key = c.self.inside.board.shared.key

  abbrev me : Me Slot Knowledge
  me = c.pass.inside.seat.me

  abbrev need : MayMark key me.0
  need = need_inside _ _ _ _ c.self.view_is c.pass.view_is c.requires.may

  abbrev are : AreMarked key c.pass.inside.marked me.0.share.doing.marked
  are = are_inside _ _ _ _ c.self.view_is c.pass.view_is c.pass.inside.marked c.requires.own.description
      c.pass.invariant.marks

  going : c.pass.inside.finished ≡ false
  going = ap (λ (p : Pass Knowledge). p.finished) c.pass.view_is ∙ c.requires.own.unfinished

pub invariant_of-pass : goal.invariant_of-pass
invariant_of-pass c =
    call_tied (key c) (me c) c.in-Some.woken c.pass.inside.marked c.pop.new.self c.from.result c.thread-u.result.0
    (need c) (are c) c.in-Some.ensures.some c.pass.invariant.out c.from.ensures c.thread-u.ensures
    c.hand_back.new.seat.me c.hand_back.ensures.view c.hand_back.ensures.value
    c.word_for-word.result c.say_woken.new.seat.me c.say_woken.ensures.told c.pass.inside.who.0 c.pass.inside.held
    c.pass.inside.log
    c.pass.inside.finished (going c) (mine _ _ _ _ c.self.view_is c.pass.view_is c.requires.own.description)
    c.pass.invariant

pub returns-clause-own : goal.returns-clause-own
returns-clause-own c =
    of_floor_still _ _ _ _ c.pass.view_is c.requires.own (c.say_woken.ensures.own ∙ c.hand_back.ensures.own)
    (ap (λ (w : Knowledge). w.description) (call_view (key c) (me c) c.in-Some.woken c.pass.inside.marked
    c.pop.new.self c.from.result c.thread-u.result.0 (need c) (are c) c.in-Some.ensures.some c.pass.invariant.out
    c.from.ensures c.thread-u.ensures c.hand_back.new.seat.me c.hand_back.ensures.view c.hand_back.ensures.value
    c.word_for-word.result c.say_woken.new.seat.me c.say_woken.ensures.told)) refl

pub returns-clause-marks : goal.returns-clause-marks
returns-clause-marks c =
    subst (λ (z : Floor Description × Pass Knowledge). MarksFirst z.0.description c.thread-u.result.0 z.1.view
    c.say_woken.new.seat.me.0) (λ i. (c.self.view_is i, c.pass.view_is i))
    (call_marks (key c) (me c) c.in-Some.woken c.pass.inside.marked c.pop.new.self c.from.result c.thread-u.result.0
    (need c) (are c) c.in-Some.ensures.some c.pass.invariant.out c.from.ensures c.thread-u.ensures
    c.hand_back.new.seat.me c.hand_back.ensures.view c.hand_back.ensures.value
    c.word_for-word.result c.say_woken.new.seat.me c.say_woken.ensures.told)

use Rattle.lock_floor.proofs.Names
use Names.{false, bit_and, inl, inr, refl, sym, ap, subst, Me, Allows, Cause, QueueName, Woken, config_in, Description}
use Names.{Slot, spot, wait_line, wait_number, FloorHolds, Knowledge, seeing, Floor, Pass, resumed, FindsQueued}
use Names.{MayRunAgain, RunsAgain, IsTied}
use Rattle.std.proofs.Common.{◌≡◌, ◌∙◌}
use Rattle.lock_floor.proofs.Resuming.{Resumed, ResumedOff, resume_allowed}
use Rattle.lock_floor.proofs.Tied.{tied_on}
use Rattle.lock_floor.proofs.parking.FloorOf+Slot+View+Description+Law.try_resume.Goals as goal

pub run_again-found-requires-clause-may : goal.run_again-found-requires-clause-may
run_again-found-requires-clause-may c =
    let key = c.self.inside.board.shared.key in
    let me : Me Slot Knowledge = c.pass.inside.seat.me in
    let slots = c.self.inside.board.shared.table_id.slots in
    let may = subst (λ (z : Floor Description × Pass Knowledge). MayRunAgain z.0.description z.1.view)
    (λ i. (sym c.self.view_is i, sym c.pass.view_is i)) c.requires.may in
    subst (λ t. Allows (FloorHolds key) slots c.pass.inside.seat.id me (spot (wait_line t)) (λ n. bit_and n 1)
    (ResumedOff key me)) (sym c.pass.invariant.thread)
    (resume_allowed key me slots c.pass.inside.seat.id c.pass.invariant.role may)

module _ (c : goal.Then-found-eq-QUEUED) where
  abbrev me : Me Slot Knowledge
  me = c.pass.inside.seat.me

  abbrev behind : Me Slot Knowledge
  behind = c.run_again-found.new.seat.me

  abbrev q : QueueName
  q = c.requires.may.queue

  abbrev key : Description
  key = c.self.inside.board.shared.key

  told : Resumed key q me c.run_again-found.result behind
  told = c.run_again-found.ensures.told q
      (ap (λ (p : Pass Knowledge). p.view.pose) c.pass.view_is ∙ c.requires.may.stands)

  going : c.pass.inside.finished ≡ false
  going = ap (λ (p : Pass Knowledge). p.finished) c.pass.view_is ∙ c.requires.own.unfinished

  abbrev Tied : Me Slot Knowledge → Type 0
  Tied m = IsTied c.pass.inside.who.0 c.pass.inside.held c.pass.inside.marked c.pass.inside.log c.pass.inside.finished m
      × (m.0.description ≡ me.0.description)

  tied : Tied behind
  tied = elim told.2 [
    | inl e ↦
        let v : behind.0 ≡ seeing behind.0.seen me.0 = ap (λ (m : Me Slot Knowledge). m.0) (told.1 e).0 in (
          tied_on c.pass.inside.who.0 c.pass.inside.held c.pass.inside.marked c.pass.inside.log c.pass.inside.finished
              me behind me.0 going c.pass.invariant v
              (ap (λ (m : Me Slot Knowledge). m.1) (told.1 e).0 ∙ c.pass.invariant.out ∙ sym (ap (λ w. w.out) v)) refl
              refl refl,
          ap (λ w. w.description) v,
        )
    | inr z ↦
        let h = (told.0 z.0 z.1).0 in
        let v : behind.0 ≡ seeing behind.0.seen (resumed (config_in key) me.0 q z.0) =
        ap (λ (m : Me Slot Knowledge). m.0) h in (
          tied_on c.pass.inside.who.0 c.pass.inside.held c.pass.inside.marked c.pass.inside.log c.pass.inside.finished
              me behind (resumed (config_in key) me.0 q z.0) going c.pass.invariant v
              (ap (λ (m : Me Slot Knowledge). m.1) h ∙ c.pass.invariant.out ∙ sym (ap (λ w. w.out) v)) refl refl refl,
          ap (λ w. w.description) v,
        )
  ]

  own_description : behind.0.description ≡ c.args.self.now.description
  own_description = tied.1 ∙ ap (λ (p : Pass Knowledge). p.view.description) c.pass.view_is ∙ c.requires.own.description

  -- it runs again, by a cause that the word told
  runs : (cause : Cause) → c.run_again-found.result ≡ wait_number (Woken q cause)
      → RunsAgain c.args.self.now.description cause c.args.pass.now.view behind.0
  runs cause e = subst (λ (z : Floor Description × Pass Knowledge). RunsAgain z.0.description cause z.1.view behind.0)
      (λ i. (c.self.view_is i, c.pass.view_is i)) record {
        queue = q;
        stands = ap (λ (p : Pass Knowledge). p.view.pose) c.pass.view_is ∙ c.requires.may.stands;
        view = ap (λ (m : Me Slot Knowledge). m.0) (told.0 cause e).0;
        step = (told.0 cause e).1;
      }

pub invariant_of-pass : goal.invariant_of-pass
invariant_of-pass c = (tied c).0

-- where it was queued
pub returns-then-found-eq-QUEUED-clause-own : goal.returns-then-found-eq-QUEUED-clause-own
returns-then-found-eq-QUEUED-clause-own c = record {
  table = c.run_again-found.ensures.own ∙ ap (λ (p : Pass Knowledge). p.table) c.pass.view_is ∙ c.requires.own.table;
  description = own_description c;
  unfinished = going c;
}

pub returns-then-found-eq-QUEUED-clause-left : goal.returns-then-found-eq-QUEUED-clause-left
returns-then-found-eq-QUEUED-clause-left c =
    ap (λ (m : Me Slot Knowledge). m.0) ((told c).1 c.if-found-eq-QUEUED.true).0
    ∙ ap (λ (p : Pass Knowledge). seeing c.run_again-found.new.seat.me.0.seen p.view) c.pass.view_is

pub returns-then-found-eq-QUEUED-clause-queued : goal.returns-then-found-eq-QUEUED-clause-queued
returns-then-found-eq-QUEUED-clause-queued c =
    subst (λ (z : Floor Description × Pass Knowledge). FindsQueued z.0.description z.1.view
    c.run_again-found.new.seat.me.0) (λ i. (c.self.view_is i, c.pass.view_is i))
    ((told c).1 c.if-found-eq-QUEUED.true).1

use Rattle.lock_floor.proofs.Names.{ℕ, [], sym, ap, subst, Entry, Stamps, Description, MayMake, Me, config_in, Slot}
use Rattle.lock_floor.proofs.Names.{Knowledge, seeing, entry_by, stamped, Floor, Pass}
use Rattle.std.proofs.Common.{◌≤◌, ◌∷◌, ◌∙◌}
use Rattle.lock_floor.proofs.Tied.{tied_stamped}
use Rattle.lock_floor.proofs.Stamping.{stamp_allowed}
use Rattle.lock_floor.proofs.stamps.FloorOf+Slot+View+Description+Law.stamp.Goals as goal

pub next_ticket-ticket-requires-clause-may : goal.next_ticket-ticket-requires-clause-may
next_ticket-ticket-requires-clause-may c =
    let event = c.args.event in
    let may = subst (λ (z : Floor Description × Pass Knowledge). MayMake z.0.description z.1.view (λ s. Unit {0})
    (Stamps z.1.view.thread event ∷ [])) (λ i. (sym c.self.view_is i, sym c.pass.view_is i)) c.requires.may in
    let room = subst (λ (p : Pass Knowledge). 1 ≤ p.view.spare) (sym c.pass.view_is) c.requires.room in
    stamp_allowed c.self.inside.board.shared.key c.pass.inside.seat.me event c.self.inside.board.shared.table_id.slots
    c.pass.inside.seat.id c.pass.invariant.role room c.requires.base c.requires.table may

pub next_ticket-ticket-requires-clause-small : goal.next_ticket-ticket-requires-clause-small
next_ticket-ticket-requires-clause-small c n behind told = told.0

pub invariant_of-pass : goal.invariant_of-pass
invariant_of-pass c =
    let me : Me Slot Knowledge = c.pass.inside.seat.me in
    let behind : Me Slot Knowledge = c.next_ticket-ticket.new.seat.me in
    let going = ap (λ (p : Pass Knowledge). p.finished) c.pass.view_is ∙ c.requires.own.unfinished in
    let by : ℕ → Entry = λ t. entry_by t c.next_ticket-ticket.result c.args.event in
    let entry = ap by (sym c.pass.invariant.thread) in
    let is = c.next_ticket-ticket.ensures.told.1
    ∙ (λ i. (
      seeing behind.0.seen
          (record (stamped (config_in c.self.inside.board.shared.key) me.0 (entry i)) { out = me.0.out }),
      c.pass.invariant.out i,
    )) in
    tied_stamped c.pass.inside.who.0 c.pass.inside.held c.pass.inside.marked c.pass.inside.log c.put_entry.new.log
    c.pass.inside.finished me behind (config_in c.self.inside.board.shared.key) (by c.pass.inside.who.0) me.0.out
    going c.pass.invariant c.put_entry.ensures is

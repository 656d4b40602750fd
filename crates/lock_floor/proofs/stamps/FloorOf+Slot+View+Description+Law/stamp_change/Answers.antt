use Rattle.lock_floor.proofs.Names
use Names.{ℕ, Some, [], sym, ap, subst, Me, rest, Entry, Stamps, Item, Description, Slot, slot_of, MayMake, Knowledge}
use Names.{OfThread, seeing, config_in, entry_by, stamped, IsChangeOf, last_changed, Floor, Pass}
use Rattle.std.proofs.Common.{◌≡◌, ◌≤◌, ◌∷◌, ◌∙◌}
use Rattle.lock_floor.proofs.Tied.{tied_stamped}
use Rattle.lock_floor.proofs.Changing.{change_allowed}
use Rattle.lock_floor.proofs.stamps.FloorOf+Slot+View+Description+Law.stamp_change.Goals as goal

pub next_ticket-ticket-requires-clause-may : goal.next_ticket-ticket-requires-clause-may
next_ticket-ticket-requires-clause-may c =
    let event = c.args.event in
    let me = c.change.new.seat.me in
    let view : me.0 ≡ c.args.pass.now.view = c.change.ensures.view
    ∙ ap (λ (p : Pass Knowledge). p.view) c.pass.view_is in
    let floor : c.self.inside.board.shared.key ≡ c.args.self.now.description =
    ap (λ (f : Floor Description). f.description) c.self.view_is in
    let item = subst (λ (z : Description × Knowledge). (i : Item) × IsChangeOf z.1.thread event i
    × (slot_of z.0 i ≡ Some c.args.slot)) (λ i. (sym floor i, sym view i)) c.requires.item in
    let last = subst (λ (v : Knowledge). (x : Slot) × (v.out ≡ (c.args.slot, x) ∷ rest v.out)) (sym view)
    c.requires.last in
    let may = subst (λ (z : Description × Knowledge). MayMake z.0 z.1 (λ s. Unit {0}) (Stamps z.1.thread event ∷ []))
    (λ i. (sym floor i, sym view i)) c.requires.may in
    let room = subst (λ (v : Knowledge). 1 ≤ v.spare) (sym view) c.requires.room in
    let was : me.0.role ≡ OfThread = ap (λ (v : Knowledge). v.role) c.change.ensures.view ∙ c.pass.invariant.role in
    let changes : me.1 ≡ last_changed event me.0.out = c.change.ensures.value
    ∙ ap (last_changed event) (c.pass.invariant.out ∙ ap (λ (v : Knowledge). v.out) (sym c.change.ensures.view)) in
    change_allowed c.self.inside.board.shared.key me event c.self.inside.board.shared.table_id.slots
    c.change.new.seat.id item.0 c.args.slot last.0 was room item.1 item.2 last.1 changes may

pub invariant_of-pass : goal.invariant_of-pass
invariant_of-pass c =
    let me : Me Slot Knowledge = c.pass.inside.seat.me in
    let mid : Me Slot Knowledge = c.change.new.seat.me in
    let behind : Me Slot Knowledge = c.next_ticket-ticket.new.seat.me in
    let going = ap (λ (p : Pass Knowledge). p.finished) c.pass.view_is ∙ c.requires.own.unfinished in
    let by : ℕ → Entry = λ t. entry_by t c.next_ticket-ticket.result c.args.event in
    let entry = ap by (sym c.pass.invariant.thread) in
    let view : mid.0 ≡ me.0 = c.change.ensures.view in
    let config = config_in c.self.inside.board.shared.key in
    let is = c.next_ticket-ticket.ensures.told.1
    ∙ (λ i. (
      seeing behind.0.seen
          (record (stamped config (view i)
          (by (view i).thread)) { out = mid.1 }),
      mid.1,
    ))
    ∙ (λ i. (seeing behind.0.seen (record (stamped config me.0 (entry i)) { out = mid.1 }), mid.1)) in
    tied_stamped c.pass.inside.who.0 c.pass.inside.held c.pass.inside.marked c.pass.inside.log c.put_entry.new.log
    c.pass.inside.finished me behind config (by c.pass.inside.who.0) mid.1 going c.pass.invariant c.put_entry.ensures is

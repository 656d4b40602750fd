use Rattle.lock_floor.proofs.Names
use Names.{ℕ, None, [], length, map, reverse, sym, ap, subst, arith, length-append, length-map, map_push, All-nil}
use Names.{All-cons, All-append, Me, Joins, Allows, Book, Description, Slot, FloorHolds, Share, Knowledge, nothing}
use Names.{Floor, Pass, Keeper, IsKept, longer, with_pass_taken, spot, ticket_line}
use Rattle.std.proofs.Common.{◌≡◌, ◌+◌, ◌∷◌, ◌++◌, ◌∙◌}
use Rattle.lock_floor.proofs.Joining.{Asked, joins, ask_allowed}
use Rattle.lock_floor.proofs.keeper.Keeper.gather.Goals as goal
use Rattle.lock_floor.proofs.keeper.Keeper.gather.Goals.{After-push_reserved-arg-1}

pub join_seat-requires : goal.join_seat-requires
join_seat-requires c =
    let key : Description = c.floor.inside.board.shared.key in
    let v : Knowledge = c.self.inside.seat.me.0 in
    let w : Knowledge = c.pass.inside.seat.me.0 in
    let floor : c.floor.inside.board.shared.table_id ≡ c.args.floor.now.table =
    ap (λ (f : Floor Description). f.table) c.floor.view_is in
    let over = ap (λ (p : Pass Knowledge). p.finished) c.pass.view_is ∙ c.requires.finished.finished in
    let rest : w.out ≡ [] = c.pass.invariant.done over in (
      ap (λ (k : Keeper). k.table) c.self.view_is ∙ c.requires.mine.table ∙ sym floor,
      ap (λ (p : Pass Knowledge). p.table) c.pass.view_is ∙ c.requires.finished.table ∙ sym floor,
      c.pass.invariant.out ∙ rest,
      omega (arith, c.floor.invariant.words),
      subst (λ i. Joins (FloorHolds key) i v c.pass.inside.seat.id w (with_pass_taken v w) nothing)
          (sym c.self.invariant.first)
          (joins key v c.pass.inside.seat.id w c.pass.invariant.role rest (c.pass.invariant.runs over)),
    )

pub ask-requires-clause-within : goal.ask-requires-clause-within
ask-requires-clause-within c = omega (arith, c.floor.invariant.words)

pub ask-requires-clause-may : goal.ask-requires-clause-may
ask-requires-clause-may c =
    let key : Description = c.floor.inside.board.shared.key in
    let slots = c.floor.inside.board.shared.table_id.slots in
    let me : Me Slot Knowledge = c.join_seat.new.seat.me in
    subst (λ i. Allows (FloorHolds key) slots i me (spot ticket_line) (λ n. n) (Asked key me))
    (sym (c.join_seat.ensures.1 ∙ c.self.invariant.first)) (ask_allowed key slots me)

-- what the keeper's seat knows at the end
behind : (c : goal.Joined-pass)
    → c.ask.new.seat.me ≡ (with_pass_taken c.self.inside.seat.me.0 c.pass.inside.seat.me.0, c.self.inside.seat.me.1)
behind c = c.ask.ensures.told.0 ∙ c.join_seat.ensures.2

-- its description is the floor's
its_floor : (c : After-push_reserved-arg-1) → c.self.inside.seat.me.0.description ≡ c.floor.inside.board.shared.key
its_floor c = ap (λ (k : Keeper). k.view.description) c.self.view_is ∙ c.requires.mine.description
    ∙ sym (ap (λ (f : Floor Description). f.description) c.floor.view_is)

pub push_reserved-requires : goal.push_reserved-requires
push_reserved-requires c =
    let v : Knowledge = c.self.inside.seat.me.0 in
    let w : Knowledge = c.pass.inside.seat.me.0 in
    let key : Description = c.floor.inside.board.shared.key in
    let logs = c.self.inside.logs.items in
    let long : length logs ≡ length v.gathered = sym (length-map logs (λ (b : Book). b.entries))
    ∙ ap length c.self.invariant.logs_are ∙ length-map v.gathered (λ (g : ℕ × Share). reverse g.1.log) in
    let more : length c.join_seat.new.seat.me.0.gathered ≡ length v.gathered + 1 =
    ap (λ (m : Me Slot Knowledge). length m.0.gathered) c.join_seat.ensures.2
    ∙ length-append v.gathered ((w.thread, w.share) ∷ []) in
    let threads : length v.description.threads ≡ length key.threads =
    ap (λ (d : Description). length d.threads) (its_floor c) in
    omega (arith, long, more, threads, c.ask.ensures.told.1, c.self.invariant.room_for_logs)

pub invariant_of-self : goal.invariant_of-self
invariant_of-self c =
    let k = c.self.invariant in
    let v : Knowledge = c.self.inside.seat.me.0 in
    let w : Knowledge = c.pass.inside.seat.me.0 in
    let over = ap (λ (p : Pass Knowledge). p.finished) c.pass.view_is ∙ c.requires.finished.finished in
    let rests : ℕ × Share → Type 0 = λ g. g.1.doing.taking ≡ None in
    let bares : ℕ × Share → Type 0 = λ g. g.1.held ≡ [] in
    subst (λ (m : Me Slot Knowledge). IsKept c.push_reserved.new.self c.self.inside.recs c.self.inside.tables
    c.ask.new.seat.id m) (sym (behind c)) record {
      first = c.ask.ensures.id ∙ c.join_seat.ensures.1 ∙ k.first;
      role = k.role;
      none_out = k.none_out;
      logs_are =
          ap (map (λ (b : Book). b.entries)) c.push_reserved.ensures.items
          ∙ map_push (λ (b : Book). b.entries) c.self.inside.logs.items c.pass.inside.log
          ∙ (λ i. k.logs_are i ++ c.pass.invariant.log i ∷ [])
          ∙ sym (map_push (λ (g : ℕ × Share). reverse g.1.log) v.gathered (w.thread, w.share));
      none_taken = All-append rests v.gathered ((w.thread, w.share) ∷ []) k.none_taken
          (All-cons rests (w.thread, w.share) [] (c.pass.invariant.rests over) (All-nil rests));
      none_held = All-append bares v.gathered ((w.thread, w.share) ∷ []) k.none_held
          (All-cons bares (w.thread, w.share) [] (c.pass.invariant.bare over) (All-nil bares));
      room_for_logs = omega (arith, k.room_for_logs, c.push_reserved.ensures.capacity);
      room_for_records = k.room_for_records;
      no_records = k.no_records;
      room_for_keys = k.room_for_keys;
      no_values = k.no_values;
    }

pub returns-clause-mine : goal.returns-clause-mine
returns-clause-mine c = record {
  table = c.ask.ensures.own ∙ c.join_seat.ensures.0 ∙ ap (λ (k : Keeper). k.table) c.self.view_is
      ∙ c.requires.mine.table;
  description = ap (λ (m : Me Slot Knowledge). m.0.description) (behind c)
      ∙ ap (λ (k : Keeper). k.view.description) c.self.view_is ∙ c.requires.mine.description;
}

pub returns-clause-gathered : goal.returns-clause-gathered
returns-clause-gathered c =
    ap (λ (m : Me Slot Knowledge). m.0.gathered) (behind c)
    ∙ (λ i. (c.self.view_is i).view.gathered ++ ((c.pass.view_is i).view.thread, (c.pass.view_is i).view.share) ∷ [])

pub returns-clause-seen : goal.returns-clause-seen
returns-clause-seen c =
    ap (λ (m : Me Slot Knowledge). m.0.seen) (behind c)
    ∙ (λ i. longer (c.self.view_is i).view.seen (c.pass.view_is i).view.seen)

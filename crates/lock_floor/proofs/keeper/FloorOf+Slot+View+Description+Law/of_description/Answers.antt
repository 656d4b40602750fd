use Rattle.lock_floor.proofs.Names
use Names.{rules, ℕ, List, [], None, refl, ap, sym, subst, length, map, arith, Contains, All-nil, Me, opening}
use Names.{Description, Slot, words_for, slots_for, FloorHolds, Share, Knowledge, keeper, AreFirstWords, IsLaid, IsKept}
use Rattle.std.proofs.Common.{◌≡◌, ◌∙◌}
use Rattle.lock_floor.proofs.Keeping.{opens}
use Rattle.lock_floor.proofs.keeper.FloorOf+Slot+View+Description+Law.of_description.Goals as goal

pub new-requires : goal.new-requires
new-requires c =
    let floor = c.args.description in
    let long : length c.in_ok-slots.slots.items ≡ slots_for floor = c.in_ok-slots.ensures.count in
    let count : c.len.result ≡ slots_for floor = omega (arith, long, c.len.ensures) in
    let same : c.as_slice-2.result.now ≡ c.in_ok-words.words.items = search rules in
    let threads = ap length c.as_slice-count.ensures in
    let first = subst (λ (z : ℕ × ℕ). AreFirstWords z.0 z.1 c.in_ok-words.words.items) (λ i. (threads i, count i))
    c.in_ok-words.ensures in
    subst (λ (ws : List ℕ). FloorHolds floor (opening ws c.in_ok-slots.slots.items (keeper floor))) (sym same)
    (opens floor c.in_ok-words.words.items c.in_ok-slots.slots.items c.requires long first c.in_ok-slots.ensures.each)

pub invariant_of-keeper : goal.invariant_of-keeper
invariant_of-keeper c =
    let hand = c.in_ok-hand_out.ensures in
    subst (λ (m : Me Slot Knowledge). IsKept c.in_ok-logs.logs c.in_ok-recs.recs c.in_ok-tables.tables
    c.hand_out.new.seat.id m) (sym hand.keeper) record {
      first = hand.first;
      role = refl;
      none_out = refl;
      logs_are = ap (map (λ b. b.entries)) c.in_ok-logs.ensures.items;
      none_taken = All-nil (λ (g : ℕ × Share). g.1.doing.taking ≡ None);
      none_held = All-nil (λ (g : ℕ × Share). g.1.held ≡ []);
      room_for_logs = omega (arith, c.in_ok-logs.ensures.capacity, ap length c.as_slice-count.ensures);
      room_for_records = omega (arith, c.in_ok-recs.ensures.capacity, ap length c.as_slice-count.ensures);
      no_records = c.in_ok-recs.ensures.items;
      room_for_keys = λ l key h.
          (c.in_ok-tables.ensures.room l key).1 (subst (λ ks. Contains ks (l, key)) (sym c.as_slice.ensures) h);
      no_values = c.in_ok-tables.ensures.empty;
    }

pub invariant_of-result : goal.invariant_of-result
invariant_of-result c =
    let floor = c.args.description in
    let long : length c.in_ok-slots.slots.items ≡ slots_for floor = c.in_ok-slots.ensures.count in
    let count : c.len.result ≡ slots_for floor = omega (arith, long, c.len.ensures) in
    let ok = c.in-Ok.ensures.ok in
    let same : c.as_slice-2.result.now ≡ c.in_ok-words.words.items = search rules in
    let words : c.in-Ok.board.shared.table_id.words ≡ words_for (slots_for floor) = ok.0 ∙ ap length same
    ∙ c.in_ok-words.ensures.count ∙ ap words_for count in
    subst (λ (d : Description). IsLaid d c.in-Ok.board.shared.table_id floor) (sym ok.5)
    record { kept = refl; words = words; slots = ok.1 ∙ long; sized = c.requires }

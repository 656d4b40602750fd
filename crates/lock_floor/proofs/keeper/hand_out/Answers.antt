use Rattle.lock_floor.proofs.Names
use Names.{ℕ, suc, false, length-append, List, [], refl, ap, sym, subst, length, get_or, arith, Splits, Me, Book}
use Names.{room_for, Description, ThreadPart, Slot, FloorHolds, Knowledge, first_view, keeper, Pass, first_pass, IsTied}
use Names.{with_pass_made, new_pass}
use Rattle.std.proofs.Common.{◌≡◌, ◌≤◌, ◌+◌, ◌-◌, ◌<◌, ◌∙◌}
use Rattle.lock_floor.specs.declared.calls.Call.TheVariants as call
use Rattle.lock_floor.proofs.Marked.{none_marked}
use Rattle.lock_floor.proofs.Keeping.{forks, next_room, rooms_from, each_more}
use Rattle.lock_floor.proofs.keeper.hand_out.Goals as goal

-- a part that stands where there is none
abbrev no_part : ThreadPart
no_part = record { base = record { 0 = 0 }; room = 0 }

-- the loop is at a thread of the floor, whose room that is
here : (floor : Description) (t : ℕ) (threads : List ThreadPart) → threads ≡ floor.threads → t < length threads
    → (t < length floor.threads) × ((get_or threads t no_part).room ≡ room_for floor t)
    × (rooms_from floor t ≡ room_for floor t + rooms_from floor (suc t))
here floor t threads all within =
    let low : t < length floor.threads = omega (arith, within, ap (λ ds. length ds) all) in
    let next = next_room floor t no_part low in
    (low, ap (λ (ds : List ThreadPart). (get_or ds t no_part).room) all ∙ sym next.1, next.0)

pub split_seat-mine-requires : goal.split_seat-mine-requires
split_seat-mine-requires c =
    let v : Knowledge = c.loop-t.seat.me.0 in
    let key = c.args.board.now.shared.key in
    let me = ap (λ (m : Me Slot Knowledge). m.0) c.loop-t.invariant.me in
    let h = here c.args.description.now c.loop-t.t c.as_slice-thread-items.result.now c.as_slice-thread-items.ensures
    c.loop-t-test.true in
    let same : v.description ≡ key = ap (λ (w : Knowledge). w.description) me ∙ sym c.requires.key in
    let few : v.made < length key.threads =
    subst (λ n. n < length key.threads) (sym (ap (λ (w : Knowledge). w.made) me))
    (subst (λ d. c.loop-t.t < length d.threads) (sym c.requires.key) h.0) in
    let fits : room_for v.description v.made ≤ v.spare =
    subst (λ (w : Knowledge). room_for w.description w.made ≤ w.spare) (sym me) (omega (arith, h.2)) in (
      c.loop-t.invariant.table,
      c.requires.words,
      subst (λ i. Splits (FloorHolds key) i v (with_pass_made v) (new_pass v)) (sym c.loop-t.invariant.first)
          (forks key v same few fits),
    )

pub invariant_of-push_reserved : goal.invariant_of-push_reserved
invariant_of-push_reserved c =
    let floor = c.args.description.now in
    let t = c.loop-t.t in
    let h = here floor t c.as_slice-thread-items.result.now c.as_slice-thread-items.ensures c.loop-t-test.true in
    let old = ap (λ (m : Me Slot Knowledge). m.0) c.loop-t.invariant.me in
    let book = c.touch.ensures ∙ c.in_ok-log.ensures in
    let me : c.split_seat-mine.result.me ≡ (first_view floor t, []) = c.split_seat-mine.ensures.4
    ∙ ap (λ v. (new_pass v, [])) old in
    subst (λ (m : Me Slot Knowledge). IsTied t c.in_ok-held.held c.none.result c.touch.new.self false m) (sym me)
    record {
      role = refl;
      thread = refl;
      of_floor = h.0;
      few = omega (arith, h.0, c.requires.few);
      held = c.in_ok-held.ensures.items;
      room = omega (arith, c.in_ok-held.ensures.capacity);
      marks = none_marked floor c.none.result c.none.ensures;
      log = ap (λ (b : Book). b.entries) book;
      spare = ap (λ (b : Book). b.spare) book ∙ h.1;
      out = refl;
      done = λ e. absurd cc;
      runs = λ e. absurd cc;
      rests = λ e. absurd cc;
      bare = λ e. absurd cc;
    }

pub loop-t-preserved : goal.loop-t-preserved
loop-t-preserved c =
    let floor = c.args.description.now in
    let t = c.loop-t.t in
    let h = here floor t c.as_slice-thread-items.result.now c.as_slice-thread-items.ensures c.loop-t-test.true in
    let i = c.loop-t.invariant in
    let old = ap (λ (m : Me Slot Knowledge). m.0) i.me in
    let split = c.split_seat-mine.ensures in
    let next : t + 1 ≡ suc t = omega arith in
    let left : rooms_from floor t - room_for floor t ≡ rooms_from floor (t + 1) = (let p = h.2 in omega arith)
    ∙ ap (rooms_from floor) (sym next) in
    let keeper_next : c.split_seat-mine.new.seat.me ≡
    (record (keeper floor) { made = t + 1; spare = rooms_from floor (t + 1) }, []) =
    split.2 ∙ ap (λ (m : Me Slot Knowledge). (with_pass_made m.0, m.1)) i.me
    ∙ (λ j. (record (keeper floor) { made = sym next j; spare = left j }, [])) in
    let pass : record {
      table = c.split_seat-mine.result.table_id;
      view = c.split_seat-mine.result.me.0;
      finished = false;
      call = call.None;
    } ≡ first_pass c.args.board.now.shared.table_id floor t =
    λ j. record {
      table = (split.3 ∙ i.table) j;
      view = (ap (λ (m : Me Slot Knowledge). m.0) split.4 ∙ ap new_pass old) j;
      finished = false;
      call = call.None;
    }
    in
    record {
      table = split.0 ∙ i.table;
      first = split.1 ∙ i.first;
      me = keeper_next;
      count = ap length c.push_reserved.ensures.items ∙ length-append c.loop-t.passes.items _ ∙ ap (λ n. n + 1) i.count;
      room = omega (arith, i.room, c.push_reserved.ensures.capacity);
      each = subst (λ ps. (k : ℕ) (d : Pass Knowledge) → k < t + 1
          → get_or ps k d ≡ first_pass c.args.board.now.shared.table_id floor k) (sym c.push_reserved.ensures.items)
          (each_more c.loop-t.passes.items _ t (first_pass c.args.board.now.shared.table_id floor) i.count pass i.each);
    }

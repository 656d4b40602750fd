use Rattle.std.proofs.Common.{is_some, sym, ap, subst, ◌∙◌}
use Rattle.indexmap.specs.IndexMap.{get}
use Rattle.lock_history.specs.Books.{place_eq, HasNoValue}
use Rattle.lock_history.proofs.Slots.{room_more, room_none, room_same}
use Rattle.lock_history.proofs.tables.add_slots.Goals as goal
use Rattle.lock_history.proofs.tables.add_slots.Goals.{in-Some+in_ok-insert, in_default}

pub loop-op-preserved : goal.loop-op-preserved
loop-op-preserved c =
    let before = c.loop-op.invariant in
    let ops = c.args.ops.now in
    let i = c.loop-op.op-index in
    elim c.match-place.branch [
      | in-Some+in_ok-insert w ↦ (
        subst HasNoValue (sym w.slots-is)
            (room_none c.loop-op.slots w.insert.new.self (w.in-Some.l.0, w.in-Some.key) before.0
            w.in_ok-insert.ensures.updates),
        λ l key. ap (λ m. is_some (get place_eq m (l, key))) w.slots-is
            ∙ room_more l key c.args.slots.now c.loop-op.slots w.insert.new.self (w.in-Some.l.0, w.in-Some.key) ops i _
            c.loop-op-test.true (before.1 l key) w.in_ok-insert.ensures.updates w.in-Some.ensures,
      )
      | in_default w ↦ (
        subst HasNoValue (sym w.slots-is) before.0,
        λ l key. room_same l key c.args.slots.now c.loop-op.slots c.match-place.slots ops i _ c.loop-op-test.true
            (before.1 l key) w.slots-is w.in_default.ensures,
      )
    ]

use Rattle.std.proofs.Common.{◌≡◌, ◌++◌, take, flat_map}
use Rattle.hold_profile.specs.ProfileText.{order_text}
use Rattle.hold_profile.proofs.text.push_orders.Given as goal

abbrev pub invariant-loop-order : goal.invariant-loop-order
invariant-loop-order l =
    l.out.items ≡ l.initial.out.items ++ flat_map (order_text l.plan) (take l.order-index l.orders)

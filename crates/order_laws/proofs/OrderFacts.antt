-- Steps that keep to the order that was admitted keep the facts of orders, so no threads wait in a cycle.
pub mod Lists
pub mod Gain
pub mod Release
pub mod Wait
pub mod Entries
pub mod Admit
pub mod Steps
pub mod Cycle
pub mod Props
use Rattle.order_laws.proofs.Names
use Names.{ℕ, List, [], true, refl, Config, Reaches, edge, then, HasNoCycle, start_state, Ordered, WantsAreOrdered}
use Names.{HoldsAreOrdered, SleepersAreOrdered, WokenAreOrdered, AbortedWant, HaltsAreOrdered, TakesAreInGraph, arith}
use Rattle.std.proofs.Common.{◌≡◌}

pub no_path : {a b : ℕ} → Reaches [] a b → ⊥
no_path e = grind arith

pub begins : (c : Config) → Ordered c (start_state c)
unfolding start_state HasNoCycle WantsAreOrdered HoldsAreOrdered SleepersAreOrdered WokenAreOrdered AbortedWant
    HaltsAreOrdered TakesAreInGraph
begins c = grind arith

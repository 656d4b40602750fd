-- Steps that keep to the order keep the class graph that of the takes, noted and in progress.
pub mod Tests
pub mod Holds
pub mod Notes
pub mod Admit
pub mod Steps
pub mod Whole
pub mod Props
use Rattle.order_laws.proofs.Names.{ℕ, Config, start_state, Taken, OnlyLocksAreHeld, EdgesAreOfTakes, TakersAreOpen}
use Rattle.order_laws.proofs.Names.{RefusalsHaveCause, ReversalsHaveCause, arith}

pub begins : (c : Config) → Taken c (start_state c)
unfolding start_state OnlyLocksAreHeld EdgesAreOfTakes TakersAreOpen RefusalsHaveCause ReversalsHaveCause
begins c = grind arith

-- Steps of a running floor that keep to the order keep that wants fit takes: who wants a lock takes it, and who has the
-- halt of a take to note wants none.
pub mod Steps
use Rattle.order_laws.proofs.Names.{refl, props, Config, State, start_state, WantsFitTakes, WantedIsTaken}
use Rattle.order_laws.proofs.Names.{HaltedWantNothing}

pub begins : (c : Config) → WantsFitTakes (start_state c)
unfolding start_state WantedIsTaken HaltedWantNothing
begins c = record { wanted_is_taken = λ t l e. absurd cc; halted_want_nothing = λ t l e. absurd cc }

-- they do so in one way, so a ghost field or a model's invariant may keep it
pub WantsFitTakes-prop : (s : State) → IsProp (WantsFitTakes s)
unfolding WantedIsTaken HaltedWantNothing
WantsFitTakes-prop s = hlevel props

-- Acquiring rounds of a running floor: a blocking call that took its lock's chain keeps it until it gains, claims or
-- enters; and before the round few exchanges are made.
use Rattle.std.specs.Prelude.{◌≡◌, ℕ, ◌≤◌, false, Option, Some, None}
use Rattle.lock_model.specs.Config.{Config}
use Rattle.lock_state.specs.State.{State, Wait, Round}
use Rattle.lock_state.specs.Steps.LockWords.{is_woken, bound_to}
use Rattle.lock_state.specs.Steps.Items.{Item, item_with}
use Rattle.lock_state.specs.Steps.{chain_of}
use Rattle.lock_model.specs.declared.plan.QueueName.{QueueName}

-- the thread is in the round of a blocking call that has taken the lock's chain
abbrev pub IsBoundTo : State → ℕ → ℕ → Type 0
IsBoundTo s t l = s.round t ≡ Some (bound_to l)

-- a thread in such a round has the lock's chain out
unfoldable pub BoundHasChain : ℕ → Config → (ℕ → Option Round) → (Item → Option ℕ) → Type 0
BoundHasChain chains c round out =
    (t l : ℕ) → round t ≡ Some (bound_to l) → out (chain_of chains c l) ≡ Some t

-- a thread in a round is on no queue, in no marked list and not woken
unfoldable pub RoundsAreActing : (ℕ → Option Round) → (ℕ → Option QueueName) → (ℕ → Wait) → Type 0
RoundsAreActing round blocked_on wait =
    (t : ℕ) (r : Round) → round t ≡ Some r → (blocked_on t ≡ None) × (is_woken (wait t) ≡ false)

-- a state of a running floor in which both hold
pub record LawfulRounds (chains : ℕ) (c : Config) (s : State) : Type 0 where
  pub bound_has_chain : BoundHasChain chains c s.round (item_with s)
  pub rounds_are_acting : RoundsAreActing s.round s.blocked_on s.wait

-- outside its rounds a thread that wants no lock has at most two looks that count: its call's first exchanges
unfoldable pub FirstExchangesAreFew : (ℕ → Option Round) → (ℕ → Option ℕ) → (ℕ → ℕ) → Type 0
FirstExchangesAreFew round wanted looks =
    (t : ℕ) → round t ≡ None → wanted t ≡ None → looks t ≤ 2

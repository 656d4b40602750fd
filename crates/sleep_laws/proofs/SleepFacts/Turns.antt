-- In a turn of a scheduled run its thread is at work on all channels, and between turns nobody is.
use Rattle.sleep_laws.proofs.Names.{ℕ, true, false, List, None, Config, is_asleep, State, Lawful, Step, MayAll}
use Rattle.sleep_laws.proofs.Names.{after_all, SleepersFit, AsksOfSleepersAll, HaltNobody, by_turn, nobody, off}
use Rattle.std.proofs.Common.{◌≡◌, ◌≢◌}
use Rattle.sleep_laws.proofs.SleepFacts.Moves.{moves}
use Rattle.sleep_laws.proofs.SleepFacts.Steps.{all_keep}

pub turn_keeps : (c : Config) (s : State) (t : ℕ) (steps : List Step) → MayAll c s steps
    → AsksOfSleepersAll (by_turn t) c s steps → HaltNobody steps → s.halted ≡ false → Lawful c s
    → SleepersFit nobody c s
    → SleepersFit (by_turn t) c (after_all c s steps)
turn_keeps c s t steps g a k x l h =
    let begins = moves nobody (by_turn t) c s h (λ u d a z n e. absurd cc) (λ u w f e. absurd cc) in
    all_keep (by_turn t) c s steps g a k x l begins

pub turn_ends : (c : Config) (s : State) (t : ℕ)
    → ((d : ℕ) → is_asleep s.history d t ≡ true → off c s t ≡ 0 → s.blocked_on t ≢ None) → s.unstamped t ≡ None
    → SleepersFit (by_turn t) c s → SleepersFit nobody c s
turn_ends c s t away noted h = moves (by_turn t) nobody c s h
    (λ u d a z n e. let same : t ≡ u = cc in absurd (away d (rw same a) (rw same z) (rw same n)))
    (λ u w f e. let same : t ≡ u = cc in let none = rw same at noted in absurd cc)

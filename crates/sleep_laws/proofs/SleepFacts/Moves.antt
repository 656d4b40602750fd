-- Who is at work on the channels may change, where each thread that is on its way there or has a wake to note goes on.
use Rattle.sleep_laws.proofs.Names.{ℕ, true, Option, Some, None, Config, is_asleep, State, Wake, SleepersFit}
use Rattle.sleep_laws.proofs.Names.{AsleepAreOnTheirWay, UnnotedIsAtWork, off}
use Rattle.std.proofs.Common.{◌≡◌}

module _ (was is : ℕ → Option ℕ) (c : Config) (s : State) (h : SleepersFit was c s)
    (on_way : (t d : ℕ) → is_asleep s.history d t ≡ true → off c s t ≡ 0 → s.blocked_on t ≡ None
    → was d ≡ Some t → is d ≡ Some t)
    (to_note : (t : ℕ) (w : Wake) → s.unstamped t ≡ Some w → was w.chan ≡ Some t
    → is w.chan ≡ Some t) where
  way : AsleepAreOnTheirWay s.history s.blocked_on (off c s) s.wait s.wanted is
  unfolding AsleepAreOnTheirWay
  way t d a z n = let p = h.asleep_are_on_their_way t d a z n in (p.0, p.1, on_way t d a z n p.2)

  unnoted : UnnotedIsAtWork s.unstamped is
  unfolding UnnotedIsAtWork
  unnoted t w e = to_note t w e (h.unnoted_is_at_work t w e)

  pub moves : SleepersFit is c s
  moves = assumption (h, way, unnoted)

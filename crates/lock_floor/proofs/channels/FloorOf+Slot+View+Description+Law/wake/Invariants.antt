use Rattle.lock_floor.proofs.WakeUpStep.{ToldWoken}
use Rattle.lock_floor.proofs.channels.FloorOf+Slot+View+Description+Law.wake.Given as goal

abbrev pub ghosts-woken_off : goal.ghosts-woken_off
ghosts-woken_off a = record { told = ToldWoken a.board.now.shared.key a._d.0 a._all }

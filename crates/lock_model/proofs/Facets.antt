-- What the facets of an event tell of each other: each row shows it.
use Rattle.std.proofs.Common.{◌≡◌, refl}
use Rattle.lock_model.specs.Events.{Facets, facets, lock_gained, section_gained, end_of, section_slept, of_channel, take_halted, sleep_halted}
use Rattle.lock_model.specs.Events as row
use Rattle.lock_model.specs.declared.event.Event.{Event}
use Rattle.lock_model.specs.declared.event.Event.TheVariants.{Locked, Tried, Busy, Unlocked, Set, Added, Got, Base, Shown, Sleeps, Woke, HaltedChan, HaltedLock, WokeOne, WokeAll, Reversed}

pub record Agree (x : Facets) : Type 0 where
  pub gains : section_gained x.section ≡ lock_gained x.take
  pub ends : x.end ≡ end_of x.take x.section
  pub sleeps : of_channel x.section ≡ section_slept x.sleep
  pub halts : take_halted x.take ≡ sleep_halted x.sleep
  pub matters : row.matters x ≡ 1

pub agree : (e : Event) → Agree (facets e)
agree (Locked l mode) = record { gains = refl; ends = refl; sleeps = refl; halts = refl; matters = refl }
agree (Tried l mode) = record { gains = refl; ends = refl; sleeps = refl; halts = refl; matters = refl }
agree (Busy l seen) = record { gains = refl; ends = refl; sleeps = refl; halts = refl; matters = refl }
agree (Unlocked l mode) = record { gains = refl; ends = refl; sleeps = refl; halts = refl; matters = refl }
agree (Set l k v) = record { gains = refl; ends = refl; sleeps = refl; halts = refl; matters = refl }
agree (Added l k n) = record { gains = refl; ends = refl; sleeps = refl; halts = refl; matters = refl }
agree (Got l k found) = record { gains = refl; ends = refl; sleeps = refl; halts = refl; matters = refl }
agree (Base p) = record { gains = refl; ends = refl; sleeps = refl; halts = refl; matters = refl }
agree (Shown p q) = record { gains = refl; ends = refl; sleeps = refl; halts = refl; matters = refl }
agree (Sleeps d) = record { gains = refl; ends = refl; sleeps = refl; halts = refl; matters = refl }
agree (Woke d) = record { gains = refl; ends = refl; sleeps = refl; halts = refl; matters = refl }
agree (HaltedChan d) = record { gains = refl; ends = refl; sleeps = refl; halts = refl; matters = refl }
agree (HaltedLock l) = record { gains = refl; ends = refl; sleeps = refl; halts = refl; matters = refl }
agree (WokeOne d woken) = record { gains = refl; ends = refl; sleeps = refl; halts = refl; matters = refl }
agree (WokeAll d woken) = record { gains = refl; ends = refl; sleeps = refl; halts = refl; matters = refl }
agree (Reversed l class) = record { gains = refl; ends = refl; sleeps = refl; halts = refl; matters = refl }

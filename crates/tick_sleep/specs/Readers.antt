-- What a reader has made known, and what a line adds to it.
use Rattle.std.specs.Prelude.{◌≡◌, ◌<◌, true, false, [], ◌∷◌, ◌++◌, length, Some, ⊤}
use Rattle.tick_sleep.specs.Limits.{most_sleepers, most_events}
use Rattle.tick_sleep.specs.Plans.{can_happen}
use Rattle.tick_sleep.specs.Learning.{Known, is_declared, with_event}
use Rattle.tick_sleep.specs.declared.reader.Lesson.{Lesson}
use Rattle.tick_sleep.specs.declared.reader.Lesson.TheVariants.{Nothing, Sleeper, Event, Done}
use Rattle.tick_sleep.specs.declared.reader.Reader.{Reader}

abbrev pub known : Reader → Known
known r = record {
  names = r.names.keys;
  sleepers = r.sleepers.items;
  events = r.events.items;
  is_done = r.is_done;
}

-- what is known behind a line that adds this
abbrev pub taught : Lesson → Known → Known
taught Nothing k = k
taught (Sleeper d) k = record k {
  names = k.names ++ d.name ∷ [];
  sleepers = k.sleepers ++ d ∷ [];
}
taught (Event v) k = with_event k (Some v)
taught Done k = record k { is_done = true }

-- what a line adds fits what is known: a sleeper has a name of its own, and none of the limits is passed
abbrev pub Teaches : Known → Lesson → Type 0
Teaches k Nothing = ⊤
Teaches k (Sleeper d) =
    (is_declared k d.name ≡ false) × (k.events ≡ []) × (length k.names < most_sleepers)
Teaches k (Event v) =
    (can_happen (length k.names) v ≡ true) × (length k.events < most_events)
Teaches k Done = ⊤

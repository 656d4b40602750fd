-- Each step that keeps to the order keeps the facts of takes, and so does each list of such steps.
use Rattle.order_laws.proofs.Names
use Names.{List, [], Config, State, Lawful, Taken, after_look, after_ready, after_unready, after_enter, after_mark}
use Names.{after_enter_sleep, after_add, after_wake, after_abort, after_lend, after_shift, after_end_walk, after_take}
use Names.{after_give, after_count_out, after_count_in, after_count_self_in, after_count_end, after_halt, Step, Seeks}
use Names.{Gains, Drops, Stamps, Opens, OpensSleepQueue, Resumes, Claims, Admits, Refuses, May, MayAll, KeepsToOrder}
use Names.{KeepToOrder, after, after_all}
use Rattle.std.proofs.Common.{◌∷◌}
use Rattle.lock_laws.proofs.Steps as lawful
use Rattle.order_laws.proofs.TakeFacts.Admit as admit
use Rattle.order_laws.proofs.TakeFacts.Holds as holds
use Rattle.order_laws.proofs.TakeFacts.Notes as notes

pub keeps : (c : Config) (s : State) (step : Step) → May c s step → KeepsToOrder c s step → Lawful c s → Taken c s
    → Taken c (after c s step)
unfolding after_look after_ready after_unready after_enter after_mark after_enter_sleep after_add after_wake after_lend
    after_shift after_end_walk after_take after_give after_count_out after_count_in after_count_self_in after_count_end
    after_halt after_abort
keeps c s (Seeks t l by_try) g k f h = notes.seeks c s t l by_try k f h
keeps c s (Gains t l mode by_try) g k f h = holds.gains c s t l mode by_try g.lock g.unheld k.takes h
keeps c s (Drops t l mode) g k f h = holds.drops c s t l k h
keeps c s (Stamps t e) g k f h = notes.stamps c s t e g k h
keeps c s (Opens t l mode) g k f h = holds.opens c s t l k h
keeps c s (OpensSleepQueue t l mode) g k f h = holds.opens_sleep_queue c s t l k h
keeps c s (Resumes t q cause) g k f h = notes.resumes c s t q cause k h
keeps c s (Claims t l x by_try) g k f h = holds.claims c s t l x by_try g.lock g.unheld k.takes h
keeps c s (Admits t l) g k f h = admit.admits c s t l g f h
keeps c s (Refuses t l class) g k f h = admit.refuses c s t l class g f h
keeps c s other g k f h = assumption h

pub all_keep : (c : Config) (s : State) (steps : List Step) → MayAll c s steps → KeepToOrder c s steps → Lawful c s
    → Taken c s → Taken c (after_all c s steps)
all_keep c s [] g k f h = h
all_keep c s (step ∷ steps) g k f h =
    all_keep c (after c s step) steps g.1 k.1 (lawful.keeps c s step g.0 f) (keeps c s step g.0 k.0 f h)

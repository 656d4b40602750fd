-- Each step that keeps to the order keeps the facts of orders, and so does each list of such steps.
use Rattle.order_laws.proofs.Names
use Names.{List, [], Config, State, Lawful, Ordered, after_seek, after_look, after_wake, after_abort, after_lend}
use Names.{after_shift, after_end_walk, after_take, after_give, after_count_out, after_count_in, after_count_self_in}
use Names.{after_count_end, after_halt, Step, Gains, Drops, Stamps, Readies, Unreadies, Enters, Opens, EntersSleepQueue}
use Names.{OpensSleepQueue, Adds, Marks, Resumes, Claims, Admits, Refuses, May, MayAll, KeepsToOrder, KeepToOrder}
use Names.{after, after_all}
use Rattle.std.proofs.Common.{◌∷◌}
use Rattle.lock_laws.proofs.Steps as lawful
use Rattle.order_laws.proofs.OrderFacts.Admit as admit
use Rattle.order_laws.proofs.OrderFacts.Entries as entries
use Rattle.order_laws.proofs.OrderFacts.Gain as gain
use Rattle.order_laws.proofs.OrderFacts.Release as release
use Rattle.order_laws.proofs.OrderFacts.Wait as wait

pub keeps : (c : Config) (s : State) (step : Step) → May c s step → KeepsToOrder c s step → Lawful c s → Ordered c s
    → Ordered c (after c s step)
unfolding after_seek after_look after_take after_give after_wake after_lend after_shift after_end_walk after_count_out
    after_count_in after_count_self_in after_count_end after_halt after_abort
keeps c s (Gains t l mode by_try) g k f h = gain.gains c s t l mode by_try g.acting k f h
keeps c s (Drops t l mode) g k f h = release.drops c s t l h
keeps c s (Stamps t e) g k f h = entries.stamps c s t e g f h
keeps c s (Readies t q) g k f h = wait.readies c s t h
keeps c s (Unreadies t q) g k f h = wait.unreadies c s t h
keeps c s (Enters t l mode x) g k f h = wait.enters c s t l k h mode x
keeps c s (Opens t l mode) g k f h = release.opens c s t l h
keeps c s (EntersSleepQueue t l mode x) g k f h = wait.enters_sleep_queue c s t l k h mode x
keeps c s (OpensSleepQueue t l mode) g k f h = release.opens_sleep_queue c s t l h
keeps c s (Adds t d x) g k f h = wait.adds c s t d x k.last f h
keeps c s (Marks t m ms) g k f h = wait.marks c s t m ms g f h
keeps c s (Resumes t q cause) g k f h = wait.resumes c s t q cause g h
keeps c s (Claims t l x by_try) g k f h = gain.claims c s t l x by_try g.acting k f h
keeps c s (Admits t l) g k f h = admit.admits c s t l g f h
keeps c s (Refuses t l class) g k f h = admit.refuses c s t l class h
keeps c s other g k f h = assumption h

pub all_keep : (c : Config) (s : State) (steps : List Step) → MayAll c s steps → KeepToOrder c s steps → Lawful c s
    → Ordered c s → Ordered c (after_all c s steps)
all_keep c s [] g k f h = h
all_keep c s (step ∷ steps) g k f h =
    all_keep c (after c s step) steps g.1 k.1 (lawful.keeps c s step g.0 f) (keeps c s step g.0 k.0 f h)

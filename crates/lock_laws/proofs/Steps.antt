-- Each step, of whatever kind, keeps the state lawful, and so does each list of steps.
use Rattle.lock_laws.proofs.Names
use Names.{List, [], subst, sym, refl, Config, State, Lawful, Step, Seeks, Looks, TakesItem, GivesItem, Gains, Drops}
use Names.{Stamps, Readies, Unreadies, Enters, Opens, EntersSleepQueue, OpensSleepQueue, Adds, Wakes, Marks, Resumes}
use Names.{Claims, Lends, Shifts, EndsWalk, Admits, Refuses, CountsOut, CountsIn, CountsSelfIn, CountsEnd, Halts}
use Names.{Aborts, May, MayAll, after, after_all, IsStep, IsReachable, begins, goes_on}
use Rattle.std.proofs.Common.{◌∷◌}
use Rattle.lock_laws.proofs.OwnWaits.{seek_lawful, look_lawful, ready_lawful, unready_lawful}
use Rattle.lock_laws.proofs.Items.{take_lawful, give_lawful}
use Rattle.lock_laws.proofs.StateAtStart as start
use Rattle.lock_laws.proofs.Gain as gain
use Rattle.lock_laws.proofs.Drop as drop
use Rattle.lock_laws.proofs.Stamp as stamp
use Rattle.lock_laws.proofs.Enter as enter
use Rattle.lock_laws.proofs.Open as opening
use Rattle.lock_laws.proofs.EnterSleep as enter_sleep
use Rattle.lock_laws.proofs.OpenSleep as open_sleep
use Rattle.lock_laws.proofs.Sleep.{add_lawful, wake_lawful}
use Rattle.lock_laws.proofs.Mark as mark
use Rattle.lock_laws.proofs.Resume as resume
use Rattle.lock_laws.proofs.Claim as claim
use Rattle.lock_laws.proofs.Lend as lend
use Rattle.lock_laws.proofs.Shift as shift
use Rattle.lock_laws.proofs.Admit.{admit_lawful, refuse_lawful}
use Rattle.lock_laws.proofs.Counting.{out_lawful, in_lawful, self_in_lawful, end_lawful, halt_lawful}
use Rattle.lock_laws.proofs.Abort as abort

pub keeps : (c : Config) (s : State) (step : Step) → May c s step → Lawful c s → Lawful c (after c s step)
keeps c s (Seeks t l by_try) g h = seek_lawful c s t l by_try g h
keeps c s (Looks t l counts) g h = look_lawful c s t l counts g h
keeps c s (TakesItem t i) g h = take_lawful c s t i g h
keeps c s (GivesItem t i) g h = give_lawful c s t i g h
keeps c s (Gains t l mode by_try) g h = gain.lawful c s t l mode by_try g h
keeps c s (Drops t l mode) g h = drop.lawful c s t l mode g h
keeps c s (Stamps t e) g h = stamp.lawful c s t e g h
keeps c s (Readies t q) g h = ready_lawful c s t g h
keeps c s (Unreadies t q) g h = unready_lawful c s t g h
keeps c s (Enters t l mode x) g h = enter.lawful c s t l mode x g h
keeps c s (Opens t l mode) g h = opening.lawful c s t l mode g h
keeps c s (EntersSleepQueue t l mode x) g h = enter_sleep.lawful c s t l mode x g h
keeps c s (OpensSleepQueue t l mode) g h = open_sleep.lawful c s t l mode g h
keeps c s (Adds t d x) g h = add_lawful c s t d x g h
keeps c s (Wakes t d all) g h = wake_lawful c s t d all g h
keeps c s (Marks t m ms) g h = mark.lawful c s t m ms g h
keeps c s (Resumes t q cause) g h = resume.lawful c s t q cause g h
keeps c s (Claims t l x by_try) g h = claim.lawful c s t l x by_try g h
keeps c s (Lends t l o x) g h = lend.lawful c s t l o x g h
keeps c s (Shifts t o l) g h = shift.lawful c s t o l g h
keeps c s (EndsWalk t) g h = shift.end_lawful c s t g h
keeps c s (Admits t l) g h = admit_lawful c s t l g.free h
keeps c s (Refuses t l k) g h = refuse_lawful c s t l k h
keeps c s (CountsOut t) g h = out_lawful c s h t
keeps c s (CountsIn t u) g h = in_lawful c s h t u
keeps c s (CountsSelfIn t) g h = self_in_lawful c s h t
keeps c s (CountsEnd t) g h = end_lawful c s h t
keeps c s (Halts t) g h = halt_lawful c s h
keeps c s (Aborts t q side u) g h = abort.lawful c s t q side u g h

-- so does each list of steps that may be made
pub all_keep : (c : Config) (s : State) (steps : List Step) → MayAll c s steps → Lawful c s
    → Lawful c (after_all c s steps)
all_keep c s [] g h = h
all_keep c s (step ∷ steps) g h = all_keep c (after c s step) steps g.1 (keeps c s step g.0 h)

pub step_keeps : (c : Config) (s n : State) → IsStep c s n → Lawful c s → Lawful c n
step_keeps c s n p h = subst (Lawful c) (sym p.2) (keeps c s p.0 p.1 h)

pub reached_lawful : (c : Config) (s : State) → IsReachable c s → Lawful c s
reached_lawful c s begins = start.lawful c
reached_lawful c n (goes_on {s} r p) = step_keeps c s n p (reached_lawful c s r)

-- the state behind a list of steps that may be made is reachable
pub all_reach : (c : Config) (s : State) (steps : List Step) → MayAll c s steps → IsReachable c s
    → IsReachable c (after_all c s steps)
all_reach c s [] g r = r
all_reach c s (step ∷ steps) g r = all_reach c (after c s step) steps g.1 (goes_on r (step, g.0, refl))

-- Each step that asks of sleepers what it must keeps the facts of sleepers, and so does each list of such steps in
-- which none sets the halt word.
use Rattle.sleep_laws.proofs.Names
use Names.{ℕ, true, false, List, [], Option, refl, arith, ⊤, Config, State, put_queue, Lawful, after_seek, after_look}
use Names.{after_drop, after_lend, after_shift, after_end_walk, after_take, after_give, Step, Seeks, Looks, TakesItem}
use Names.{GivesItem, Gains, Drops, Stamps, Readies, Unreadies, Enters, Opens, EntersSleepQueue, OpensSleepQueue, Adds}
use Names.{Wakes, Marks, Resumes, Claims, Lends, Shifts, EndsWalk, Admits, Refuses, CountsOut, CountsIn, CountsSelfIn}
use Names.{CountsEnd, Halts, Aborts, May, MayAll, after, after_all, AsksOfSleepers, is_halted_chan, Note, after_gain}
use Names.{after_stamp, after_ready, after_unready, after_enter, after_open, after_mark, after_resume}
use Names.{after_enter_sleep, after_open_sleep, after_add, after_wake, after_abort, after_claim, after_admit}
use Names.{after_refuse, after_count_out, after_count_in, after_count_self_in, after_count_end, after_halt}
use Names.{is_chan_halt, SleepersFit, AsksOfSleepersAll, IsNoHalt, HaltNobody, SleepersInOrder, LatecomersAreLater}
use Names.{SleepersKeepBase, SleepersAreExclusive, UnnotedIsFair, NoSleepIsHalted}
use Rattle.std.proofs.Common.{◌≡◌, ◌≤◌, ◌∷◌, ◌∙◌}
use Rattle.lock_laws.proofs.Steps as lawful
use Rattle.sleep_laws.proofs.SleepFacts.Abort as abort
use Rattle.sleep_laws.proofs.SleepFacts.Add as add
use Rattle.sleep_laws.proofs.SleepFacts.Enter as enter
use Rattle.sleep_laws.proofs.SleepFacts.Mark as mark
use Rattle.sleep_laws.proofs.SleepFacts.Open as opening
use Rattle.sleep_laws.proofs.SleepFacts.Own as own
use Rattle.sleep_laws.proofs.SleepFacts.Resume as resume
use Rattle.sleep_laws.proofs.SleepFacts.Stamp as stamp
use Rattle.sleep_laws.proofs.SleepFacts.Wake as wake

-- a thread that has the halt of its sleep on a channel to note notes that next
abbrev pub NotesHalts : State → Step → Type 0
NotesHalts s (Stamps t e) = 1 ≤ is_chan_halt (s.noted t) → is_halted_chan e ≡ true
NotesHalts s other = ⊤

pub keeps : (at_work : ℕ → Option ℕ) (c : Config) (s : State) (step : Step) → May c s step
    → AsksOfSleepers at_work s step → NotesHalts s step → Lawful c s → SleepersFit at_work c s
    → SleepersFit at_work c (after c s step)
unfolding after_seek after_look after_drop after_lend after_shift after_end_walk after_take after_give after_count_out
    after_count_in after_count_self_in after_count_end put_queue SleepersInOrder LatecomersAreLater SleepersKeepBase
    SleepersAreExclusive UnnotedIsFair
keeps at_work c s (Seeks t l by_try) g a n f h = assumption h
keeps at_work c s (Looks t l counts) g a n f h = assumption h
keeps at_work c s (TakesItem t i) g a n f h = assumption h
keeps at_work c s (GivesItem t i) g a n f h = assumption h
keeps at_work c s (Gains t l mode by_try) g a n f h = own.gains h t l mode by_try
keeps at_work c s (Drops t l mode) g a n f h = assumption h
keeps at_work c s (Stamps t e) g a n f h = stamp.stamps f h t e g a n
keeps at_work c s (Readies t q) g a n f h = own.readies h t g
keeps at_work c s (Unreadies t q) g a n f h = own.unreadies h t g f a
keeps at_work c s (Enters t l mode x) g a n f h = enter.enters f h t l g.waits.unnamed a mode x
keeps at_work c s (Opens t l mode) g a n f h = opening.opens h t l g.releases.thread g.releases.unmarked
keeps at_work c s (EntersSleepQueue t l mode x) g a n f h =
    enter.enters_sleep_queue f h t l g.waits.unnamed a mode x
keeps at_work c s (OpensSleepQueue t l mode) g a n f h =
    opening.opens_sleep_queue h t l g.releases.thread g.releases.unmarked
keeps at_work c s (Adds t d x) g a n f h = add.adds f h t d x g a
keeps at_work c s (Wakes t d all) g a n f h = wake.wakes f h t d all g a
keeps at_work c s (Marks t m ms) g a n f h = mark.marks f h t m ms g
keeps at_work c s (Resumes t q cause) g a n f h = resume.resumes f h t q cause g
keeps at_work c s (Claims t l x by_try) g a n f h = own.claims h t l x by_try
keeps at_work c s (Lends t l o x) g a n f h = assumption h
keeps at_work c s (Shifts t o l) g a n f h = assumption h
keeps at_work c s (EndsWalk t) g a n f h = assumption h
keeps at_work c s (Admits t l) g a n f h = own.admits f h t l g.free
keeps at_work c s (Refuses t l k) g a n f h = own.refuses h t l k g
keeps at_work c s (CountsOut t) g a n f h = assumption h
keeps at_work c s (CountsIn t u) g a n f h = assumption h
keeps at_work c s (CountsSelfIn t) g a n f h = assumption h
keeps at_work c s (CountsEnd t) g a n f h = assumption h
keeps at_work c s (Halts t) g a n f h = abort.halts h
keeps at_work c s (Aborts t q side u) g a n f h = abort.aborts_it f h t q side u g

-- a step that doesn't set the halt word leaves it
pub halted_stays : (c : Config) (s : State) (step : Step) → IsNoHalt step → (after c s step).halted ≡ s.halted
unfolding after_seek after_look after_gain after_drop after_stamp after_ready after_unready after_enter after_open
    after_mark after_resume after_enter_sleep after_open_sleep after_add after_wake after_claim after_lend after_shift
    after_end_walk after_admit after_refuse after_take after_give after_count_out after_count_in after_count_self_in
    after_count_end after_halt after_abort
halted_stays c s step n = grind arith

-- where it isn't set no halt is to be noted
no_halt : (at_work : ℕ → Option ℕ) (c : Config) (s : State) (step : Step) → s.halted ≡ false → SleepersFit at_work c s
    → NotesHalts s step
unfolding NoSleepIsHalted
no_halt at_work c s (Stamps t e) x h = go (s.noted t) refl
  where
    go : (o : Option Note) → s.noted t ≡ o → 1 ≤ is_chan_halt o → is_halted_chan e ≡ true
    go o i k = grind arith
no_halt at_work c s other x h = tt

pub all_keep : (at_work : ℕ → Option ℕ) (c : Config) (s : State) (steps : List Step)
    → MayAll c s steps → AsksOfSleepersAll at_work c s steps → HaltNobody steps → s.halted ≡ false
    → Lawful c s → SleepersFit at_work c s
    → SleepersFit at_work c (after_all c s steps)
all_keep at_work c s [] g a n x f h = h
all_keep at_work c s (step ∷ steps) g a n x f h =
    all_keep at_work c (after c s step) steps g.1 a.1 n.1 (halted_stays c s step n.0 ∙ x) (lawful.keeps c s step g.0 f)
    (keeps at_work c s step g.0 a.0 (no_halt at_work c s step x h) f h)

pub all_stay : (c : Config) (s : State) (steps : List Step) → HaltNobody steps → (after_all c s steps).halted ≡ s.halted
all_stay c s [] n = refl
all_stay c s (step ∷ steps) n = all_stay c (after c s step) steps n.1 ∙ halted_stays c s step n.0

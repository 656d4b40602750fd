-- What seats know after steps, and after a pass is made or taken in.
use Rattle.std.specs.Prelude.{ℕ, suc, ◌-◌, Bool, true, false, not, ◌&&◌, ◌||◌, nat_lt, ◌==◌, if◌then◌else◌, List, [], ◌∷◌, ◌++◌, length, filter, Option, None, Some}
use mathlib.Core.Option as slots
use Rattle.atomic_table.specs.Table.{rest}
use Rattle.lock_model.specs.Config.{Config}
use Rattle.lock_model.specs.Events.{OfSection, NoSection, BeginsIn, EndsFrom, LeftFor, TakenBack, facets}
use Rattle.lock_model.specs.Operations.{hold_in, without_lock}
use Rattle.lock_model.specs.Words.{Word}
use Rattle.lock_model.specs.declared.event.Entry.{Entry}
use Rattle.lock_model.specs.declared.event.Event.{Event}
use Rattle.lock_model.specs.declared.event.Held.{Held}
use Rattle.lock_state.specs.State.{Look}
use Rattle.lock_state.specs.Steps.{Step, seeks, is_first, chain_of}
use Rattle.lock_state.specs.Steps.LockWords.{taking_from, round_of, looks_after, round_after, taking_after, unstamped_after}
use Rattle.lock_state.specs.Steps.Items.{Item, is_chain, in_its_chain, seen_after}
use Rattle.floor_table.specs.Descriptions.{config_in, room_for}
use Rattle.floor_table.specs.Places.{slot_of}
use Rattle.floor_table.specs.declared.slot.Slot.{Slot}
use Rattle.floor_table.specs.Shares.{Share, Doing}
use Rattle.floor_table.specs.Shelves.{found}
use Rattle.floor_table.specs.Views.{Knowledge, first_view}

-- 1. Making passes and taking them in

-- the keeper, when it makes a pass, and the thread's seat with it
abbrev pub with_pass_made : Knowledge → Knowledge
with_pass_made v =
    record v { made = suc v.made; spare = v.spare - room_for v.description v.made }

abbrev pub new_pass : Knowledge → Knowledge
new_pass v = first_view v.description v.made

-- the longer of two lists of steps
abbrev pub longer : List Step → List Step → List Step
longer xs ys = if nat_lt (length xs) (length ys) then ys else xs

-- the keeper, when it takes a pass in: of two parts of the list of all steps it has seen the longer
abbrev pub with_pass_taken : Knowledge → Knowledge → Knowledge
with_pass_taken v w = record v {
  seen = longer v.seen w.seen;
  gathered = v.gathered ++ (w.thread, w.share) ∷ [];
}

-- 2. Steps of a thread. That it has seen them is said beside, by `seeing`.

-- whether the value of a place is out
abbrev pub is_there : slots.Option Slot → Bool
is_there slots.none = false
is_there (slots.some x) = true

abbrev pub is_out : List (ℕ × Slot) → Option ℕ → Bool
is_out out None = false
is_out out (Some j) = is_there (found j out)

-- whether the thread has the item out
abbrev pub has_item : Knowledge → Item → Bool
has_item v i = is_out v.out (slot_of v.description i)

-- whether a look at a lock counts: it does in an acquiring round of the lock, and where it is a call's first exchange
-- that missed, outside the lock's chain
abbrev pub counts : Knowledge → ℕ → Bool
counts v l =
    (seeks l v.share.doing.round || is_first v.share.doing.round (hold_in v.share.held l))
    && not (has_item v (chain_of v.description.chains (config_in v.description) l))

-- after a look at a lock, which saw the word
abbrev pub looked : Knowledge → ℕ → Word → Knowledge
looked v l word =
    let x : Doing = v.share.doing in
    let look : Look = record { lock = l; word = word } in
    let after : Doing = record x {
      looks = if counts v l then suc x.looks else x.looks;
      looks_in_all = suc x.looks_in_all;
      last_look = Some look;
      seen_in_section = Some look;
    } in
    record v { share = record v.share { doing = after } }

-- after an acquiring round has begun
abbrev pub sought : Knowledge → ℕ → Bool → Knowledge
sought v l by_try =
    let x : Doing = v.share.doing in
    let after : Doing = record x {
      taking = taking_from by_try x.wanted l x.taking;
      looks = 0;
      round = Some (round_of l by_try);
    } in
    record v { share = record v.share { doing = after } }

-- the numbers other than one
abbrev pub others : ℕ → List ℕ → List ℕ
others l ks = filter (λ k. not (k == l)) ks

-- after a gain
abbrev pub gained : Knowledge → Held → Knowledge
gained v h =
    let after : Doing = record v.share.doing {
      wanted = None;
      called = None;
      looks = 0;
      last_look = None;
      round = None;
    } in
    let share : Share = record v.share {
      held = v.share.held ++ h ∷ [];
      begun = others h.l.0 v.share.begun;
      doing = after;
    } in
    record v { share = share }

-- after a lock was put down
abbrev pub put_down : Knowledge → ℕ → Knowledge
put_down v l =
    let after : Doing = record v.share.doing { last_look = None } in
    record v { share = record v.share { held = without_lock l v.share.held; doing = after } }

-- the locks of which a section began since they were gained, after an event
abbrev pub begun_behind : Config → OfSection → List ℕ → List ℕ
begun_behind c NoSection begun = begun
begun_behind c (BeginsIn l mode) begun = l ∷ begun
begun_behind c (EndsFrom l mode) begun = begun
begun_behind c (LeftFor d) begun = begun
begun_behind c (TakenBack d) begun = c.chan_lock d ∷ begun

abbrev pub begun_by : Config → Event → List ℕ → List ℕ
begun_by c e begun = begun_behind c (facets e).section begun

-- after what a place has was taken
abbrev pub took : Knowledge → Item → ℕ → Slot → Knowledge
took v i j x =
    let doing : Doing = v.share.doing in
    let after : Doing = record doing {
      seen_in_section = seen_after (is_chain i) doing.seen_in_section;
      round = if is_chain i then in_its_chain doing.round else doing.round;
    } in
    record v { out = (j, x) ∷ v.out; share = record v.share { doing = after } }

-- after what was taken last was given back
abbrev pub gave : Knowledge → Item → Knowledge
gave v i =
    let doing : Doing = v.share.doing in
    let after : Doing = record doing {
      seen_in_section = seen_after (is_chain i) doing.seen_in_section;
    } in
    record v { out = rest v.out; share = record v.share { doing = after } }

-- the entry of a thread with a ticket
abbrev pub entry_by : ℕ → ℕ → Event → Entry
entry_by t ticket event = record { ticket = ticket; thread = record { 0 = t }; event = event }

-- after a stamp, by which the entry was made
abbrev pub stamped : Config → Knowledge → Entry → Knowledge
stamped c v entry =
    let x : Doing = v.share.doing in
    let after : Doing = record x {
      looks = looks_after entry.event x.looks;
      last_look = None;
      round = round_after entry.event x.round;
      noted = None;
      taking = taking_after entry.event x.taking;
      unstamped = unstamped_after entry.event x.unstamped;
      woken_from = None;
    } in
    let share : Share = record v.share {
      begun = begun_by c entry.event v.share.begun;
      doing = after;
      log = entry ∷ v.share.log;
    } in
    record v { spare = v.spare - 1; share = share }

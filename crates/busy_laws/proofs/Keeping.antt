-- Each step that may be made keeps that busy words fit who holds locks. So where nobody has a section left to begin,
-- the history explains each of them.
use Rattle.std.proofs.Common.{◌≡◌, ℕ, ◌<◌, Bool, true, false, not, List, [], ◌∷◌, None, refl, sym, ap, ◌∙◌}
use Rattle.std.proofs.Props.{props}
use Rattle.lock_model.specs.Config.{Config}
use Rattle.lock_model.specs.Events.{OfTake, NoTake, GainedBy, FoundBusy, HaltedFor, RefusedBy}
use Rattle.lock_model.specs.Holds.{NotHeld, Holds, is_unheld}
use Rattle.lock_model.specs.Queues.{list_of, without}
use Rattle.lock_model.specs.declared.plan.Mode.{Mode}
use Rattle.lock_model.specs.declared.plan.Mode.TheVariants.{Excl}
use Rattle.lock_model.specs.declared.event.Entry.{Entry}
use Rattle.lock_state.specs.State.{State, start_state, put, put_at}
use Rattle.lock_state.specs.Facts.{Lawful, HeldAreListed, OnlyThreadsHold}
use Rattle.lock_state.specs.Facts.Words.{is_listed}
use Rattle.lock_state.specs.Steps.{Step, Looks, Gains, Drops, Stamps, Enters, Opens, EntersSleepQueue, OpensSleepQueue, Claims, Aborts, May, MayAll, after, after_all}
use Rattle.lock_state.specs.Steps.LockWords.{after_seek, after_look, after_gain, after_drop, after_stamp, after_ready, after_unready}
use Rattle.lock_state.specs.Steps.Turnstiles.{after_enter, after_open, after_mark, after_resume}
use Rattle.lock_state.specs.Steps.SleepQueues.{after_enter_sleep, after_open_sleep, after_add, after_wake, after_abort}
use Rattle.lock_state.specs.Steps.Lending.{after_claim, after_lend, after_shift, after_end_walk}
use Rattle.lock_state.specs.Steps.Items.{after_take, after_give}
use Rattle.lock_state.specs.Steps.Orders.{after_admit, after_refuse}
use Rattle.lock_state.specs.Steps.Counting.{after_count_out, after_count_in, after_count_self_in, after_count_end, after_halt}
use Rattle.lock_laws.proofs.Kit.{put_at_other}
use Rattle.lock_laws.proofs.Steps as lawful
use Rattle.lock_model.specs.BusyWords.{has_section, WordHasHolder, BusyWordsHaveHolders, BusyIsExplained}
use Rattle.busy_laws.specs.Holders.{BusyWordsFit, BegunAreNoted, LooksHaveHolders, NobodyHasToBegin, has_or_begins}
use Rattle.busy_laws.proofs.Had.{still_have}
use Rattle.busy_laws.proofs.Changes.{looks_less, looks_left, looks_more, gain_noted, gain_more, left_noted, left_more, stamp_noted, stamp_more, stamp_words}
use Rattle.std.proofs.Common.{arith}

-- 1. Steps

module _ (c : Config) (s : State) (l : Lawful c s) (x : BusyWordsFit c s) where
  abbrev had : ℕ → ℕ → Mode → Bool
  had = has_or_begins c s.held s.has_begun s.history

  -- an enter changes no hold
  entered : (t : ℕ) → LooksHaveHolders c s.held s.has_begun (put s.last_look t None) s.history
  entered t = looks_less c s x t s.held s.has_begun s.history (λ u k m e. e) (λ u k ne. refl)

  module _ (t j : ℕ) (mode : Mode) (n : s.held t j ≡ NotHeld) where
    gain_looks : LooksHaveHolders c (put_at s.held t j (Holds mode)) (put_at s.has_begun t j false)
        (put s.last_look t None) s.history
    gain_looks = looks_less c s x t _ _ s.history (gain_more c s x t j mode n)
        (λ u k ne. put_at_other s.held t j (Holds mode) u k ne)

    gain_words : BusyWordsHaveHolders c
        (has_or_begins c (put_at s.held t j (Holds mode)) (put_at s.has_begun t j false) s.history) s.history
    gain_words = still_have c had _ (gain_more c s x t j mode n) s.history x.busy_words_have_holders

  module _ (t j : ℕ) (b : s.has_begun t j ≡ true) where
    left_looks : LooksHaveHolders c (put_at s.held t j NotHeld) s.has_begun (put s.last_look t None) s.history
    left_looks = looks_less c s x t _ _ s.history (left_more c s x t j b)
        (λ u k ne. put_at_other s.held t j NotHeld u k ne)

    left_words : BusyWordsHaveHolders c (has_or_begins c (put_at s.held t j NotHeld) s.has_begun s.history) s.history
    left_words = still_have c had _ (left_more c s x t j b) s.history x.busy_words_have_holders

  pub keeps : (step : Step) → May c s step → BusyWordsFit c (after c s step)
  unfolding after_seek after_look after_gain after_drop after_stamp after_ready after_unready after_enter after_open
      after_mark after_resume after_enter_sleep after_open_sleep after_add after_wake after_claim after_lend after_shift
      after_end_walk after_admit after_refuse after_take after_give after_count_out after_count_in after_count_self_in
      after_count_end after_halt after_abort
  keeps (Looks t j counts) g = record {
    begun_are_noted = x.begun_are_noted;
    looks_have_holders = looks_more c s x t l j;
    busy_words_have_holders = x.busy_words_have_holders;
  }
  keeps (Gains t j mode by_try) g = record {
    begun_are_noted = gain_noted c s x t j mode;
    looks_have_holders = gain_looks t j mode g.unheld;
    busy_words_have_holders = gain_words t j mode g.unheld;
  }
  keeps (Claims t j h by_try) g = record {
    begun_are_noted = gain_noted c s x t j Excl;
    looks_have_holders = gain_looks t j Excl g.unheld;
    busy_words_have_holders = gain_words t j Excl g.unheld;
  }
  keeps (Drops t j mode) g = record {
    begun_are_noted = left_noted c s x t j;
    looks_have_holders = left_looks t j g.begun;
    busy_words_have_holders = left_words t j g.begun;
  }
  keeps (Opens t j mode) g = record {
    begun_are_noted = left_noted c s x t j;
    looks_have_holders = left_looks t j g.releases.begun;
    busy_words_have_holders = left_words t j g.releases.begun;
  }
  keeps (OpensSleepQueue t j mode) g = record {
    begun_are_noted = left_noted c s x t j;
    looks_have_holders = left_looks t j g.releases.begun;
    busy_words_have_holders = left_words t j g.releases.begun;
  }
  keeps (Stamps t e) g = record {
    begun_are_noted = stamp_noted c s x t e g;
    looks_have_holders = looks_less c s x t s.held _ _ (stamp_more c s x t e g) (λ u k ne. refl);
    busy_words_have_holders = stamp_words c s x t e g;
  }
  keeps (Enters t j mode y) g = record {
    begun_are_noted = x.begun_are_noted;
    looks_have_holders = entered t;
    busy_words_have_holders = x.busy_words_have_holders;
  }
  keeps (EntersSleepQueue t j mode y) g = record {
    begun_are_noted = x.begun_are_noted;
    looks_have_holders = entered t;
    busy_words_have_holders = x.busy_words_have_holders;
  }
  keeps (Aborts t q side u) g = record {
    begun_are_noted = x.begun_are_noted;
    looks_have_holders = looks_left c s x t q (without u (list_of side (s.lists q)));
    busy_words_have_holders = x.busy_words_have_holders;
  }
  keeps other g = record {
    begun_are_noted = x.begun_are_noted;
    looks_have_holders = x.looks_have_holders;
    busy_words_have_holders = x.busy_words_have_holders;
  }

pub all_keep : (c : Config) (s : State) (steps : List Step) → MayAll c s steps → Lawful c s → BusyWordsFit c s
    → BusyWordsFit c (after_all c s steps)
all_keep c s [] g l x = x
all_keep c s (step ∷ steps) g l x =
    all_keep c (after c s step) steps g.1 (lawful.keeps c s step g.0 l) (keeps c s l x step g.0)

pub begins : (c : Config) → BusyWordsFit c (start_state c)
unfolding start_state BegunAreNoted LooksHaveHolders BusyWordsHaveHolders
begins c = grind arith

-- 2. Whole histories

pub explained : (c : Config) (s : State) → BusyWordsFit c s → NobodyHasToBegin s → BusyIsExplained c s.history
explained c s x n =
    still_have c (has_or_begins c s.held s.has_begun s.history) (has_section c s.history) noted s.history
    x.busy_words_have_holders
  where
    noted : (u k : ℕ) (m : Mode) → has_or_begins c s.held s.has_begun s.history u k m ≡ true
        → has_section c s.history u k m ≡ true
    noted u k m e = grind arith

-- where nobody holds a lock, nobody has a section left to begin
pub unheld_begun : (c : Config) (s : State) → Lawful c s → ((t : ℕ) → t < c.threads → s.held_locks t ≡ [])
    → NobodyHasToBegin s
unfolding HeldAreListed OnlyThreadsHold
unheld_begun c s l n t k mode e =
    let listed = l.words.held_are_listed t k ∙ ap (λ h. not (is_unheld h)) e in
    let none = ap (is_listed k) (n t (l.words.only_threads_hold t k mode e)) in
    absurd (let z : false ≡ true = sym none ∙ listed in cc)

-- 3. The facts hold in one way, so a ghost field or a model's invariant may keep them

word-prop : (c : Config) (d : ℕ → ℕ → Mode → Bool) (o : OfTake) (t : ℕ) → IsProp (WordHasHolder c d o t)
word-prop c d NoTake t = hlevel
word-prop c d (GainedBy l by_try) t = hlevel
word-prop c d (FoundBusy l seen) t = hlevel props
word-prop c d (HaltedFor l) t = hlevel
word-prop c d (RefusedBy l class) t = hlevel

words-prop : (c : Config) (d : ℕ → ℕ → Mode → Bool) (es : List Entry) → IsProp (BusyWordsHaveHolders c d es)
unfolding BusyWordsHaveHolders
words-prop c d [] = hlevel
words-prop c d (e ∷ es) = hlevel (props, word-prop, words-prop c d es)

pub BusyWordsFit-prop : (c : Config) (s : State) → IsProp (BusyWordsFit c s)
unfolding BegunAreNoted LooksHaveHolders
BusyWordsFit-prop c s = hlevel (props, words-prop)

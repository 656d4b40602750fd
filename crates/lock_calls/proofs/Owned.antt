-- A release in the section of the lock's chain: what allows its steps there, and what each leaves.
use Rattle.lock_calls.proofs.Names
use Names.{ℕ, arith, Bool, true, false, Some, List, [], length, map, refl, sym, ap, subst, inl, inr, cases_eq, ne_eqb}
use Names.{Hold, NotHeld, Holds, is_exclusive, hold_in, lock_queue, chan_queue, Word, word_of, IsWellFormed}
use Names.{is_turnstile, Holder, Free, HeldBy, SharedBy, is_free, is_drop, sharers, Mode, Excl, Shared, head_of}
use Names.{record_opened, chain_opened, woken_of, mark_of, chain_woken, sum_below-at, put_at_same, WordsMatchHolders}
use Names.{OnlyThreadsHold, owns, shares, State, Step, Looks, Drops, Opens, OpensSleepQueue, after_open_sleep, IsHeldIn}
use Names.{with_value, config_in, Description, Record, IsSeatOf, RepresentsShare, thread_in, ShareColumns, IsSound}
use Names.{Makes, MayMake, Knowledge, seeing, IsOffTheWay, MayGiveUp, HasBothOut, MayOpenUp, OpensUp, out_opened}
use Names.{marks_opened, MayOpenSleepers, OpensSleepers, sleepers_opened, HasSleeperOut, sleeper_out, counts, looked}
use Names.{put_down, finds_word, share_behind, dropped_unheld, opened_unheld, may_drop_settled, may_open_up_settled}
use Names.{may_open_sleepers, last_shown, HasRecordAndChain, MayLetGo, IsOwn, LetsGo, MissesOwn}
use Rattle.std.proofs.Common.{◌≡◌, ◌≢◌, ◌<◌, ◌≤◌, ◌∷◌, ◌∙◌}
use Rattle.lock_floor.proofs.MayWait as wait
use Rattle.lock_calls.proofs.Sections.{as_both, as_sleeper, from_both, from_sleeper, opens_turnstile, opens_asleep}
use Rattle.lock_calls.proofs.Words.{look_at, word_seen}

-- 1. The word of a lock that the thread holds

own_holder : (t : ℕ) (h : Holder) → owns t h ≡ true → h ≡ HeldBy t
own_holder t Free e = absurd cc
own_holder t (HeldBy u) e =
    elim (cases_eq t u) [
      | inl same ↦ ap HeldBy (sym same)
      | inr other ↦ absurd (let z : false ≡ true = sym (ne_eqb t u other) ∙ e in cc)
    ]
own_holder t (SharedBy n) e = absurd cc

-- what is held in a mode isn't free
held_is_held : (h : Holder) (mode : Mode) → IsHeldIn h mode → is_free h ≡ false
held_is_held Free mode held = absurd held
held_is_held (HeldBy u) mode held = refl
held_is_held (SharedBy n) mode held = refl

pub same_mode : (a b : Mode) → Holds a ≡ Holds b → a ≡ b
same_mode a b e = ap mode_of e
  where
    mode_of : Hold → Mode
    mode_of NotHeld = a
    mode_of (Holds m) = m

-- in the state in which a step is made the thread holds what its seat says
held_then : (floor : Description) (steps : List Step) (old new : Knowledge) (m : Makes floor steps old new) (l : ℕ)
    → m.state.held old.thread l ≡ hold_in old.share.held l
held_then floor steps old new m l =
    let its : IsSeatOf (thread_in m.before.views old.thread) m.state old.thread =
    m.represents.seats.thread old.thread (ap (λ (k : Knowledge). k.role) m.was ∙ m.role) in
    let share : RepresentsShare old.share m.state old.thread =
    subst (λ (k : Knowledge). RepresentsShare k.share m.state old.thread) m.was its.share in
    sym (ap (λ (x : ShareColumns). x.held l) share.columns)

-- a word with sharers is held shared
shared_holder : (h : Holder) → 1 ≤ sharers h → IsHeldIn h Shared
shared_holder Free some = absurd (omega (arith, some))
shared_holder (HeldBy u) some = absurd (omega (arith, some))
shared_holder (SharedBy n) some = tt

-- so it is held in the mode in which the thread holds the lock
held_as : (floor : Description) {past : List Step} (s : State) (t l : ℕ) (mode : Mode) → IsSound floor past s
    → s.held t l ≡ Holds mode → IsHeldIn (s.word l).holder mode × (mode ≡ Excl → (s.word l).holder ≡ HeldBy t)
unfolding WordsMatchHolders OnlyThreadsHold
held_as floor s t l Excl sound held =
    let mine : owns t (s.word l).holder ≡ true =
    sym ((sound.facts.lawful.words.words_match_holders l).owner t) ∙ ap is_exclusive held in
    let its : (s.word l).holder ≡ HeldBy t = own_holder t (s.word l).holder mine in
    (subst (λ h. IsHeldIn h Excl) (sym its) tt, λ e. its)
held_as floor s t l Shared sound held =
    let few : t < (config_in floor).threads = sound.facts.lawful.words.only_threads_hold t l Shared held in
    let one : shares (s.held t l) ≤ sharers (s.word l).holder =
    subst (λ n. shares (s.held t l) ≤ n) (sound.facts.lawful.words.words_match_holders l).sharers_are_counted
    (sum_below-at (config_in floor).threads (λ u. shares (s.held u l)) t few) in (
      shared_holder (s.word l).holder (omega (arith, one, ap shares held)),
      λ e. absurd (let z : Shared ≡ Excl = e in cc),
    )

-- a look at it finds the thread
pub saw_own : (floor : Description) (l : ℕ) (mode : Mode) (seen : ℕ) (counted : Bool) (old new : Knowledge)
    → hold_in old.share.held l ≡ Holds mode → IsWellFormed (word_of seen)
    → new ≡ seeing new.seen (looked old l (word_of seen)) → Makes floor (Looks old.thread l counted ∷ []) old new
    → IsOwn old.thread mode seen
saw_own floor l mode seen counted old new held formed view m =
    let saw : Some (look_at l (word_of seen)) ≡ Some (look_at l (m.state.word l)) =
    sym (ap (λ (w : Knowledge). w.share.doing.last_look) view) ∙ finds_word floor l counted old new m in
    let is : m.state.word l ≡ word_of seen = word_seen l (word_of seen) (m.state.word l) saw in
    let its = held_as floor m.state old.thread l mode m.sound
    (held_then floor (Looks old.thread l counted ∷ []) old new m l ∙ held) in
    record {
      formed = formed;
      held = subst (λ (w : Word). IsHeldIn w.holder mode) is its.0;
      its = λ e. ap (λ (w : Word). w.holder) (sym is) ∙ its.1 e;
    }

-- behind the release of an sx lock the thread doesn't hold it
asleep_unheld : (floor : Description) (v w : Knowledge) (l : ℕ) (mode : Mode)
    → Makes floor (OpensSleepQueue v.thread l mode ∷ []) v w → hold_in w.share.held l ≡ NotHeld
unfolding after_open_sleep
asleep_unheld floor v w l mode m =
    ap (λ (x : ShareColumns). x.held l) (share_behind floor (OpensSleepQueue v.thread l mode ∷ []) v w m).columns
    ∙ put_at_same m.state.held v.thread l NotHeld

-- 2. What is out in the section

-- it isn't on its way to a queue
pub off_the_way : (v : Knowledge) → MayGiveUp v → IsOffTheWay v.pose
off_the_way v (inl runs) = inl runs
off_the_way v (inr (d, stands)) = inr (chan_queue d, stands)

module _ (floor : Description) (l : ℕ) (mode : Mode) (v : Knowledge) (low : l < length floor.locks)
    (m : MayLetGo floor l mode v) where
  pub may_look_own : v.description ≡ floor → MayMake floor v (λ s. Unit {0}) (Looks v.thread l (counts v l) ∷ [])
  may_look_own mine =
      wait.may_look_held_settled floor v l (Record m.both.box) m.both.chain m.both.out low m.going
      (off_the_way v m.there) mine m.no_round
      (λ q. let z : Holds mode ≡ NotHeld = sym m.held ∙ q in cc) m.takes_nothing

  module _ (seen : ℕ) (own : IsOwn v.thread mode seen) where
    pub held_at_all : is_free (word_of seen).holder ≡ false
    held_at_all = held_is_held (word_of seen).holder mode own.held

    pub may_drop_there : is_drop (word_of seen) ≡ true
        → MayMake floor v (λ s. s.word l ≡ word_of seen) (Drops v.thread l mode ∷ [])
    may_drop_there stays =
        may_drop_settled floor v l mode (word_of seen) low m.held stays m.closed m.begun m.takes_nothing
        (off_the_way v m.there) m.going

    pub may_open_there : is_turnstile ((config_in floor).kind l) ≡ true → is_drop (word_of seen) ≡ false
        → MayOpenUp floor l (word_of seen) v
    may_open_there turnstile opens =
        let w = last_shown (word_of seen) opens in
        may_open_up_settled floor v l mode (word_of seen) low m.held w.0 w.1 m.unmarked m.closed m.begun turnstile
        m.takes_nothing m.there m.going (as_both floor l turnstile v m.both)

    pub may_open_asleep : is_turnstile ((config_in floor).kind l) ≡ false → is_drop (word_of seen) ≡ false
        → MayOpenSleepers floor l (word_of seen) v
    may_open_asleep sleeps opens =
        let w = last_shown (word_of seen) opens in
        may_open_sleepers floor v l mode (word_of seen) low m.held w.0 w.1 m.unmarked m.closed m.begun sleeps
        m.takes_nothing (off_the_way v m.there) m.going (as_sleeper floor l sleeps v m.both)

  -- 3. The lock is let go

  pub dropped_there : (new : Knowledge) → new ≡ seeing new.seen (put_down v l)
      → Makes floor (Drops v.thread l mode ∷ []) v new → LetsGo floor l mode v new
  dropped_there new view step = record {
    opens = false;
    marks = v.share.doing.marked;
    places = [];
    of_queue = m.unmarked;
    out = v.out;
    view = view;
    both = subst (HasRecordAndChain floor l) (sym view)
        (record { box = m.both.box; chain = m.both.chain; of_lock = m.both.of_lock; out = m.both.out });
    unheld = subst (λ hs. hold_in hs l ≡ NotHeld) (ap (λ (k : Knowledge). k.share.held) view)
        (dropped_unheld floor v new l mode step);
    step = step;
  }

  pub opened_there : (seen : ℕ) (new : Knowledge) → OpensUp floor l (word_of seen) v new → LetsGo floor l mode v new
  opened_there seen new o =
      let held : Holds o.mode ≡ Holds mode =
      sym o.step.may.0.fits.may.releases.held ∙ held_then floor (Opens v.thread l o.mode ∷ []) v new o.step l
      ∙ m.held in
      let same : o.mode ≡ mode = same_mode o.mode mode held in
      let turnstile : is_turnstile ((config_in floor).kind l) ≡ true = o.step.may.0.fits.may.turnstile in
      let step : Makes floor (Opens v.thread l mode ∷ []) v new =
      subst (λ x. Makes floor (Opens v.thread l x ∷ []) v new) same o.step in
      record {
        opens = true;
        marks = marks_opened l o.side o.both.box o.turnstile;
        places = woken_of l o.side o.both.box.value o.turnstile.contents;
        of_queue = refl;
        out = out_opened floor v.thread l o.side o.both.box o.both.chain o.turnstile;
        view = o.view;
        both = from_both floor l turnstile new
            (subst (HasBothOut floor l) (sym o.view)
            (record {
              box = with_value o.both.box (record_opened l o.both.box.value);
              chain = chain_opened l o.side o.both.box.value o.turnstile o.both.chain;
              out = refl;
            }));
        unheld = subst (λ hs. hold_in hs l ≡ NotHeld) (ap (λ (k : Knowledge). k.share.held) o.view)
            (opened_unheld floor v new l mode step);
        step = subst (λ s. Makes floor (s ∷ []) v new)
            (opens_turnstile ((config_in floor).kind l) v.thread l mode turnstile) step;
      }

  -- the same of an sx lock
  pub opened_asleep : (seen : ℕ) (new : Knowledge) → OpensSleepers floor l (word_of seen) v new
      → LetsGo floor l mode v new
  opened_asleep seen new o =
      let held : Holds o.mode ≡ Holds mode =
      sym o.step.may.0.fits.may.releases.held ∙ held_then floor (OpensSleepQueue v.thread l o.mode ∷ []) v new o.step l
      ∙ m.held in
      let same : o.mode ≡ mode = same_mode o.mode mode held in
      let sleeps : is_turnstile ((config_in floor).kind l) ≡ false = o.step.may.0.fits.may.sleeps in
      let step : Makes floor (OpensSleepQueue v.thread l mode ∷ []) v new =
      subst (λ x. Makes floor (OpensSleepQueue v.thread l x ∷ []) v new) same o.step in
      let left = chain_woken (lock_queue l) true o.side (head_of (lock_queue l) o.both.chain) o.both.chain in
      record {
        opens = true;
        marks = map (mark_of (lock_queue l)) (sleepers_opened floor l o.side v o.both);
        places = sleepers_opened floor l o.side v o.both;
        of_queue = refl;
        out = sleeper_out floor v.thread (lock_queue l) o.both.box left;
        view = o.view;
        both = from_sleeper floor l sleeps new
            (subst (HasSleeperOut floor (lock_queue l)) (sym o.view)
            (record { box = o.both.box; chain = left; out = refl }));
        unheld = subst (λ hs. hold_in hs l ≡ NotHeld) (ap (λ (k : Knowledge). k.share.held) o.view)
            (asleep_unheld floor v new l mode step);
        step = subst (λ s. Makes floor (s ∷ []) v new)
            (opens_asleep ((config_in floor).kind l) v.thread l mode sleeps) step;
      }

  pub missed_own : (seen found : ℕ) (new : Knowledge) → found ≢ seen → IsWellFormed (word_of found)
      → new ≡ seeing new.seen (looked v l (word_of found)) → Makes floor (Looks v.thread l (counts v l) ∷ []) v new
      → MissesOwn floor l mode seen found v new
  missed_own seen found new other formed view step =
      record {
        other = other;
        own = saw_own floor l mode found (counts v l) v new m.held formed view step;
        view = view;
        step = step;
      }

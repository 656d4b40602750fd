-- A wake of a channel: a load of the latch of the channel's chain, by which the best sleeper, or all, are taken off the
-- channel's queue. The chain, which the thread has out, is then what the work on it will make of it.
use Rattle.lock_floor.proofs.Names
use Names.{ℕ, Bool, Option, Some, IfSome, IsSome, List, [], map, length, refl, sym, ap, subst, arith, All, Me, keeps}
use Names.{rest, Allows, head_of, head_of-without_itself, put_same, put_other, few_bits, Config, chan_queue, taken_off}
use Names.{QueueName, X, mark_of, sleepers_in, chain_woken, woken, marks_woken, chain_woken_shown, balanced, taken_are}
use Names.{wake_changes, Lawful, State, Wake, put, Step, Wakes, Item, TurnstileChain, SleepChain, RecordOf, CellOf}
use Names.{ClassGraph, bits_of_threads, after_wake, SleepQueue, Place, all_waiters, config_in, Description, Slot}
use Names.{SleepQueues, spot, latch_line, latch_word, slots_for, slot_of, home_at, Board, RepresentsSleepChain}
use Names.{RepresentsObjects, RepresentsShare, StandsIn, objects_in, thread_in, FloorHolds, columns_of, share_in}
use Names.{Shelves, found, FitAll, IsSound, MayMake, Makes, Knowledge, OfThread, seeing, place_low, Finds, Steps}
use Names.{allows, latch_seen_with, own_out, OwnSteps, SaySame, one_own, found_first, shelf_changed, sound_kept}
use Names.{HasSleepersOut, sleepers_woken, out_woken, woke, chain_place}
use Rattle.std.proofs.Common.{◌≡◌, ◌≢◌, ◌<◌, ◌^◌, ◌%◌, ◌∷◌, ◌∙◌}
use Rattle.lock_floor.proofs.Changing.{OnlyChanges, object_changed}
use Rattle.lock_floor.proofs.ChainPlaces.{chain_at}
use Rattle.lock_floor.proofs.OpenStep.{marked_low}
use Rattle.lock_floor.proofs.SleepChanges.{turnstiles_same, sleepers_same, names_woken, somebody_there, sleep_chain_shown}

-- 1. The shares behind it

wake_own : (s : State) (v : Knowledge) → RepresentsShare v.share s v.thread → (d : ℕ) (all : Bool) (ps : List Place)
    (out : List (ℕ × Slot)) → map (mark_of (chan_queue d)) ps ≡ (after_wake s v.thread d all).marked v.thread
    → map (λ p. p.thread) ps ≡ map (λ w. w.thread) (taken_off all (s.lists (chan_queue d)).exclusive)
    → RepresentsShare (woke v d all ps out).share (after_wake s v.thread d all) v.thread
unfolding after_wake
wake_own s v fit d all ps out marks threads =
    let its : columns_of v.share ≡ share_in s v.thread = fit.columns in
    let wake : List ℕ → Option Wake = λ us. Some (record { chan = d; all = all; taken = us }) in
    record {
      columns = λ i. record (its i) {
        doing = record (its i).doing {
          marked = marks i;
          unstamped = (ap wake threads ∙ sym (put_same s.unstamped v.thread _)) i;
        };
      };
      held_once = fit.held_once;
    }

wake_others : (s : State) (t u : ℕ) → u ≢ t → (d : ℕ) (all : Bool)
    → share_in (after_wake s t d all) u ≡ share_in s u
unfolding after_wake
wake_others s t u other d all =
    let ne : t ≡ u → ⊥ = λ q. other (sym q) in
    let marked_is : (after_wake s t d all).marked u ≡ s.marked u = put_other s.marked t _ u ne in
    let unstamped_is : (after_wake s t d all).unstamped u ≡ s.unstamped u = put_other s.unstamped t _ u ne in
    λ i. record (share_in s u) {
      doing = record (share_in s u).doing { marked = marked_is i; unstamped = unstamped_is i };
    }

-- 2. What else the columns say

wake_changes_only : (floor : Description) (s : State) (t d : ℕ) (all : Bool)
    → OnlyChanges floor (objects_in s) (objects_in (after_wake s t d all)) (SleepChain (d % floor.chains))
unfolding after_wake
wake_changes_only floor s t d all = record { others = go; tables = λ l key ne. refl }
  where
    n : State
    n = after_wake s t d all

    go : (k : Item) → k ≢ SleepChain (d % floor.chains) → SaySame floor (objects_in s) (objects_in n) k
    go (TurnstileChain k) ne = turnstiles_same floor (d % floor.chains) (chan_queue d) refl s n
        (woken all X (sleepers_in s (chan_queue d))) (wake_changes s t d all) refl refl k
    go (SleepChain k) ne = sleepers_same floor (d % floor.chains) (chan_queue d) refl s n
        (woken all X (sleepers_in s (chan_queue d))) (wake_changes s t d all) k ne
    go (RecordOf u) ne = refl
    go (CellOf l key) ne = refl
    go ClassGraph ne = refl

-- 3. The step

-- what it tells: the thread made it, the chain is such that the work on it can be done, and those taken have their
-- sleep queues with them
pub record WokenOff (floor : Description) (d : ℕ) (all : Bool) (me behind : Me Slot Knowledge) : Type 0 where
  pub sleepers : HasSleepersOut floor (chan_queue d) me.0
  pub can : IfSome (head_of (chan_queue d) sleepers.chain) (λ h. all_waiters h.contents ≢ [])
  pub is : behind ≡ (
    seeing behind.0.seen
        (woke me.0 d all (sleepers_woken d all sleepers.chain) (out_woken floor d all sleepers.chain me.0.out)),
    me.1,
  )
  pub step : Makes floor (Wakes me.0.thread d all ∷ []) me.0 behind.0
  pub held : All (λ p. IsSome p.object) (sleepers_woken d all sleepers.chain)
  pub of_floor : All (λ m. m.thread < length floor.threads)
      (map (mark_of (chan_queue d)) (sleepers_woken d all sleepers.chain))
  pub few : bits_of_threads (map (λ p. p.thread) (sleepers_woken d all sleepers.chain)) < 2 ^ 64

abbrev pub ToldWoken : Description → ℕ → Bool → Me Slot Knowledge → ℕ → Me Slot Knowledge → Type 0
ToldWoken floor d all me found behind = WokenOff floor d all me behind

module _ (floor : Description) (me : Me Slot Knowledge) (was : me.0.role ≡ OfThread) (d : ℕ) (all : Bool)
    (sleepers : HasSleepersOut floor (chan_queue d) me.0) where
  abbrev v : Knowledge
  v = me.0

  abbrev q : QueueName
  q = chan_queue d

  abbrev k : ℕ
  k = d % floor.chains

  abbrev j : ℕ
  j = chain_place floor q

  abbrev chain : List (QueueName × SleepQueue)
  chain = sleepers.chain

  abbrev ps : List Place
  ps = sleepers_woken d all chain

  wakes : (b : Board) (f : Finds floor v b) → FitAll floor f.state (Wakes v.thread d all ∷ [])
      → Steps floor me (spot (latch_line j)) (latch_word b.words j) (latch_word b.words j)
      (ToldWoken floor d all me) b
  unfolding after_wake
  wakes b f allowed =
      let c : Config = config_in floor in
      let s : State = f.state in
      let t : ℕ = v.thread in
      let n : State = after_wake s t d all in
      let step : Step = Wakes t d all in
      let lawful : Lawful c s = f.sound.facts.lawful in
      let sized = f.represents.sizes.sized in
      let at : slot_of floor (SleepChain k) ≡ Some j = chain_at floor sized.some_chains q in
      let shows : RepresentsSleepChain floor k chain (objects_in s) =
      (f.fits.out.each (SleepChain k) j (SleepQueues chain) at
      (ap (found j) sleepers.last ∙ found_first j (SleepQueues chain) (rest v.out))).1 in
      let fits = balanced c s q lawful in
      let marks = marks_woken q all X (head_of q chain) (sleepers_in s q) fits (shows.queue q refl) in
      let are = taken_are c s q lawful X all ps marks.0 in
      let marked : map (mark_of q) ps ≡ n.marked t = marks.0 ∙ sym (put_same s.marked t _) in
      let out : List (ℕ × Slot) = out_woken floor d all chain v.out in
      let new : Slot = SleepQueues (chain_woken q all X (head_of q chain) chain) in
      let w : Knowledge = seeing (step ∷ f.past) (woke v d all ps out) in
      let own : OwnSteps v w f.past (step ∷ []) s n = record {
        role = was;
        seen = refl;
        makers = one_own t step refl;
        seat = record { thread = refl; share = wake_own s v f.fits.share d all ps out marked are };
        others = λ u ne. wake_others s t u ne d all;
        pose = f.fits.pose;
        other_poses = λ u ne p z. z;
      } in
      let r = f.represents in
      let outs : ℕ → List (ℕ × Slot) = λ u. (thread_in b.views u).out in
      let shelves : Shelves (slots_for floor) (latch_word b.words) (home_at b.homes) (put outs t out)
      (put r.content j new) =
      shelf_changed (slots_for floor) (latch_word b.words) (home_at b.homes) outs r.content r.shelves j t
      (SleepQueues chain) new (rest v.out) (own_out floor (step ∷ []) b v w f was allowed own me.1 ∙ sleepers.last) in
      let chain_then : RepresentsSleepChain floor k (chain_woken q all X (head_of q chain) chain) (objects_in n) =
      sleep_chain_shown floor k n (chain_woken q all X (head_of q chain) chain)
      (names_woken floor k q refl chain shows.names all X (head_of q chain))
      (chain_woken_shown (StandsIn floor (SleepChain k)) chain (sleepers_in s) (sleepers_in n) q
      (woken all X (sleepers_in s q)) (wake_changes s t d all) shows.queue fits refl
      (head_of-without_itself q chain shows.names.distinct) all X (head_of q chain) refl refl) in
      let objects : RepresentsObjects floor (put r.content j new) (objects_in n) =
      object_changed floor r.content (objects_in s) (objects_in n) (SleepChain k) j new at
      (wake_changes_only floor s t d all) chain_then r.objects in
      let made = latch_seen_with floor (step ∷ []) b v w f was allowed own me.1 j (put r.content j new)
      (place_low floor (SleepChain k) j at) refl refl refl shelves objects in
      let behind : IsSound floor (step ∷ f.past) n = sound_kept floor s (step ∷ []) allowed f.sound in
      let told : WokenOff floor d all me (w, me.1) = record {
        sleepers = sleepers;
        can = somebody_there floor s q lawful (head_of q chain) (shows.queue q refl);
        is = refl {a = (w, me.1)};
        step = made.1;
        held = marks.1;
        of_floor = marked_low floor n t behind.facts.lawful f.fits.thread (map (mark_of q) ps) marked;
        few = subst (λ us. bits_of_threads us < 2 ^ 64) (sym are)
            (few_bits c s q X all lawful (omega (arith, sized.threads)));
      } in
      (w, keeps, tt, made.0, told)

  pub wake_allowed : (slots id : ℕ) → MayMake floor v (λ s. Unit {0}) (Wakes v.thread d all ∷ [])
      → Allows (FloorHolds floor) slots id me (spot (latch_line j)) (λ n. n) (ToldWoken floor d all me)
  wake_allowed slots id may =
      allows floor slots id me (spot (latch_line j)) (λ n. n) (ToldWoken floor d all me) was
      (λ b f small. wakes b f (may f.state f.fits tt))

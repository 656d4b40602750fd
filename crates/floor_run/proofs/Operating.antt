-- What a thread's next operation finds, and where its entries lead the thread.
use Rattle.floor_run.proofs.Names
use Names.{ℕ, zero, suc, Bool, true, false, arith, List, [], length, slice_get, map, sum, Option, Some, None}
use Names.{option_map, refl, sym, ap, eq-eqb, subst, IsTrue, unwrap_or, Contains, list_any, not-true, sum_by-cons}
use Names.{any_passes_from_place, none-some, slice_get-map, slice_get_within, passed, Hold, NotHeld, Holds}
use Names.{is_exclusive, op_names, plan_names, LeadsTo, Gives, Before, Asleep, most_held, IsProper, held_of}
use Names.{held_behind, hold_in, is_last, without_lock, acquiring_tests, edit_tests, chan_lock, config_of}
use Names.{operations_of, lock_kind, Cause, BySignal, Passes, admits, is_turnstile, word_of, LockNo, ChanNo, Prio}
use Names.{Entry, Event, Held, Mtx, Mode, Excl, Op, Take, Try, EndTry, Release, Set, Add, Get, Base, Show, Sleep}
use Names.{WakeOne, WakeAll, Plan, ThreadDecl, held_is, gain_passes, release_fits, wait_fits, wake_fits, next_leads}
use Names.{held_are_locks, held_few, try_passes, Stamps, config_in, room_for, keys_in, IsFor, Description, Makes}
use Names.{Knowledge, same_config, its_room, keys_are_named, found_key, Floor, Pass, IsReady, MakesEntry, first_pass}
use Names.{entry_by, ready_first, IsCovered, MayTake, MayRelease, as_taken, WasBusyFor, as_tried, MayWait, ended_by}
use Names.{lock_of, MayWakeUp, IsBefore, HasSlept, HasWokenAll, HasWokenOne, WasStamped, WereStamped}
use Rattle.std.proofs.Common.{◌≡◌, ◌≢◌, ◌^◌, ◌<◌, ◌≤◌, ◌&&◌, ◌∷◌, ◌++◌, ◌∙◌}
use Rattle.std.specs.Prelude.{◌==◌}
use Rattle.lock_model.specs.Law as law
use Rattle.lock_model.specs.declared.event.Event.TheVariants as event
use Rattle.floor_run.proofs.Waiting.{others_sleepable}

-- 1. The begin and the end

-- before a thread's first operation
pub at_first : (plan : Plan) (f : Floor Description) → IsFor plan f.description → (t : ℕ)
    → IsBefore plan f t 0 (first_pass f.table f.description t)
at_first plan f given t = record {
  ready = ready_first f t;
  thread = refl;
  within = omega arith;
  held = refl;
  leads = law.begins;
  stamped = tt;
  room = omega (arith, ap (λ d. room_for d t) given, its_room plan f.description.chains t);
}

-- 2. Kinds and keys

-- an operation of the thread that names a key
plan_named : (plan : Plan) (t n l key : ℕ) (op : Op) → slice_get (operations_of plan t) n ≡ Some op
    → op_names l key op ≡ true → IsTrue (plan_names plan l key)
plan_named plan t n l key op e i = go (slice_get plan.threads t) refl
  where
    test : ThreadDecl → Bool
    test d = list_any (op_names l key) d.ops

    go : (o : Option ThreadDecl) → slice_get plan.threads t ≡ o → IsTrue (plan_names plan l key)
    go None f = absurd (none-some op (let ops : operations_of plan t ≡ [] = ap (λ x. unwrap_or x [])
        (slice_get-map (λ d. d.ops) plan.threads t ∙ ap (option_map (λ (d : ThreadDecl). d.ops)) f) in rw ops at e))
    go (Some d) f =
        let ops : operations_of plan t ≡ d.ops = ap (λ x. unwrap_or x [])
        (slice_get-map (λ d. d.ops) plan.threads t ∙ ap (option_map (λ (d : ThreadDecl). d.ops)) f) in
        any_passes_from_place test plan.threads t d f
        (any_passes_from_place (op_names l key) d.ops n op (rw ops at e) i)

-- so the key is one of the floor's
named : (plan : Plan) (floor : Description) → IsFor plan floor → (t n l key : ℕ) (op : Op)
    → slice_get (operations_of plan t) n ≡ Some op → op_names l key op ≡ true → Contains floor.keys (l, key)
named plan floor given t n l key op e i =
    subst (λ ks. Contains ks (l, key)) (sym (ap (λ (d : Description). d.keys) given))
    (found_key l key (keys_in plan.threads) (keys_are_named plan l key ∙ plan_named plan t n l key op e i))

-- the floor's kinds are the plan's
pub same_kind : (plan : Plan) (floor : Description) → IsFor plan floor → (l : ℕ)
    → (config_in floor).kind l ≡ lock_kind plan l
same_kind plan floor given l = ap (λ c. c.kind l) (ap config_in given ∙ same_config plan floor.chains)

-- and the lock of a channel is the plan's
pub same_lock : (plan : Plan) (floor : Description) → IsFor plan floor → (d : ℕ) → lock_of floor d ≡ chan_lock plan d
same_lock plan floor given d = ap (λ c. c.chan_lock d) (ap config_in given ∙ same_config plan floor.chains)

-- the calls are there for a lock of the plan, in a mode of its kind
pub is_covered : (plan : Plan) (floor : Description) → IsFor plan floor → (l : ℕ)
    (mode : Mode) → l < length plan.locks → (lock_kind plan l ≡ Mtx → mode ≡ Excl) → IsCovered floor l mode
is_covered plan floor given l mode low of_mutex = record {
  lock = subst (λ c. l < c.locks) (sym (ap config_in given ∙ same_config plan floor.chains)) low;
  mutex = λ e. of_mutex (sym (same_kind plan floor given l) ∙ e);
}

-- a thread has as many operations as all have together, or fewer
few_ops : (threads : List ThreadDecl) (t : ℕ)
    → length (unwrap_or (slice_get (map (λ d. d.ops) threads) t) []) ≤ sum (map (λ d. length d.ops) threads)
few_ops [] t = omega arith
few_ops (d ∷ ds) zero =
    omega (arith, sum_by-cons (λ (n : ℕ). n) (length d.ops) (map (λ (e : ThreadDecl). length e.ops) ds))
few_ops (d ∷ ds) (suc t) =
    omega (arith, few_ops ds t, sum_by-cons (λ (n : ℕ). n) (length d.ops) (map (λ (e : ThreadDecl). length e.ops) ds))

pub few_operations : (plan : Plan) (t : ℕ) → IsProper plan → length (operations_of plan t) < 2 ^ 32
few_operations plan t p = omega (arith, few_ops plan.threads t, p.operations)

both_same : (l key : ℕ) → ((l == l) && (key == key)) ≡ true
both_same l key = rw (eq-eqb l l refl, eq-eqb key key refl)

exclusive_is : (x : Hold) → is_exclusive x ≡ true → x ≡ Holds Excl
exclusive_is x e = grind arith

-- the entry of a call: a step of the floor made it, as those before it
pub was_stamped : (floor : Description) (t : ℕ) (old new : Knowledge) (e : Event) (hs : List Held) → old.thread ≡ t
    → WereStamped floor t old.share.log → MakesEntry floor e hs old new → WereStamped floor t new.share.log
was_stamped floor t old new e hs its before made =
    let entry : Entry = entry_by old.thread made.ticket e in
    let stamped : WasStamped floor t entry old.share.log = record {
      before = made.before;
      behind = made.behind;
      thread = made.of ∙ its;
      step = subst (λ u. Makes floor (Stamps u e ∷ []) made.before made.behind) its made.step;
      was = made.log_before;
      is = made.log_behind ∙ made.log;
    } in
    subst (λ (es : List Entry). WereStamped floor t es) (sym made.log) (stamped, before)

-- 3. What the next operation finds

module _ (plan : Plan) (f : Floor Description) (given : IsFor plan f.description) (p : IsProper plan) (t n : ℕ)
    (x : Pass Knowledge) (b : IsBefore plan f t n x) where
  abbrev ops : List Op
  ops = operations_of plan t

  abbrev held : List Held
  held = held_of ops n

  pub room_for_one : (op : Op) → slice_get ops n ≡ Some op → 1 ≤ x.view.spare
  room_for_one op e = omega (arith, b.room, slice_get_within ops n op e)

  -- a lock is held so
  holds_so : (l : ℕ) → hold_in x.view.share.held l ≡ hold_in held l
  holds_so l = ap (λ hs. hold_in hs l) b.held

  may_acquire : (op : Op) (l : LockNo) (mode : Mode) → slice_get ops n ≡ Some op
      → Passes (acquiring_tests plan.locks l mode held) → MayTake f.description l.0 mode x.view
  may_acquire op l mode e tests =
      let g = gain_passes plan l mode false held _ tests refl in
      record {
        covered = is_covered plan f.description given l.0 mode g.lock g.mutex;
        unheld = holds_so l.0 ∙ g.unheld;
        few = subst (λ (hs : List Held). length hs < most_held) (sym b.held) g.few;
        room = room_for_one op e;
      }

  pub may_take : (l : LockNo) (mode : Mode) → slice_get ops n ≡ Some (Take l mode)
      → MayTake f.description l.0 mode x.view
  may_take l mode e = may_acquire (Take l mode) l mode e (next_leads plan p t n (Take l mode) e).passes

  pub may_try : (l : LockNo) (mode : Mode) (past : ℕ) → slice_get ops n ≡ Some (Try l mode past)
      → MayTake f.description l.0 mode x.view
  may_try l mode past e = may_acquire (Try l mode past) l mode e (next_leads plan p t n (Try l mode past) e).passes

  -- a lock that is held is held in some mode
  its_hold : (l : ℕ) → hold_in held l ≢ NotHeld → (mode : Mode) × (hold_in held l ≡ Holds mode)
  its_hold l some = go (hold_in held l) refl
    where
      go : (h : Hold) → hold_in held l ≡ h → (mode : Mode) × (hold_in held l ≡ Holds mode)
      go NotHeld e = absurd (some e)
      go (Holds mode) e = (mode, e)

  held_so : (l : LockNo) → slice_get ops n ≡ Some (Release l) → (mode : Mode) × (hold_in held l.0 ≡ Holds mode)
  held_so l e = its_hold l.0 (release_fits plan l held _ (next_leads plan p t n (Release l) e)).0

  pub may_release : (l : LockNo) → slice_get ops n ≡ Some (Release l)
      → (mode : Mode) × MayRelease f.description l.0 mode x.view
  may_release l e =
      let so = held_so l e in
      let locks = held_are_locks plan p t n in (
        so.0,
        record {
          covered = is_covered plan f.description given l.0 so.0
              (locks.within l.0 (release_fits plan l held _ (next_leads plan p t n (Release l) e)).0)
              (locks.mutexes l.0 so.0 so.1);
          held = holds_so l.0 ∙ so.1;
          room = room_for_one (Release l) e;
        },
      )

  -- 4. Where its entry leads

  pub entry_leads : (y : Pass Knowledge) (op : Op) (e : Event) (hs : List Held) (next : ℕ) → slice_get ops n ≡ Some op
      → Gives (config_of plan).kind held n op e (Before next)
      → hs ≡ held_of ops next → n < next → next ≤ length ops → IsReady f y → MakesEntry f.description e hs x.view y.view
      → IsBefore plan f t next y
  entry_leads y op e hs next at gives holds further within ready made =
      let entry : Entry = entry_by x.view.thread made.ticket e in
      record {
        ready = ready;
        thread = made.thread ∙ b.thread;
        within = within;
        held = made.held ∙ holds;
        leads = subst (λ (es : List Entry). LeadsTo (config_of plan).kind ops es (Before next)) (sym made.log)
            (law.goes_on entry b.leads at gives);
        stamped = was_stamped f.description t x.view y.view e hs b.thread b.stamped made;
        room = omega (arith, b.room, made.spare, further);
      }

  -- one that leaves what is held
  keeps : (y : Pass Knowledge) (op : Op) (e : Event) → slice_get ops n ≡ Some op → held_behind op held ≡ held
      → Gives (config_of plan).kind held n op e (Before (suc n)) → IsReady f y
      → MakesEntry f.description e x.view.share.held x.view y.view → IsBefore plan f t (suc n) y
  keeps y op e at still gives ready made =
      entry_leads y op e x.view.share.held (suc n) at gives (b.held ∙ sym still ∙ (next_leads plan p t n op at).behind)
      (omega arith) (omega (arith, slice_get_within ops n op at)) ready made

  -- 5. Operation by operation

  pub took : (y : Pass Knowledge) (l : LockNo) (mode : Mode) → slice_get ops n ≡ Some (Take l mode) → IsReady f y
      → MakesEntry f.description (event.Locked l mode) (x.view.share.held ++ as_taken l mode ∷ []) x.view y.view
      → IsBefore plan f t (suc n) y
  took y l mode at ready made =
      entry_leads y (Take l mode) (event.Locked l mode) _ (suc n) at (law.locks l mode)
      (ap (λ hs. hs ++ as_taken l mode ∷ []) b.held ∙ (next_leads plan p t n (Take l mode) at).behind) (omega arith)
      (omega (arith, slice_get_within ops n (Take l mode) at)) ready made

  pub tried : (y : Pass Knowledge) (l : LockNo) (mode : Mode) (past : ℕ) → slice_get ops n ≡ Some (Try l mode past)
      → IsReady f y → MakesEntry f.description (event.Tried l mode) (x.view.share.held ++ as_tried l mode ∷ []) x.view
      y.view → IsBefore plan f t (suc n) y
  tried y l mode past at ready made =
      entry_leads y (Try l mode past) (event.Tried l mode) _ (suc n) at (law.tries l mode past)
      (ap (λ hs. hs ++ as_tried l mode ∷ []) b.held ∙ (next_leads plan p t n (Try l mode past) at).behind)
      (omega arith)
      (omega (arith, slice_get_within ops n (Try l mode past) at)) ready made

  pub further_on : (l : LockNo) (mode : Mode) (past : ℕ) → slice_get ops n ≡ Some (Try l mode past) → n < past
  further_on l mode past e = (try_passes plan p t n l mode past e).further

  pub found_busy : (y : Pass Knowledge) (l : LockNo) (mode : Mode) (past seen : ℕ)
      → slice_get ops n ≡ Some (Try l mode past) → IsReady f y
      → WasBusyFor f.description l mode seen x.view y.view
      → MakesEntry f.description (event.Busy l seen) x.view.share.held x.view y.view
      → IsBefore plan f t past y
  found_busy y l mode past seen e ready was made =
      let on = try_passes plan p t n l mode past e in
      entry_leads y (Try l mode past) (event.Busy l seen) x.view.share.held past e
      (law.finds_busy l mode past seen was.word.formed was.word.held
      (ap (λ k. admits k (word_of seen) mode) (sym (same_kind plan f.description given l.0)) ∙ was.word.refused))
      (b.held ∙ sym on.leaves) on.further on.within ready made

  pub passed_endtry : slice_get ops n ≡ Some EndTry → IsBefore plan f t (suc n) x
  passed_endtry e = record {
    ready = b.ready;
    thread = b.thread;
    within = omega (arith, slice_get_within ops n EndTry e);
    held = b.held ∙ (next_leads plan p t n EndTry e).behind;
    leads = law.skips_endtry b.leads e;
    stamped = b.stamped;
    room = omega (arith, b.room);
  }

  pub released : (y : Pass Knowledge) (l : LockNo) → slice_get ops n ≡ Some (Release l) → IsReady f y
      → ((mode : Mode) → hold_in x.view.share.held l.0 ≡ Holds mode
      → MakesEntry f.description (event.Unlocked l mode) (without_lock l.0 x.view.share.held) x.view y.view)
      → IsBefore plan f t (suc n) y
  released y l e ready made =
      let so = held_so l e in
      entry_leads y (Release l) (event.Unlocked l so.0) _ (suc n) e (law.unlocks l so.0 so.1)
      (ap (without_lock l.0) b.held ∙ (next_leads plan p t n (Release l) e).behind) (omega arith)
      (omega (arith, slice_get_within ops n (Release l) e)) ready (made so.0 (holds_so l.0 ∙ so.1))

  -- a key is named for a lock that is held exclusively, and there is room for an entry
  abbrev pub MayEdit : ℕ → ℕ → Type 0
  MayEdit l key = (hold_in x.view.share.held l ≡ Holds Excl) × Contains f.description.keys (l, key) × (1 ≤ x.view.spare)

  may_edit : (op : Op) (l : LockNo) (key : ℕ) → slice_get ops n ≡ Some op → op_names l.0 key op ≡ true
      → Passes (edit_tests l held) → MayEdit l.0 key
  may_edit op l key e names tests = (
    holds_so l.0 ∙ exclusive_is (hold_in held l.0) (passed _ _ (passed _ _ tests).1).0,
    named plan f.description
        given t n l.0 key op e names,
    room_for_one op e,
  )

  pub may_set : (l : LockNo) (key value : ℕ) → slice_get ops n ≡ Some (Set l key value) → MayEdit l.0 key
  may_set l key value e =
      may_edit (Set l key value) l key e (both_same l.0 key) (next_leads plan p t n (Set l key value) e).passes

  pub may_add : (l : LockNo) (key amount : ℕ) → slice_get ops n ≡ Some (Add l key amount) → MayEdit l.0 key
  may_add l key amount e =
      may_edit (Add l key amount) l key e (both_same l.0 key) (next_leads plan p t n (Add l key amount) e).passes

  pub may_get : (l : LockNo) (key : ℕ) → slice_get ops n ≡ Some (Get l key) → (hold_in x.view.share.held l.0 ≢ NotHeld)
      × Contains f.description.keys (l.0, key) × (1 ≤ x.view.spare)
  may_get l key e =
      let tests = (next_leads plan p t n (Get l key) e).passes in (
        λ z. held_is (hold_in held l.0) (not-true _ (passed _ _ tests).0) (sym (holds_so l.0) ∙ z),
        named plan
            f.description given t n l.0 key (Get l key) e (both_same l.0 key),
        room_for_one (Get l key) e,
      )

  pub set : (y : Pass Knowledge) (l : LockNo) (key value : ℕ) → slice_get ops n ≡ Some (Set l key value) → IsReady f y
      → MakesEntry f.description (event.Set l key value) x.view.share.held x.view y.view → IsBefore plan f t (suc n) y
  set y l key value e = keeps y (Set l key value) (event.Set l key value) e refl (law.sets l key value)

  pub added : (y : Pass Knowledge) (l : LockNo) (key amount : ℕ) → slice_get ops n ≡ Some (Add l key amount)
      → IsReady f y → MakesEntry f.description (event.Added l key amount) x.view.share.held x.view y.view
      → IsBefore plan f t (suc n) y
  added y l key amount e = keeps y (Add l key amount) (event.Added l key amount) e refl (law.adds l key amount)

  pub got : (y : Pass Knowledge) (l : LockNo) (key : ℕ) (found : Option ℕ) → slice_get ops n ≡ Some (Get l key)
      → IsReady f y → MakesEntry f.description (event.Got l key found) x.view.share.held x.view y.view
      → IsBefore plan f t (suc n) y
  got y l key found e = keeps y (Get l key) (event.Got l key found) e refl (law.gets l key found)

  pub based : (y : Pass Knowledge) (prio : Prio) → slice_get ops n ≡ Some (Base prio) → IsReady f y
      → MakesEntry f.description (event.Base prio) x.view.share.held x.view y.view → IsBefore plan f t (suc n) y
  based y prio e = keeps y (Base prio) (event.Base prio) e refl (law.changes_base prio)

  pub shown : (y : Pass Knowledge) (base eff : Prio) → slice_get ops n ≡ Some Show → IsReady f y
      → MakesEntry f.description (event.Shown base eff) x.view.share.held x.view y.view → IsBefore plan f t (suc n) y
  shown y base eff e = keeps y Show (event.Shown base eff) e refl (law.shows base eff)

  -- 6. Waits and wakings

  -- a channel is one of the floor's
  chan_of_floor : (d : ℕ) → d < length plan.chans → d < length f.description.chans
  chan_of_floor d low = subst (λ c. d < c.chans) (sym (ap config_in given ∙ same_config plan f.description.chains)) low

  room_for_two : (op : Op) → slice_get ops n ≡ Some op → 2 ≤ x.view.spare
  room_for_two op e = omega (arith, b.room, slice_get_within ops n op e)

  pub may_wait : (d : ChanNo) → slice_get ops n ≡ Some (Sleep d) → MayWait f.description d.0 x.view
  may_wait d e =
      let fits = wait_fits plan d held _ (next_leads plan p t n (Sleep d) e) in
      record {
        chan = chan_of_floor d.0 fits.chan;
        last = subst (λ (z : ℕ × List Held). is_last z.0 z.1 ≡ true)
            (λ i. (sym (same_lock plan f.description given d.0) i, sym b.held i)) fits.last;
        sleepable = λ k other blocks. holds_so k
            ∙ others_sleepable plan d held (next_leads plan p t n (Sleep d) e).passes k
            (λ same. other (same ∙ sym (same_lock plan f.description given d.0)))
            (ap is_turnstile (sym (same_kind plan f.description given k)) ∙ blocks);
        few = subst (λ (hs : List Held). length hs ≤ most_held) (sym b.held) (held_few plan p t n);
        room = room_for_two (Sleep d) e;
      }

  -- its lock is one of the plan's
  pub lock_there : (d : ChanNo) → slice_get ops n ≡ Some (Sleep d)
      → lock_of f.description d.0 < length f.description.locks
  lock_there d e =
      let fits = wait_fits plan d held _ (next_leads plan p t n (Sleep d) e) in
      let low : chan_lock plan d.0
      < length plan.locks = (held_are_locks plan p t n).within (chan_lock plan d.0) fits.held in
      subst (λ (z : ℕ × ℕ). z.0 < z.1)
      (λ i. (
        sym (same_lock plan f.description given d.0) i,
        sym (ap (λ c. c.locks) (ap config_in given ∙ same_config plan f.description.chains)) i,
      ))
      low

  pub may_wake : (op : Op) (d : ChanNo) → slice_get ops n ≡ Some op → d.0 < length plan.chans
      → MayWakeUp f.description d.0 x.view
  may_wake op d e low = record { chan = chan_of_floor d.0 low; room = room_for_one op e }

  pub may_wake_one : (d : ChanNo) → slice_get ops n ≡ Some (WakeOne d) → MayWakeUp f.description d.0 x.view
  may_wake_one d e = may_wake (WakeOne d) d e (wake_fits plan d _ (next_leads plan p t n (WakeOne d) e).passes)

  pub may_wake_all : (d : ChanNo) → slice_get ops n ≡ Some (WakeAll d) → MayWakeUp f.description d.0 x.view
  may_wake_all d e = may_wake (WakeAll d) d e (wake_fits plan d _ (next_leads plan p t n (WakeAll d) e).passes)

  pub woke_one : (y : Pass Knowledge) (d : ChanNo) → slice_get ops n ≡ Some (WakeOne d) → IsReady f y
      → HasWokenOne f.description d x.view y.view → IsBefore plan f t (suc n) y
  woke_one y d e ready w =
      keeps y (WakeOne d) (event.WokeOne d w.0) e refl (law.wakes_one d w.0) ready w.1

  pub woke_all : (y : Pass Knowledge) (d : ChanNo) → slice_get ops n ≡ Some (WakeAll d) → IsReady f y
      → HasWokenAll f.description d x.view y.view → IsBefore plan f t (suc n) y
  woke_all y d e ready w =
      keeps y (WakeAll d) (event.WokeAll d w.0) e refl (law.wakes_all d w.0) ready w.1

  -- its first entry leads into the sleep
  abbrev IsAsleepIn : List Entry → Type 0
  IsAsleepIn es = LeadsTo (config_of plan).kind ops es (Asleep n)

  pub lies_asleep : (y : Knowledge) (d : ChanNo) (hs : List Held) → slice_get ops n ≡ Some (Sleep d)
      → MakesEntry f.description (event.Sleeps d) hs x.view y → IsAsleepIn y.share.log
  lies_asleep y d hs at made =
      subst IsAsleepIn (sym made.log)
      (law.goes_on (entry_by x.view.thread made.ticket (event.Sleeps d)) b.leads at (law.sleeps d))

  -- and both were made by steps of the floor
  pub both_stamped : (y : Knowledge) (d : ChanNo) (cause : Cause) → HasSlept f.description d cause x.view y
      → WereStamped f.description t y.share.log
  both_stamped y d cause s =
      was_stamped f.description t s.asleep y (ended_by cause d) x.view.share.held (s.slept.thread ∙ b.thread)
      (was_stamped f.description t x.view s.asleep (event.Sleeps d) x.view.share.held b.thread b.stamped s.slept)
      s.ended

  pub slept : (y : Pass Knowledge) (d : ChanNo) → slice_get ops n ≡ Some (Sleep d) → IsReady f y
      → HasSlept f.description d BySignal x.view y.view → IsBefore plan f t (suc n) y
  slept y d at ready s =
      let last : Entry = entry_by s.asleep.thread s.ended.ticket (event.Woke d) in
      record {
        ready = ready;
        thread = s.ended.thread ∙ s.slept.thread ∙ b.thread;
        within = omega (arith, slice_get_within ops n (Sleep d) at);
        held = s.ended.held ∙ b.held ∙ (next_leads plan p t n (Sleep d) at).behind;
        leads = subst (λ (es : List Entry). LeadsTo (config_of plan).kind ops es (Before (suc n))) (sym s.ended.log)
            (law.wakes_up last (lies_asleep s.asleep d x.view.share.held at s.slept) at refl);
        stamped = both_stamped y.view d BySignal s;
        room = omega (arith, b.room, s.slept.spare, s.ended.spare);
      }

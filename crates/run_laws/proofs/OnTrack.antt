-- What a turn leaves true of a run beside its lawful state, and what is known of a thread at its next operation.
use Rattle.run_laws.proofs.Names
use Names.{ℕ, suc, Bool, true, false, cond, eqb, List, length, take, slice_get, Option, Some, None, option_map, refl}
use Names.{sym, ap, eq-eqb, subst, is_some, none-some, same_Some, slice_get_within, config_of, operations_of, of_locks}
use Names.{IsProper, hold_in, held_of, next_at, Config, OfSection, facets, Hold, NotHeld, of_sleep, fell_asleep}
use Names.{Sections, open_in, sections_in, entries_of, LeadsTo, Gives, Point, Before, Asleep, Cut, is_halt}
use Names.{HaltsOnlyWhenRunning, is_reversal, has_reversal, State, Wait, Running, Queued, Wake, HeldLock, put, put_at}
use Names.{gained_order, Step, MayAll, KeepToOrder, after_all, is_with, IsActing, is_woken, is_taking_back, begun_after}
use Names.{begun_with, is_of_section, unstamped_after, taking_after, changes_sections, after_stamp, entry_of, Lawful}
use Names.{NothingIsOut, QueuedStands, StandingIsQueued, LogsAreParts, Run, Action, was_cut, waits_on, run_after}
use Names.{held_now, without_unheld, Op, Take, EndTry, Sleep, OfLocks, NoLock, Acquires, ClosesBlock, Releases, EditsAt}
use Names.{ReadsAt, SleepsOn, WakesOn, Kind, Mode, Plan, QueueName, LockNo, StepKind, Did, Event, Entry, Held}
use Names.{IsOnTrack, IsAtOperation, TakesLock, lock_of_take, point_by, point_in, SleepersFit, AsksOfSleepersAll}
use Names.{AsleepAreOnTheirWay, UnnotedIsAtWork, by_turn, nobody, put_same, put_other, each_place, all_keep}
use Names.{orders_keep, takes_keep, next_is_none, sections_stay, all_stay, turn_keeps, turn_ends, AreLocks, Leads}
use Names.{next_leads, next_holds, next_within, held_are_locks, arith}
use Rattle.std.proofs.Common.{◌≡◌, ◌≢◌, ◌<◌, ◌≤◌, ◌&&◌, ◌∷◌, ◌∙◌}
use Rattle.lock_model.specs.Law as law
use Rattle.lock_state.specs.State.{Note}
use Rattle.run_laws.proofs.Shares.{SameShare, AllBy, halt_nobody, all_leave}
use Rattle.run_laws.proofs.Actions as actions
use Rattle.run_laws.proofs.OtherThreads.{other_next as next_stays}
use Rattle.run_laws.proofs.Walks.{walks_keep}

-- 1. Columns and sections

-- a row of a column with two places, where an entry of that row is changed
pub put_at_own : {A : Type 0} (f : ℕ → ℕ → A) (i k : ℕ) (v : A) (l : ℕ) → put_at f i k v i l ≡ cond (eqb k l) v (f i l)
unfolding put_at
put_at_own f i k v l = ap (λ b. cond (b && eqb k l) v (f i l)) (eq-eqb i i refl)

-- an entry that changes no section begins none
begun_stays : (c : Config) (x : OfSection) (t : ℕ) (has_begun : ℕ → ℕ → Bool) → is_of_section x ≡ false
    → begun_with c x t has_begun ≡ has_begun
begun_stays c x t has_begun e = grind arith

-- 2. Where a thread is, by its columns

pub record Share : Type 0 where
  -- how many operations it has behind it
  pub next : ℕ
  -- the channel on which it waits, and whether it was cut
  pub waits : Option ℕ
  pub cut : Bool
  pub held : ℕ → Hold
  pub held_locks : List HeldLock
  pub sections : ℕ → Sections
  pub has_begun : ℕ → Bool
  pub wanted : Option ℕ
  pub taking : Option ℕ
  pub noted : Option Note

-- those of a thread of a state, with n operations behind it
abbrev pub share_in : Plan → State → ℕ → ℕ → Share
share_in plan s t n = record {
  next = n;
  waits = waits_on (s.log t);
  cut = was_cut s t;
  held = s.held t;
  held_locks = s.held_locks t;
  sections = λ l. sections_in (config_of plan) s.history t l;
  has_begun = s.has_begun t;
  wanted = s.wanted t;
  taking = s.taking t;
  noted = s.noted t;
}

-- what its operations so far lead to, and what of it it holds
abbrev pub led_to : Plan → ℕ → Share → List Held
led_to plan t x = held_of (operations_of plan t) x.next

abbrev pub with_lock : Plan → Option ℕ → Option ℕ
with_lock plan w = option_map (config_of plan).chan_lock w

abbrev pub holding : Plan → ℕ → Share → List Held
holding plan t x = cond x.cut (take (length x.held_locks) (led_to plan t x))
    (without_unheld x.held (with_lock plan x.waits) (led_to plan t x))

pub record IsWhere (plan : Plan) (t : ℕ) (x : Share) : Type 0 where
  pub within : x.next ≤ length (operations_of plan t)
  pub no_endtry : slice_get (operations_of plan t) x.next ≢ Some EndTry
  pub waiting : (d : ℕ) → x.waits ≡ Some d → slice_get (operations_of plan t) x.next ≡ Some (Sleep (record { 0 = d }))
  pub holds : (l : ℕ) → x.held l ≡ hold_in (holding plan t x) l
  pub listed : x.held_locks ≡ gained_order (holding plan t x)
  pub left : (l : ℕ) → with_lock plan x.waits ≡ Some l → (x.sections l).left ≡ hold_in (led_to plan t x) l
  pub opened : (l : ℕ) → (x.sections l).now ≡ cond (is_with l (with_lock plan x.waits)) NotHeld (x.held l)
  pub begun : (l : ℕ) → x.held l ≢ NotHeld → x.has_begun l ≡ true
  pub wants : (l : ℕ) → x.wanted ≡ Some l
      → TakesLock (config_of plan) l x.waits (slice_get (operations_of plan t) x.next)
  pub wants_unheld : (l : ℕ) → x.wanted ≡ Some l → x.held l ≡ NotHeld
  pub cut_wants_nothing : x.cut ≡ true → x.wanted ≡ None
  pub taking : x.taking ≡ x.wanted
  pub unnoted : x.noted ≡ None

-- that of a thread of a run
abbrev pub IsThere : Plan → Run → ℕ → Type 0
IsThere plan r t = IsWhere plan t (share_in plan r.state t (r.next_op t))

-- what it may want there: a lock that its operation takes and that it doesn't hold, and nothing where it was cut
pub record MayWant (plan : Plan) (r : Run) (t : ℕ) (wanted : Option ℕ) : Type 0 where
  pub takes : (l : ℕ) → wanted ≡ Some l
      → TakesLock (config_of plan) l (waits_on (r.state.log t)) (slice_get (operations_of plan t) (r.next_op t))
  pub unheld : (l : ℕ) → wanted ≡ Some l → r.state.held t l ≡ NotHeld
  pub uncut : was_cut r.state t ≡ true → wanted ≡ None

-- where it wants and takes something else
pub there_wanting : (plan : Plan) (r : Run) (t : ℕ) (wanted taking : Option ℕ) → IsOnTrack plan r → taking ≡ wanted
    → MayWant plan r t wanted
    → IsWhere plan t (record (share_in plan r.state t (r.next_op t)) { wanted = wanted; taking = taking })
there_wanting plan r t wanted taking k e w = grind arith

pub is_there : (plan : Plan) (r : Run) (t : ℕ) → IsOnTrack plan r → IsThere plan r t
is_there plan r t k = there_wanting plan r t (r.state.wanted t) (r.state.taking t) k (k.taking t)
    (record { takes = k.wants t; unheld = k.wants_unheld t; uncut = k.cut_wants_nothing t })

-- 3. What a turn leaves true, beside a lawful state whose entries follow the operations

abbrev pub NoneOut : State → Type 0
NoneOut n = NothingIsOut n.turnstile_chain_with n.sleep_chain_with n.record_with n.cell_with n.graph_with

-- a thread that goes on behind a wait wants the lock of it
abbrev pub WantsBack : Plan → State → ℕ → Type 0
WantsBack plan s t = (d : ℕ) → waits_on (s.log t) ≡ Some d → s.wait t ≡ Running
    → s.wanted t ≡ Some ((config_of plan).chan_lock d)

-- the entries of a thread lead it to where it is
abbrev pub IsLed : Plan → Run → ℕ → Type 0
IsLed plan r t = LeadsTo (config_of plan).kind (operations_of plan t) (r.state.log t) (point_in plan r t)

-- what a turn of t by the action leaves of t, and of the state
pub record KeepsTrack (plan : Plan) (r : Run) (t : ℕ) (action : Action) : Type 0 where
  pub asks : AsksOfSleepersAll (by_turn t) (config_of plan) r.state action.steps
  pub out : NoneOut (run_after plan r t action).state
  pub stands : QueuedStands (run_after plan r t action).state.wait (run_after plan r t action).state.blocked_on
  pub noted : (run_after plan r t action).state.unstamped t ≡ None
  pub no_halts : HaltsOnlyWhenRunning false (run_after plan r t action).state.history
  pub there : IsThere plan (run_after plan r t action) t
  pub back : WantsBack plan (run_after plan r t action).state t

-- its point, by its columns
abbrev point_at : Plan → ℕ → Share → Point
point_at plan t x = point_by x.cut (holding plan t x) x.next x.waits

-- no wake is left to note between two turns
pub none_unnoted : (plan : Plan) (r : Run) (t : ℕ) → IsOnTrack plan r → r.state.unstamped t ≡ None
unfolding UnnotedIsAtWork
none_unnoted plan r t k = grind arith

-- each thread's entries lead it to where it is
pub is_led : (plan : Plan) (r : Run) (t : ℕ) → IsOnTrack plan r → IsLed plan r t
unfolding LogsAreParts
is_led plan r t k = grind arith

module _ (plan : Plan) (r : Run) (t : ℕ) (action : Action) (k : IsOnTrack plan r)
    (may : MayAll (config_of plan) r.state action.steps) (orders : KeepToOrder (config_of plan) r.state action.steps)
    (own : AllBy t action.steps)
    (w : KeepsTrack plan r t action) (led : IsLed plan (run_after plan r t action) t) where
  abbrev n : Run
  n = run_after plan r t action

  -- each other thread is where it was
  other_next : (u : ℕ) → (t ≡ u → ⊥) → n.next_op u ≡ r.next_op u
  other_next u ne = next_stays plan r t u ne action.next

  share : (u : ℕ) → (t ≡ u → ⊥) → SameShare (config_of plan) u r.state n.state
  share u ne = all_leave (config_of plan) u t r.state action.steps ne own

  same_share : (u : ℕ) → (t ≡ u → ⊥) → share_in plan r.state u (r.next_op u) ≡ share_in plan n.state u (n.next_op u)
  same_share u ne =
      let next = sym (other_next u ne) in
      let x = share u ne in
      let log = sym x.log in
      let held = sym x.held in
      let listed = sym x.held_locks in
      let begun = sym x.has_begun in
      let wanted = sym x.wanted in
      let taking = sym x.taking in
      let noted = sym x.noted in
      λ i. record {
        next = next i;
        waits = waits_on (log i);
        cut = has_reversal (log i);
        held = held i;
        held_locks = listed i;
        sections = λ l. sym (x.sections l) i;
        has_begun = begun i;
        wanted = wanted i;
        taking = taking i;
        noted = noted i;
      }

  there : (u : ℕ) → IsThere plan n u
  there u =
      each_place t (IsThere plan n) w.there (λ v ne. subst (IsWhere plan v) (same_share v ne) (is_there plan r v k)) u

  back : (u : ℕ) → WantsBack plan n.state u
  back u = each_place t (WantsBack plan n.state) w.back
      (λ v ne d e runs. let x = share v ne in
      x.wanted ∙ k.back_wants v d (sym (ap waits_on x.log) ∙ e) (x.running runs)) u

  lawful : Lawful (config_of plan) n.state
  lawful = all_keep (config_of plan) r.state action.steps may k.lawful.lawful

  follows : (u : ℕ) → LeadsTo (config_of plan).kind (operations_of plan u) (entries_of n.state.history u)
      (point_in plan n u)
  unfolding LogsAreParts
  follows u = subst (λ (es : List Entry). LeadsTo (config_of plan).kind (operations_of plan u) es (point_in plan n u))
      (lawful.books.logs_are_parts u)
      (each_place t (IsLed plan n) led (λ v ne.
      let log = sym (share v ne).log in
      let same = same_share v ne in
      subst (λ (es : List Entry). LeadsTo (config_of plan).kind (operations_of plan v) es (point_in plan n v)) log
      (subst (λ x. LeadsTo (config_of plan).kind (operations_of plan v) (r.state.log v) (point_at plan v x)) same
      (is_led plan r v k))) u)

  sleepers : SleepersFit nobody (config_of plan) n.state
  unfolding QueuedStands AsleepAreOnTheirWay
  sleepers =
      let fit = turn_keeps (config_of plan) r.state t action.steps may w.asks (halt_nobody t action.steps own) k.halted
      k.lawful.lawful k.sleepers in
      turn_ends (config_of plan) n.state t (λ d a z none. w.stands t (fit.asleep_are_on_their_way t d a z none).0 none)
      w.noted fit

  -- so the run stays on track
  pub stays_on_track : IsOnTrack plan n
  stays_on_track = record {
    lawful = record { lawful = lawful; nothing_out = w.out; queued_stands = w.stands };
    sleepers = sleepers;
    halted = all_stay (config_of plan) r.state action.steps (halt_nobody t action.steps own) ∙ k.halted;
    no_halts = w.no_halts;
    within = λ u. (there u).within;
    no_endtry = λ u. (there u).no_endtry;
    follows = follows;
    waiting = λ u. (there u).waiting;
    holds = λ u. (there u).holds;
    listed = λ u. (there u).listed;
    left = λ u. (there u).left;
    sections = λ u. (there u).opened;
    begun = λ u. (there u).begun;
    wants = λ u. (there u).wants;
    wants_unheld = λ u. (there u).wants_unheld;
    cut_wants_nothing = λ u. (there u).cut_wants_nothing;
    back_wants = back;
    taking = λ u. (there u).taking;
    unnoted = λ u. (there u).unnoted;
    ordered = orders_keep (config_of plan) r.state action.steps may orders k.lawful.lawful k.ordered;
    taken = takes_keep (config_of plan) r.state action.steps may orders k.lawful.lawful k.taken;
    walks = walks_keep (config_of plan) r.state action.steps may k.walks;
  }

-- 4. The end of an operation

-- it doesn't wait, and wasn't cut
pub record IsAwake (s : State) (t : ℕ) : Type 0 where
  pub no_wait : waits_on (s.log t) ≡ None
  pub uncut : was_cut s t ≡ false

-- an entry behind which its thread goes on: none of a sleep that begins, of a halt or of a refusal
pub record LetsGoOn (e : Event) : Type 0 where
  pub awake : fell_asleep (of_sleep e) ≡ None
  pub no_halt : is_halt e ≡ false
  pub no_reversal : is_reversal e ≡ false

pub lets_go_on : {e : Event} → fell_asleep (of_sleep e) ≡ None → is_halt e ≡ false → is_reversal e ≡ false → LetsGoOn e
lets_go_on awake no_halt no_reversal = record { awake = awake; no_halt = no_halt; no_reversal = no_reversal }

-- so it is awake
pub awake_behind : (r : Run) (t : ℕ) (e : Event) (s : State) → LetsGoOn e → was_cut r.state t ≡ false
    → s.log ≡ put r.state.log t (entry_of r.state t e ∷ r.state.log t) → IsAwake s t
awake_behind r t e s q uncut log =
    let own = ap (λ (f : ℕ → List Entry). f t) log ∙ put_same r.state.log t (entry_of r.state t e ∷ r.state.log t) in
    record { no_wait = ap waits_on own ∙ q.awake; uncut = ap has_reversal own ∙ rw (q.no_reversal, uncut) refl }

-- What the end of an operation of t leaves in the columns of s. It made the one entry, and t goes on at the operation
-- n, or behind the endtrys that stand there, and neither waits nor takes a lock.
pub record EndsWell (plan : Plan) (r : Run) (t n : ℕ) (e : Event) (s : State) : Type 0 where
  pub awake : IsAwake s t
  pub no_halt : is_halt e ≡ false
  pub history : s.history ≡ entry_of r.state t e ∷ r.state.history
  pub within : n ≤ length (operations_of plan t)
  pub holds : (l : ℕ) → s.held t l ≡ hold_in (held_of (operations_of plan t) n) l
  pub listed : s.held_locks t ≡ gained_order (held_of (operations_of plan t) n)
  pub sections : (l : ℕ) → open_in (config_of plan) s.history t l ≡ s.held t l
  pub begun : (l : ℕ) → s.held t l ≢ NotHeld → s.has_begun t l ≡ true
  pub wants : s.wanted t ≡ None
  pub taking : s.taking t ≡ None
  pub unnoted : s.noted t ≡ None

-- with its thread there
pub goes_on : (plan : Plan) (r : Run) (t n : ℕ) (kind : StepKind) (steps : List Step) (e : Event) → IsOnTrack plan r
    → AsksOfSleepersAll (by_turn t) (config_of plan) r.state steps
    → NoneOut (after_all (config_of plan) r.state steps)
    → QueuedStands (after_all (config_of plan) r.state steps).wait (after_all (config_of plan) r.state steps).blocked_on
    → (after_all (config_of plan) r.state steps).unstamped t ≡ None
    → EndsWell plan r t n e (after_all (config_of plan) r.state steps)
    → KeepsTrack plan r t (record { answer = Did kind; steps = steps; next = Some n })
unfolding HaltsOnlyWhenRunning
goes_on plan r t n kind steps e k asks out stands noted w = record {
  asks = asks;
  out = out;
  stands = stands;
  noted = noted;
  no_halts = rw w.history ((λ x. w.no_halt), k.no_halts);
  there = subst (λ m. IsWhere plan t (share_in plan s t m)) (sym (put_same r.next_op t next)) here;
  back = λ d f. absurd (none-some d (sym w.awake.no_wait ∙ f));
}
  where
    s : State
    s = after_all (config_of plan) r.state steps

    ops : List Op
    ops = operations_of plan t

    next : ℕ
    next = next_at ops n

    here : IsWhere plan t (share_in plan s t next)
    here = rw (w.awake.no_wait, w.awake.uncut, w.wants, w.taking, w.unnoted) (record {
      within = next_within ops n w.within;
      no_endtry = next_is_none ops n;
      waiting = λ d f. absurd cc;
      holds = λ l. w.holds l ∙ ap (λ (hs : List Held). hold_in hs l) (sym (next_holds ops n));
      listed = w.listed ∙ ap gained_order (sym (next_holds ops n));
      left = λ l f. absurd cc;
      opened = w.sections;
      begun = w.begun;
      wants = λ l f. absurd cc;
      wants_unheld = λ l f. absurd cc;
      cut_wants_nothing = λ f. refl;
      taking = refl;
      unnoted = refl;
    })

-- the thread's wake that is to be noted, behind an entry
pub noted_behind : (plan : Plan) (r : Run) (t : ℕ) (e : Event) → IsOnTrack plan r
    → put r.state.unstamped t (unstamped_after e (r.state.unstamped t)) t ≡ None
noted_behind plan r t e k = put_same r.state.unstamped t _ ∙ none e (r.state.unstamped t) (none_unnoted plan r t k)
  where
    none : (x : Event) (w : Option Wake) → w ≡ None → unstamped_after x w ≡ None
    none x w i = grind arith

-- and the lock that it takes, where it takes none
pub none_taken : (e : Event) (o : Option ℕ) → o ≡ None → taking_after e o ≡ None
none_taken e o i = grind arith

-- a thread that is made ready and put on a queue stands there
pub now_stands : (wait : ℕ → Wait) (blocked_on : ℕ → Option QueueName) (t : ℕ) (q : QueueName)
    → QueuedStands wait blocked_on → QueuedStands (put wait t Queued) (put blocked_on t (Some q))
unfolding QueuedStands
now_stands wait blocked_on t q h u =
    each_place t (λ v. put wait t Queued v ≡ Queued → put blocked_on t (Some q) v ≢ None)
    (λ e n. none-some q (sym n ∙ put_same blocked_on t (Some q)))
    (λ v ne. rw (put_other wait t Queued v ne, put_other blocked_on t (Some q) v ne) (h v)) u

-- and doesn't run
pub not_running : {A : Type 0} (wait : ℕ → Wait) (t : ℕ) → put wait t Queued t ≡ Running → A
not_running wait t e = absurd (let z : Queued ≡ Running = sym (put_same wait t Queued) ∙ e in cc)

-- 5. What is known at the operation of a running thread

abbrev pub is_take : Op → Bool
is_take op = is_some (lock_of_take (of_locks op))

abbrev sleeps : OfLocks → Bool
sleeps NoLock = false
sleeps (Acquires h) = false
sleeps ClosesBlock = false
sleeps (Releases l) = false
sleeps (EditsAt l key) = false
sleeps (ReadsAt l key) = false
sleeps (SleepsOn d) = true
sleeps (WakesOn d) = false

abbrev pub is_wait : Op → Bool
is_wait op = sleeps (of_locks op)

-- a thread that was cut made an entry that cut it, or one that gave a lock back
abbrev is_cut : Point → Bool
is_cut (Before n) = false
is_cut (Asleep n) = false
is_cut (Cut hs) = true

cut_by : (kind : ℕ → Kind) (held : List Held) (n : ℕ) (op : Op) (e : Event) (p : Point) → Gives kind held n op e p
    → is_cut p ≡ true → fell_asleep (of_sleep e) ≡ None
cut_by kind held n op e p g f = grind arith

cut_awake : (kind : ℕ → Kind) (ops : List Op) (es : List Entry) (p : Point) → LeadsTo kind ops es p → is_cut p ≡ true
    → waits_on es ≡ None
cut_awake kind ops _ _ law.begins f = absurd cc
cut_awake kind ops _ p (law.goes_on {n = n} {o = o} e h next g) f = cut_by kind (held_of ops n) n o e.event p g f
cut_awake kind ops _ _ (law.skips_endtry h next) f = absurd cc
cut_awake kind ops _ _ (law.wakes_up e h next x) f = absurd cc
cut_awake kind ops _ _ (law.is_woken_by_a_halt e h next x) f = ap (λ v. fell_asleep (of_sleep v)) x
cut_awake kind ops _ _ (law.gives_back e h x) f = ap (λ v. fell_asleep (of_sleep v)) x

-- what it holds before and behind the operation
abbrev pub before : Plan → Run → ℕ → List Held
before plan r t = held_of (operations_of plan t) (r.next_op t)

abbrev pub behind : Plan → Run → ℕ → List Held
behind plan r t = held_of (operations_of plan t) (suc (r.next_op t))

-- its next operation
abbrev pub Next : Plan → Run → ℕ → Op → Type 0
Next plan r t op = slice_get (operations_of plan t) (r.next_op t) ≡ Some op

pub waits_back : (es : List Entry) → is_taking_back es ≡ is_some (waits_on es)
waits_back es = grind arith

-- it was left to make
pub left : (plan : Plan) (r : Run) (t : ℕ) (op : Op) → Next plan r t op → r.next_op t < length (operations_of plan t)
left plan r t op e = slice_get_within (operations_of plan t) (r.next_op t) op e

module _ (plan : Plan) (r : Run) (t : ℕ) (p : IsProper plan) where
  pub are_locks : AreLocks plan (before plan r t)
  are_locks = held_are_locks plan p t (r.next_op t)

  -- the operation fits what is held
  pub fit : (op : Op) → Next plan r t op → Leads plan op (before plan r t) (behind plan r t)
  fit op e = next_leads plan p t (r.next_op t) op e

module _ (plan : Plan) (r : Run) (t : ℕ) (k : IsOnTrack plan r) where
  pub unnamed : r.state.wait t ≡ Running → r.state.blocked_on t ≡ None
  unfolding StandingIsQueued
  unnamed running = go (r.state.blocked_on t) refl
    where
      go : (o : Option QueueName) → r.state.blocked_on t ≡ o → o ≡ None
      go o e = grind arith

  -- also behind a step that leaves its wait word and its record
  pub acting_in : (s : State) → s.blocked_on t ≡ r.state.blocked_on t → s.wait t ≡ r.state.wait t
      → r.state.wait t ≡ Running → IsActing s t
  acting_in s named says running = record { unnamed = named ∙ unnamed running; unwoken = ap is_woken (says ∙ running) }

  pub acting : r.state.wait t ≡ Running → IsActing r.state t
  acting running = acting_in r.state refl refl running

  -- at an operation other than a wait it doesn't wait, and is awake
  pub awake : (op : Op) → Next plan r t op → is_wait op ≡ false → waits_on (r.state.log t) ≡ None
  awake op e f = grind arith

  pub is_awake : (op : Op) → IsAtOperation plan r t (Some op) → is_wait op ≡ false → IsAwake r.state t
  is_awake op i f = record { no_wait = awake op i.next f; uncut = i.uncut }

  -- one that was cut doesn't wait
  pub cut_no_wait : was_cut r.state t ≡ true → waits_on (r.state.log t) ≡ None
  cut_no_wait e =
      cut_awake _ _ _ _ (subst
      (λ b. LeadsTo (config_of plan).kind (operations_of plan t) (r.state.log t)
      (point_by b (held_now plan r t) (r.next_op t) (waits_on (r.state.log t)))) e (is_led plan r t k)) refl

  pub waits_uncut : (d : ℕ) → waits_on (r.state.log t) ≡ Some d → was_cut r.state t ≡ false
  waits_uncut d e = go (was_cut r.state t) refl
    where
      go : (b : Bool) → was_cut r.state t ≡ b → b ≡ false
      go false f = refl
      go true f = absurd (none-some d (sym (cut_no_wait f) ∙ e))

  module _ (no : IsAwake r.state t) where
    pub holds_all : (l : ℕ) → r.state.held t l ≡ hold_in (before plan r t) l
    holds_all l = rw (no.uncut, no.no_wait) at (k.holds t l)

    pub all_listed : r.state.held_locks t ≡ gained_order (before plan r t)
    all_listed = rw (no.uncut, no.no_wait) at (k.listed t)

  module _ (no : waits_on (r.state.log t) ≡ None) where
    pub all_open : (l : ℕ) → open_in (config_of plan) r.state.history t l ≡ r.state.held t l
    all_open l = rw no at (k.sections t l)

    -- it wants nothing, unless the operation is a take
    pub wants_none : (op : Op) → Next plan r t op → is_take op ≡ false → r.state.wanted t ≡ None
    wants_none op e f = go (r.state.wanted t) refl
      where
        go : (o : Option ℕ) → r.state.wanted t ≡ o → o ≡ None
        go None i = refl
        go (Some l) i =
            let takes : lock_of_take (of_locks op) ≡ Some l = rw (no, e) at (k.wants t l i) in
            absurd (let z = sym f ∙ ap is_some takes in cc)

    -- and a take's lock at most
    pub wants_this : (l : LockNo) (mode : Mode) → Next plan r t (Take l mode) → (j : ℕ) → r.state.wanted t ≡ Some j
        → l.0 ≡ j
    wants_this l mode e j i = same_Some l.0 j (rw (no, e) at (k.wants t j i))

  -- a take that was admitted, or a taking back after a wait, wants its lock
  pub wants_it : {l : LockNo} {mode : Mode} {op : Op} {e : Event} → actions.Taking plan r t l mode op e
      → IsAtOperation plan r t (Some op) → r.state.wanted t ≡ Some l.0
  wants_it (actions.anew l mode j e) i = e
      ∙ ap Some (sym (wants_this (awake (Take l mode) i.next refl) l mode i.next j e))
  wants_it (actions.back d e w) i =
      let same : e ≡ d.0 = let at = sym (k.waiting t e w) ∙ i.next in cc in
      k.back_wants t e w i.running ∙ ap (λ n. Some ((config_of plan).chan_lock n)) same

-- an operation that leaves what is held, is no take and no wait, and whose entry changes no section and lets its
-- thread go on
pub record EndsQuietly (plan : Plan) (r : Run) (t n : ℕ) (op : Op) (e : Event) : Type 0 where
  pub no_take : is_take op ≡ false
  pub no_wait : is_wait op ≡ false
  pub within : n ≤ length (operations_of plan t)
  pub same : before plan r t ≡ held_of (operations_of plan t) n
  pub quiet : changes_sections e ≡ false
  pub lets : LetsGoOn e

-- behind a stamp, and steps that leave what the thread holds, wants and takes
pub ends_quietly : (plan : Plan) (r : Run) (t n : ℕ) (op : Op) (e : Event) (s : State) → IsOnTrack plan r
    → IsAtOperation plan r t (Some op) → EndsQuietly plan r t n op e
    → s.log ≡ put r.state.log t (entry_of r.state t e ∷ r.state.log t)
    → s.history ≡ entry_of r.state t e ∷ r.state.history → s.held ≡ r.state.held → s.held_locks ≡ r.state.held_locks
    → s.has_begun ≡ begun_after (config_of plan) e t r.state.has_begun → s.wanted ≡ r.state.wanted
    → s.taking ≡ put r.state.taking t (taking_after e (r.state.taking t)) → s.noted ≡ put r.state.noted t None
    → EndsWell plan r t n e s
unfolding after_stamp
ends_quietly plan r t n op e s k i q log history held listed begun wanted taking noted = record {
  awake = awake_behind r t e s q.lets i.uncut log;
  no_halt = q.lets.no_halt;
  history = history;
  within = q.within;
  holds = λ l. ap (λ (f : ℕ → ℕ → Hold). f t l) held ∙ holds_all plan r t k up l
      ∙ ap (λ (hs : List Held). hold_in hs l) q.same;
  listed = ap (λ (f : ℕ → List HeldLock). f t) listed ∙ all_listed plan r t k up ∙ ap gained_order q.same;
  sections = λ l.
      ap (λ es. open_in c es t l) history ∙ ap (λ (x : Sections). x.now) (sections_stay c r.state t e t l q.quiet)
      ∙ all_open plan r t k up.no_wait l ∙ ap (λ (f : ℕ → ℕ → Hold). f t l) (sym held);
  begun = λ l x.
      ap (λ (f : ℕ → ℕ → Bool). f t l) (begun ∙ begun_stays c (facets e).section t r.state.has_begun q.quiet)
      ∙ k.begun t l (λ z. x (ap (λ (f : ℕ → ℕ → Hold). f t l) held ∙ z));
  wants = ap (λ (f : ℕ → Option ℕ). f t) wanted ∙ wants;
  taking = ap (λ (f : ℕ → Option ℕ). f t) taking ∙ put_same r.state.taking t _
      ∙ none_taken e (r.state.taking t) (k.taking t ∙ wants);
  unnoted = ap (λ (f : ℕ → Option Note). f t) noted ∙ put_same r.state.noted t None;
}
  where
    c : Config
    c = config_of plan

    up : IsAwake r.state t
    up = is_awake plan r t k op i q.no_wait

    wants : r.state.wanted t ≡ None
    wants = wants_none plan r t k up.no_wait op i.next q.no_take

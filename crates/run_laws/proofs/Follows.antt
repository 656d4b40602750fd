-- A turn of the scheduled run makes no entry and leaves its thread where it was; or it makes one entry, and its
-- thread goes on where that leads. The entry of a wait that begins leads into the wait, its Woke entry and that of
-- each other operation behind the operation and the endtrys there. A refusal cuts the thread, and each entry behind
-- that gives back a lock. So a thread's entries follow its operations behind its turn as before.
use Rattle.run_laws.proofs.Names
use Names.{ℕ, suc, Bool, true, false, arith, List, [], length, take, Option, Some, None, refl, sym, ap, subst}
use Names.{reverse-append, config_of, operations_of, IsProper, held_of, next_at, Word, IsWellFormed, is_free, admits}
use Names.{bits_of, has_reversal, LeadsTo, Gives, Point, Before, Asleep, Cut, Op, Take, Try, Release, Sleep, Kind, Mode}
use Names.{Plan, LockNo, ChanNo, Event, Entry, Held, StepKind, State, HeldLock, put, Step, Stamps, entry_of, after_look}
use Names.{after_gain, after_drop, after_stamp, after_ready, after_enter, after_open, after_mark, after_resume}
use Names.{after_enter_sleep, after_open_sleep, after_add, after_wake, after_claim, after_lend, after_shift}
use Names.{after_end_walk, after_refuse, Run, Action, does, waits_on, owed_release, next_ops, mode_held, run_after}
use Names.{held_now, IsOnTrack, IsAtOperation, IsCutShort, BeginsTake, admitted, first_against, point_by, point_in}
use Names.{put_same, gain_passes, release_fits, well_formed, seen_again, refused_held, at_next}
use Rattle.std.proofs.Common.{◌≡◌, ◌<◌, ◌∷◌, ◌∙◌}
use Rattle.std.specs.Prelude.{reverse}
use Rattle.lock_model.specs.Law as law
use Rattle.lock_model.specs.declared.event.Event.TheVariants as event
use Rattle.run_laws.proofs.OnTrack.{IsLed, LetsGoOn, lets_go_on, IsAwake, is_led, is_wait, is_awake, awake_behind, waits_uncut, holds_all, fit}
use Rattle.run_laws.proofs.Actions as actions
use Rattle.run_laws.proofs.TurnsOfOrders.{admitted_on_track, found_admitted, has_all}
use Rattle.run_laws.proofs.TurnsOfReleases as releases

-- 1. What an entry of an operation leads to

-- the entry is one of the thread's next operation, and leads it to the operation next
record GivesNext (plan : Plan) (r : Run) (t : ℕ) (e : Event) (next : ℕ) : Type 0 where
  leads : LeadsTo (config_of plan).kind (operations_of plan t) (entry_of r.state t e ∷ r.state.log t) (Before next)
  lets : LetsGoOn e

-- entries that lead to an operation lead behind the endtrys that stand there
behind_endtrys : (kind : ℕ → Kind) (ops : List Op) (es : List Entry) (n : ℕ) → LeadsTo kind ops es (Before n)
    → LeadsTo kind ops es (Before (next_at ops n))
behind_endtrys kind ops es n = at_next (λ m. LeadsTo kind ops es (Before m)) ops n (λ m e h. law.skips_endtry h e)

-- the point of a thread that wasn't cut is the same whatever it holds
uncut_point : (b : Bool) (hs xs : List Held) (n : ℕ) (w : Option ℕ) → b ≡ false → point_by b hs n w ≡ point_by b xs n w
uncut_point true hs xs n w e = absurd cc
uncut_point false hs xs n None e = refl
uncut_point false hs xs n (Some d) e = refl

-- where it is led, by its log and its point
led_to : (plan : Plan) (n : Run) (t : ℕ) (es : List Entry) (point : Point) → n.state.log t ≡ es
    → point_in plan n t ≡ point → LeadsTo (config_of plan).kind (operations_of plan t) es point → IsLed plan n t
led_to plan n t es point log at leads =
    subst (λ (xs : List Entry). LeadsTo (config_of plan).kind (operations_of plan t) xs (point_in plan n t)) (sym log)
    (subst (LeadsTo (config_of plan).kind (operations_of plan t) es) (sym at) leads)

-- 2. Action by action

module _ (plan : Plan) (r : Run) (t : ℕ) (p : IsProper plan) (k : IsOnTrack plan r) (lt : t < length plan.threads) where
  abbrev s : State
  s = r.state

  abbrev ops : List Op
  ops = operations_of plan t

  abbrev now : ℕ
  now = r.next_op t

  -- where its entries have led a thread that is in no wait, and one that is
  abbrev Follows : Point → Type 0
  Follows point = LeadsTo (config_of plan).kind ops (s.log t) point

  awake_follows : IsAwake s t → Follows (Before now)
  awake_follows up = rw (up.uncut, up.no_wait) at (is_led plan r t k)

  asleep_follows : (d : ℕ) → waits_on (s.log t) ≡ Some d → Follows (Asleep now)
  asleep_follows d e = rw (waits_uncut plan r t k d e, e) at (is_led plan r t k)

  -- the one entry of an operation that is no wait,
  ends : {op : Op} {e : Event} {next : ℕ} → IsAtOperation plan r t (Some op) → is_wait op ≡ false
      → Gives (config_of plan).kind (held_of ops now) now op e (Before next) → LetsGoOn e → GivesNext plan r t e next
  ends {op} {e} i other gives lets = record {
    leads = law.goes_on (entry_of s t e) (awake_follows (is_awake plan r t k op i other)) i.next gives;
    lets = lets;
  }

  noting : {o : Op} {e : Event} → actions.Notes r t o e → IsAtOperation plan r t (Some o)
      → GivesNext plan r t e (suc now)
  noting (actions.sets l key value) i = ends i refl (law.sets l key value) (lets_go_on refl refl refl)
  noting (actions.adds l key amount) i = ends i refl (law.adds l key amount) (lets_go_on refl refl refl)
  noting (actions.gets l key) i = ends i refl (law.gets l key (s.table l.0 key)) (lets_go_on refl refl refl)
  noting (actions.changes_base prio) i = ends i refl (law.changes_base prio) (lets_go_on refl refl refl)
  noting actions.shows i =
      ends i refl (law.shows (record { 0 = s.base t }) (record { 0 = s.effective t })) (lets_go_on refl refl refl)

  -- of a take or a try that gains its lock, and the second entry of a wait,
  taking : {l : LockNo} {mode : Mode} {o : Op} {e : Event} → actions.Taking plan r t l mode o e
      → IsAtOperation plan r t (Some o) → GivesNext plan r t e (suc now)
  taking (actions.anew l mode j w) i = ends i refl (law.locks l mode) (lets_go_on refl refl refl)
  taking (actions.back d e w) i =
      record {
        leads = law.wakes_up (entry_of s t (event.Woke d)) (asleep_follows e w) i.next refl;
        lets = lets_go_on refl refl refl;
      }

  gaining : {l : LockNo} {mode : Mode} {o : Op} {by_try : Bool} {e : Event} → actions.Gaining plan r t l mode o by_try e
      → IsAtOperation plan r t (Some o) → GivesNext plan r t e (suc now)
  gaining (actions.by_taking by) i = taking by i
  gaining (actions.by_trying l mode past) i = ends i refl (law.tries l mode past) (lets_go_on refl refl refl)

  -- of one that finds it busy,
  busy : (l : LockNo) (mode : Mode) (past : ℕ) → IsAtOperation plan r t (Some (Try l mode past))
      → admits ((config_of plan).kind l.0) (s.word l.0) mode ≡ false
      → GivesNext plan r t (event.Busy l (bits_of (s.word l.0))) past
  busy l mode past i e =
      let kind = (config_of plan).kind l.0 in
      let again = seen_again (config_of plan) s l.0 k.lawful.lawful in
      let f = fit plan r t p (Try l mode past) i.next in
      let found = gain_passes plan l mode true _ _ f.passes f.behind in
      ends i refl (law.finds_busy l mode past (bits_of (s.word l.0))
      (subst IsWellFormed (sym again) (well_formed (config_of plan) s l.0 k.lawful.lawful (omega (arith, p.threads))))
      (ap (λ (w : Word). is_free w.holder) again ∙ refused_held kind (s.word l.0) mode found.mutex e)
      (ap (λ (w : Word). admits kind w mode) again ∙ e)) (lets_go_on refl refl refl)

  -- of a release, of a lock that is held,
  releasing : (l : LockNo) → IsAtOperation plan r t (Some (Release l))
      → GivesNext plan r t (event.Unlocked l (mode_held (s.held t l.0))) (suc now)
  releasing l i =
      let same = holds_all plan r t k (is_awake plan r t k (Release l) i refl) l.0 in
      let found = release_fits plan l _ _ (fit plan r t p (Release l) i.next) in
      ends i refl (law.unlocks l (mode_held (s.held t l.0))
      (sym same ∙ actions.its_mode (s.held t l.0) (λ z. found.0 (sym same ∙ z)))) (lets_go_on refl refl refl)

  -- and of a wake
  waking : {o : Op} {all : Bool} {noted : ℕ → Event} (d : ChanNo) (woken : ℕ) → actions.Waking d o all noted
      → IsAtOperation plan r t (Some o) → GivesNext plan r t (noted woken) (suc now)
  waking d woken actions.of_one i = ends i refl (law.wakes_one d woken) (lets_go_on refl refl refl)
  waking d woken actions.of_all i = ends i refl (law.wakes_all d woken) (lets_go_on refl refl refl)

  -- the action of an operation's end
  ended : (action : Action) {o : Op} {e : Event} {next : ℕ} → IsAtOperation plan r t (Some o)
      → GivesNext plan r t e next → action.next ≡ Some next
      → (run_after plan r t action).state.log ≡ put s.log t (entry_of s t e ∷ s.log t)
      → IsLed plan (run_after plan r t action) t
  ended action {o} {e} {next} i w ends log =
      let n : Run = run_after plan r t action in
      let up = awake_behind r t e n.state w.lets i.uncut log in
      let further : n.next_op t ≡ next_at ops next = ap (λ m. next_ops ops r.next_op t m t) ends
      ∙ put_same r.next_op t (next_at ops next) in
      led_to plan n t (entry_of s t e ∷ s.log t) (Before (next_at ops next)) (ap (λ f. f t) log ∙ put_same s.log t _)
      (rw (up.uncut, up.no_wait) (ap Before further))
      (behind_endtrys _ _ _ next w.leads)

  -- a wait that begins
  slept : (d : ChanNo) → IsAtOperation plan r t (Some (Sleep d)) → waits_on (s.log t) ≡ None → (action : Action)
      → action.next ≡ None
      → (run_after plan r t action).state.log ≡ put s.log t (entry_of s t (event.Sleeps d) ∷ s.log t)
      → IsLed plan (run_after plan r t action) t
  slept d i e action still log =
      let n : Run = run_after plan r t action in
      let own : n.state.log t ≡ entry_of s t (event.Sleeps d) ∷ s.log t = ap (λ f. f t) log ∙ put_same s.log t _ in
      let cut : has_reversal (n.state.log t) ≡ false = ap has_reversal own ∙ i.uncut in
      led_to plan n t (entry_of s t (event.Sleeps d) ∷ s.log t) (Asleep now) own
      (rw (cut, ap waits_on own) (ap (λ o. Asleep (next_ops ops r.next_op t o t)) still))
      (law.goes_on (entry_of s t (event.Sleeps d)) (awake_follows (record { no_wait = e; uncut = i.uncut })) i.next
      (law.sleeps d))

  -- the release of a wait's lock
  gave_up : {l : ℕ} {kind : StepKind} {step : Step} → s.marked t ≡ [] → owed_release (config_of plan) s t ≡ Some l
      → actions.GivingBack plan r t l (mode_held (s.held t l)) kind step
      → IsLed plan (run_after plan r t (does kind (step ∷ []))) t
  gave_up {l} {kind} {step} unmarked owed g =
      let gave = releases.gave_back plan r t p k lt s l (mode_held (s.held t l)) g in
      let n : Run = run_after plan r t (does kind (step ∷ [])) in
      led_to plan n t (s.log t) (point_in plan r t) (ap (λ f. f t) gave.log)
      (ap (λ (f : ℕ → List Entry). point_by (has_reversal (f t)) (held_now plan n t) now (waits_on (f t))) gave.log
      ∙ uncut_point _ _ _ now _ (releases.uncut plan r t p k lt l unmarked owed))
      (is_led plan r t k)

  -- a refusal
  refused : {l : LockNo} {mode : Mode} (class : ℕ) (b : BeginsTake plan r t l mode)
      → first_against plan r t l ≡ Some class → (action : Action) → action.next ≡ None
      → (run_after plan r t action).state.log ≡ put s.log t
      (entry_of s t (event.Reversed l (record { 0 = class })) ∷ s.log t)
      → (run_after plan r t action).state.held_locks ≡ s.held_locks → IsLed plan (run_after plan r t action) t
  refused {l} {mode} class b e action still log listed =
      let n : Run = run_after plan r t action in
      let noted : Entry = entry_of s t (event.Reversed l (record { 0 = class })) in
      let own : n.state.log t ≡ noted ∷ s.log t = ap (λ f. f t) log ∙ put_same s.log t _ in
      let cut : has_reversal (n.state.log t) ≡ true = ap has_reversal own in
      let left : take (length (n.state.held_locks t)) (held_of ops (n.next_op t)) ≡ held_of ops now =
      ap (λ o. take (length (n.state.held_locks t)) (held_of ops (next_ops ops r.next_op t o t))) still
      ∙ ap (λ f. take (length (f t)) (held_of ops now)) listed ∙ has_all plan r t l mode p k lt b in
      led_to plan n t (noted ∷ s.log t) (Cut (reverse (held_of ops now))) own
      (rw cut (ap (λ (hs : List Held). Cut (reverse hs)) left))
      (law.goes_on noted (awake_follows (is_awake plan r t k (Take l mode) b.at refl)) b.at.next
      (law.is_reversed l mode (record { 0 = class })))

  -- a lock that a cut thread gives back
  gave_last : {kind : StepKind} {step : Step} (h : HeldLock) (rest : List HeldLock) → IsCutShort plan r t
      → s.held_locks t ≡ h ∷ rest → actions.GivingBack plan r t h.lock (mode_held (s.held t h.lock)) kind step
      → IsLed plan (run_after plan r t
      (does kind (Stamps t (event.Unlocked (record { 0 = h.lock }) (mode_held (s.held t h.lock))) ∷ step ∷ []))) t
  unfolding after_stamp
  gave_last {kind} {step} h rest i e g =
      let its : LockNo = record { 0 = h.lock } in
      let noted : Entry = entry_of s t (event.Unlocked its (mode_held (s.held t h.lock))) in
      let before : State = after_stamp (config_of plan) s t (event.Unlocked its (mode_held (s.held t h.lock))) in
      let n : Run = run_after plan r t
      (does kind (Stamps t (event.Unlocked its (mode_held (s.held t h.lock))) ∷ step ∷ [])) in
      let gave = releases.gave_back plan r t p k lt before h.lock (mode_held (s.held t h.lock)) g in
      let last = releases.last plan r t p k lt h rest i e in
      let own : n.state.log t ≡ noted ∷ s.log t = ap (λ f. f t) gave.log ∙ put_same s.log t _ in
      let cut : has_reversal (n.state.log t) ≡ true = ap has_reversal own ∙ i.cut in
      let number : h.lock ≡ last.last.l.0 = sym last.lock in
      let mode : mode_held (s.held t h.lock)
      ≡ last.last.mode = ap mode_held (releases.cut_holds plan r t p k lt h rest i e h.lock ∙ last.held) in
      led_to plan n t (noted ∷ s.log t) (Cut (reverse last.others)) own (rw cut
      (ap (λ (hs : List Held). Cut (reverse hs)) (releases.last_left plan r t p k lt h rest i e n.state step gave)))
      (law.gives_back noted
      (subst (λ (hs : List Held). Follows (Cut hs)) (ap reverse last.is ∙ reverse-append last.others (last.last ∷ []))
      (rw i.cut at (is_led plan r t k)))
      (λ j. event.Unlocked (record { 0 = number j }) (mode j)))

  acquired : (action : Action) → actions.Acquires plan r t action → IsLed plan (run_after plan r t action) t
  unfolding after_gain after_claim after_stamp after_ready after_enter after_enter_sleep
  acquired action (actions.gains by i a f) = ended action i (gaining by i) refl refl
  acquired action (actions.claims by i a f) = ended action i (gaining by i) refl refl
  acquired _ (actions.enters by i e (actions.on_turnstile x)) = is_led plan r t k
  acquired _ (actions.enters by i e (actions.on_sleep_queue x)) = is_led plan r t k

pub led : (plan : Plan) (r : Run) (t : ℕ) (action : Action) → IsProper plan → IsOnTrack plan r → t < length plan.threads
    → actions.Fits plan r t action → IsLed plan (run_after plan r t action) t
unfolding after_look after_stamp after_drop after_ready after_open after_mark after_resume after_open_sleep after_add
    after_wake after_lend after_shift after_end_walk after_refuse
led plan r t _ p k lt (actions.is_over e) = is_led plan r t k
led plan r t _ p k lt (actions.lends l o h w e f) = is_led plan r t k
led plan r t _ p k lt (actions.ends_at_lock l w e) = is_led plan r t k
led plan r t _ p k lt (actions.shifts o l w e f) = is_led plan r t k
led plan r t _ p k lt (actions.ends_at_thread o w f) = is_led plan r t k
led plan r t _ p k lt (actions.marks m ms w e) = is_led plan r t k
led plan r t _ p k lt (actions.gives_up w u e back) = gave_up plan r t p k lt u e back
led plan r t _ p k lt (actions.is_queued e f i) = is_led plan r t k
led plan r t _ p k lt (actions.resumes q cause f e) = is_led plan r t k
led plan r t action p k lt (actions.acquires a) = acquired plan r t p k lt action a
led plan r t _ p k lt (actions.is_admitted {l} {mode} {action} b e a) =
    acquired plan (admitted plan r t l) t p
    (admitted_on_track plan r t l mode p k lt b (found_admitted plan r t l mode p k lt b e)) lt action a
led plan r t action p k lt (actions.is_refused class b e) = refused plan r t p k lt class b e action refl refl refl
led plan r t action p k lt (actions.finds_busy l mode past i e) =
    ended plan r t p k lt action i (busy plan r t p k lt l mode past i e) refl refl
led plan r t action p k lt (actions.releases l i (actions.drops x)) =
    ended plan r t p k lt action i (releasing plan r t p k lt l i) refl refl
led plan r t action p k lt (actions.releases l i (actions.opens x y)) =
    ended plan r t p k lt action i (releasing plan r t p k lt l i) refl refl
led plan r t action p k lt (actions.releases l i (actions.opens_sleep_queue x y)) =
    ended plan r t p k lt action i (releasing plan r t p k lt l i) refl refl
led plan r t action p k lt (actions.sleeps d i e) = slept plan r t p k lt d i e action refl refl
led plan r t action p k lt (actions.wakes d by i) =
    ended plan r t p k lt action i (waking plan r t p k lt d _ by i) refl refl
led plan r t action p k lt (actions.makes_entry o e i n) =
    ended plan r t p k lt action i (noting plan r t p k lt n i) refl refl
led plan r t _ p k lt (actions.gives_last_back h hs i e back) = gave_last plan r t p k lt h hs i e back
led plan r t _ p k lt (actions.has_nothing_left g i e) = is_led plan r t k
led plan r t _ p k lt (actions.has_no_operation e i) = is_led plan r t k
led plan r t _ p k lt (actions.is_at_endtry i) = is_led plan r t k

-- Threads whose entries follow the operations of an ordered plan: before each operation a thread has just the sections
-- of what it holds there open. So what it takes is declared behind each lock of which it has a section open.
use Rattle.std.proofs.Common.{◌≡◌, ℕ, suc, ◌<◌, Bool, true, false, ◌||◌, cond, eqb, List, [], ◌∷◌, slice_get, Option, Some, None, refl, sym, ap, eq-eqb, ◌∙◌, subst}
use Rattle.std.specs.Prelude.{⊤}
use Rattle.std.proofs.lemmas.Bool.{or_left, or_right}
use Rattle.lock_model.specs.Config.{Config}
use Rattle.lock_model.specs.Events.{OfTake, NoTake, GainedBy, FoundBusy, HaltedFor, RefusedBy, facets, of_sleep, is_falling, is_end}
use Rattle.lock_model.specs.History.{Sections, sections_in, sections_by, open_in, entries_of, replaced}
use Rattle.lock_model.specs.Holds.{Hold, NotHeld, Holds}
use Rattle.lock_model.specs.Law.{LeadsTo, Gives, Point, Before, Asleep, Cut, is_halt}
use Rattle.lock_model.specs.Law as law
use Rattle.lock_model.specs.Operations.{IsProper, held_of, held_behind, hold_in}
use Rattle.lock_model.specs.OrderedPlans.{IsOrdered}
use Rattle.lock_model.specs.Plans.{config_of, operations_of}
use Rattle.lock_model.specs.Takes.{is_reversal}
use Rattle.lock_model.specs.declared.numbers.LockNo.{LockNo}
use Rattle.lock_model.specs.declared.numbers.ChanNo.{ChanNo}
use Rattle.lock_model.specs.declared.plan.Kind.{Kind}
use Rattle.lock_model.specs.declared.plan.Mode.{Mode}
use Rattle.lock_model.specs.declared.plan.Op.{Op}
use Rattle.lock_model.specs.declared.plan.Op.TheVariants as op
use Rattle.lock_model.specs.declared.plan.Plan.{Plan}
use Rattle.lock_model.specs.declared.event.Event.{Event}
use Rattle.lock_model.specs.declared.event.Event.TheVariants.{Unlocked, Woke, HaltedChan}
use Rattle.lock_model.specs.declared.event.Entry.{Entry}
use Rattle.lock_model.specs.declared.event.Held.{Held}
use Rattle.lock_laws.proofs.HeldLists.{gain_passes, next_leads, held_are_locks, hold_in-push, hold_in-without}
use Rattle.ordered_plan_laws.proofs.Edges.{lower_in}
use Rattle.std.proofs.Common.{arith}

-- 1. Sections behind entries that are all of one thread

abbrev pub along : Config → List Entry → ℕ → Sections
along c [] l = record { now = NotHeld; left = NotHeld }
along c (e ∷ es) l = sections_by c e.event l (along c es l)

pub own_along : (c : Config) (es : List Entry) (t l : ℕ) → sections_in c es t l ≡ along c (entries_of es t) l
unfolding sections_in
own_along c [] t l = refl
own_along c (e ∷ es) t l = go (eqb e.thread.0 t) (own_along c es t l)
  where
    go : (b : Bool) → sections_in c es t l ≡ along c (entries_of es t) l
        → cond b (sections_by c e.event l (sections_in c es t l)) (sections_in c es t l)
        ≡ along c (cond b (e ∷ entries_of es t) (entries_of es t)) l
    go true h = ap (sections_by c e.event l) h
    go false h = h

begun_same : (b : Bool) (mode : Mode) (x y : Hold) → x ≡ y
    → replaced (cond b (Holds mode) NotHeld) x ≡ cond b (Holds mode) y
begun_same true mode x y e = refl
begun_same false mode x y e = e

-- 2. What an entry tells of the operation that its thread was before

-- the lock of a take that was gained, halted or refused
abbrev pub lock_taken : OfTake → Option ℕ
lock_taken NoTake = None
lock_taken (GainedBy l by_try) = cond by_try None (Some l)
lock_taken (FoundBusy l seen) = None
lock_taken (HaltedFor l) = Some l
lock_taken (RefusedBy l class) = Some l

-- the thread was before a take of the lock
pub record IsBeforeTake (ops : List Op) (point : Point) (l : ℕ) : Type 0 where
  pub n : ℕ
  pub before : point ≡ Before n
  pub lock : LockNo
  pub same : lock.0 ≡ l
  pub mode : Mode
  pub takes : slice_get ops n ≡ Some (op.Take lock mode)

abbrev pub TakesAt : List Op → Point → Option ℕ → Type 0
TakesAt ops point None = ⊤
TakesAt ops point (Some l) = IsBeforeTake ops point l

-- an operation is a wait
pub record HasWait (ops : List Op) : Type 0 where
  pub n : ℕ
  pub chan : ChanNo
  pub waits : slice_get ops n ≡ Some (op.Sleep chan)

-- so where a thread falls asleep on a channel, or where such a sleep ends
abbrev pub SleepsAt : List Op → Event → Type 0
SleepsAt ops e = (is_falling (of_sleep e) || is_end (of_sleep e)) ≡ true → HasWait ops

-- the entries of a thread before one, and where they led it
pub record Came (kind : ℕ → Kind) (ops : List Op) (e : Entry) (es : List Entry) : Type 0 where
  pub point : Point
  pub leads : LeadsTo kind ops es point
  pub takes : TakesAt ops point (lock_taken (facets e.event).take)
  pub sleeps : SleepsAt ops e.event

abbrev Fronts : (ℕ → Kind) → List Op → List Entry → Type 0
Fronts kind ops [] = ⊤
Fronts kind ops (e ∷ es) = Came kind ops e es

module _ (kind : ℕ → Kind) (ops : List Op) where
  given : (held : List Held) (n : ℕ) (o : Op) (e : Event) (point : Point) → Gives kind held n o e point
      → slice_get ops n ≡ Some o → TakesAt ops (Before n) (lock_taken (facets e).take)
  given held n _ _ _ (law.locks l mode) next =
      record { n = n; before = refl; lock = l; same = refl; mode = mode; takes = next }
  given held n _ _ _ (law.is_reversed l mode class) next =
      record { n = n; before = refl; lock = l; same = refl; mode = mode; takes = next }
  given held n _ _ _ (law.is_halted l mode sx) next =
      record { n = n; before = refl; lock = l; same = refl; mode = mode; takes = next }
  given held n _ _ _ (law.tries l mode past) next = tt
  given held n _ _ _ (law.finds_busy l mode past seen w f a) next = tt
  given held n _ _ _ (law.unlocks l mode h) next = tt
  given held n _ _ _ (law.sets l key value) next = tt
  given held n _ _ _ (law.adds l key amount) next = tt
  given held n _ _ _ (law.gets l key found) next = tt
  given held n _ _ _ (law.changes_base prio) next = tt
  given held n _ _ _ (law.shows base effective) next = tt
  given held n _ _ _ (law.sleeps d) next = tt
  given held n _ _ _ (law.wakes_one d woken) next = tt
  given held n _ _ _ (law.wakes_all d woken) next = tt

  given_sleep : (held : List Held) (n : ℕ) (o : Op) (e : Event) (point : Point) → Gives kind held n o e point
      → slice_get ops n ≡ Some o → SleepsAt ops e
  given_sleep held n o e point h next = grind arith

  no_sleep : (e v : Event) → e ≡ v → SleepsAt ops v → SleepsAt ops e
  no_sleep e v i x = subst (SleepsAt ops) (sym i) x

  no_take : (point : Point) (e v : Event) → e ≡ v → TakesAt ops point (lock_taken (facets v).take)
      → TakesAt ops point (lock_taken (facets e).take)
  no_take point e v i x = subst (λ w. TakesAt ops point (lock_taken (facets w).take)) (sym i) x

  fronts : (es : List Entry) (point : Point) → LeadsTo kind ops es point → Fronts kind ops es
  fronts _ _ law.begins = tt
  fronts _ _ (law.goes_on {es} {n} {o} {p} e l next gives) =
      record {
        point = Before n;
        leads = l;
        takes = given (held_of ops n) n o e.event p gives next;
        sleeps = given_sleep (held_of ops n) n o e.event p gives next;
      }
  fronts es _ (law.skips_endtry {n = n} l next) = fronts es (Before n) l
  fronts _ _ (law.wakes_up {es} {n} {d} e l next its) =
      record {
        point = Asleep n;
        leads = l;
        takes = no_take (Asleep n) e.event (Woke d) its tt;
        sleeps = λ z. record { n = n; chan = d; waits = next };
      }
  fronts _ _ (law.is_woken_by_a_halt {es} {n} {d} e l next its) =
      record {
        point = Asleep n;
        leads = l;
        takes = no_take (Asleep n) e.event (HaltedChan d) its tt;
        sleeps = λ z. record { n = n; chan = d; waits = next };
      }
  fronts _ _ (law.gives_back {es} {h} {hs} e l its) =
      record {
        point = Cut (h ∷ hs);
        leads = l;
        takes = no_take (Cut (h ∷ hs)) e.event (Unlocked h.l h.mode) its tt;
        sleeps = no_sleep e.event (Unlocked h.l h.mode) its (λ z. absurd cc);
      }

  pub came : (e : Entry) (es : List Entry) (point : Point) → LeadsTo kind ops (e ∷ es) point → Came kind ops e es
  came e es point l = fronts (e ∷ es) point l

-- an entry cuts its thread short
abbrev pub cuts : Event → Bool
cuts e = is_reversal e || is_halt e

abbrev pub has_cut : List Entry → Bool
has_cut [] = false
has_cut (e ∷ es) = cuts e.event || has_cut es

module _ (kind : ℕ → Kind) (ops : List Op) where
  given_cut : (held : List Held) (n : ℕ) (o : Op) (e : Event) (point : Point) (hs : List Held) → point ≡ Cut hs
      → Gives kind held n o e point → cuts e ≡ true
  given_cut held n _ _ _ hs i (law.locks l mode) = absurd cc
  given_cut held n _ _ _ hs i (law.is_reversed l mode class) = refl
  given_cut held n _ _ _ hs i (law.is_halted l mode sx) = refl
  given_cut held n _ _ _ hs i (law.tries l mode past) = absurd cc
  given_cut held n _ _ _ hs i (law.finds_busy l mode past seen w f a) = absurd cc
  given_cut held n _ _ _ hs i (law.unlocks l mode h) = absurd cc
  given_cut held n _ _ _ hs i (law.sets l key value) = absurd cc
  given_cut held n _ _ _ hs i (law.adds l key amount) = absurd cc
  given_cut held n _ _ _ hs i (law.gets l key found) = absurd cc
  given_cut held n _ _ _ hs i (law.changes_base prio) = absurd cc
  given_cut held n _ _ _ hs i (law.shows base effective) = absurd cc
  given_cut held n _ _ _ hs i (law.sleeps d) = absurd cc
  given_cut held n _ _ _ hs i (law.wakes_one d woken) = absurd cc
  given_cut held n _ _ _ hs i (law.wakes_all d woken) = absurd cc

  -- a thread that gives back what it holds was cut
  pub was_cut : (es : List Entry) (point : Point) (hs : List Held) → point ≡ Cut hs → LeadsTo kind ops es point
      → has_cut es ≡ true
  was_cut _ _ hs i law.begins = absurd cc
  was_cut _ _ hs i (law.goes_on {es} {n} {o} {p} e l next gives) =
      or_left (cuts e.event) (has_cut es) (given_cut (held_of ops n) n o e.event p hs i gives)
  was_cut es _ hs i (law.skips_endtry {n = n} l next) = absurd cc
  was_cut _ _ hs i (law.wakes_up {es} {n} {d} e l next its) = absurd cc
  was_cut _ _ hs i (law.is_woken_by_a_halt {es} {n} {d} e l next its) =
      or_left (cuts e.event) (has_cut es) (ap cuts its)
  was_cut _ _ hs i (law.gives_back {es} {h} {hs = gs} e l its) =
      or_right (cuts e.event) (has_cut es) (was_cut es (Cut (h ∷ gs)) (h ∷ gs) refl l)

-- 3. Each thread's entries follow its operations

-- each thread's entries lead somewhere: so do those of each front of the history
pub record Leads (plan : Plan) (es : List Entry) (t : ℕ) : Type 0 where
  pub point : Point
  pub leads : LeadsTo (config_of plan).kind (operations_of plan t) (entries_of es t) point

abbrev pub AllLead : Plan → List Entry → Type 0
AllLead plan es = (t : ℕ) → Leads plan es t

-- the entry's own thread came to it, and all led somewhere before it
pub own_came : (plan : Plan) (e : Entry) (es : List Entry) → AllLead plan (e ∷ es)
    → Came (config_of plan).kind (operations_of plan e.thread.0) e (entries_of es e.thread.0)
own_came plan e es h =
    let l = h e.thread.0 in
    came (config_of plan).kind (operations_of plan e.thread.0) e (entries_of es e.thread.0) l.point
    (subst (λ b. LeadsTo (config_of plan).kind (operations_of plan e.thread.0)
    (cond b (e ∷ entries_of es e.thread.0) (entries_of es e.thread.0)) l.point)
    (eq-eqb e.thread.0 e.thread.0 refl) l.leads)

pub all_led : (plan : Plan) (e : Entry) (es : List Entry) → AllLead plan (e ∷ es) → AllLead plan es
all_led plan e es h t = go (eqb e.thread.0 t) (h t).point (h t).leads
  where
    go : (b : Bool) (point : Point)
        → LeadsTo (config_of plan).kind (operations_of plan t) (cond b (e ∷ entries_of es t) (entries_of es t)) point
        → Leads plan es t
    go true point l =
        let x = came (config_of plan).kind (operations_of plan t) e (entries_of es t) point l in
        record { point = x.point; leads = x.leads }
    go false point l = record { point = point; leads = l }

-- 4. Open sections

module _ (plan : Plan) (p : IsProper plan) (o : IsOrdered plan) (t : ℕ) where
  abbrev c : Config
  c = config_of plan

  abbrev ops : List Op
  ops = operations_of plan t

  -- just those of what the thread holds, where an operation is its next
  abbrev AreOpen : (ℕ → Hold) → Point → Type 0
  AreOpen now (Before n) = (k : ℕ) → now k ≡ hold_in (held_of ops n) k
  AreOpen now (Asleep n) = ⊤
  AreOpen now (Cut hs) = ⊤

  holds_on : (n : ℕ) (op : Op) → slice_get ops n ≡ Some op → held_behind op (held_of ops n) ≡ held_of ops n
      → (now : ℕ → Hold) → AreOpen now (Before n) → AreOpen now (Before (suc n))
  holds_on n op next same now h k =
      h k ∙ ap (λ hs. hold_in hs k) (sym same ∙ (next_leads plan p t n op next).behind)

  given_open : (n : ℕ) (o : Op) (e : Event) (point : Point) → Gives c.kind (held_of ops n) n o e point
      → slice_get ops n ≡ Some o → (before : ℕ → Sections) → AreOpen (λ k. (before k).now) (Before n)
      → AreOpen (λ k. (sections_by c e k (before k)).now) point
  given_open n _ _ _ (law.locks l mode) next before h = λ k.
      let f = gain_passes plan l mode false (held_of ops n) _ (next_leads plan p t n (op.Take l mode) next).passes
      (next_leads plan p t n (op.Take l mode) next).behind in
      begun_same (eqb l.0 k) mode (before k).now (hold_in (held_of ops n) k) (h k)
      ∙ sym (hold_in-push (held_of ops n) (record { l = l; mode = mode; by_try = false }) k f.unheld)
      ∙ ap (λ hs. hold_in hs k) f.behind
  given_open n _ _ _ (law.is_reversed l mode class) next before h = tt
  given_open n _ _ _ (law.is_halted l mode sx) next before h = tt
  given_open n _ _ _ (law.tries l mode past) next before h =
      absurd (let z : true ≡ false = o.no_wait_nor_try t n (op.Try l mode past) next in cc)
  given_open n _ _ _ (law.finds_busy l mode past seen w f a) next before h =
      absurd (let z : true ≡ false = o.no_wait_nor_try t n (op.Try l mode past) next in cc)
  given_open n _ _ _ (law.unlocks l mode i) next before h = λ k.
      ap (λ x. cond (eqb l.0 k) NotHeld x) (h k)
      ∙ sym (hold_in-without l.0 (held_of ops n) k (held_are_locks plan p t n).apart)
      ∙ ap (λ hs. hold_in hs k) (next_leads plan p t n (op.Release l) next).behind
  given_open n _ _ _ (law.sets l key value) next before h =
      holds_on n (op.Set l key value) next refl (λ k. (before k).now) h
  given_open n _ _ _ (law.adds l key amount) next before h =
      holds_on n (op.Add l key amount) next refl (λ k. (before k).now) h
  given_open n _ _ _ (law.gets l key found) next before h =
      holds_on n (op.Get l key) next refl (λ k. (before k).now) h
  given_open n _ _ _ (law.changes_base prio) next before h =
      holds_on n (op.Base prio) next refl (λ k. (before k).now) h
  given_open n _ _ _ (law.shows base effective) next before h = holds_on n op.Show next refl (λ k. (before k).now) h
  given_open n _ _ _ (law.sleeps d) next before h = tt
  given_open n _ _ _ (law.wakes_one d woken) next before h =
      holds_on n (op.WakeOne d) next refl (λ k. (before k).now) h
  given_open n _ _ _ (law.wakes_all d woken) next before h =
      holds_on n (op.WakeAll d) next refl (λ k. (before k).now) h

  are_open : (es : List Entry) (point : Point) → LeadsTo c.kind ops es point
      → AreOpen (λ k. (along c es k).now) point
  are_open _ _ law.begins = λ k. refl
  are_open _ _ (law.goes_on {es} {n} {o} {p} e l next gives) =
      given_open n o e.event p gives next (along c es) (are_open es (Before n) l)
  are_open es _ (law.skips_endtry {n = n} l next) =
      holds_on n op.EndTry next refl (λ k. (along c es k).now) (are_open es (Before n) l)
  are_open _ _ (law.wakes_up {es} {n} {d} e l next its) =
      absurd (let z : true ≡ false = o.no_wait_nor_try t n (op.Sleep d) next in cc)
  are_open _ _ (law.is_woken_by_a_halt {es} {n} {d} e l next its) = tt
  are_open _ _ (law.gives_back {es} {h} {hs} e l its) = tt

  -- behind a history, where an operation is the thread's next
  pub open_is_held : (es : List Entry) (n : ℕ) → LeadsTo c.kind ops (entries_of es t) (Before n) → (k : ℕ)
      → open_in c es t k ≡ hold_in (held_of ops n) k
  open_is_held es n l k =
      ap (λ (x : Sections). x.now) (own_along c es t k) ∙ are_open (entries_of es t) (Before n) l k

  -- so whose next operation is a take has only locks open that are declared before that one, which is the plan's
  pub lower_open : (es : List Entry) (point : Point) (l : ℕ) → LeadsTo c.kind ops (entries_of es t) point
      → IsBeforeTake ops point l → (k : ℕ) (mode : Mode) → open_in c es t k ≡ Holds mode → k < l
  lower_open es point l leads b k mode i =
      let at : LeadsTo c.kind ops (entries_of es t) (Before b.n) =
      subst (LeadsTo c.kind ops (entries_of es t)) b.before leads in
      subst (λ j. k < j) b.same
      (lower_in (held_of ops b.n) b.lock.0 k mode (o.upward t b.n b.lock b.mode b.takes)
      (sym (open_is_held es b.n at k) ∙ i))

  pub its_lock : (point : Point) (l : ℕ) → IsBeforeTake ops point l → l < c.locks
  its_lock point l b =
      subst (λ j. j < c.locks) b.same
      (gain_passes plan b.lock b.mode false (held_of ops b.n) _
      (next_leads plan p t b.n (op.Take b.lock b.mode) b.takes).passes refl).lock

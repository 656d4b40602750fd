-- A take that is refused or halted and a wait that is halted cut their thread short: it gives back what it holds, the
-- lock gained last first.
use Rattle.floor_run.proofs.Names
use Names.{ℕ, zero, suc, Bool, true, false, cond, eqb, arith, List, [], length, length-append, reverse, slice_get, take}
use Names.{Option, Some, None, sym, ap, subst, refl, take_all, reverse-append, slice_get_within, NotHeld, Holds}
use Names.{LeadsTo, Gives, Cut, IsProper, held_of, held_behind, held_after, of_locks, hold_in, without_lock, config_of}
use Names.{operations_of, ByAbort, ChanNo, LockNo, is_turnstile, Entry, Event, Held, Refused, Kind, Mtx, Rw, Sx, Mode}
use Names.{Op, Take, Sleep, OfLocks, NoLock, Acquires, ClosesBlock, Releases, EditsAt, ReadsAt, SleepsOn, WakesOn, Plan}
use Names.{gained_order-push, next_leads, held_none, held_are_locks, HeldLock, gained_order, without_held, GivesLast}
use Names.{gives_last, IsFor, Knowledge, Description, Floor, Pass, IsReady, MakesEntry, entry_by, MayRelease}
use Names.{WasNotTaken, IsBefore, IsCut, WereStamped, HasSlept}
use Rattle.std.proofs.Common.{◌≡◌, ◌+◌, ◌-◌, ◌<◌, ◌≤◌, ◌∷◌, ◌++◌, ◌∙◌}
use Rattle.lock_model.specs.Law as law
use Rattle.lock_model.specs.declared.event.Event.TheVariants as event
use Rattle.lock_model.specs.declared.event.Refused.TheVariants as refused
use Rattle.floor_run.proofs.Operating.{was_stamped, is_covered, same_kind, lies_asleep, both_stamped}
use Rattle.floor_run.proofs.Waiting.{none_past}

-- 1. A thread holds as many locks as it has operations left, or fewer

without_one : (l : ℕ) (hs : List Held) → length hs ≤ suc (length (without_lock l hs))
without_one l [] = omega arith
without_one l (h ∷ hs) = go (eqb h.l.0 l) (without_one l hs)
  where
    go : (b : Bool) → length hs ≤ suc (length (without_lock l hs))
        → suc (length hs) ≤ suc (length (cond b hs (h ∷ without_lock l hs)))
    go true e = omega arith
    go false e = omega (arith, e)

-- an operation gives back one lock at most
one_less : (op : Op) (hs : List Held) → length hs ≤ suc (length (held_behind op hs))
one_less op hs = go (of_locks op)
  where
    go : (o : OfLocks) → length hs ≤ suc (length (held_after o hs))
    go NoLock = omega arith
    go (Acquires h) = omega (arith, length-append hs (h ∷ []))
    go ClosesBlock = omega arith
    go (Releases l) = without_one l.0 hs
    go (EditsAt l key) = omega arith
    go (ReadsAt l key) = omega arith
    go (SleepsOn c) = omega arith
    go (WakesOn c) = omega arith

few_held : (plan : Plan) (p : IsProper plan) (t k n : ℕ) → n + k ≡ length (operations_of plan t)
    → length (held_of (operations_of plan t) n) ≤ k
few_held plan p t zero n e = omega (arith, ap length (held_none plan p t n (omega (arith, e))))
few_held plan p t (suc k) n e =
    go (slice_get (operations_of plan t) n) refl (few_held plan p t k (suc n) (omega (arith, e)))
  where
    go : (o : Option Op) → slice_get (operations_of plan t) n ≡ o
        → length (held_of (operations_of plan t) (suc n)) ≤ k → length (held_of (operations_of plan t) n) ≤ suc k
    go None at less = absurd (omega (arith, none_past (operations_of plan t) n at, e))
    go (Some op) at less =
        omega (
          arith,
          less,
          one_less op (held_of (operations_of plan t) n),
          ap length (next_leads plan p t n op at).behind,
        )

-- what is held of a part is held of the whole
held_in_all : (l k : ℕ) (hs : List Held) (mode : Mode) → hold_in (take k hs) l ≡ Holds mode → hold_in hs l ≡ Holds mode
held_in_all l zero hs mode e = absurd cc
held_in_all l (suc k) [] mode e = absurd cc
held_in_all l (suc k) (h ∷ hs) mode e = go (eqb h.l.0 l) (held_in_all l k hs mode) e
  where
    go : (b : Bool) → (hold_in (take k hs) l ≡ Holds mode → hold_in hs l ≡ Holds mode)
        → cond b (Holds h.mode) (hold_in (take k hs) l) ≡ Holds mode
        → cond b (Holds h.mode) (hold_in hs l) ≡ Holds mode
    go true on i = i
    go false on i = on i

-- 2. A take is refused or halted, or a wait is halted

module _ (plan : Plan) (f : Floor Description) (given : IsFor plan f.description) (p : IsProper plan) (t n : ℕ)
    (x : Pass Knowledge) (b : IsBefore plan f t n x) where
  -- its log leads there, and what it holds is what it held before the operation
  is_cut : (y : Pass Knowledge) → IsReady f y → y.view.thread ≡ t → y.view.share.held ≡ x.view.share.held
      → LeadsTo (config_of plan).kind (operations_of plan t) y.view.share.log
      (Cut (reverse (held_of (operations_of plan t) n)))
      → WereStamped f.description t y.view.share.log → length (held_of (operations_of plan t) n) ≤ y.view.spare
      → IsCut plan f t y
  is_cut y ready thread held leads stamped room =
      let ops : List Op = operations_of plan t in
      let holds : y.view.share.held ≡ held_of ops n = held ∙ b.held in
      record {
        ready = ready;
        thread = thread;
        n = n;
        left = length (held_of ops n);
        held = holds ∙ sym (take_all (length (held_of ops n)) (held_of ops n) (omega arith));
        leads = subst (λ (hs : List Held). LeadsTo (config_of plan).kind ops y.view.share.log (Cut (reverse hs)))
            (sym holds)
            leads;
        stamped = stamped;
        room = omega (arith, room, ap length holds);
      }

  -- an operation's entry leaves what is held, and cuts its thread short
  cuts : (y : Pass Knowledge) (op : Op) (e : Event) → slice_get (operations_of plan t) n ≡ Some op
      → Gives (config_of plan).kind (held_of (operations_of plan t) n) n op e
      (Cut (reverse (held_of (operations_of plan t) n)))
      → IsReady f y → MakesEntry f.description e x.view.share.held x.view y.view → IsCut plan f t y
  cuts y op e at gives ready made =
      let ops : List Op = operations_of plan t in
      let entry : Entry = entry_by x.view.thread made.ticket e in
      let low : n < length ops = slice_get_within ops n op at in
      let few = few_held plan p t (length ops - n) n (omega (arith, low)) in
      is_cut y ready (made.thread ∙ b.thread) made.held
      (subst (λ (es : List Entry). LeadsTo (config_of plan).kind ops es (Cut (reverse (held_of ops n)))) (sym made.log)
      (law.goes_on entry b.leads at gives))
      (was_stamped f.description t x.view y.view e x.view.share.held b.thread b.stamped made)
      (omega (arith, b.room, made.spare, few, low))

  -- A wait that was halted. Behind it the thread holds what it held before, so that it has an operation left for each
  pub slept_halted : (y : Pass Knowledge) (d : ChanNo) → slice_get (operations_of plan t) n ≡ Some (Sleep d)
      → IsReady f y → HasSlept f.description d ByAbort x.view y.view → IsCut plan f t y
  slept_halted y d at ready s =
      let ops : List Op = operations_of plan t in
      let last : Entry = entry_by s.asleep.thread s.ended.ticket (event.HaltedChan d) in
      let low : n < length ops = slice_get_within ops n (Sleep d) at in
      let few = few_held plan p t (length ops - suc n) (suc n) (omega (arith, low)) in
      is_cut y ready (s.ended.thread ∙ s.slept.thread ∙ b.thread) s.ended.held
      (subst (λ (es : List Entry). LeadsTo (config_of plan).kind ops es (Cut (reverse (held_of ops n))))
      (sym s.ended.log)
      (law.is_woken_by_a_halt last
      (lies_asleep plan f given p t n x b s.asleep d x.view.share.held at s.slept) at refl))
      (both_stamped plan f given p t n x b y.view d ByAbort s)
      (omega (
        arith,
        b.room,
        s.slept.spare,
        s.ended.spare,
        few,
        low,
        ap length (next_leads plan p t n (Sleep d) at).behind,
      ))

  -- of a kind without turnstiles there is one
  is_sx : (k : Kind) → is_turnstile k ≡ false → k ≡ Sx
  is_sx Mtx e = absurd cc
  is_sx Rw e = absurd cc
  is_sx Sx e = refl

  pub not_taken : (y : Pass Knowledge) (l : LockNo) (mode : Mode) (r : Refused)
      → slice_get (operations_of plan t) n ≡ Some (Take l mode) → IsReady f y
      → WasNotTaken f.description l mode r x.view y.view → IsCut plan f t y
  not_taken y l mode (refused.Reversal r) at ready was =
      cuts y (Take l mode) (event.Reversed l r.held) at (law.is_reversed l mode r.held) ready was.entry
  not_taken y l mode (refused.Halted h) at ready was =
      cuts y (Take l mode) (event.HaltedLock l) at
      (law.is_halted l mode (sym (same_kind plan f.description given l.0) ∙ is_sx _ was.sleeps)) ready was.entry

-- 3. It gives back the lock that it gained last

module _ (plan : Plan) (f : Floor Description) (given : IsFor plan f.description) (p : IsProper plan)
    (t : ℕ) (x : Pass Knowledge) (b : IsCut plan f t x) (hs : List Held) (h : Held)
    (last : x.view.share.held ≡ hs ++ h ∷ []) where
  abbrev all : List Held
  all = held_of (operations_of plan t) b.n

  abbrev listed : HeldLock
  listed = record { lock = h.l.0; by_try = h.by_try }

  its_last : GivesLast all b.left listed
  its_last =
      gives_last all b.left listed (gained_order hs) (held_are_locks plan p t b.n).apart
      (ap gained_order (sym b.held ∙ last) ∙ gained_order-push hs h)

  holds_last : hold_in x.view.share.held h.l.0 ≡ Holds its_last.last.mode
  holds_last = ap (λ xs. hold_in xs h.l.0) b.held ∙ its_last.held

  -- it is one of the plan's
  among : hold_in all h.l.0 ≡ Holds its_last.last.mode
  among = held_in_all h.l.0 b.left all its_last.last.mode its_last.held

  pub may_give_back : (mode : Mode) × MayRelease f.description h.l.0 mode x.view
  may_give_back =
      let locks = held_are_locks plan p t b.n in (
        its_last.last.mode,
        record {
          covered = is_covered plan f.description given h.l.0 its_last.last.mode
              (locks.within h.l.0 (λ none. let z : NotHeld ≡ Holds its_last.last.mode = sym none ∙ among in cc))
              (locks.mutexes h.l.0 its_last.last.mode among);
          held = holds_last;
          room = omega (arith, b.room, ap length last, length-append hs (h ∷ []));
        },
      )

  -- that it was released is noted, in the mode in which it was held
  abbrev Noted : Pass Knowledge → Type 0
  Noted y = (mode : Mode) → hold_in x.view.share.held h.l.0 ≡ Holds mode
      → MakesEntry f.description (event.Unlocked h.l mode) (without_lock h.l.0 x.view.share.held) x.view y.view

  pub gives_back : (y : Pass Knowledge) → IsReady f y → Noted y → IsCut plan f t y
  gives_back y ready notes =
      let ops : List Op = operations_of plan t in
      let g = its_last in
      let made = notes g.last.mode holds_last in
      let entry : Entry = entry_by x.view.thread made.ticket (event.Unlocked h.l g.last.mode) in
      let without : y.view.share.held ≡ g.others =
      made.held ∙ ap (without_lock h.l.0) b.held ∙ g.without in
      let were : reverse x.view.share.held ≡ g.last ∷ reverse g.others =
      ap reverse (b.held ∙ g.is) ∙ reverse-append g.others (g.last ∷ []) in
      let noted : event.Unlocked h.l g.last.mode ≡ event.Unlocked g.last.l g.last.mode =
      λ i. event.Unlocked (record { 0 = sym g.lock i }) g.last.mode in
      record {
        ready = ready;
        thread = made.thread ∙ b.thread;
        n = b.n;
        left = length (without_held h.l.0 (gained_order (take b.left all)));
        held = without ∙ sym g.left;
        leads = subst (λ (z : List Entry × List Held). LeadsTo (config_of plan).kind ops z.0 (Cut (reverse z.1)))
            (λ i. (sym made.log i, sym without i))
            (law.gives_back entry
            (subst (λ (xs : List Held). LeadsTo (config_of plan).kind ops x.view.share.log (Cut xs)) were b.leads)
            noted);
        stamped = was_stamped f.description t x.view y.view (event.Unlocked h.l g.last.mode)
            (without_lock h.l.0 x.view.share.held) b.thread b.stamped made;
        room = omega (
          arith,
          b.room,
          made.spare,
          ap length without,
          ap length last,
          ap length (sym last ∙ b.held ∙ g.is),
          length-append hs (h ∷ []),
          length-append g.others (g.last ∷ []),
        );
      }

  pub fewer_left : (y : Pass Knowledge) → Noted y → length y.view.share.held < length x.view.share.held
  fewer_left y notes =
      let g = its_last in
      let made = notes g.last.mode holds_last in
      omega (
        arith,
        ap length (made.held ∙ ap (without_lock h.l.0) b.held ∙ g.without),
        ap length (b.held ∙ g.is),
        length-append g.others (g.last ∷ []),
      )

-- 4. Nothing is left

-- the thread that is cut short is the pass's own
pub cut_own : (plan : Plan) (f : Floor Description) (t : ℕ) (x : Pass Knowledge) → IsCut plan f t x
    → IsCut plan f x.view.thread x
cut_own plan f t x b = subst (λ u. IsCut plan f u x) (sym b.thread) b

-- Which action a turn is, by what the thread's objects say.
use Rattle.step_world.proofs.Names
use Names.{ℕ, suc, Bool, true, false, List, [], length, map, get_or, slice_get, Option, Some, None, refl, sym, ap}
use Names.{arith, slice_get_read, slice_get_past, config_of, operations_of, IsProper, State, Wait, Running, NoWalk}
use Names.{AtLock, AtThread, is_empty, Mark, BySignal, Marks, Resumes, Run, has_ended, turn_of, does, LockNo, ThreadNo}
use Names.{Op, Plan, QueueName, Idle, Ended, IsAtOperation, goes_by_wait, marks_first, Place, Machine, Thread, walk_of}
use Names.{mark_of, wait_of, places_of, RepresentsThread, thread_has_ended, IsRunOf, IsTurn, IsDoneWaking, IsFree}
use Names.{IsGivingUp, read}
use Rattle.std.proofs.Common.{◌≡◌, ◌+◌, ◌<◌, ◌≤◌, ◌∷◌, ◌∙◌}
use Rattle.lock_model.specs.declared.turn.StepKind.TheVariants as kinds
use Rattle.prio_lending.specs.declared.walk.Walk.TheVariants as walk
use Rattle.lock_objects.specs.declared.wait.Wait.TheVariants as wait
use Rattle.step_world.proofs.Ends.{ends_as_said, aside_is}
use Rattle.step_world.proofs.Turning.{Begins, begins, still}

none_where_empty : {A : Type 0} (xs : List A) → is_empty xs ≡ true → xs ≡ []
none_where_empty f e = grind arith

-- the thread that was read at the place of a number
pub here : {plan : Plan} {m : Machine} {r : Run} {t i : ℕ} {th : Thread} → IsRunOf plan m r → t < length plan.threads
    → i ≡ t → th ≡ get_or m.threads.items i th → slice_get m.threads.items t ≡ Some th
here {plan} {m} {r} {t} {i} {th} h lt same got = read h.shows.shows.threads lt same got

module _ {plan : Plan} {m : Machine} {r : Run} {t : ℕ} {th : Thread} (p : IsProper plan) (lt : t < length plan.threads)
    (h : IsRunOf plan m r) (is : slice_get m.threads.items t ≡ Some th) where
  abbrev s : State
  s = r.state

  its : RepresentsThread th (config_of plan) s t
  its = h.shows.shows.threads.thread t th is

  -- 1. How far it is, and whether it has ended

  pub following : suc (r.next_op t) ≡ th.next_op + 1
  following = omega (arith, (aside_is plan m r t th h lt is).next_op)

  pub said : {ops : List Op} → ops ≡ operations_of plan t → (b : Bool) → thread_has_ended (length ops) th ≡ b
      → has_ended plan r t ≡ b
  said same b e = sym (ends_as_said plan m r t th p h lt is)
      ∙ ap (λ (x : List Op). thread_has_ended (length x) th) (sym same) ∙ e

  pub over : has_ended plan r t ≡ true → IsTurn plan r t m Ended
  unfolding turn_of
  over e = still plan r t Ended (rw e refl) h.shows

  -- 2. Its walk

  pub at_lock : (l : LockNo) → th.walk ≡ walk.AtLock l → s.walk t ≡ AtLock l.0
  at_lock l e = sym (ap (λ x. x.walk) its.columns) ∙ ap walk_of e

  pub at_thread : (o : ThreadNo) → th.walk ≡ walk.AtThread o → s.walk t ≡ AtThread o.0
  at_thread o e = sym (ap (λ x. x.walk) its.columns) ∙ ap walk_of e

  -- 3. Its marked list, where it has no walk

  module _ (e : th.walk ≡ walk.None) where
    no_walk : s.walk t ≡ NoWalk
    no_walk = sym (ap (λ x. x.walk) its.columns) ∙ ap walk_of e

    its_marked : {ps : List Place} → places_of th.marked ≡ ps → s.marked t ≡ map (mark_of th.marked_from) ps
    its_marked f = sym (ap (λ x. x.marked) its.columns) ∙ ap (map (mark_of th.marked_from)) f

    pub done_waking : is_empty (places_of th.marked) ≡ true → has_ended plan r t ≡ false → IsDoneWaking plan r t
    done_waking none going =
        record { going = going; no_walk = no_walk; unmarked = its_marked (none_where_empty _ none) }

    module _ (some : is_empty (places_of th.marked) ≡ false) where
      first : (x : Mark) × (xs : List Mark) × (s.marked t ≡ x ∷ xs)
      first = go (places_of th.marked) refl
        where
          go : (ps : List Place) → places_of th.marked ≡ ps → (x : Mark) × (xs : List Mark) × (s.marked t ≡ x ∷ xs)
          go [] f = absurd (let z = ap is_empty f in cc)
          go (p ∷ ps) f = (mark_of th.marked_from p, map (mark_of th.marked_from) ps, its_marked f)

      pub marks : (x : Mark) × (xs : List Mark) × Begins plan r t m (does kinds.Mark (Marks t x xs ∷ []))
      marks = (first.0, first.1, begins p lt h (marks_first plan r t first.0 first.1 no_walk first.2))

  -- 4. Its wait word, where it owes nothing

  waits_as : (w : Wait) → wait_of th.wait ≡ w → s.wait t ≡ w
  waits_as w e = sym (ap (λ x. x.wait) its.columns) ∙ e

  module _ (free : IsFree plan r t) where
    pub queued : th.wait ≡ wait.Queued → IsTurn plan r t m Idle
    queued e =
        still plan r t Idle (goes_by_wait plan r t free.going free.owes ∙ rw (waits_as _ (ap wait_of e)) refl) h.shows

    pub resumes : {w : QueueName} → th.wait ≡ wait.Woken w
        → Begins plan r t m (does kinds.Resume (Resumes t w BySignal ∷ []))
    resumes e = begins p lt h (goes_by_wait plan r t free.going free.owes ∙ rw (waits_as _ (ap wait_of e)) refl)

    -- one that was cut gives back what it holds
    pub giving_up : th.wait ≡ wait.Running → th.cut ≡ true → IsGivingUp plan r t
    giving_up e f = record {
      going = free.going;
      cut = record {
        running = waits_as Running (ap wait_of e);
        free = free.owes;
        cut = sym (ap (λ x. x.cut) its.columns) ∙ f;
      };
    }

    module _ (e : th.wait ≡ wait.Running) (uncut : th.cut ≡ false) {ops : List Op}
        (same : ops ≡ operations_of plan t) where
      at_next : (o : Option Op) → slice_get ops th.next_op ≡ o → IsAtOperation plan r t o
      at_next o i = record {
        running = waits_as Running (ap wait_of e);
        free = free.owes;
        uncut = sym (ap (λ x. x.cut) its.columns) ∙ uncut;
        next = ap (slice_get (operations_of plan t)) (sym (aside_is plan m r t th h lt is).next_op)
            ∙ ap (λ x. slice_get x th.next_op) (sym same) ∙ i;
      }

      pub at_operation : {op : Op} → th.next_op < length ops → op ≡ get_or ops th.next_op op
          → IsAtOperation plan r t (Some op)
      at_operation {op} left got = at_next (Some op) (slice_get_read ops (length ops) th.next_op op refl left got)

      pub nothing_left : length ops ≤ th.next_op → IsTurn plan r t m Idle
      nothing_left past =
          let at = at_next None (slice_get_past ops th.next_op past) in
          still plan r t Idle
          (goes_by_wait plan r t free.going free.owes ∙ rw (at.running, at.uncut, at.next) refl) h.shows

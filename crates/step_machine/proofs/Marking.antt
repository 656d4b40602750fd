-- The first of a marked list has its object back and is woken.
use Rattle.step_machine.proofs.Names
use Names.{ℕ, Bool, true, false, not, List, [], get_or, map, slice_get, slice_set, Option, Some, None, IsSome}
use Names.{unwrap_or, refl, sym, ap, subst, with_value, with_item, All-head, All-tail, All-same, Config, State}
use Names.{WokenFrom, put, Mark, BySignal, is_turnstile_queue, Lawful, MayMark, after_mark, QueueName, put_same}
use Names.{put_other, marked_named, marked_thread, named_out, asleep_out, Place, Record, record_in, mark_of, places_of}
use Names.{cause_in, cause_by, AreOfKind, node_of, like, IsFirst, IsAway, record_woken, Marked, Woken, Waiter, Sleeper}
use Names.{AbortedSleeper, Machine, Thread, Represents, RepresentsThread, RepresentsThreads, thread_in, KeepsProgress}
use Names.{arith}
use Rattle.std.proofs.Common.{◌≡◌, ◌≢◌, ◌<◌, ◌∷◌, ◌∙◌}
use Rattle.lock_objects.specs.declared.wait.Wait.TheVariants as wait
use Rattle.step_machine.proofs.Kit.{OthersStay, thread_changed, read, aside_stays, shown_by}

-- the thread with another marked list
abbrev pub with_marked : Thread → Marked → Thread
with_marked th marked = record th { marked = marked }

-- the thread with that record, woken from a queue
abbrev pub woken : Thread → Record → QueueName → Thread
woken th r q = record th { «record» = with_value th.record r; wait = wait.Woken q }

-- 1. Waiters and sleepers

abbrev is_waiter : Woken → Bool
is_waiter (Waiter b) = true
is_waiter (Sleeper b) = false
is_waiter (AbortedSleeper b) = false

places_like : (w : Woken) (ps : List Place) → places_of (like w ps) ≡ ps
places_like e ps = grind arith

cause_like : (w : Woken) (ps : List Place) → cause_in (like w ps) ≡ cause_by w
cause_like e ps = grind arith

not_empty : (p : Place) (ps : List Place) → p ∷ ps ≡ [] → ⊥
not_empty p ps z = absurd (cc)

-- where some are there, they are of the queue's kind
of_queue : (c : Config) (q : QueueName) (w : Woken) (p : Place) (ps : List Place) → AreOfKind c (like w (p ∷ ps)) q
    → is_turnstile_queue c q ≡ is_waiter w
of_queue c q e p ps h = grind arith

of_kind : (c : Config) (q : QueueName) (w : Woken) (ps : List Place) → is_turnstile_queue c q ≡ is_waiter w
    → AreOfKind c (like w ps) q
of_kind c q e ps k = grind arith

-- whose record names the queue has its object out
is_out : (c : Config) (s : State) (u : ℕ) (q : QueueName) (w : Woken) (r : Record) → Lawful c s
    → s.blocked_on u ≡ Some q → is_turnstile_queue c q ≡ is_waiter w
    → r.turnstile ≡ s.turnstile u → r.sleep_queue ≡ s.sleep_queue u → IsAway w r
is_out c s u q (Waiter b) r lawful e k x y = x ∙ named_out c s u q lawful e k
is_out c s u q (Sleeper b) r lawful e k x y = y ∙ asleep_out c s u q lawful e (ap not k)
is_out c s u q (AbortedSleeper b) r lawful e k x y = y ∙ asleep_out c s u q lawful e (ap not k)

-- the object of a place that has one
its_object : (o : Option ℕ) → IsSome o → o ≡ Some (unwrap_or o 0)
its_object e h = grind arith

-- 2. Two changes of the state: the marked list is shorter, and its first is woken

module _ (c : Config) (s : State) (t : ℕ) (q : QueueName) (p : Place) (ms : List Mark) where
  abbrev shorter : State
  shorter = record s { marked = put s.marked t ms }

  abbrev after : State
  after = after_mark c s t (mark_of q p) ms

  not_marking : OthersStay s shorter t
  not_marking u n = λ i. record (thread_in s u) { marked = put_other s.marked t ms u (λ e. n (sym e)) i }

  not_marked : (b : Bool) → is_turnstile_queue c q ≡ b → OthersStay shorter after p.thread
  unfolding after_mark
  not_marked true k u n =
      rw k (λ i. record (thread_in shorter u) {
        its_record = record (record_in s u) {
          turnstile = put_other s.turnstile p.thread (Some (unwrap_or p.object 0)) u (λ e. n (sym e)) i;
          blocked_on = put_other s.blocked_on p.thread None u (λ e. n (sym e)) i;
        };
        wait = put_other s.wait p.thread (WokenFrom q BySignal) u (λ e. n (sym e)) i;
      })
  not_marked false k u n =
      rw k (λ i. record (thread_in shorter u) {
        its_record = record (record_in s u) {
          sleep_queue = put_other s.sleep_queue p.thread (Some (unwrap_or p.object 0)) u (λ e. n (sym e)) i;
          blocked_on = put_other s.blocked_on p.thread None u (λ e. n (sym e)) i;
        };
        wait = put_other s.wait p.thread (WokenFrom q BySignal) u (λ e. n (sym e)) i;
      })

  -- a waiter has its turnstile back,
  wakes_waiter : {w : Thread} → is_turnstile_queue c q ≡ true → IsSome p.object → RepresentsThread w c shorter p.thread
      → RepresentsThread (woken w (record w.record.value { turnstile = p.object; on = None }) q) c after p.thread
  unfolding after_mark
  wakes_waiter k has h = record {
    columns = rw k (λ i. record (h.columns i) {
      its_record = record ((h.columns i).its_record) {
        turnstile = (its_object p.object has ∙ sym (put_same s.turnstile p.thread (Some (unwrap_or p.object 0)))) i;
        blocked_on = sym (put_same s.blocked_on p.thread None) i;
      };
      wait = sym (put_same s.wait p.thread (WokenFrom q BySignal)) i;
    });
    one_loan_each = h.one_loan_each;
    held = h.held;
    marked = h.marked;
  }

  -- and a sleeper its sleep queue
  wakes_sleeper : {w : Thread} → is_turnstile_queue c q ≡ false → IsSome p.object
      → RepresentsThread w c shorter p.thread
      → RepresentsThread (woken w (record w.record.value { sleep_queue = p.object; on = None }) q) c after p.thread
  unfolding after_mark
  wakes_sleeper k has h = record {
    columns = rw k (λ i. record (h.columns i) {
      its_record = record ((h.columns i).its_record) {
        sleep_queue = (its_object p.object has ∙ sym (put_same s.sleep_queue p.thread (Some (unwrap_or p.object 0)))) i;
        blocked_on = sym (put_same s.blocked_on p.thread None) i;
      };
      wait = sym (put_same s.wait p.thread (WokenFrom q BySignal)) i;
    });
    one_loan_each = h.one_loan_each;
    held = h.held;
    marked = h.marked;
  }

wakes : (c : Config) (s : State) (t : ℕ) (q : QueueName) (f : Woken) (ms : List Mark) {w : Thread}
    → is_turnstile_queue c q ≡ is_waiter f → IsSome (node_of f).place.object
    → RepresentsThread w c (shorter c s t q (node_of f).place ms) (node_of f).place.thread → RepresentsThread
    (woken w (record_woken f w.record.value) q) c (after c s t q (node_of f).place ms) (node_of f).place.thread
wakes c s t q (Waiter b) ms k has h = wakes_waiter c s t q b.value.place ms k has h
wakes c s t q (Sleeper b) ms k has h = wakes_sleeper c s t q b.value.place ms k has h
wakes c s t q (AbortedSleeper b) ms k has h = wakes_sleeper c s t q b.value.place ms k has h

-- 3. A machine that makes both

module _ {m : Machine} {c : Config} {s : State} {t : ℕ} {th : Thread} {f : Woken} {left : Marked} {k : Mark}
    {ks : List Mark} (h : Represents c m s) (lawful : Lawful c s) (g : MayMark c s t k ks)
    (at : slice_get m.threads.items t ≡ Some th) (is : IsFirst f th.marked left) where
  abbrev queue : QueueName
  queue = th.marked_from

  abbrev p : Place
  p = (node_of f).place

  abbrev ps : List Place
  ps = places_of left

  old : RepresentsThread th c s t
  old = h.threads.thread t th at

  places_are : places_of th.marked ≡ p ∷ ps
  places_are = ap places_of is.was ∙ places_like f (p ∷ ps)

  marks_are : mark_of queue p ∷ map (mark_of queue) ps ≡ k ∷ ks
  marks_are = ap (map (mark_of queue)) (sym places_are) ∙ ap (λ x. x.marked) old.columns ∙ g.marked

  its_mark : mark_of queue p ≡ k
  its_mark = let e = marks_are in cc

  others_marks : map (mark_of queue) ps ≡ ks
  others_marks = let e = marks_are in cc

  -- it is a thread of the plan, and of the queue's kind
  pub is_thread : p.thread < c.threads
  is_thread =
      subst (λ (x : Mark). x.thread < c.threads) (sym its_mark) (marked_thread c s t k ks lawful g.thread g.marked)

  its_queue : is_turnstile_queue c queue ≡ is_waiter f
  its_queue = of_queue c queue f p ps (subst (λ (x : Marked). AreOfKind c x queue) is.was old.marked.kind)

  -- it has an object to take back
  pub has_object : IsSome p.object
  has_object = All-head (λ x. IsSome x.object) p ps
      (All-same (λ x. IsSome x.object) (p ∷ ps) (places_of th.marked) (sym places_are) old.marked.filled)

  -- and a signal took it off, and the others too
  by_signal_left : cause_in left ≡ BySignal
  by_signal_left =
      let some : places_of th.marked ≢ [] = λ e. not_empty p ps (sym places_are ∙ e) in
      ap cause_in is.left ∙ cause_like f ps ∙ sym (ap cause_in is.was ∙ cause_like f (p ∷ ps))
      ∙ old.marked.by_signal some

  shortened : RepresentsThread (with_marked th left) c (shorter c s t queue p ks) t
  shortened = record {
    columns = λ i. record (old.columns i) { marked = (others_marks ∙ sym (put_same s.marked t ks)) i };
    one_loan_each = old.one_loan_each;
    held = old.held;
    marked = record {
      filled = All-tail (λ x. IsSome x.object) p ps
          (All-same (λ x. IsSome x.object) (p ∷ ps) (places_of th.marked) (sym places_are) old.marked.filled);
      kind = subst (λ (x : Marked). AreOfKind c x queue) (sym is.left) (of_kind c queue f ps its_queue);
      by_signal = λ _. by_signal_left;
    };
  }

  first_changed : RepresentsThreads (slice_set m.threads.items t (with_marked th left)) c (shorter c s t queue p ks)
  first_changed = thread_changed (shorter c s t queue p ks) (with_marked th left) h.threads g.thread shortened
      (not_marking c s t queue p ks)

  -- the thread that is read behind the first change
  pub read_behind : (i j : ℕ) (w : Thread) → j ≡ t → i ≡ p.thread
      → w ≡ get_or (slice_set m.threads.items j (with_marked th left)) i w
      → slice_get (slice_set m.threads.items t (with_marked th left)) p.thread ≡ Some w
  read_behind i j w e n seen =
      read first_changed is_thread n (seen ∙ ap (λ v. get_or (slice_set m.threads.items v (with_marked th left)) i w) e)

  module _ {w : Thread} (there : slice_get (slice_set m.threads.items t (with_marked th left)) p.thread ≡ Some w) where
    its : RepresentsThread w c (shorter c s t queue p ks) p.thread
    its = first_changed.thread p.thread w there

    named : s.blocked_on p.thread ≡ Some queue
    named = subst (λ (x : Mark). s.blocked_on x.thread ≡ Some x.queue) (sym its_mark)
        (marked_named c s t k ks lawful g.thread g.marked)

    pub away : IsAway f w.record.value
    away = is_out c s p.thread queue f w.record.value lawful named its_queue
        (ap (λ x. x.its_record.turnstile) its.columns) (ap (λ x. x.its_record.sleep_queue) its.columns)

    pub own : p.thread ≡ w.record.value.thread
    own = sym (ap (λ x. x.its_record.thread) its.columns)

    pub marked_shown : Represents c (record m {
      threads = with_item (with_item m.threads t (with_marked th left)) p.thread
          (woken w (record_woken f w.record.value) queue);
    }) (after_mark c s t k ks)
    unfolding after_mark
    marked_shown = shown_by (after_mark c s t k ks) h refl refl h.words h.queues h.sleepers
        (subst (λ (x : Mark). RepresentsThreads (slice_set (slice_set m.threads.items t (with_marked th left)) p.thread
        (woken w (record_woken f w.record.value) queue)) c (after_mark c s t x ks)) its_mark
        (thread_changed (after c s t queue p ks) (woken w (record_woken f w.record.value) queue) first_changed is_thread
        (wakes c s t queue f ks its_queue has_object its) (not_marked c s t queue p ks (is_waiter f) its_queue)))

-- a thread with a mark has a marked list
pub some_marked : {m : Machine} {c : Config} {s : State} {t : ℕ} {k : Mark} {ks : List Mark} (th : Thread)
    → Represents c m s → MayMark c s t k ks → slice_get m.threads.items t ≡ Some th → places_of th.marked ≡ [] → ⊥
some_marked {t = t} {k = k} {ks = ks} th h g at none =
    let e : [] ≡ k ∷ ks = ap (map (mark_of th.marked_from)) (sym none)
    ∙ ap (λ x. x.marked) (h.threads.thread t th at).columns ∙ g.marked in
    cc

-- what no column tells stays
pub asides_stay : (m : Machine) (t i : ℕ) (th w : Thread) (left : Marked) (r : Record) (q : QueueName)
    → slice_get m.threads.items t ≡ Some th → slice_get (slice_set m.threads.items t (with_marked th left)) i ≡ Some w
    → KeepsProgress m (record m { threads = with_item (with_item m.threads t (with_marked th left)) i (woken w r q) })
asides_stay m t i th w left r q at there u =
    aside_stays _ _ _ there refl u ∙ aside_stays _ _ _ at refl u

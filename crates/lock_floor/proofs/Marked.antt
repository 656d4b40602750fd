-- The marked list of a pass, and what is made of it where its first is woken.
use Rattle.lock_floor.proofs.Names
use Names.{ℕ, suc, Bool, true, false, cond, Option, Some, None, List, [], length, map, IfSome, refl, sym, ap, subst}
use Names.{arith, unwrap_or, All-nil, All, Config, Mark, lock_queue, is_turnstile_queue, ThreadNo, QueueName, AreOfKind}
use Names.{places_of, cause_in, cause_by, node_of, like, IsAway, record_woken, mark_by, Marked, Waiters, Sleepers}
use Names.{AbortedSleepers, Sleeper, AbortedSleeper, config_in, Description, AreMarked, LacksObject, record_marked}
use Rattle.std.proofs.Common.{◌≡◌, ◌<◌, ◌∷◌, ◌∙◌}
use Rattle.std.specs.Option.{IsSome}
use Rattle.turnstile_core.specs.Seen.{Place}
use Rattle.lock_objects.specs.Marked.{IsFirst}
use Rattle.lock_objects.specs.declared.marked.Woken.{Woken}
use Rattle.lock_objects.specs.declared.marked.Woken.TheVariants.{Waiter}
use Rattle.thread_records.specs.Records.{Record}

-- 1. Nobody is marked

of_any : (c : Config) (objects : Marked) (q : QueueName) → places_of objects ≡ [] → AreOfKind c objects q
of_any c e q none = grind arith

pub none_marked : (floor : Description) (objects : Marked) → places_of objects ≡ [] → AreMarked floor objects []
none_marked floor objects none = record {
  queue = lock_queue 0;
  same = sym (ap (map (mark_by (cause_in objects) (lock_queue 0))) none);
  kind = of_any (config_in floor) objects (lock_queue 0) none;
  held = subst (All (λ p. IsSome p.object)) (sym none) (All-nil (λ (p : Place). IsSome p.object));
  of_floor = All-nil (λ (m : Mark). m.thread < length floor.threads);
}

-- 2. The first

abbrev pub head_or : {A : Type 0} → A → List A → A
head_or d [] = d
head_or d (x ∷ xs) = x

abbrev pub tail_of : {A : Type 0} → List A → List A
tail_of [] = []
tail_of (x ∷ xs) = xs

-- where there are objects there is a first mark
pub none_first : (floor : Description) (objects : Marked) (marks : List Mark) → AreMarked floor objects marks
    → places_of objects ≡ [] → marks ≡ []
none_first floor objects marks are none = are.same ∙ ap (map (mark_by (cause_in objects) are.queue)) none

-- and it is that of the first object
pub some_first : (floor : Description) (objects : Marked) (marks : List Mark) (p : Place) (ps : List Place)
    → AreMarked floor objects marks → places_of objects ≡ p ∷ ps
    → (m : Mark) × (ms : List Mark) × (marks ≡ m ∷ ms) × (m.thread ≡ p.thread) × (p.thread < length floor.threads)
some_first floor objects marks p ps are some =
    let mark : Place → Mark = mark_by (cause_in objects) are.queue in
    let is : marks ≡ mark p ∷ map mark ps = are.same ∙ ap (map mark) some in
    let low = subst (All (λ m. m.thread < length floor.threads)) is are.of_floor in
    (mark p, map mark ps, is, refl, low 0 (mark p) (omega arith))

-- so it is told of a number that is found
abbrev NamesFirst : Marked → Option ThreadNo → Type 0
NamesFirst objects o = IfSome o (λ t. (p : Place) × (ps : List Place) × (places_of objects ≡ p ∷ ps) × (p.thread ≡ t.0))

pub first_told : (floor : Description) (objects : Marked) (marks : List Mark) (o : Option ThreadNo)
    → AreMarked floor objects marks → NamesFirst objects o
    → IfSome o (λ t. (m : Mark) × (ms : List Mark) × (marks ≡ m ∷ ms) × (m.thread ≡ t.0))
first_told floor objects marks e are h = grind arith

pub first_of_floor : (floor : Description) (objects : Marked) (marks : List Mark) (o : Option ThreadNo)
    → AreMarked floor objects marks → NamesFirst objects o
    → IfSome o (λ t. t.0 < length floor.threads)
first_of_floor floor objects marks None are h = tt
first_of_floor floor objects marks (Some t) are h = let f = some_first floor objects marks h.0 h.1 are h.2 in
    subst (λ n. n < length floor.threads) h.3 f.4

-- 3. It is woken

-- whether the object is that of a waiter on a turnstile
abbrev is_waiter : Woken → Bool
is_waiter (Waiter b) = true
is_waiter (Sleeper b) = false
is_waiter (AbortedSleeper b) = false

places_like : (w : Woken) (ps : List Place) → places_of (like w ps) ≡ ps
places_like e ps = grind arith

cause_like : (w : Woken) (ps : List Place) → cause_in (like w ps) ≡ cause_by w
cause_like e ps = grind arith

kind_like : (c : Config) (w : Woken) (p : Place) (ps : List Place) (q : QueueName) → AreOfKind c (like w (p ∷ ps)) q
    → is_turnstile_queue c q ≡ is_waiter w
kind_like c e p ps q h = grind arith

kind_left : (c : Config) (w : Woken) (ps : List Place) (q : QueueName) → is_turnstile_queue c q ≡ is_waiter w
    → AreOfKind c (like w ps) q
kind_left c f ps q e = grind arith

is_there : (o : Option ℕ) → IsSome o → o ≡ Some (unwrap_or o 0)
is_there e h = grind arith

away_by : (w : Woken) (r : Record) → cond (is_waiter w) r.turnstile r.sleep_queue ≡ None → IsAway w r
away_by f r e = grind arith

woken_by : (w : Woken) (n : ℕ) (r : Record) → (node_of w).place.object ≡ Some n
    → record_woken w r ≡ cond (is_waiter w) (record r { turnstile = Some n; on = None })
    (record r { sleep_queue = Some n; on = None })
woken_by f n r e = grind arith

module _ (floor : Description) (old new : Marked) (w : Woken) (marks : List Mark) (m : Mark) (ms : List Mark)
    (are : AreMarked floor old marks) (is : marks ≡ m ∷ ms) (first : IsFirst w old new) where
  abbrev c : Config
  c = config_in floor

  abbrev p : Place
  p = (node_of w).place

  places : places_of old ≡ p ∷ places_of new
  places = ap places_of first.was ∙ places_like w (p ∷ places_of new)

  -- it was taken off by the cause of all, and those that are left were too
  cause_was : cause_in old ≡ cause_by w
  cause_was = ap cause_in first.was ∙ cause_like w (p ∷ places_of new)

  cause_stays : cause_in new ≡ cause_in old
  cause_stays = ap cause_in first.left ∙ cause_like w (places_of new) ∙ sym cause_was

  abbrev mark : Place → Mark
  mark = mark_by (cause_in old) are.queue

  all_are : mark p ∷ map mark (places_of new) ≡ m ∷ ms
  all_are = sym (are.same ∙ ap (map mark) places) ∙ is

  mark_is : mark p ≡ m
  mark_is = ap (head_or m) all_are

  pub first_thread : p.thread ≡ m.thread
  first_thread = ap (λ (k : Mark). k.thread) mark_is

  pub first_cause : m.cause ≡ cause_by w
  first_cause = ap (λ (k : Mark). k.cause) (sym mark_is) ∙ cause_was

  held : All (λ p. IsSome p.object) (p ∷ places_of new)
  held = subst (All (λ p. IsSome p.object)) places are.held

  pub first_holds : IsSome p.object
  first_holds = held 0 p (omega arith)

  its_kind : is_turnstile_queue c are.queue ≡ is_waiter w
  its_kind = kind_like c w p (places_of new) are.queue (subst (λ o. AreOfKind c o are.queue) first.was are.kind)

  mark_kind : is_turnstile_queue c m.queue ≡ is_waiter w
  mark_kind = ap (λ (k : Mark). is_turnstile_queue c k.queue) (sym mark_is) ∙ its_kind

  pub first_record : (r : Record) → record_woken w r ≡ record_marked c m r
  first_record r =
      woken_by w m.object r (is_there p.object first_holds ∙ ap (λ (k : Mark). Some k.object) mark_is)
      ∙ ap (λ b. cond b (record r { turnstile = Some m.object; on = None })
      (record r { sleep_queue = Some m.object; on = None })) (sym mark_kind)

  -- and the others are left
  pub others_marked : AreMarked floor new ms
  others_marked = record {
    queue = are.queue;
    same = sym (ap tail_of all_are)
        ∙ ap (λ cause. map (mark_by cause are.queue) (places_of new)) (sym cause_stays);
    kind = subst (λ o. AreOfKind c o are.queue) (sym first.left) (kind_left c w (places_of new) are.queue its_kind);
    held = λ i d low. held (suc i) d (omega arith);
    of_floor = λ i d low. subst (All (λ m. m.thread < length floor.threads)) is are.of_floor (suc i) d (omega arith);
  }

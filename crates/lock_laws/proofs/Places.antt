-- Where turnstiles and sleep queues are, for both sorts in one: a sort is `true` for turnstiles and `false` for sleep
-- queues, as in `times_object`. A thread lends its own object to a queue, marks take objects off it, and a marked
-- thread takes its object back.
use Rattle.lock_laws.proofs.Names
use Names.{cond, ℕ, Bool, true, false, not, eqb, List, [], Option, Some, None, refl, ap, arith, sum_below, one, some}
use Names.{at_option, times, Config, BySignal, Waiter, Mark, lock_queue, chan_queue, is_turnstile_queue, head_with}
use Names.{free_with, dealt, free_after, head_after, is_turnstile, QueueName, Lock, Chan, State, put, put_queue, only}
use Names.{times_object}
use Rattle.std.proofs.Common.{◌≡◌, ◌+◌, ◌<◌, ◌∷◌}
use Rattle.lock_laws.proofs.Kit.{columns, sum_below-put, sum_below-put_lock, sum_below-put_chan}
use Rattle.lock_laws.proofs.Queues.{dealt_none}

-- 1. On queues

-- the queue is one of the plan's
abbrev pub IsThere : Config → QueueName → Type 0
IsThere c (Lock l) = l.0 < c.locks
IsThere c (Chan d) = d.0 < c.chans

-- whether a queue is of the sort, by whether it is a turnstile
abbrev pub is_sort : Bool → Bool → Bool
is_sort true turnstile = turnstile
is_sort false turnstile = not turnstile

-- whether a lock's queue is
abbrev of_kind : Config → Bool → ℕ → Bool
of_kind c sort l = is_sort sort (is_turnstile (c.kind l))

-- how often an object is on a queue of its sort, as the head or in the free list
abbrev pub on_queue : Bool → ℕ → Option ℕ → List ℕ → ℕ
on_queue b n head free = only b (at_option n head) + only b (times n free)

-- how often an object of the sort is on the plan's queues
abbrev pub on_queues : Config → Bool → ℕ → (QueueName → Option ℕ) → (QueueName → List ℕ) → ℕ
on_queues c sort n head free =
    sum_below c.locks (λ l. only (of_kind c sort l) (at_option n (head (lock_queue l))))
    + sum_below c.locks (λ l. only (of_kind c sort l) (times n (free (lock_queue l))))
    + sum_below c.chans (λ d. only (is_sort sort false) (at_option n (head (chan_queue d))))
    + sum_below c.chans (λ d. only (is_sort sort false) (times n (free (chan_queue d))))

-- the head and the free list of one queue are changed
on_queues-put : (c : Config) (s : State) (sort : Bool) (n : ℕ) (q : QueueName) (head : Option ℕ)
    (free : List ℕ) → IsThere c q
    → on_queues c sort n (put_queue s.head q head) (put_queue s.free_list q free)
    + on_queue (is_sort sort (is_turnstile_queue c q)) n (s.head q) (s.free_list q)
    ≡ on_queues c sort n s.head s.free_list
    + on_queue (is_sort sort (is_turnstile_queue c q)) n head free
unfolding put_queue
on_queues-put c s sort n (Lock l) head free there =
    let x = sum_below-put_lock c.locks (λ j o. only (of_kind c sort j) (at_option n o)) s.head l.0 head there in
    let y = sum_below-put_lock c.locks (λ j o. only (of_kind c sort j) (times n o)) s.free_list l.0 free there in
    omega arith
on_queues-put c s sort n (Chan d) head free there =
    let x = sum_below-put_chan c.chans (λ o. only (is_sort sort false) (at_option n o)) s.head d.0 head there in
    let y = sum_below-put_chan c.chans (λ o. only (is_sort sort false) (times n o)) s.free_list d.0 free there in
    omega arith

-- 2. A thread lends its own object

-- the objects of a sort that are at home
abbrev pub at_home : State → Bool → ℕ → Option ℕ
at_home s true = s.turnstile
at_home s false = s.sleep_queue

-- the same without the thread's, where that is lent
abbrev pub lent : Bool → (ℕ → Option ℕ) → ℕ → ℕ → Option ℕ
lent true home t = put home t None
lent false home t = home

-- an object that is lent is of the queue's sort
pub own_there : (s : State) (t x : ℕ) (sort turnstile : Bool) → at_home s turnstile t ≡ Some x
    → is_sort sort turnstile ≡ true → at_home s sort t ≡ Some x
own_there s t x true true e i = e
own_there s t x false false e i = e
own_there s t x true false e i = absurd cc
own_there s t x false true e i = absurd cc

-- it becomes the head, or goes to the free list
lent_object : (n x : ℕ) (head : Option ℕ) (free : List ℕ)
    → on_queue true n (head_with head x) (free_with head x free)
    ≡ one (eqb n x) + on_queue true n head free
lent_object n x head free = grind arith

pub lent_places : (c : Config) (s : State) (sort : Bool) (n t : ℕ) (q : QueueName) (x : ℕ)
    → t < c.threads → IsThere c q → (b : Bool) → is_sort sort (is_turnstile_queue c q) ≡ b
    → (b ≡ true → at_home s sort t ≡ Some x)
    → sum_below c.threads (λ u. at_option n (lent b (at_home s sort) t u))
    + on_queues c sort n (put_queue s.head q (head_with (s.head q) x))
    (put_queue s.free_list q (free_with (s.head q) x (s.free_list q)))
    ≡ sum_below c.threads (λ u. at_option n (at_home s sort u))
    + on_queues c sort n s.head s.free_list
lent_places c s sort n t q x thread there true e own =
    let head = head_with (s.head q) x in
    let free = free_with (s.head q) x (s.free_list q) in
    let a = rw e at (on_queues-put c s sort n q head free there) in
    let b = sum_below-put c.threads (at_option n) (at_home s sort) t None thread in
    let o = ap (at_option n) (own refl) in
    omega (arith, lent_object n x (s.head q) (s.free_list q))
lent_places c s sort n t q x thread there false e own =
    let head = head_with (s.head q) x in
    let free = free_with (s.head q) x (s.free_list q) in
    let a = rw e at (on_queues-put c s sort n q head free there) in
    omega arith

-- a record names a queue of the sort exactly where its object is out
pub lent_named : (named : Option QueueName → Bool) (home : ℕ → Option ℕ)
    (blocked_on : ℕ → Option QueueName) (t : ℕ) (q : QueueName)
    → named None ≡ false → blocked_on t ≡ None
    → ((u : ℕ) → some (home u) + one (named (blocked_on u)) ≡ 1) → (b : Bool) → named (Some q) ≡ b
    → (u : ℕ) → some (lent b home t u) + one (named (put blocked_on t (Some q) u)) ≡ 1
lent_named named home blocked_on t q none unnamed each true e u = grind (arith, columns, each u)
lent_named named home blocked_on t q none unnamed each false e u = grind (arith, columns, each u)

-- 3. Marks take objects off

only-add : (b : Bool) (m n : ℕ) → only b (m + n) ≡ only b m + only b n
only-add true m n = refl
only-add false m n = refl

only-zero : (b : Bool) → only b 0 ≡ 0
only-zero true = refl
only-zero false = refl

times_object-cons : (c : Config) (sort : Bool) (n : ℕ) (m : Mark) (ms : List Mark)
    → times_object c sort n (m ∷ ms)
    ≡ only (is_sort sort (is_turnstile_queue c m.queue)) (one (eqb n m.object))
    + times_object c sort n ms
times_object-cons c true n m ms = refl
times_object-cons c false n m ms = refl

-- what a signal deals out goes from the free list and the head to the marks
pub objects-dealt : (c : Config) (sort : Bool) (n : ℕ) (q : QueueName) (b : Bool)
    → is_sort sort (is_turnstile_queue c q) ≡ b → (ws : List Waiter) (xs : List ℕ) (h : Option ℕ)
    → times_object c sort n (dealt q ws xs h) + on_queue b n (head_after ws xs h) (free_after ws xs)
    ≡ on_queue b n h xs
objects-dealt c sort n q b e [] xs h = omega arith
objects-dealt c sort n q b e (w ∷ ws) [] None = omega arith
objects-dealt c sort n q b e (w ∷ ws) [] (Some x) =
    let m : Mark = record { thread = w.thread; object = x; queue = q; cause = BySignal } in
    let a = rw e at (times_object-cons c sort n m []) in
    rw (dealt_none q ws) (omega (arith, only-zero b))
objects-dealt c sort n q b e (w ∷ ws) (x ∷ xs) h =
    let m : Mark = record { thread = w.thread; object = x; queue = q; cause = BySignal } in
    let a = rw e at (times_object-cons c sort n m (dealt q ws xs h)) in
    omega (arith, objects-dealt c sort n q b e ws xs h, only-add b (one (eqb n x)) (times n xs))

pub taken_places : (c : Config) (s : State) (sort : Bool) (n t : ℕ) (q : QueueName)
    (head : Option ℕ) (free : List ℕ) (marks : List Mark) → t < c.threads → IsThere c q
    → times_object c sort n marks + on_queue (is_sort sort (is_turnstile_queue c q)) n head free
    ≡ times_object c sort n (s.marked t)
    + on_queue (is_sort sort (is_turnstile_queue c q)) n (s.head q) (s.free_list q)
    → on_queues c sort n (put_queue s.head q head) (put_queue s.free_list q free)
    + sum_below c.threads (λ u. times_object c sort n (put s.marked t marks u))
    ≡ on_queues c sort n s.head s.free_list
    + sum_below c.threads (λ u. times_object c sort n (s.marked u))
taken_places c s sort n t q head free marks thread there same =
    let a = on_queues-put c s sort n q head free there in
    let b = sum_below-put c.threads (times_object c sort n) s.marked t marks thread in
    omega arith

-- 4. A thread takes its object back from a mark

abbrev pub returned : Bool → (ℕ → Option ℕ) → ℕ → ℕ → ℕ → Option ℕ
returned b home t x = cond b (put home t (Some x)) home

pub returned_places : (c : Config) (s : State) (sort : Bool) (n t : ℕ) (m : Mark) (ms : List Mark)
    → t < c.threads → m.thread < c.threads → s.marked t ≡ m ∷ ms
    → (b : Bool) → is_sort sort (is_turnstile_queue c m.queue) ≡ b
    → (b ≡ true → at_home s sort m.thread ≡ None)
    → sum_below c.threads (λ u. at_option n (returned b (at_home s sort) m.thread m.object u))
    + sum_below c.threads (λ u. times_object c sort n (put s.marked t ms u))
    ≡ sum_below c.threads (λ u. at_option n (at_home s sort u))
    + sum_below c.threads (λ u. times_object c sort n (s.marked u))
returned_places c s sort n t m ms thread other marked true e out =
    let a = sum_below-put c.threads (at_option n) (at_home s sort) m.thread (Some m.object) other in
    let o = ap (at_option n) (out refl) in
    let b = sum_below-put c.threads (times_object c sort n) s.marked t ms thread in
    let f = rw e at (times_object-cons c sort n m ms) in
    omega (arith, ap (times_object c sort n) marked)
returned_places c s sort n t m ms thread other marked false e out =
    let b = sum_below-put c.threads (times_object c sort n) s.marked t ms thread in
    let f = rw e at (times_object-cons c sort n m ms) in
    omega (arith, ap (times_object c sort n) marked)

pub returned_named : (named : Option QueueName → Bool) (home : ℕ → Option ℕ)
    (blocked_on : ℕ → Option QueueName) (t x : ℕ) → named None ≡ false
    → ((u : ℕ) → some (home u) + one (named (blocked_on u)) ≡ 1)
    → (b : Bool) → named (blocked_on t) ≡ b
    → (u : ℕ) → some (returned b home t x u) + one (named (put blocked_on t None u)) ≡ 1
returned_named named home blocked_on t x none each true e u = grind (arith, columns, each u)
returned_named named home blocked_on t x none each false e u = grind (arith, columns, each u)

-- Laws of the lists of a queue.
use Rattle.lock_laws.proofs.Names
use Names.{ℕ, false, List, [], length, Option, Some, None, refl, arith, some, is_empty, Waiter, Lists, Ascends}
use Names.{is_queue, lock_queue, list_of, with_list, times_waiting, stands, waiting, dealt, free_after, head_after}
use Names.{times_marked, calls_marked, Side, X, S, QueueName}
use Rattle.std.proofs.Common.{◌≡◌, ◌+◌, ◌≤◌, ◌∷◌}
use Rattle.lock_laws.proofs.Kit.{is_queue_same}

-- 1. One side is changed

pub stands-with : (m : Side) (ws : List Waiter) (q : Lists) (t : ℕ)
    → stands t (with_list m ws q) + times_waiting t (list_of m q) ≡ stands t q + times_waiting t ws
stands-with X ws q t = omega arith
stands-with S ws q t = omega arith

pub waiting-with : (m : Side) (ws : List Waiter) (q : Lists)
    → waiting (with_list m ws q) + length (list_of m q) ≡ waiting q + length ws
waiting-with X ws q = omega arith
waiting-with S ws q = omega arith

abbrev pub BothAscend : Lists → Type 0
BothAscend q = Ascends q.exclusive × Ascends q.shared

pub ascends-with : (m : Side) (ws : List Waiter) (q : Lists) → (Ascends (list_of m q) → Ascends ws)
    → BothAscend q → BothAscend (with_list m ws q)
ascends-with X ws q f a = (f a.0, a.1)
ascends-with S ws q f a = (a.0, f a.1)

-- 2. What those who are taken off take back

pub dealt_none : (q : QueueName) (ws : List Waiter) → dealt q ws [] None ≡ []
dealt_none q [] = refl
dealt_none q (w ∷ ws) = refl

-- each waiter that is taken off has one mark, where there are objects enough
pub times_marked-dealt : (t : ℕ) (q : QueueName) (ws : List Waiter) (xs : List ℕ) (h : Option ℕ)
    → length ws ≤ length xs + some h → times_marked t q (dealt q ws xs h) ≡ times_waiting t ws
times_marked-dealt t q [] xs h p = refl
times_marked-dealt t q (w ∷ ws) [] None p = absurd (omega arith)
times_marked-dealt t q (w ∷ []) [] (Some h) p = rw (is_queue_same q) refl
times_marked-dealt t q (w ∷ v ∷ ws) [] (Some h) p = absurd (omega arith)
times_marked-dealt t q (w ∷ ws) (x ∷ xs) h p =
    rw (is_queue_same q) (omega (arith, times_marked-dealt t q ws xs h (omega arith)))

pub times_marked-elsewhere : (t : ℕ) (q r : QueueName) → is_queue q r ≡ false
    → (ws : List Waiter) (xs : List ℕ) (h : Option ℕ) → times_marked t q (dealt r ws xs h) ≡ 0
times_marked-elsewhere t q r e [] xs h = refl
times_marked-elsewhere t q r e (w ∷ ws) [] None = refl
times_marked-elsewhere t q r e (w ∷ ws) [] (Some h) = rw (e, dealt_none r ws) refl
times_marked-elsewhere t q r e (w ∷ ws) (x ∷ xs) h = rw e (omega (arith, times_marked-elsewhere t q r e ws xs h))

-- a lock whose waiters are taken off is called for
pub calls-dealt : (l : ℕ) (ws : List Waiter) (xs : List ℕ) (h : Option ℕ)
    → length ws ≤ length xs + some h → is_empty ws ≡ false
    → 1 ≤ calls_marked l (dealt (lock_queue l) ws xs h)
calls-dealt l ws xs h p e = grind arith

pub length-after : (ws : List Waiter) (xs : List ℕ) (h : Option ℕ) → length ws ≤ length xs + some h
    → length (free_after ws xs) + some (head_after ws xs h) + length ws ≡ length xs + some h
length-after [] xs h p = omega arith
length-after (w ∷ ws) [] None p = absurd (omega arith)
length-after (w ∷ []) [] (Some h) p = refl
length-after (w ∷ v ∷ ws) [] (Some h) p = absurd (omega arith)
length-after (w ∷ ws) (x ∷ xs) h p = omega (arith, length-after ws xs h (omega arith))

pub headless-after : (ws : List Waiter) (xs : List ℕ) (h : Option ℕ) → (h ≡ None → xs ≡ [])
    → head_after ws xs h ≡ None → free_after ws xs ≡ []
headless-after [] xs h p e = p e
headless-after (w ∷ ws) [] h p e = refl
headless-after (w ∷ ws) (x ∷ xs) h p e = headless-after ws xs h (λ n. let k = p n in cc) e

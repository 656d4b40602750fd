-- Waiters are taken off an object, whoever they are: what the rest shows of its queue, and those taken of their marks.
-- It is said of any waiters and any lists that are left, which together are those that there were.
use Rattle.lock_objects.proofs.Names
use Names.{suc, Bool, true, false, cond, List, [], length, map, Some, None, IsSome, refl, arith, length-append, All}
use Names.{is_empty, Waiter, Lists, waiting, list_of, with_list, taken_off, left_on, free_after, head_after, dealt}
use Names.{QueueName, Side, X, S, length-taken, all_waiters, lists_of, with_lists, SleepColumns, sleepers_of, mark_of}
use Rattle.std.proofs.Common.{◌≡◌, ◌+◌, ◌≤◌, ◌∷◌}
use Rattle.wait_objects.specs.Seen.{Contents, Place}
use Rattle.wait_objects.specs.Lists.{with_last}
use Rattle.lock_objects.proofs.Lists.{marks-dealt, objects-dealt, head_after-stays, marks-dealt_last, objects-dealt_last, head_after-none, places}

pub no_item : {A : Type 0} (xs : List A) → length xs ≡ 0 → xs ≡ []
no_item [] e = refl
no_item (x ∷ xs) e = absurd (omega arith)

empty_length : {A : Type 0} (xs : List A) → is_empty xs ≡ true → length xs ≡ 0
empty_length [] e = refl
empty_length (x ∷ xs) e = absurd cc

full_length : {A : Type 0} (xs : List A) → is_empty xs ≡ false → 1 ≤ length xs
full_length [] e = absurd cc
full_length (x ∷ xs) e = omega arith

-- where the best of a side goes, or all do, as many go and stay as were there
pub count_woken : (all : Bool) (side : Side) (q : Lists)
    → waiting (with_list side (left_on all (list_of side q)) q) + length (taken_off all (list_of side q)) ≡ waiting q
count_woken all X q = omega (arith, length-taken all q.exclusive)
count_woken all S q = omega (arith, length-taken all q.shared)

-- what the columns say of a queue off which these were taken, and on which those are left
abbrev pub columns_left : List Waiter → Lists → SleepColumns → SleepColumns
columns_left off rest a = record {
  head = head_after off a.free_list a.head;
  lists = rest;
  free_list = free_after off a.free_list;
}

module _ {E : Type 0} (off : List Waiter) (rest : Lists) (d : Contents E) where
  -- what is left, and what each of those takes back
  abbrev pub left : Contents E
  left = with_lists rest (record d { free = free_after off d.free })

  abbrev pub took : List Place
  took = places off d.free

  abbrev pub woken : List Place
  woken = cond (is_empty (all_waiters left)) (with_last d.number took) took

  module _ (count : waiting rest + length off ≡ waiting (lists_of d))
      (balanced : length d.free + 1 ≡ length d.exclusive + length d.shared) where
    -- where nobody is left, there is one free object too few
    all_gone : is_empty (all_waiters left) ≡ true → length off ≡ suc (length d.free)
    all_gone e =
        let both = length-append rest.exclusive rest.shared in
        omega (arith, balanced, count, both, empty_length (all_waiters left) e)

    some_left : is_empty (all_waiters left) ≡ false → length off ≤ length d.free
    some_left e =
        let both = length-append rest.exclusive rest.shared in
        omega (arith, balanced, count, both, full_length (all_waiters left) e)

    -- where somebody is, the rest shows the queue
    pub stays : is_empty (all_waiters left) ≡ false → columns_left off rest (sleepers_of d) ≡ sleepers_of left
    stays some = λ i. record (sleepers_of left) { head = head_after-stays off d.free d.number (some_left some) i }

    pub gone : is_empty (all_waiters left) ≡ true → (columns_left off rest (sleepers_of d)).head ≡ None
    gone nobody = head_after-none off d.free d.number (all_gone nobody)

    -- those taken show their marks, and each has an object
    pub woken_shown : (q : QueueName) → (map (mark_of q) woken ≡ dealt q off d.free (Some d.number))
        × All (λ p. IsSome p.object) woken
    woken_shown q = go (is_empty (all_waiters left)) refl
      where
        go : (b : Bool) → is_empty (all_waiters left) ≡ b
            → (map (mark_of q) (cond b (with_last d.number took) took) ≡ dealt q off d.free (Some d.number))
            × All (λ p. IsSome p.object) (cond b (with_last d.number took) took)
        go true e = (
          marks-dealt_last q off d.free d.number (all_gone e),
          objects-dealt_last off d.free d.number (all_gone e),
        )
        go false e = (marks-dealt q off d.free d.number (some_left e), objects-dealt off d.free (some_left e))

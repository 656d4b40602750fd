-- Waiters of a side are taken off a turnstile or a sleep queue, the best or all: what the rest shows of its queue,
-- and those taken of their marks.
use Rattle.lock_objects.proofs.Names
use Names.{Bool, true, false, List, [], length, map, Some, None, IsSome, sym, ap, arith, length-append, All, is_empty}
use Names.{Waiter, Lists, with_list, waiting, taken_off, left_on, dealt, Side, QueueName, Object, all_waiters, lists_of}
use Names.{IsLeft, Ghosts, sleepers_of, mark_of, woken_columns}
use Rattle.std.proofs.Common.{◌≡◌, ◌≢◌, ◌+◌, ◌∙◌}
use Rattle.wait_objects.specs.Seen.{Contents, Place}
use Rattle.wait_objects.specs.Changes.{waiters, IsWellFormed}
use Rattle.lock_objects.proofs.TakenOff as object

module _ {E : Type 0} (all : Bool) (side : Side) (d : Contents E) where
  -- those who are taken off, what is left without them, and what each takes back
  abbrev pub off : List Waiter
  off = taken_off all (waiters side d)

  abbrev rest : Lists
  rest = with_list side (left_on all (waiters side d)) (lists_of d)

  abbrev pub left : Contents E
  left = object.left off rest d

  abbrev pub woken : List Place
  woken = object.woken off rest d

  count : waiting rest + length off ≡ waiting (lists_of d)
  count = object.count_woken all side (lists_of d)

  -- where somebody waits and nobody is left, somebody goes
  pub some_go : all_waiters d ≢ [] → all_waiters left ≡ [] → off ≢ []
  some_go some nobody none =
      let were = length-append d.exclusive d.shared in
      let are = length-append rest.exclusive rest.shared in
      some (object.no_item (all_waiters d) (omega (arith, count, ap length nobody, ap length none, were, are)))

  module _ (balanced : length d.free + 1 ≡ length d.exclusive + length d.shared) where
    -- where somebody is, the rest shows the queue
    pub stays : is_empty (all_waiters left) ≡ false → woken_columns all side (sleepers_of d) ≡ sleepers_of left
    stays some = object.stays off rest d count balanced some

    pub gone : is_empty (all_waiters left) ≡ true → (woken_columns all side (sleepers_of d)).head ≡ None
    gone nobody = object.gone off rest d count balanced nobody

    -- those taken show their marks, and each has an object
    pub woken_shown : (q : QueueName) → (map (mark_of q) woken ≡ dealt q off d.free (Some d.number))
        × All (λ p. IsSome p.object) woken
    woken_shown q = object.woken_shown off rest d count balanced q

-- an object on which nobody waits any more has no free object either, and nothing but its name keeps it from being idle
pub left_idle : {E : Type 0} (kind : Ghosts E) (h : Object E) → IsWellFormed kind.RANKED h.contents
    → all_waiters h.contents ≡ [] → kind.with_name None h.contents.own ≡ kind.home → h.next ≡ [] → IsLeft kind h
left_idle kind h fits nobody home bare =
    let n : length h.contents.exclusive + length h.contents.shared ≡ 0 =
    sym (length-append h.contents.exclusive h.contents.shared) ∙ ap length nobody in record {
      no_exclusive = object.no_item h.contents.exclusive (omega arith);
      no_shared = object.no_item h.contents.shared (omega arith);
      no_free = object.no_item h.contents.free (omega (arith, fits.one_free_less));
      own = home;
      no_next = bare;
    }

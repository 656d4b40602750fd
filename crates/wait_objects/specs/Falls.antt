-- The number of Sizes falls from a box to those inside it.
use Rattle.std.specs.Prelude.{◌≡◌, ◌*◌, ◌≤◌, List, [], ◌∷◌, length, None, Some}
use Rattle.std.proofs.Common.{arith, ap}
use Rattle.std.proofs.lemmas.List.{length-map}
use Rattle.wait_objects.specs.Seen.{Contents}
use Rattle.wait_objects.specs.Inside.{places_in, free_contents, seen_lists, seen_object, waiting, AllIdle, IsSound}
use Rattle.wait_objects.specs.Sizes.{contents_size, linked_size, free_size, waiters_size, lists_size, object_size}
use Rattle.wait_objects.specs.declared.own.Own.{Ghosts}
use Rattle.wait_objects.specs.declared.waiters.Waiters.TheInside.{Inside as InWaiters}
use Rattle.wait_objects.specs.declared.free_list.FreeList.TheInside.{Inside as InFreeList}
use Rattle.wait_objects.specs.declared.lists.Lists.TheInside.{Inside as InLists}
use Rattle.wait_objects.specs.declared.object.Object.TheInside.{Inside as InObject}
use Rattle.wait_objects.specs.declared.free_list.FreeList.TheDeep.{deep-FreeList, deep-Waiters, deep-Lists, deep-Object}

module _ {E : Type 0} (own : Ghosts E) where
  pub free_falls : (a : InFreeList E) → deep-FreeList E own a ≤ free_size (free_contents a)
  free_falls a =
      elim a.first as (λ o. deep-FreeList E own (record { first = o }) ≤ free_size
      (free_contents (record { first = o }))) [ None ↦ omega arith | Some b ↦ omega arith ]

  pub waiters_fall : (a : InWaiters E) → deep-Waiters E own a ≤ waiters_size (places_in a)
  waiters_fall a =
      elim a.first as (λ o. deep-Waiters E own (record { first = o }) ≤ waiters_size
      (places_in {E = E} (record { first = o }))) [ None ↦ omega arith | Some b ↦ omega arith ]

  pub lists_fall : (a : InLists E) → deep-Lists E own a ≤ lists_size (seen_lists a)
  lists_fall a =
      let m = length-map a.exclusive waiting in
      let n = length-map a.shared waiting in
      omega arith

  linked_idle : (home : E) (cs : List (Contents E)) → AllIdle home cs
      → linked_size cs ≡ 3 * length cs
  linked_idle home [] h = omega arith
  linked_idle home (c ∷ cs) h =
      let one : contents_size c ≡ 3 = ap contents_size h.0 in let more : linked_size cs ≡ 3 * length
      cs = linked_idle home cs h.1 in omega arith

  pub object_falls : (a : InObject E) → IsSound own a
      → deep-Object E own a ≤ object_size (seen_object a)
  object_falls a h =
      let free = linked_idle own.home a.free h.free_idle in
      let k = length-map a.free (λ c. c.number) in
      elim a.next as (λ o. deep-Object E own (record a { next = o }) ≤ object_size
      (seen_object (record a { next = o }))) [
        | None ↦ omega arith
        | Some b ↦ omega arith
      ]

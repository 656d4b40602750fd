use Rattle.floor_calls.proofs.Names.{ℕ, List, length, get_or, map, sum, take, refl, subst, arith, get_or-map}
use Rattle.floor_calls.proofs.Names.{length-map, take-map, sum_by_more_le, room_in_all, ThreadPart}
use Rattle.std.proofs.Common.{◌≡◌, ◌+◌, ◌<◌, ◌≤◌, ◌^◌}
use Rattle.floor_calls.proofs.unfit.has_much_room.Goals as goal

-- the room of the threads so far and of the next one are within that of all
within : (threads : List ThreadPart) (i : ℕ) (d : ThreadPart) → i < length threads
    → sum (map (λ x. x.room) (take i threads)) + (get_or threads i d).room ≤ room_in_all threads
within threads i d lt =
    let rooms : List ℕ = map (λ x. x.room) threads in
    let count : length rooms ≡ length threads = length-map threads (λ x. x.room) in
    let more = sum_by_more_le (λ n. n) rooms i 0 (omega arith) in
    let far : take i rooms ≡ map (λ x. x.room) (take i threads) = take-map (λ x. x.room) i threads in
    let next : get_or rooms i 0 ≡ (get_or threads i d).room = get_or-map (λ x. x.room) threads i d 0 lt in
    subst (λ (n : ℕ). sum (map (λ x. x.room) (take i threads)) + n ≤ sum rooms) next
    (subst (λ (ns : List ℕ). sum ns + get_or rooms i 0 ≤ sum rooms) far more)

abbrev nothing : ThreadPart
nothing = record { base = record { 0 = 0 }; room = 0 }

pub returns-then-all-ge-TOO_MANY_ENTRIES : goal.returns-then-all-ge-TOO_MANY_ENTRIES
returns-then-all-ge-TOO_MANY_ENTRIES c =
    let threads = c.as_slice-thread-items.result.now in
    let i = c.loop-thread.thread-index in (
      λ _. subst (λ (xs : List ThreadPart). 2 ^ 32 ≤ room_in_all xs) c.as_slice-thread-items.ensures
          (let all = within threads i nothing c.loop-thread-test.true in
          omega (arith, all, c.loop-thread.invariant.far, c.from-all.ensures)),
      λ _. refl,
    )

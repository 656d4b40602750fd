use Rattle.std.proofs.Common.{◌≡◌, ℕ, zero, suc, ◌<◌, ◌≤◌, ◌^◌, List, [], ◌∷◌, length, map, slice_get, refl, subst, sym, ◌∙◌, arith}
use Rattle.std.specs.Prelude.{unwrap_or}
use Rattle.std.proofs.lemmas.List.Elements.{All-nil, All-cons}
use Rattle.std.specs.List.{All}
use Rattle.std.specs.List.Sorted.{IsStrictlySortedBy}
use Rattle.lock_model.specs.History.{place_cmp}
use Rattle.lock_model.specs.Limits.{most_threads, most_locks, most_classes}
use Rattle.lock_model.specs.declared.plan.Kind.{Kind}
use Rattle.lock_model.specs.declared.plan.Kind.TheVariants.{Mtx, Sx}
use Rattle.floor_table.specs.declared.description.LockPart.{LockPart}
use Rattle.floor_table.specs.declared.description.ThreadPart.{ThreadPart}
use Rattle.floor_table.specs.Descriptions.{room_in_all}
use Rattle.program_tests.proofs.floors.description.Goals as goal

none_rise : IsStrictlySortedBy place_cmp []
unfolding IsStrictlySortedBy
none_rise = tt

abbrev IsFew : LockPart → Type 0
IsFew x = x.class.0 < most_classes

abbrev a_lock : Kind → ℕ → LockPart
a_lock kind k = record { kind = kind; class = record { 0 = k } }

few_locks : All IsFew (a_lock Mtx 0 ∷ a_lock Mtx 1 ∷ a_lock Sx 2 ∷ [])
few_locks =
    All-cons IsFew (a_lock Mtx 0) (a_lock Mtx 1 ∷ a_lock Sx 2 ∷ []) (omega arith)
    (All-cons IsFew (a_lock Mtx 1) (a_lock Sx 2 ∷ []) (omega arith)
    (All-cons IsFew (a_lock Sx 2) [] (omega arith) (All-nil IsFew)))

abbrev HasRooms : List ThreadPart → Type 0
HasRooms xs = (t : ℕ) → t < 3 → unwrap_or (slice_get (map (λ x. x.room) xs) t) 0 ≡ 1003

abbrev with_base : ℕ → ThreadPart
with_base n = record { base = record { 0 = n }; room = 1003 }

three_rooms : HasRooms (with_base 200 ∷ with_base 100 ∷ with_base 50 ∷ [])
three_rooms zero lt = refl
three_rooms (suc zero) lt = refl
three_rooms (suc (suc zero)) lt = refl
three_rooms (suc (suc (suc t))) lt = absurd (omega (arith, lt))

pub returns-clause-sized : goal.returns-clause-sized
returns-clause-sized c =
    let threads = sym (c.from_vec.ensures ∙ c.in_ok-vec.ensures.items) in
    let locks = sym (c.from_vec-2.ensures ∙ c.in_ok-vec-2.ensures.items) in
    let keys = sym (c.from_vec-4.ensures ∙ c.new-2.ensures.items) in
    record {
      threads = subst (λ (xs : List ThreadPart). length xs ≤ most_threads) threads (omega arith);
      locks = subst (λ (xs : List LockPart). length xs ≤ most_locks) locks (omega arith);
      classes = subst (All IsFew) locks few_locks;
      keys = subst (λ (xs : List (ℕ × ℕ)). length xs < 2 ^ 16) keys (omega arith);
      rising = subst (IsStrictlySortedBy place_cmp) keys none_rise;
      room = subst (λ (xs : List ThreadPart). room_in_all xs < 2 ^ 32) threads (omega arith);
      some_chains = omega arith;
      few_chains = omega arith;
    }

pub returns-clause-room : goal.returns-clause-room
returns-clause-room c =
    let threads = sym (c.from_vec.ensures ∙ c.in_ok-vec.ensures.items) in
    subst HasRooms threads three_rooms

use Rattle.std.proofs.Common.{◌≡◌, ℕ, zero, suc, ◌<◌, ◌≤◌, ◌^◌, List, [], ◌∷◌, length, map, slice_get, refl, subst, sym, ◌∙◌, arith}
use Rattle.std.specs.Prelude.{unwrap_or}
use Rattle.std.proofs.lemmas.List.Elements.{All-nil, All-cons}
use Rattle.std.specs.List.{All}
use Rattle.std.specs.List.Sorted.{IsStrictlySortedBy}
use Rattle.lock_model.specs.History.{place_cmp}
use Rattle.lock_model.specs.Limits.{most_threads, most_locks, most_classes}
use Rattle.lock_model.specs.declared.plan.Kind.TheVariants.{Mtx}
use Rattle.floor_table.specs.declared.description.LockPart.{LockPart}
use Rattle.floor_table.specs.declared.description.ThreadPart.{ThreadPart}
use Rattle.floor_table.specs.Descriptions.{room_in_all}
use Rattle.example_parts.proofs.description.Goals as goal

none_rise : IsStrictlySortedBy place_cmp []
unfolding IsStrictlySortedBy
none_rise = tt

abbrev IsFew : LockPart → Type 0
IsFew x = x.class.0 < most_classes

abbrev HasRooms : List ThreadPart → Type 0
HasRooms xs = (t : ℕ) → t < 2 → unwrap_or (slice_get (map (λ x. x.room) xs) t) 0 ≡ 2

abbrev HasMutex : List LockPart → Type 0
HasMutex xs = unwrap_or (slice_get (map (λ x. x.kind) xs) 0) Mtx ≡ Mtx

abbrev each : ThreadPart
each = record { base = record { 0 = 100 }; room = 2 }

two_rooms : HasRooms (each ∷ each ∷ [])
two_rooms zero lt = refl
two_rooms (suc zero) lt = refl
two_rooms (suc (suc t)) lt = absurd (omega (arith, lt))

pub returns : goal.returns
returns c =
    let threads = sym (c.from_vec.ensures ∙ c.in_ok-vec.ensures.items) in
    let locks = sym (c.from_vec-2.ensures ∙ c.in_ok-vec-2.ensures.items) in
    let keys = sym (c.from_vec-4.ensures ∙ c.new-2.ensures.items) in
    record {
      sized = record {
        threads = subst (λ (xs : List ThreadPart). length xs ≤ most_threads) threads (omega arith);
        locks = subst (λ (xs : List LockPart). length xs ≤ most_locks) locks (omega arith);
        classes = subst (All IsFew) locks (All-cons IsFew _ [] (omega arith) (All-nil IsFew));
        keys = subst (λ (xs : List (ℕ × ℕ)). length xs < 2 ^ 16) keys (omega arith);
        rising = subst (IsStrictlySortedBy place_cmp) keys none_rise;
        room = subst (λ (xs : List ThreadPart). room_in_all xs < 2 ^ 32) threads (omega arith);
        some_chains = omega arith;
        few_chains = omega arith;
      };
      threads = subst (λ (xs : List ThreadPart). length xs ≡ 2) threads refl;
      room = subst HasRooms threads two_rooms;
      mutex = record {
        lock = subst (λ (xs : List LockPart). 0 < length xs) locks (omega arith);
        kind = subst HasMutex locks refl;
      };
      one_chain = refl;
    }

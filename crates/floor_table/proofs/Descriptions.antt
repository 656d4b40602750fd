-- What a plan gives says of threads, locks and channels what the plan says, and fits a floor's table.
use Rattle.std.proofs.Common.{◌≡◌, ℕ, zero, suc, ◌*◌, ◌<◌, ◌≤◌, List, [], ◌∷◌, length, get_or, map, sum, slice_get, refl, ap, arith}
use Rattle.std.specs.Prelude.{unwrap_or}
use Rattle.std.proofs.lemmas.List.{length-map}
use Rattle.std.proofs.lemmas.List.Elements.{All-map}
use Rattle.std.proofs.lemmas.List.Sums.{sum_by-cons}
use Rattle.lock_model.specs.Limits.{most_classes}
use Rattle.lock_model.specs.Operations.{IsProper}
use Rattle.lock_model.specs.Plans.{config_of, operations_of}
use Rattle.lock_model.specs.declared.numbers.LockNo.{LockNo}
use Rattle.lock_model.specs.declared.plan.ChanDecl.{ChanDecl}
use Rattle.lock_model.specs.declared.plan.Kind.TheVariants.{Mtx}
use Rattle.lock_model.specs.declared.plan.Plan.{Plan}
use Rattle.lock_model.specs.declared.plan.ThreadDecl.{ThreadDecl}
use Rattle.floor_table.specs.Descriptions.{config_in, room_for, room_in_all, IsSized, room_of, thread_part, lock_part, description_of}
use Rattle.floor_table.specs.declared.description.LockPart.{LockPart}
use Rattle.floor_table.specs.declared.description.ThreadPart.{ThreadPart}
use Rattle.floor_table.proofs.PlanKeys.{keys_rise, few_keys}

-- 1. One config

fused : {A B C : Type 0} (f : A → B) (g : B → C) (xs : List A) → map g (map f xs) ≡ map (λ x. g (f x)) xs
fused f g [] = refl
fused f g (x ∷ xs) = ap (λ ys. g (f x) ∷ ys) (fused f g xs)

pub same_config : (plan : Plan) (chains : ℕ) → config_in (description_of plan chains) ≡ config_of plan
same_config plan chains = λ i. record {
  threads = length-map plan.threads thread_part i;
  locks = length-map plan.locks lock_part i;
  chans = length-map plan.chans (λ (d : ChanDecl). d.lock) i;
  kind = λ l. unwrap_or (slice_get (fused lock_part (λ (x : LockPart). x.kind) plan.locks i) l) Mtx;
  class = λ l. unwrap_or (slice_get (fused lock_part (λ (x : LockPart). x.class.0) plan.locks i) l) 0;
  chan_lock = λ c. unwrap_or (slice_get (fused (λ (d : ChanDecl). d.lock) (λ (l : LockNo). l.0) plan.chans i) c) 0;
  declared_base = λ t. unwrap_or (slice_get (fused thread_part (λ (x : ThreadPart). x.base.0) plan.threads i) t) 0;
}

-- 2. Room and sizes

pub its_room : (plan : Plan) (chains t : ℕ) → room_for (description_of plan chains) t ≡ room_of (operations_of plan t)
its_room plan chains t = go plan.threads t
  where
    go : (ds : List ThreadDecl) (t : ℕ)
        → unwrap_or (slice_get (map (λ (x : ThreadPart). x.room) (map thread_part ds)) t) 0
        ≡ room_of (unwrap_or (slice_get (map (λ (d : ThreadDecl). d.ops) ds) t) [])
    go [] t = refl
    go (d ∷ ds) zero = refl
    go (d ∷ ds) (suc t) = go ds t

-- a thread has room for two entries for each operation
rooms : (ds : List ThreadDecl) → room_in_all (map thread_part ds) ≡ 2 * sum (map (λ (d : ThreadDecl). length d.ops) ds)
rooms [] = refl
rooms (d ∷ ds) =
    let p = rooms ds in
    let room = sum_by-cons (λ (n : ℕ). n) (room_of d.ops) (map (λ (x : ThreadPart). x.room) (map thread_part ds)) in
    let ops = sum_by-cons (λ (n : ℕ). n) (length d.ops) (map (λ (e : ThreadDecl). length e.ops) ds) in
    omega (arith, p, room, ops)

-- a thread has as many operations as all have together, or fewer
pub few_operations : (ds : List ThreadDecl) (t : ℕ) (d : ThreadDecl) → t < length ds
    → length (get_or ds t d).ops ≤ sum (map (λ (e : ThreadDecl). length e.ops) ds)
few_operations [] t d low = absurd (omega arith)
few_operations (x ∷ xs) zero d low =
    omega (arith, sum_by-cons (λ (n : ℕ). n) (length x.ops) (map (λ (e : ThreadDecl). length e.ops) xs))
few_operations (x ∷ xs) (suc t) d low =
    let rest = few_operations xs t d (omega arith) in
    omega (arith, rest, sum_by-cons (λ (n : ℕ). n) (length x.ops) (map (λ (e : ThreadDecl). length e.ops) xs))

pub is_sized : (plan : Plan) (chains : ℕ) → IsProper plan → 1 ≤ chains → chains ≤ 64
    → IsSized (description_of plan chains)
is_sized plan chains proper some few = record {
  threads = omega (arith, length-map plan.threads thread_part, proper.threads);
  locks = omega (arith, length-map plan.locks lock_part, proper.locks);
  classes = All-map (λ (x : LockPart). x.class.0 < most_classes) lock_part plan.locks
      (λ i d low. omega (arith, proper.lock_classes i d low, proper.classes));
  keys = omega (arith, few_keys plan, proper.operations);
  rising = keys_rise plan.threads;
  room = omega (arith, rooms plan.threads, proper.operations);
  some_chains = some;
  few_chains = few;
}

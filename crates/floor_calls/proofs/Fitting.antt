-- A description against which nothing stands fits a floor's table, and has one chain of each sort.
use Rattle.floor_calls.proofs.Names
use Names.{ℕ, List, length, get_or, None, refl, ap, arith, get_or_default, sorted_from_all_adjacent, All, Any}
use Names.{IsStrictlySortedBy, Ordering, Less, Equal, Greater, place_total, place_cmp, most_classes, IsSized}
use Names.{Description, LockPart, IsFirst, none, later, IsUnsorted, Spoils, all_unfit}
use Rattle.std.proofs.Common.{◌≡◌, ◌≢◌, ◌+◌, ◌<◌, ◌≤◌, ◌∙◌}
use Rattle.floor_calls.proofs.Numbers.{at_most, below, is_one}

high_or_not : (locks : List LockPart) → (Any (λ (x : LockPart). most_classes ≤ x.class.0) locks → ⊥)
    → All (λ (x : LockPart). x.class.0 < most_classes) locks
high_or_not locks n k d lt =
    below _ _ (λ le. n (k, get_or locks k d, lt, get_or_default locks k (get_or locks k d) d lt, le))

is_less : (r : Ordering) → (r ≢ Less → ⊥) → r ≡ Less
is_less Less n = refl
is_less Equal n = absurd (n (λ e. cc))
is_less Greater n = absurd (n (λ e. cc))

-- two keys of a list compare alike, whatever stands for a place past its end
compare_alike : (keys : List (ℕ × ℕ)) (k : ℕ) (d e : ℕ × ℕ) → k + 1 < length keys
    → place_cmp (get_or keys k d) (get_or keys (k + 1) d) ≡ place_cmp (get_or keys k e) (get_or keys (k + 1) e)
compare_alike keys k d e lt =
    ap (λ (p : ℕ × ℕ). place_cmp p (get_or keys (k + 1) d)) (get_or_default keys k d e (omega arith))
    ∙ ap (λ (q : ℕ × ℕ). place_cmp (get_or keys k e) q) (get_or_default keys (k + 1) d e lt)

rise : (keys : List (ℕ × ℕ)) → (IsUnsorted keys → ⊥) → IsStrictlySortedBy place_cmp keys
rise keys n =
    sorted_from_all_adjacent place_total keys (0, 0)
    (λ k lt. is_less _ (λ more. n (k, lt, λ d less. more (compare_alike keys k (0, 0) d lt ∙ less))))

pub none_sized : (d : Description) → IsFirst (λ why. Spoils why d) all_unfit None → IsSized d
none_sized d (later t (later l (later c (later h (later k (later u (later r (later o none)))))))) = record {
  threads = at_most _ _ t;
  locks = at_most _ _ l;
  classes = high_or_not d.locks h;
  keys = below _ _ k;
  rising = rise d.keys u;
  room = below _ _ r;
  some_chains = let one = is_one d.chains o in omega arith;
  few_chains = let one = is_one d.chains o in omega arith;
}

pub none_chained : (d : Description) → IsFirst (λ why. Spoils why d) all_unfit None → d.chains ≡ 1
none_chained d (later t (later l (later c (later h (later k (later u (later r (later o none)))))))) = is_one d.chains o

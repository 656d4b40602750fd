-- Whether something is so of all threads of a plan, found out thread by thread.
use Rattle.std.proofs.Common.{◌≡◌, ℕ, zero, suc, ◌+◌, ◌<◌, ◌≤◌, Bool, true, false, ◌&&◌, refl, ap, ◌∙◌, arith}
use Rattle.std.specs.List.{list_all, range_with_len}
use Rattle.std.proofs.lemmas.List.Folds.{list_all_at}
use Rattle.std.proofs.lemmas.List.FromFn.{length-range_with_len, get_or-range_with_len}

-- what is so of each of some numbers is so of all of them
so_from : (p : ℕ → Bool) (a n : ℕ) → ((t : ℕ) → a ≤ t → t < a + n → p t ≡ true) → list_all p (range_with_len a n) ≡ true
so_from p a zero h = refl
so_from p a (suc n) h =
    ap (λ (b : Bool). b && list_all p (range_with_len (a + 1) n)) (h a (omega arith) (omega arith))
    ∙ so_from p (a + 1) n (λ t i l. h t (omega (arith, i)) (omega (arith, l)))

pub so_of_all : (p : ℕ → Bool) (n : ℕ) → ((t : ℕ) → t < n → p t ≡ true) → list_all p (range_with_len 0 n) ≡ true
so_of_all p n h = so_from p 0 n (λ t i l. h t (omega (arith, l)))

-- and where one of them fails, it isn't
pub one_fails : (p : ℕ → Bool) (n t : ℕ) → t < n → p t ≡ false → list_all p (range_with_len 0 n) ≡ false
one_fails p n t l e =
    list_all_at p (range_with_len 0 n) t 0 (omega (arith, l, length-range_with_len 0 n))
    (ap p (get_or-range_with_len 0 n t 0 l ∙ omega arith) ∙ e)

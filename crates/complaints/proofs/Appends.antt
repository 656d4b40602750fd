-- What is pushed piece by piece.
use Rattle.std.proofs.Common.{◌≡◌, ◌∙◌, ◌++◌, ap, List, [], ℕ, sym, append-nil, append_assoc}

-- a piece, and the rest behind it
onto : (o x y a rest : List ℕ) → x ≡ o ++ a → y ≡ x ++ rest → y ≡ o ++ (a ++ rest)
onto o x y a rest one more = more ∙ ap (λ t. t ++ rest) one ∙ append_assoc o a rest

pub two : (o a b : List ℕ) {x y : List ℕ} → x ≡ o ++ a → y ≡ x ++ b → y ≡ o ++ (a ++ b)
two o a b {x} {y} one last = onto o x y a b one last

pub three : (o a b c : List ℕ) {x y z : List ℕ} → x ≡ o ++ a → y ≡ x ++ b → z ≡ y ++ c → z ≡ o ++ (a ++ (b ++ c))
three o a b c {x} {y} {z} one next last = onto o x z a (b ++ c) one (two x b c next last)

pub four : (o a b c d : List ℕ) {x y z v : List ℕ} → x ≡ o ++ a → y ≡ x ++ b → z ≡ y ++ c → v ≡ z ++ d
    → v ≡ o ++ (a ++ (b ++ (c ++ d)))
four o a b c d {x} {y} {z} {v} one next more last = onto o x v a (b ++ (c ++ d)) one (three x b c d next more last)

pub five : (o a b c d e : List ℕ) {x y z v w : List ℕ} → x ≡ o ++ a → y ≡ x ++ b → z ≡ y ++ c → v ≡ z ++ d → w ≡ v ++ e
    → w ≡ o ++ (a ++ (b ++ (c ++ (d ++ e))))
five o a b c d e {x} {y} {z} {v} {w} one s2 s3 s4 s5 =
    onto o x w a (b ++ (c ++ (d ++ e))) one (four x b c d e s2 s3 s4 s5)

pub seven : (o a b c d e f g : List ℕ) {x y z v w p q : List ℕ} → x ≡ o ++ a → y ≡ x ++ b → z ≡ y ++ c → v ≡ z ++ d
    → w ≡ v ++ e → p ≡ w ++ f → q ≡ p ++ g
    → q ≡ o ++ (a ++ (b ++ (c ++ (d ++ (e ++ (f ++ g))))))
seven o a b c d e f g {x} {y} {z} {v} {w} {p} {q} s1 s2 s3 s4 s5 s6 s7 =
    onto o x q a (b ++ (c ++ (d ++ (e ++ (f ++ g))))) s1
    (onto x y q b (c ++ (d ++ (e ++ (f ++ g)))) s2 (five y c d e f g s3 s4 s5 s6 s7))

-- behind a loop that has nothing left to push
pub done : (o a x : List ℕ) → o ++ a ≡ x ++ [] → x ≡ o ++ a
done o a x pushed = sym (append-nil x) ∙ sym pushed

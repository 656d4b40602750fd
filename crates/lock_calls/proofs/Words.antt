-- The word of a lock that a thread doesn't hold, as a look saw it. Whoever sees that of a mutex, and not the free one,
-- sees it held, since a free mutex shows no waiters.
use Rattle.lock_calls.proofs.Names
use Names.{ℕ, zero, suc, Bool, true, false, Option, Some, None, [], refl, sym, ap, subst, arith, eq-eqb, NotHeld}
use Names.{hold_in, Word, holder_of, word_of, bits_of, is_free, shows_waiters, Kind, Mtx, CanBeSeen, Look, Looks}
use Names.{config_in, Description, Makes, Knowledge, seeing, counts, looked, finds_word, finds_of_others}
use Rattle.std.proofs.Common.{◌≡◌, ◌≢◌, ◌/◌, ◌%◌, ◌||◌, ◌∷◌, ◌∙◌}
use Rattle.std.specs.Prelude.{◌==◌}

-- 1. Words that show neither a holder nor waiters

not_one : (n : ℕ) → (n % 2 == 1) ≡ false → n % 2 ≡ 0
not_one n e =
    let other : n % 2 ≢ 1 = λ q. absurd (let z : true ≡ false = sym (eq-eqb (n % 2) 1 q) ∙ e in cc) in
    omega arith

no_holder : (exclusive : Bool) (high : ℕ) → is_free (holder_of exclusive high) ≡ true → (exclusive ≡ false) × (high ≡ 0)
no_holder true high e = absurd (cc)
no_holder false zero e = (refl, refl)
no_holder false (suc n) e = absurd (cc)

no_waiter : (a b : Bool) → (a || b) ≡ false → (a ≡ false) × (b ≡ false)
no_waiter true b e = absurd (cc)
no_waiter false b e = (refl, e)

empty_word : (n : ℕ) → is_free (word_of n).holder ≡ true → shows_waiters (word_of n) ≡ false → n ≡ 0
empty_word n free shown =
    let h = no_holder (n / 4 % 2 == 1) (n / 8) free in
    let w = no_waiter (n % 2 == 1) (n / 2 % 2 == 1) shown in
    let a : n % 2 ≡ 0 = not_one n w.0 in
    let b : n / 2 % 2 ≡ 0 = not_one (n / 2) w.1 in
    let c : n / 4 % 2 ≡ 0 = not_one (n / 4) h.0 in
    let d : n / 8 ≡ 0 = h.1 in
    omega arith

-- the bits of a word are those that it was read from, so other bits are another word
bits_again : (n : ℕ) → bits_of (word_of n) ≡ n
bits_again n = grind arith

pub other_word : (n m : ℕ) → n ≢ m → word_of n ≢ word_of m
other_word n m other same = other (sym (bits_again n) ∙ ap bits_of same ∙ bits_again m)

-- 2. What a look saw

abbrev pub look_at : ℕ → Word → Look
look_at l word = record { lock = l; word = word }

pub word_seen : (l : ℕ) (a b : Word) → Some (look_at l a) ≡ Some (look_at l b) → b ≡ a
word_seen l a b same = ap seen (sym same)
  where
    seen : Option Look → Word
    seen None = a
    seen (Some x) = x.word

-- a look at a lock that the thread doesn't hold saw the word of others' lock
pub saw_others : (floor : Description) (l seen : ℕ) (old v : Knowledge) → hold_in old.share.held l ≡ NotHeld
    → v ≡ seeing v.seen (looked old l (word_of seen)) → Makes floor (Looks old.thread l (counts old l) ∷ []) old v
    → CanBeSeen ((config_in floor).kind l) (word_of seen)
saw_others floor l seen old v unheld view m =
    let saw : Some (look_at l (word_of seen)) ≡ Some (look_at l (m.state.word l)) =
    sym (ap (λ (w : Knowledge). w.share.doing.last_look) view) ∙ finds_word floor l (counts old l) old v m in
    subst (CanBeSeen ((config_in floor).kind l)) (word_seen l (word_of seen) (m.state.word l) saw)
    (finds_of_others floor l (counts old l) old v m unheld)

-- of a mutex that is a held one, where it isn't the word of the mutex that nobody holds or waits for
pub saw_held : (kind : Kind) (seen : ℕ) → kind ≡ Mtx → seen ≢ 0 → CanBeSeen kind (word_of seen)
    → is_free (word_of seen).holder ≡ false
saw_held kind seen mutex other x = go (is_free (word_of seen).holder) refl
  where
    go : (b : Bool) → is_free (word_of seen).holder ≡ b → b ≡ false
    go false e = refl
    go true e = absurd (other (empty_word seen e (x.mutex mutex e)))

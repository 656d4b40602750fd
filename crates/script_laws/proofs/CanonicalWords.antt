-- How a line of words is read: it is one line, its words are those, and each of its bytes may stand in a script.
-- Names and decimal numbers are such words.
use Rattle.script_laws.proofs.Names
use Names.{ℕ, Bool, true, false, not, nat_le, List, [], length, Some, decimal, refl, sym, ap, arith, append_assoc}
use Names.{append-nil, get_or, inl, inr, fold, list_all, list_any, digit_value, cases_eq, and_parts, and_from}
use Names.{false≢true, le-leb, ne_eqb, leb-true, nat_tests, list_all-append, digit_value_digit, digit_from_value}
use Names.{decimal_is_IsNumeral, decimal_digit, first_decimal, length-decimal-le, is_empty, is_name, is_letter}
use Names.{is_digit, is_name_byte, spaced, line_of, lines_of, words_of, is_printable, has_meaning, digits_value}
use Names.{is_numeral, number_up_to, Statement, statement_of, said_by}
use Rattle.std.proofs.Common.{◌≡◌, ◌+◌, ◌-◌, ◌*◌, ◌^◌, ◌<◌, ◌≤◌, ◌&&◌, ◌==◌, ◌∷◌, ◌++◌, ◌∙◌}
use Rattle.std.specs.Str.Parse as parse

-- 1. Words

-- a byte that may stand in a word
abbrev pub is_word_byte : ℕ → Bool
is_word_byte b = nat_le 33 b && nat_le b 126

pub record IsWord (w : List ℕ) : Type 0 where
  pub some : is_empty w ≡ false
  pub bytes : list_all is_word_byte w ≡ true
  pub short : length w ≤ 20

abbrev pub AreWords : List (List ℕ) → Type 0
AreWords [] = Unit {0}
AreWords (w ∷ ws) = IsWord w × AreWords ws

-- a first word and others that make a line
pub record IsLine (first : List ℕ) (others : List (List ℕ)) : Type 0 where
  pub bytes : list_all is_word_byte first ≡ true
  pub meaning : has_meaning first ≡ true
  pub words : AreWords others
  pub short : length (first ++ spaced others) ≤ 200

weaker : (p q : ℕ → Bool) → ((b : ℕ) → p b ≡ true → q b ≡ true) → (bs : List ℕ) → list_all p bs ≡ true
    → list_all q bs ≡ true
weaker p q h [] e = refl
weaker p q h (b ∷ bs) e = let s = and_parts (p b) _ e in and_from (q b) _ (h b s.0) (weaker p q h bs s.1)

not_byte : (c b : ℕ) → c < 33 → is_word_byte b ≡ true → (b == c) ≡ false
not_byte c b small e = let s = and_parts _ _ e in ne_eqb b c (λ q. omega (arith, q, small, leb-true 33 b s.0))

may_stand : (b : ℕ) → is_word_byte b ≡ true → is_printable b ≡ true
may_stand b e = let s = and_parts _ _ e in and_from _ _ (le-leb 32 b (omega (arith, leb-true 33 b s.0))) s.1

-- 2. Lines and their words

line_cut : (line rest : List ℕ) → list_all is_printable line ≡ true
    → lines_of (line ++ 10 ∷ rest) ≡ line ∷ lines_of rest
line_cut [] rest e = refl
line_cut (b ∷ line) rest e =
    let s = and_parts (is_printable b) _ e in
    let t = and_parts _ _ s.0 in
    let other : (b == 10) ≡ false = ne_eqb b 10 (λ q. omega (arith, q, leb-true 32 b t.0)) in
    rw (other, line_cut line rest s.1) refl

word_cut : (word rest : List ℕ) → list_all is_word_byte word ≡ true
    → words_of (word ++ 32 ∷ rest) ≡ word ∷ words_of rest
word_cut [] rest e = refl
word_cut (b ∷ word) rest e =
    let s = and_parts (is_word_byte b) _ e in
    rw (not_byte 32 b (omega arith) s.0, word_cut word rest s.1) refl

word_last : (word : List ℕ) → list_all is_word_byte word ≡ true → words_of word ≡ word ∷ []
word_last [] e = refl
word_last (b ∷ word) e =
    let s = and_parts (is_word_byte b) _ e in
    rw (not_byte 32 b (omega arith) s.0, word_last word s.1) refl

words_are : (first : List ℕ) (others : List (List ℕ)) → list_all is_word_byte first ≡ true → AreWords others
    → words_of (first ++ spaced others) ≡ first ∷ others
words_are first [] e h = ap words_of (append-nil first) ∙ word_last first e
words_are first (w ∷ ws) e h = word_cut first (w ++ spaced ws) e
    ∙ ap (λ (l : List (List ℕ)). first ∷ l) (words_are w ws h.0.bytes h.1)

all_stand : (first : List ℕ) (others : List (List ℕ)) → list_all is_word_byte first ≡ true → AreWords others
    → list_all is_printable (first ++ spaced others) ≡ true
all_stand first others e h = list_all-append is_printable first (spaced others)
    ∙ and_from _ _ (weaker is_word_byte is_printable may_stand first e) (go others h)
  where
    go : (ws : List (List ℕ)) → AreWords ws → list_all is_printable (spaced ws) ≡ true
    go [] h = refl
    go (w ∷ ws) h = list_all-append is_printable w (spaced ws)
        ∙ and_from _ _ (weaker is_word_byte is_printable may_stand w h.0.bytes) (go ws h.1)

none_empty : (ws : List (List ℕ)) → AreWords ws → list_any is_empty ws ≡ false
none_empty [] h = refl
none_empty (w ∷ ws) h = rw (h.0.some, none_empty ws h.1) refl

begins : (first more : List ℕ) → has_meaning first ≡ true
    → (has_meaning (first ++ more) ≡ true) × (is_empty first ≡ false)
begins first more e = grind arith

-- what reading a line needs to know of it
module _ (first : List ℕ) (others : List (List ℕ)) (h : IsLine first others) where
  pub line_read : (rest : List ℕ) → lines_of (line_of first others ++ rest) ≡ (first ++ spaced others) ∷ lines_of rest
  line_read rest =
      let same : line_of first others ++ rest ≡ (first ++ spaced others) ++ 10
      ∷ rest = append_assoc (first ++ spaced others) (10 ∷ []) rest in
      ap lines_of same ∙ line_cut (first ++ spaced others) rest (all_stand first others h.bytes h.words)

  pub line_stands : list_all is_printable (first ++ spaced others) ≡ true
  line_stands = all_stand first others h.bytes h.words

  pub line_means : has_meaning (first ++ spaced others) ≡ true
  line_means = (begins first (spaced others) h.meaning).0

  pub line_says : (s : Statement) → said_by (first ∷ others) ≡ Some s → statement_of (first ++ spaced others) ≡ Some s
  line_says s e =
      let some : is_empty first ≡ false = (begins first [] h.meaning).1 in
      rw (words_are first others h.bytes h.words, some, none_empty others h.words) e

-- 3. Names and numbers

name_length : (n : List ℕ) → is_name n ≡ true → length n ≤ 16
name_length n e = grind arith

letter_byte : (b : ℕ) → is_letter b ≡ true → is_word_byte b ≡ true
letter_byte b e = grind (arith, nat_tests, e)

name_byte : (b : ℕ) → is_name_byte b ≡ true → is_word_byte b ≡ true
name_byte b e = grind (arith, nat_tests, e)

pub name_word : (n : List ℕ) → is_name n ≡ true → IsWord n × (length n ≤ 16)
name_word [] e = absurd (false≢true e)
name_word (b ∷ bs) e =
    let s = and_parts _ _ e in
    let t = and_parts _ _ s.0 in
    let few : length (b ∷ bs) ≤ 16 = name_length (b ∷ bs) e in (
      record {
        some = refl;
        bytes = and_from _ _ (letter_byte b t.1) (weaker is_name_byte is_word_byte name_byte bs s.1);
        short = omega (arith, few);
      },
      few,
    )

digit : (b : ℕ) → digit_value b < 10
    → (is_digit b ≡ true) × (is_word_byte b ≡ true) × (digit_value b ≡ b - 48) × (48 ≤ b)
digit b h =
    let d = digit_from_value b h in
    let v = digit_value_digit b d in
    (grind (arith, nat_tests, d), grind (arith, nat_tests, d), omega (arith, v, d), omega (arith, d))

all_digits : (ds : List ℕ) → parse.AllDigits 10 ds → (list_all is_digit ds ≡ true) × (list_all is_word_byte ds ≡ true)
all_digits [] h = (refl, refl)
all_digits (b ∷ bs) h =
    let d = digit b h.0 in
    let r = all_digits bs h.1 in
    (and_from _ _ d.0 r.0, and_from _ _ d.1 r.1)

same_value : (n : ℕ) (ds : List ℕ) → parse.AllDigits 10 ds
    → fold (λ n b. 10 * n + (b - 48)) n ds ≡ parse.digits_value_after 10 n ds
same_value n [] h = refl
same_value n (b ∷ bs) h =
    let d = digit b h.0 in
    let e : 10 * n + (b - 48) ≡ n * 10 + digit_value b = omega (arith, d.2) in
    ap (λ m. fold (λ n b. 10 * n + (b - 48)) m bs) e ∙ same_value (n * 10 + digit_value b) bs h.1

numeral : (n : ℕ) (ds : List ℕ) → decimal n ≡ ds → n < 2 ^ 64 → parse.AllDigits 10 ds → is_numeral ds ≡ true
numeral n [] e small h = absurd (omega (arith, ap length e, (decimal_is_IsNumeral n small).0.0))
numeral n (b ∷ []) e small h = (digit b h.0).0
numeral n (b ∷ c ∷ bs) e small h = and_from _ _ (ap not (ne_eqb b 48 other)) (all_digits (b ∷ c ∷ bs) h).0
  where
    other : b ≡ 48 → ⊥
    other q = elim (cases_eq n 0) [
      | inl z ↦ omega (arith, ap length (sym e ∙ ap decimal z ∙ decimal_digit 0 (omega arith)))
      | inr z ↦ omega (arith, q, ap (λ (l : List ℕ). get_or l 0 0) e, first_decimal n (omega (arith, z)) small)
    ]

module _ (n : ℕ) (small : n < 2 ^ 64) where
  is_digits : parse.AllDigits 10 (decimal n)
  is_digits = (decimal_is_IsNumeral n small).0.1

  filled : (ds : List ℕ) → 0 < length ds → is_empty ds ≡ false
  filled ds h = grind arith

  pub decimal_word : IsWord (decimal n)
  decimal_word = record {
    some = filled (decimal n) (decimal_is_IsNumeral n small).0.0;
    bytes = (all_digits (decimal n) is_digits).1;
    short = length-decimal-le 20 n (omega arith) (omega (arith, small)) small;
  }

  -- the number that a decimal number spells
  pub decimal_number : (bound : ℕ) → n ≤ bound → number_up_to bound (decimal n) ≡ Some n
  decimal_number bound within =
      let value : digits_value (decimal n) ≡ n = same_value 0 (decimal n) is_digits
      ∙ (decimal_is_IsNumeral n small).1 in
      rw (numeral n (decimal n) refl small is_digits, value, le-leb n bound within) refl

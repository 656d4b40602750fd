-- How the front of a source is its first line, and the front of a line its first word.
use Rattle.std.proofs.Common.{◌≡◌, if◌then◌else◌, ℕ, ◌-◌, drop, get_or, IfNone, add-one, one-add, drop-cons, length-drop, ◌≤◌, nat_lt, nat_le, cond, ◌+◌, Bool, true, false, not, ◌&&◌, ◌==◌, List, [], ◌∷◌, ◌++◌, length, take, Option, Some, None, position, refl, sym, ap, ◌∙◌, subst, arith, true≢false}
use Rattle.std.proofs.lemmas.Bool.{false≢true, eqb-true}
use Rattle.std.specs.List.{list_all, list_any, prefix_len}
use Rattle.std.proofs.lemmas.Bool.Decides.{nat_tests}
use Rattle.std.proofs.lemmas.Option.{cond_some}
use Rattle.std.proofs.lemmas.List.{take_all, take-append-drop}
use Rattle.std.proofs.lemmas.List.Quantifiers.{position-Some}
use Rattle.lock_model.specs.Script.Lines.{lines_of, words_of, onto_first, is_printable}
use Rattle.lock_model.specs.Counts.{is_empty}
use Rattle.lock_model.specs.Script.Statements.{Statement, Alone, WithOne, WithTwo, WithThree, WithSome, said}
use Rattle.script_read.specs.Statements.{said_by_words}
use Rattle.script_read.specs.Reading.{Lacks}

-- what a byte string lacks, its first byte isn't, and the rest lacks it
pub lacks-first : (byte b : ℕ) (bs : List ℕ) → Lacks byte (b ∷ bs) → ((b == byte) ≡ false) × Lacks byte bs
lacks-first byte b bs h = by (b == byte) refl h
  where
    by : (t : Bool) → (b == byte) ≡ t → (not t && list_all (λ x. not (x == byte)) bs) ≡ true
        → ((b == byte) ≡ false) × Lacks byte bs
    by true e h = absurd (false≢true h)
    by false e h = (e, h)

-- what stands before the first byte that fails a test passes it
all_before : (p : ℕ → Bool) (bs : List ℕ) → list_all p (take (prefix_len p bs) bs) ≡ true
all_before p [] = refl
all_before p (b ∷ bs) = by (p b) refl (all_before p bs)
  where
    by : (t : Bool) → p b ≡ t → list_all p (take (prefix_len p bs) bs) ≡ true
        → list_all p (take (cond t (1 + prefix_len p bs) 0) (b ∷ bs)) ≡ true
    by true e h = rw (one-add, e) h
    by false e h = refl

-- what stands before the first place of a byte lacks it
pub lacks_before : (byte : ℕ) (bs : List ℕ) (i : ℕ) → position (λ b. b == byte) bs ≡ Some i → Lacks byte (take i bs)
lacks_before byte bs i h =
    let p = cond_some (nat_lt (prefix_len (λ b. not (b == byte)) bs) (length bs)) _ i h in
    subst (λ (n : ℕ). Lacks byte (take n bs)) p.1 (all_before (λ b. not (b == byte)) bs)

-- and bytes with no such place lack it
pub lacks_all : (byte : ℕ) (bs : List ℕ) → position (λ b. b == byte) bs ≡ None → Lacks byte bs
lacks_all byte bs h =
    let n = prefix_len (λ b. not (b == byte)) bs in
    let past : length bs ≤ n = grind (arith, nat_tests) in
    subst (Lacks byte) (take_all n bs past) (all_before (λ b. not (b == byte)) bs)

-- bytes are what stands before the first place of a byte, that byte, and what stands behind it
pub cut_at : (byte : ℕ) (bs : List ℕ) (i : ℕ) → position (λ b. b == byte) bs ≡ Some i
    → bs ≡ take i bs ++ byte ∷ take (length bs - (i + 1)) (drop (i + 1) bs)
cut_at byte bs i h =
    let p = position-Some (λ b. b == byte) bs i byte h in
    let here : get_or bs i byte ≡ byte = eqb-true _ _ p.1 in
    let rest : take (length bs - (i + 1)) (drop (i + 1) bs)
    ≡ drop (i + 1) bs = take_all _ _ (simp length-drop (omega arith)) in
    let more : drop i bs ≡ byte ∷ drop (i + 1) bs = rw (add-one, drop-cons bs i byte p.0, here) refl in
    sym (take-append-drop i bs) ∙ ap (λ (r : List ℕ). take i bs ++ r) (more ∙ ap (λ (r : List ℕ). byte ∷ r) (sym rest))

-- where nothing was found, whatever the answer
pub if_none : {A : Type 0} (r : Option A) (P : Type 0) → P → IfNone r P
if_none None P p = p
if_none (Some x) P p = tt

-- 1. Lines

lines-step : (b : ℕ) (bs line : List ℕ) (more : List (List ℕ)) → (b == 10) ≡ false → lines_of bs ≡ line ∷ more
    → lines_of (b ∷ bs) ≡ (b ∷ line) ∷ more
lines-step b bs line more h e = rw (h, e) refl

-- a line that ends
pub lines-cut : (line rest : List ℕ) → Lacks 10 line → lines_of (line ++ 10 ∷ rest) ≡ line ∷ lines_of rest
lines-cut [] rest h = refl
lines-cut (b ∷ line) rest h =
    let p = lacks-first 10 b line h in
    lines-step b (line ++ 10 ∷ rest) line (lines_of rest) p.0 (lines-cut line rest p.1)

-- a last line that doesn't end
pub lines-last : (b : ℕ) (line : List ℕ) → Lacks 10 (b ∷ line) → lines_of (b ∷ line) ≡ (b ∷ line) ∷ []
lines-last b [] h = rw ((lacks-first 10 b [] h).0) refl
lines-last b (c ∷ line) h =
    let p = lacks-first 10 b (c ∷ line) h in
    lines-step b (c ∷ line) (c ∷ line) [] p.0 (lines-last c line p.1)

pub lines-whole : (line : List ℕ) → (length line == 0) ≡ false → Lacks 10 line → lines_of line ≡ line ∷ []
lines-whole [] n h = absurd (true≢false n)
lines-whole (b ∷ line) n h = lines-last b line h

-- bytes that may stand in a script are no line end
both : (a b : Bool) → (a && b) ≡ true → (a ≡ true) × (b ≡ true)
both true b h = (refl, h)
both false b h = absurd (false≢true h)

pub printable-lacks : (bs : List ℕ) → list_all is_printable bs ≡ true → Lacks 10 bs
printable-lacks [] h = refl
printable-lacks (b ∷ bs) h =
    let p = both (is_printable b) (list_all is_printable bs) h in
    let above = both (nat_le 32 b) (nat_le b 126) p.0 in
    let other : (b == 10) ≡ false = grind (arith, nat_tests, above.0) in
    rw other (printable-lacks bs p.1)

-- what stands before the first byte that may not
twice : (b : Bool) → not (not b) ≡ b
twice true = refl
twice false = refl

all_twice : (bs : List ℕ) → list_all (λ b. not (not (is_printable b))) bs ≡ list_all is_printable bs
all_twice [] = refl
all_twice (b ∷ bs) = rw (twice (is_printable b), all_twice bs) refl

pub printable-before : (bs : List ℕ) (i : ℕ) → position (λ b. not (is_printable b)) bs ≡ Some i
    → list_all is_printable (take i bs) ≡ true
printable-before bs i h =
    let p = cond_some (nat_lt (prefix_len (λ b. not (not (is_printable b))) bs) (length bs)) _ i h in
    sym (all_twice (take i bs))
    ∙ subst (λ (n : ℕ). list_all (λ b. not (not (is_printable b))) (take n bs) ≡ true) p.1
    (all_before (λ b. not (not (is_printable b))) bs)

-- 2. Words

words-step : (b : ℕ) (bs word : List ℕ) (more : List (List ℕ)) → (b == 32) ≡ false → words_of bs ≡ word ∷ more
    → words_of (b ∷ bs) ≡ (b ∷ word) ∷ more
words-step b bs word more h e = rw (h, e) refl

-- a word with a space behind it
pub words-cut : (word rest : List ℕ) → Lacks 32 word → words_of (word ++ 32 ∷ rest) ≡ word ∷ words_of rest
words-cut [] rest h = refl
words-cut (b ∷ word) rest h =
    let p = lacks-first 32 b word h in
    words-step b (word ++ 32 ∷ rest) word (words_of rest) p.0 (words-cut word rest p.1)

-- a last word
pub words-last : (word : List ℕ) → Lacks 32 word → words_of word ≡ word ∷ []
words-last [] h = refl
words-last (b ∷ word) h =
    let p = lacks-first 32 b word h in
    words-step b word word [] p.0 (words-last word p.1)

-- whether a word is empty of those that begin here or, where one has begun, of those behind it
abbrev pub any_empty : Bool → List (List ℕ) → Bool
any_empty true words = list_any is_empty words
any_empty false [] = false
any_empty false (w ∷ ws) = list_any is_empty ws

-- 3. What stands behind a first word

-- a text has a word
words_are : (bs : List ℕ) → (w : List ℕ) × (ws : List (List ℕ)) × (words_of bs ≡ w ∷ ws)
words_are [] = ([], [], refl)
words_are (b ∷ bs) = by (b == 32) (words_of bs)
  where
    by : (t : Bool) (parts : List (List ℕ))
        → (w : List ℕ) × (ws : List (List ℕ)) × ((if t then [] ∷ parts else onto_first b parts) ≡ w ∷ ws)
    by true parts = ([], parts, refl)
    by false [] = (b ∷ [], [], refl)
    by false (part ∷ parts) = (b ∷ part, parts, refl)

-- nothing is said, whether or not a word is empty
none_either : (b : Bool) (s : Option Statement) → s ≡ None → None ≡ (if b then None else s)
none_either true s e = refl
none_either false s e = sym e

-- one too many, behind a word that stands alone or has one behind it
pub alone_more : (s : Statement) (bs : List ℕ) → None ≡ said_by_words (Alone s) (words_of bs)
unfolding said_by_words
alone_more s bs = let w = words_are bs in none_either (list_any is_empty (words_of bs)) _ (ap (said (Alone s)) w.2)

pub one_more : (f : List ℕ → Statement) (w bs : List ℕ) → None ≡ said_by_words (WithOne f) (w ∷ words_of bs)
unfolding said_by_words
one_more f w bs = let v = words_are bs in
    none_either (list_any is_empty (w ∷ words_of bs)) _ (ap (λ (ws : List (List ℕ)). said (WithOne f) (w ∷ ws)) v.2)

-- where none of them is empty
pub some_filled : (f : List (List ℕ) → Statement) (bs : List ℕ) → list_any is_empty (words_of bs) ≡ false
    → Some (f (words_of bs)) ≡ said_by_words (WithSome f) (words_of bs)
unfolding said_by_words
some_filled f bs e = let w = words_are bs in rw (e, w.2) refl

-- the first of two words, and of three
two_more : (f : List ℕ → List ℕ → Statement) (w : List ℕ) (ws : List (List ℕ))
    → said (WithOne (f w)) ws ≡ said (WithTwo f) (w ∷ ws)
two_more f w [] = refl
two_more f w (a ∷ []) = refl
two_more f w (a ∷ b ∷ ws) = refl

three_more : (f : List ℕ → List ℕ → List ℕ → Statement) (w : List ℕ) (ws : List (List ℕ))
    → said (WithTwo (f w)) ws ≡ said (WithThree f) (w ∷ ws)
three_more f w [] = refl
three_more f w (a ∷ []) = refl
three_more f w (a ∷ b ∷ []) = refl
three_more f w (a ∷ b ∷ c ∷ ws) = refl

pub two_filled : (f : List ℕ → List ℕ → Statement) (w : List ℕ) (ws : List (List ℕ)) → is_empty w ≡ false
    → said_by_words (WithOne (f w)) ws ≡ said_by_words (WithTwo f) (w ∷ ws)
unfolding said_by_words
two_filled f w ws e = rw e (ap (λ (s : Option Statement). if list_any is_empty ws then None else s) (two_more f w ws))

pub three_filled : (f : List ℕ → List ℕ → List ℕ → Statement) (w : List ℕ) (ws : List (List ℕ)) → is_empty w ≡ false
    → said_by_words (WithTwo (f w)) ws ≡ said_by_words (WithThree f) (w ∷ ws)
unfolding said_by_words
three_filled f w ws e =
    rw e (ap (λ (s : Option Statement). if list_any is_empty ws then None else s) (three_more f w ws))

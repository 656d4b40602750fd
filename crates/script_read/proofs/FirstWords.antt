-- Each first word has a place of its own, so a word is compared with one of them alone.
use Rattle.std.proofs.Common.{◌≡◌, ℕ, zero, suc, Bool, true, false, cond, List, [], ◌∷◌, drop, map, get_or, slice_get, Option, Some, None, option_map, refl, sym, ap, ◌∙◌, true≢false}
use Rattle.std.specs.Map.{lookup}
use Rattle.std.proofs.lemmas.Slice.Eq.{bytes_eq-Decides}
use Rattle.lock_model.specs.Script.Lines.{is_same}
use Rattle.lock_model.specs.Script.Statements.{form_of}
use Rattle.script_read.specs.Statements.{form, place, row, verb_at, word}
use Rattle.script_read.specs.declared.statement.TheConstants.{VERBS, VERB_AT}
use Rattle.script_read.specs.declared.statement.Verb.{Verb}

-- verbs that stand at the places of their words
abbrev Placed : List Verb → Type 0
Placed vs = map (λ v. verb_at (word v)) vs ≡ map Some vs

all_placed : Placed VERBS
all_placed = refl

first_placed : (v : Verb) (vs : List Verb) → Placed (v ∷ vs) → verb_at (word v) ≡ Some v
first_placed v vs p = ap (λ l. get_or l 0 None) p

rest_placed : (v : Verb) (vs : List Verb) → Placed (v ∷ vs) → Placed vs
rest_placed v vs p = ap (drop 1) p

-- whether the word is the first word of that verb, where there is one
abbrev is_word_of : List ℕ → Option Verb → Bool
is_word_of w None = false
is_word_of w (Some v) = is_same w (word v)

same_is : (w u : List ℕ) → is_same w u ≡ true → w ≡ u
same_is w u e = (bytes_eq-Decides w u).0 e

-- a word that isn't the one at its place is none of them
none_there : (w : List ℕ) (vs : List Verb) → Placed vs → is_word_of w (verb_at w) ≡ false
    → lookup (is_same w) (map row vs) ≡ None
none_there w [] p h = refl
none_there w (v ∷ vs) p h = by (is_same w (word v)) refl (none_there w vs (rest_placed v vs p) h)
  where
    by : (b : Bool) → is_same w (word v) ≡ b → lookup (is_same w) (map row vs) ≡ None
        → cond b (Some (form v)) (lookup (is_same w) (map row vs)) ≡ None
    by true e more = absurd
        (true≢false (sym e ∙ ap (is_word_of w) (sym (ap verb_at (same_is w (word v) e) ∙ first_placed v vs p)) ∙ h))
    by false e more = more

-- and one that is says what that says
one_there : (w : List ℕ) (v : Verb) (vs : List Verb) (k : ℕ) → Placed vs → verb_at w ≡ Some v → slice_get vs k ≡ Some v
    → is_same w (word v) ≡ true → lookup (is_same w) (map row vs) ≡ Some (form v)
one_there w v [] k p at here same = absurd (cc)
one_there w v (u ∷ vs) zero p at here same = rw (ap (is_word_of w) here ∙ same) (ap (option_map form) here)
one_there w v (u ∷ vs) (suc k) p at here same =
    by (is_same w (word u)) refl (one_there w v vs k (rest_placed u vs p) at here same)
  where
    by : (b : Bool) → is_same w (word u) ≡ b → lookup (is_same w) (map row vs) ≡ Some (form v)
        → cond b (Some (form u)) (lookup (is_same w) (map row vs)) ≡ Some (form v)
    by true e more = ap (option_map form) (sym (ap verb_at (same_is w (word u) e) ∙ first_placed u vs p) ∙ at)
    by false e more = more

pub unknown_word : (w : List ℕ) → verb_at w ≡ None → None ≡ form_of w
unknown_word w e = sym (none_there w VERBS all_placed (ap (is_word_of w) e))

pub other_word : (w : List ℕ) (v : Verb) → verb_at w ≡ Some v → is_same w (word v) ≡ false → None ≡ form_of w
other_word w v at other = sym (none_there w VERBS all_placed (ap (is_word_of w) at ∙ other))

pub known_word : (w : List ℕ) (v : Verb) → verb_at w ≡ Some v → is_same w (word v) ≡ true → Some (form v) ≡ form_of w
known_word w v at same = sym (one_there w v VERBS (get_or VERB_AT (place w) 0) all_placed at at same)

-- The rows of a parse are what was given, in turn; and how a use of an argument changes them.
use Rattle.std.proofs.Common.{◌≡◌, ◌∙◌, ◌≤◌, ◌<◌, ◌^◌, ℕ, Bool, cond, true, false, not, refl, sym, ap, ap₂, arith, List, [], ◌∷◌, ◌++◌, ◌||◌, ◌&&◌, map, Option, Some, None, is_some, append-nil, true≢false, nat_lt}
use Rattle.std.specs.Prelude.{nat_le, option_and_then, option_map, slice_get}
use Rattle.std.specs.List.{find, list_all}
use Rattle.std.specs.Option.{option_map_or}
use Rattle.std.specs.Str.{bytes_eq}
use Rattle.std.proofs.Math.Bool.{and-false, and-true}
use Rattle.std.proofs.lemmas.Bool.{and_parts, lt-leb, ltb-false, not-true}
use Rattle.std.proofs.lemmas.List.{map-append}
use Rattle.std.proofs.lemmas.List.Folds.{list_all-append}
use Rattle.std.proofs.lemmas.Option.{none-some, same_Some}
use Rattle.std.proofs.lemmas.Slice.Eq.{bytes_eq-Decides}
use Rattle.clap.proofs.WalkLemmas.{find-map, list_any-map}
use Rattle.clap.specs.Kinds.{Kinds, or_else}
use Rattle.clap.specs.Faults.{use_fault}
use Rattle.clap.specs.Values.{reading_of, refused_kind}
use Rattle.clap.specs.ValueTests.{accepts}
use Rattle.clap.specs.Walk.{Row, at_row, first_of, has_row, more_values, used, without}
use Rattle.clap.specs.declared.error.kind.ErrorKind.TheVariants as kind
use Rattle.clap.specs.declared.builder.value_parser.Reading.TheVariants.{AsWritten}
use Rattle.clap.specs.declared.builder.value_parser.ValueParser.TheVariants.{Unsigned}
use Rattle.clap.specs.declared.parser.matches.ValueSource.TheVariants.{CommandLine}
use Rattle.option_words.specs.Forms.{Given, Text, given_to, is_between, is_number, is_taken, is_taken_by, number_of}
use Rattle.option_words.specs.Rule.{FitsKind, parser_of}
use Rattle.option_words.specs.Words.{kind_of, table_of}
use Rattle.option_words.specs.declared.synopsis.Synopsis.{Synopsis}
use Rattle.option_words.specs.declared.synopsis.ValueKind.{ValueKind}
use Rattle.option_words.specs.declared.synopsis.ValueKind.TheVariants.{AnyText, Number, OneOf}
use Rattle.option_words.proofs.Mistakes.{IsMistake, is_mistake}
use Rattle.option_words.proofs.Rules.{IsSlot, Slot, any_found, single}

abbrev pub row_for : Text × Text → Row
row_for g = record {
  id = g.0;
  values = g.1 ∷ [];
  count = None;
  source = Some CommandLine;
  reading = AsWritten;
}

abbrev pub rows_for : Given → List Row
rows_for given = map row_for given

abbrev found_in : Text → Given → Option (Text × Text)
found_in name given = find (λ (g : Text × Text). bytes_eq g.0 name) given

-- ---- what they tell

pub row_found : (name : Text) (given : Given)
    → find (λ r. bytes_eq r.id name) (rows_for given) ≡ option_map row_for (found_in name given)
row_found name given = sym (find-map (λ r. bytes_eq r.id name) row_for given)

pub has_row-rows : (name : Text) (given : Given) → has_row name (rows_for given) ≡ is_some (given_to name given)
has_row-rows name given =
    any_found (λ r. bytes_eq r.id name) (rows_for given) ∙ ap is_some (row_found name given) ∙ go (found_in name given)
  where
    go : (o : Option (Text × Text))
        → is_some (option_map row_for o) ≡ is_some (option_map (λ (g : Text × Text). g.1) o)
    go None = refl
    go (Some g) = refl

pub first_of-rows : (name : Text) (given : Given) → first_of name (rows_for given) ≡ given_to name given
first_of-rows name given = ap (option_and_then first) (row_found name given) ∙ go (found_in name given)
  where
    first : Row → Option Text
    first r = slice_get r.values 0

    go : (o : Option (Text × Text))
        → option_and_then first (option_map row_for o) ≡ option_map (λ (g : Text × Text). g.1) o
    go None = refl
    go (Some g) = refl

-- ---- a use of an argument

at_row_none : (id : Text) (change : Row → List Row) (missing rows : List Row) → has_row id rows ≡ false
    → at_row id change missing rows ≡ rows ++ missing
at_row_none id change missing [] none = refl
at_row_none id change missing (r ∷ rows) none = go (bytes_eq r.id id) none (at_row_none id change missing rows)
  where
    go : (b : Bool) → (b || has_row id rows) ≡ false
        → (has_row id rows ≡ false → at_row id change missing rows ≡ rows ++ missing)
        → cond b (change r ++ rows) (r ∷ at_row id change missing rows) ≡ r ∷ (rows ++ missing)
    go true e rest = absurd (true≢false e)
    go false e rest = ap (λ rs. r ∷ rs) (rest e)

joined : (id : Text) (change : Row → List Row) (row : Row) (rows : List Row) → has_row id rows ≡ false
    → at_row id change (row ∷ []) (without id rows) ≡ rows ++ row ∷ []
joined id change row rows none =
    ap (at_row id change (row ∷ [])) (at_row_none id (λ _. []) [] rows none ∙ append-nil rows)
    ∙ at_row_none id change (row ∷ []) rows none

as_written : (k : ValueKind) → reading_of (parser_of k) ≡ AsWritten
as_written (Number least most) = refl
as_written AnyText = refl
as_written (OneOf names) = refl

-- of one that wasn't given yet
pub used_first : (x : Slot) (text : Text) (given : Given) → is_some (given_to x.id given) ≡ false
    → used (single x) (text ∷ []) (rows_for given) ≡ rows_for (given ++ (x.id, text) ∷ [])
used_first x text given none =
    ap (λ how. at_row x.id more (record row { reading = how } ∷ []) (without x.id (rows_for given))) (as_written x.kind)
    ∙ joined x.id more row (rows_for given) (has_row-rows x.id given ∙ none)
    ∙ sym (map-append row_for given ((x.id, text) ∷ []))
  where
    row : Row
    row = row_for (x.id, text)

    more : Row → List Row
    more = more_values CommandLine (text ∷ [])

-- ---- whether it fails

accepted_number : (least most : ℕ) (text : Text) → most < 2 ^ 32
    → accepts false (Unsigned least most) text ≡ is_between least most text
accepted_number least most text small = go (nat_lt n (2 ^ 64)) refl
  where
    n : ℕ
    n = number_of text

    go : (b : Bool) → nat_lt n (2 ^ 64) ≡ b
        → (is_number text && (b && (nat_le least n && nat_le n most))) ≡ is_between least most text
    go true e = refl
    go false e =
        let big : 2 ^ 64 ≤ n = ltb-false _ _ e in
        let past : nat_le n most ≡ false = lt-leb _ _ (omega arith) in
        rw past (ap (λ x. is_number text && x) (sym (and-false (nat_le least n))))

-- `clap` takes just the texts of the kind
accepted : (k : ValueKind) (text : Text) → FitsKind k → accepts false (parser_of k) text ≡ is_taken (kind_of k) text
accepted (Number least most) text fits = accepted_number least most text fits
accepted AnyText text fits = refl
accepted (OneOf names) text fits = list_any-map (λ n. bytes_eq n text) (λ n. n.now) names.now

refused_mistake : (k : ValueKind) → IsMistake (refused_kind (parser_of k) ∷ [])
refused_mistake (Number least most) = refl
refused_mistake AnyText = refl
refused_mistake (OneOf names) = refl

-- the first text of an argument, and of its kind
abbrev pub fits : Slot → Given → Text → Bool
fits x given text = not (is_some (given_to x.id given)) && is_taken (kind_of x.kind) text

abbrev pub use_of : Slot → List Text → List Row → Kinds
use_of x texts rows = use_fault false (single x) texts rows

abbrev fault_by : Bool → Bool → ValueKind → Kinds
fault_by told taken k =
    or_else (cond told (kind.ArgumentConflict ∷ []) []) (or_else (cond taken [] (refused_kind (parser_of k) ∷ [])) [])

use_is : (x : Slot) (text : Text) (given : Given) → FitsKind x.kind → use_of x (text ∷ []) (rows_for given)
    ≡ fault_by (is_some (given_to x.id given)) (is_taken (kind_of x.kind) text) x.kind
use_is x text given small = ap₂ (λ told taken. fault_by told taken x.kind)
    (and-true (has_row x.id (rows_for given)) ∙ has_row-rows x.id given) (accepted x.kind text small)

pub use_fails : (x : Slot) (text : Text) (given : Given) → FitsKind x.kind → fits x given text ≡ false
    → IsMistake (use_of x (text ∷ []) (rows_for given))
use_fails x text given small e =
    ap is_mistake (use_is x text given small) ∙ go (is_some (given_to x.id given)) (is_taken (kind_of x.kind) text) e
  where
    go : (told taken : Bool) → (not told && taken) ≡ false → IsMistake (fault_by told taken x.kind)
    go true taken e = refl
    go false true e = absurd (true≢false e)
    go false false e = refused_mistake x.kind

pub record Passes (x : Slot) (text : Text) (given : Given) : Type 0 where
  pub first : is_some (given_to x.id given) ≡ false
  pub taken : is_taken (kind_of x.kind) text ≡ true
  pub none : use_of x (text ∷ []) (rows_for given) ≡ []

pub use_passes : (x : Slot) (text : Text) (given : Given) → FitsKind x.kind → fits x given text ≡ true
    → Passes x text given
use_passes x text given small e =
    let parts = and_parts (not (is_some (given_to x.id given))) (is_taken (kind_of x.kind) text) e in
    let first = not-true (is_some (given_to x.id given)) parts.0 in
    record {
      first = first;
      taken = parts.1;
      none = use_is x text given small ∙ ap₂ (λ told taken. fault_by told taken x.kind) first parts.1;
    }

-- ---- what was given was taken

abbrev pub AllTaken : Synopsis → Given → Type 0
AllTaken s given = list_all (λ (g : Text × Text). is_taken_by (table_of s) g.0 g.1) given ≡ true

pub taken_more : (s : Synopsis) (x : Slot) (given : Given) (text : Text) → IsSlot s x → AllTaken s given
    → is_taken (kind_of x.kind) text ≡ true → AllTaken s (given ++ (x.id, text) ∷ [])
taken_more s x given text known are is =
    list_all-append (λ (g : Text × Text). is_taken_by (table_of s) g.0 g.1) given ((x.id, text) ∷ [])
    ∙ ap₂ (λ a b. a && (b && true)) are (ap (λ o. option_map_or (λ f. is_taken f.kind text) o false) known.flag ∙ is)

pub given_taken : (s : Synopsis) (name text : Text) (given : Given) → AllTaken s given
    → given_to name given ≡ Some text → is_taken_by (table_of s) name text ≡ true
given_taken s name text [] are is = absurd (none-some text is)
given_taken s name text (g ∷ given) are is =
    let parts = and_parts (is_taken_by (table_of s) g.0 g.1) _ are in
    go (bytes_eq g.0 name) (bytes_eq-Decides g.0 name).0 is parts.0 (given_taken s name text given parts.1)
  where
    go : (b : Bool) → (b ≡ true → g.0 ≡ name)
        → option_map (λ (h : Text × Text). h.1) (cond b (Some g) (found_in name given)) ≡ Some text
        → is_taken_by (table_of s) g.0 g.1 ≡ true
        → (given_to name given ≡ Some text → is_taken_by (table_of s) name text ≡ true)
        → is_taken_by (table_of s) name text ≡ true
    go true same found here rest =
        ap₂ (is_taken_by (table_of s)) (sym (same refl)) (sym (same_Some g.1 text found)) ∙ here
    go false other found here rest = rest found

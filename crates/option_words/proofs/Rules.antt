-- The rule of a table as `clap` builds it, and what it finds there by a name or a place.
use Rattle.std.proofs.Common.{◌≡◌, ◌∙◌, ◌&&◌, ◌||◌, ℕ, Bool, cond, true, false, not, codes, refl, sym, ap, ap₂, subst, List, [], ◌∷◌, ◌++◌, map, Option, Some, None, is_some, take, append-nil}
use Rattle.std.specs.Prelude.{count_by, option_and_then, option_map, ◌+◌, ◌==◌}
use Rattle.std.specs.Borrow.{Bor}
use Rattle.std.specs.List.{before_first, find, list_all, list_any, position_or_len}
use Rattle.std.specs.Option.{option_map_or, option_or}
use Rattle.std.specs.Str.{bytes_eq}
use Rattle.std.proofs.Math.Numerals.{one-add}
use Rattle.std.proofs.Math.Bool.{and-false, or-false}
use Rattle.std.proofs.lemmas.Bool.{eq-eqb, true≢false}
use Rattle.std.proofs.lemmas.List.Elements.{All-head, All-tail}
use Rattle.std.proofs.lemmas.List.Folds.{find-append, list_all-append}
use Rattle.std.proofs.lemmas.Option.{none-some, option_and_then_some, same_Some}
use Rattle.std.proofs.lemmas.Slice.Eq.{bytes_eq-Decides}
use Rattle.clap.proofs.WalkLemmas.{find-map}
use Rattle.clap.specs.Lexer.{long_of, long_of_rest, strip_byte}
use Rattle.clap.specs.Walk.{Rule, arg_by_index, arg_by_long, has_long, has_short, arg_by_short, arg_by_id, is_early_multiple}
use Rattle.clap.specs.Simple.{Shape, built, filled_from, help_rule, is_buildable, is_ready, is_ready_leaf, new_rule, new_shape}
use Rattle.clap.specs.Faults.{is_free_app, is_simple_and_free}
use Rattle.clap.specs.declared.builder.range.ValueRange.{ValueRange}
use Rattle.clap.specs.declared.builder.value_parser.ValueParser.TheVariants.{String}
use Rattle.clap.specs.declared.builder.action.ArgAction.TheVariants.{Set}
use Rattle.option_words.specs.Forms.{Flag, Text, flag_of, operand, operand_of}
use Rattle.option_words.specs.Rule.{AllFit, FitsKind, operand_rule, operand_rules, option_rule, parser_of, rule_for, where_named}
use Rattle.option_words.specs.Words.{flag_for, kind_of, table_of}
use Rattle.option_words.specs.declared.synopsis.LongOption.{LongOption}
use Rattle.option_words.specs.declared.synopsis.Synopsis.{Synopsis}
use Rattle.option_words.specs.declared.synopsis.ValueKind.{ValueKind}
use Rattle.option_words.specs.declared.synopsis.ValueKind.TheVariants.{OneOf}

-- ---- the arguments, filled in

abbrev pub range_of : ℕ → ValueRange
range_of n = record { start_inclusive = n; end_inclusive = n }

-- one that takes one text: an option, or the operand
pub record Slot : Type 0 where
  pub id : Text
  pub kind : ValueKind
  pub long : Option Text
  pub index : Option ℕ
  pub required : Bool

abbrev pub single : Slot → Rule
single x = record (new_rule x.id) {
  long = x.long;
  index = x.index;
  action = Some Set;
  range = Some (range_of 1);
  value_names = 1;
  parser = Some (parser_of x.kind);
  required = x.required;
}

abbrev pub slot_for : LongOption → Slot
slot_for o = record { id = o.name.now; kind = o.kind; long = Some o.name.now; index = None; required = false }

abbrev pub operand_slot : Synopsis → Slot
operand_slot s = record { id = operand; kind = OneOf s.operands; long = None; index = Some 1; required = true }

abbrev pub flag_in : Slot → Flag
flag_in x = record { name = x.id; kind = kind_of x.kind }

abbrev pub whole_option : LongOption → Rule
whole_option o = single (slot_for o)

abbrev pub whole_operand : Synopsis → Rule
whole_operand s = single (operand_slot s)

abbrev pub whole_help : Rule
whole_help = record help_rule { range = Some (range_of 0); parser = Some String }

abbrev pub where_helped : Bool → Rule → List Rule
where_helped true rule = rule ∷ []
where_helped false rule = []

abbrev pub has_help : Synopsis → Bool
has_help s = is_some s.help

-- the operand's, the options' and the help's
abbrev first_rules : Synopsis → List Rule
first_rules s = where_named s.operands.now (whole_operand s)

abbrev more_rules : Synopsis → List Rule
more_rules s = map whole_option s.options.now ++ where_helped (has_help s) whole_help

abbrev pub rules : Synopsis → List Rule
rules s = first_rules s ++ more_rules s

abbrev pub shape : Synopsis → Shape
shape s = record (new_shape s.program.now) {
  rules = rules s;
  no_binary_name = true;
  disable_help_flag = not (has_help s);
  disable_help_subcommand = true;
  is_built = true;
}

-- ---- what is found among them

abbrev found_among : Option Rule → Option LongOption → Bool → Option Rule
found_among first option help =
    option_or first (option_or (option_map whole_option option) (cond help (Some whole_help) None))

-- each of the three is looked at by itself
found_as : (s : Synopsis) (p : Rule → Bool) (first : Option Rule) (q : LongOption → Bool) (help : Bool)
    → find p (first_rules s) ≡ first → ((o : LongOption) → p (whole_option o) ≡ q o) → p whole_help ≡ help
    → find p (rules s) ≡ found_among first (find q s.options.now) (has_help s && help)
found_as s p first q help is each last =
    find-append p (first_rules s) (more_rules s)
    ∙ ap₂ option_or is (find-append p (map whole_option s.options.now) (where_helped (has_help s) whole_help)
    ∙ ap₂ option_or (sym (find-map p whole_option s.options.now)
    ∙ ap (λ f. option_map whole_option (find f s.options.now)) (λ i o. each o i))
    (helped (has_help s) ∙ ap (λ b. cond (has_help s && b) (Some whole_help) None) last))
  where
    helped : (b : Bool) → find p (where_helped b whole_help) ≡ cond (b && p whole_help) (Some whole_help) None
    helped true = refl
    helped false = refl

-- where it isn't the operand
no_operand : (s : Synopsis) (p : Rule → Bool) → p (whole_operand s) ≡ false → find p (first_rules s) ≡ None
no_operand s p fails = go s.operands.now
  where
    go : (names : List (Bor Text)) → find p (where_named names (whole_operand s)) ≡ None
    go [] = refl
    go (name ∷ names) = ap (λ b. cond b (Some (whole_operand s)) None) fails

no_option : (options : List LongOption) → find (λ _. false) options ≡ None
no_option [] = refl
no_option (o ∷ options) = no_option options

-- where it can only be the operand
only_operand : (s : Synopsis) (p : Rule → Bool) → ((o : LongOption) → p (whole_option o) ≡ false) → p whole_help ≡ false
    → find p (rules s) ≡ find p (first_rules s)
only_operand s p each last =
    found_as s p (find p (first_rules s)) (λ _. false) false refl each last
    ∙ ap₂ (found_among (find p (first_rules s))) (no_option s.options.now) (and-false (has_help s))
    ∙ go (find p (first_rules s))
  where
    go : (o : Option Rule) → option_or o None ≡ o
    go None = refl
    go (Some a) = refl

-- the first option of a name
abbrev pub option_named : Synopsis → Text → Option LongOption
option_named s name = find (λ o. bytes_eq o.name.now name) s.options.now

pub flag_named : (s : Synopsis) (name : Text)
    → flag_of (table_of s) name ≡ option_map flag_for (option_named s name)
flag_named s name = sym (find-map (λ f. bytes_eq f.name name) flag_for s.options.now)

-- what a long name is the name of
pub data Named : Type 0 where
  option : LongOption → Named
  help : Named
  unknown : Named

abbrev pub named_by : Option LongOption → Bool → Named
named_by (Some o) is_help = option o
named_by None true = help
named_by None false = unknown

abbrev pub rule_named : Named → Option Rule
rule_named (option o) = Some (whole_option o)
rule_named help = Some whole_help
rule_named unknown = None

abbrev pub named_of : Synopsis → Text → Named
named_of s name = named_by (option_named s name) (has_help s && bytes_eq (codes "help") name)

pub long_named : (s : Synopsis) (name : Text) → arg_by_long (rules s) name ≡ rule_named (named_of s name)
long_named s name =
    found_as s named None (λ o. bytes_eq o.name.now name) (bytes_eq (codes "help") name)
    (no_operand s named refl) (λ o. or-false (bytes_eq o.name.now name)) (or-false (bytes_eq (codes "help") name))
    ∙ go (option_named s name) (has_help s && bytes_eq (codes "help") name)
  where
    named : Rule → Bool
    named a = not (is_some a.index) && has_long a name

    go : (o : Option LongOption) (b : Bool) → found_among None o b ≡ rule_named (named_by o b)
    go (Some o) b = refl
    go None true = refl
    go None false = refl

-- the help is the only one with a short name
pub short_named : (s : Synopsis) (x : ℕ)
    → arg_by_short (rules s) x ≡ cond (has_help s && 104 == x) (Some whole_help) None
short_named s x =
    found_as s lettered None (λ _. false) (104 == x) (no_operand s lettered refl) (λ o. refl) (or-false (104 == x))
    ∙ ap (λ o. found_among None o (has_help s && 104 == x)) (no_option s.options.now)
  where
    lettered : Rule → Bool
    lettered a = not (is_some a.index) && has_short a x

-- the operand is the only one with a place
abbrev pub has_operand : List (Bor Text) → Bool
has_operand [] = false
has_operand (name ∷ names) = true

abbrev pub operand_where : Synopsis → Bool → Option Rule
operand_where s there = cond there (Some (whole_operand s)) None

pub by_place : (s : Synopsis) (told : Bool)
    → arg_by_index (rules s) (cond told 2 1) ≡ operand_where s (not told && has_operand s.operands.now)
by_place s told = only_operand s (placed told) (λ o. refl) refl ∙ go s.operands.now told
  where
    placed : Bool → Rule → Bool
    placed told a = option_map_or (λ k. k == cond told 2 1) a.index false

    go : (names : List (Bor Text)) (told : Bool)
        → find (placed told) (where_named names (whole_operand s)) ≡ operand_where s (not told && has_operand names)
    go [] true = refl
    go [] false = refl
    go (name ∷ names) true = refl
    go (name ∷ names) false = refl

-- ---- an option that a word names

pub record IsOption (s : Synopsis) (o : LongOption) : Type 0 where
  pub first : option_named s o.name.now ≡ Some o
  pub other : o.name.now ≡ operand → ⊥
  pub fits : FitsKind o.kind

pub differs : (a b : Text) → (a ≡ b → ⊥) → bytes_eq a b ≡ false
differs a b other = go (bytes_eq a b) (bytes_eq-Decides a b).0
  where
    go : (r : Bool) → (r ≡ true → a ≡ b) → r ≡ false
    go true same = absurd (other (same refl))
    go false same = refl

-- an argument of the rule, with the texts that the table takes for it
pub record IsSlot (s : Synopsis) (x : Slot) : Type 0 where
  pub found : arg_by_id (rules s) x.id ≡ Some (single x)
  pub flag : find (λ f. bytes_eq f.name x.id) (operand_of (table_of s) ∷ (table_of s).options) ≡ Some (flag_in x)
  pub fits : FitsKind x.kind

pub option_slot : (s : Synopsis) (o : LongOption) → IsOption s o → IsSlot s (slot_for o)
option_slot s o is = record {
  found = found_as s (λ a. bytes_eq a.id o.name.now) None (λ a. bytes_eq a.name.now o.name.now) is_help
      (no_operand s (λ a. bytes_eq a.id o.name.now) differs_first) (λ a. refl) refl
      ∙ ap (λ a. found_among None a (has_help s && is_help)) is.first;
  flag = ap (λ b. cond b (Some (operand_of (table_of s))) (flag_of (table_of s) o.name.now)) differs_first
      ∙ flag_named s o.name.now ∙ ap (option_map flag_for) is.first;
  fits = is.fits;
}
  where
    is_help : Bool
    is_help = bytes_eq (codes "help") o.name.now

    differs_first : bytes_eq operand o.name.now ≡ false
    differs_first = differs operand o.name.now (λ e. is.other (sym e))

pub operand_known : (s : Synopsis) → has_operand s.operands.now ≡ true → IsSlot s (operand_slot s)
operand_known s has = record { found = go s.operands.now has; flag = refl; fits = tt }
  where
    go : (names : List (Bor Text)) → has_operand names ≡ true
        → arg_by_id (where_named names (whole_operand s) ++ more_rules s) operand ≡ Some (whole_operand s)
    go [] has = absurd (true≢false (sym has))
    go (name ∷ names) has = refl

-- a name that a word has ends before a `=`
name_ends : (text : Text) → before_first (λ x. x == 61) text ≡ operand → ⊥
name_ends [] e = cc
name_ends (x ∷ xs) e = go (x == 61) refl e
  where
    before : ℕ
    before = position_or_len (λ y. y == 61) xs

    go : (b : Bool) → (x == 61) ≡ b → take (cond (not b) (1 + before) 0) (x ∷ xs) ≡ operand → ⊥
    go true is e = cc
    go false is e =
        let taken : x ∷ take before xs ≡ operand = sym (ap (λ n. take n (x ∷ xs)) (one-add before)) ∙ e in
        let first : x ≡ 61 = cc in
        true≢false (sym (eq-eqb x 61 first) ∙ is)

pub word_named : (word : Text) (p : Text × Option Text) → long_of word ≡ Some p → p.0 ≡ operand → ⊥
word_named word p is e = option_and_then_some long_of_rest rest_of p is go
  where
    rest_of : Option Text
    rest_of = option_and_then (strip_byte 45) (strip_byte 45 word)

    go : (rest : Text) → rest_of ≡ Some rest → long_of_rest rest ≡ Some p → ⊥
    go [] from named = absurd (none-some p named)
    go (x ∷ rest) from named = name_ends (x ∷ rest) (ap (λ q. q.0) (same_Some _ p named) ∙ e)

pub option_known : (s : Synopsis) (name : Text) (o : LongOption) → AllFit s.options.now → (name ≡ operand → ⊥)
    → option_named s name ≡ Some o → IsOption s o
option_known s name o fit other named =
    let is = go s.options.now fit named in
    let same : o.name.now ≡ name = (bytes_eq-Decides o.name.now name).0 is.0 in
    record { first = ap (option_named s) same ∙ named; other = λ e. other (sym same ∙ e); fits = is.1 }
  where
    IsNamed : LongOption → Type 0
    IsNamed x = (bytes_eq x.name.now name ≡ true) × FitsKind x.kind

    named_among : List LongOption → Option LongOption
    named_among options = find (λ x. bytes_eq x.name.now name) options

    go : (options : List LongOption) → AllFit options → named_among options ≡ Some o → IsNamed o
    go [] fit none = absurd (none-some o none)
    go (x ∷ options) fit found =
        by (bytes_eq x.name.now name) refl found (go options (All-tail (λ x. FitsKind x.kind) x options fit))
      where
        by : (b : Bool) → bytes_eq x.name.now name ≡ b → cond b (Some x) (named_among options) ≡ Some o
            → (named_among options ≡ Some o → IsNamed o) → IsNamed o
        by true is found rest =
            subst IsNamed (same_Some x o found) (is, All-head (λ x. FitsKind x.kind) x options fit)
        by false is found rest = rest found

-- ---- the whole rule

all_named : (p : Rule → Bool) (names : List (Bor Text)) (rule : Rule) → p rule ≡ true
    → list_all p (where_named names rule) ≡ true
all_named p [] rule passes = refl
all_named p (name ∷ names) rule passes = ap (λ b. b && true) passes

all_options : (p : Rule → Bool) (rule_of : LongOption → Rule) → ((o : LongOption) → p (rule_of o) ≡ true)
    → (options : List LongOption) → list_all p (map rule_of options) ≡ true
all_options p rule_of each [] = refl
all_options p rule_of each (o ∷ options) = ap₂ (λ a b. a && b) (each o) (all_options p rule_of each options)

pub all_pass : (s : Synopsis) (p : Rule → Bool) → p (whole_operand s) ≡ true
    → ((o : LongOption) → p (whole_option o) ≡ true) → p whole_help ≡ true → list_all p (rules s) ≡ true
all_pass s p first each last =
    list_all-append p (first_rules s) (more_rules s)
    ∙ ap₂ (λ a b. a && b) (all_named p s.operands.now (whole_operand s) first)
    (list_all-append p (map whole_option s.options.now) (where_helped (has_help s) whole_help)
    ∙ ap₂ (λ a b. a && b) (all_options p whole_option each s.options.now) (helped (has_help s)))
  where
    helped : (b : Bool) → list_all p (where_helped b whole_help) ≡ true
    helped true = ap (λ b. b && true) last
    helped false = refl

pub any_found : {X : Type 0} (p : X → Bool) (xs : List X) → list_any p xs ≡ is_some (find p xs)
any_found p [] = refl
any_found p (x ∷ xs) = go (p x) (any_found p xs)
  where
    go : (b : Bool) → list_any p xs ≡ is_some (find p xs) → (b || list_any p xs) ≡ is_some (cond b (Some x) (find p xs))
    go true e = refl
    go false e = e

-- where it can only be the operand
pub any_operand : (s : Synopsis) (p : Rule → Bool) → ((o : LongOption) → p (whole_option o) ≡ false)
    → p whole_help ≡ false → list_any p (rules s) ≡ list_any p (where_named s.operands.now (whole_operand s))
any_operand s p each last =
    any_found p (rules s) ∙ ap is_some (only_operand s p each last) ∙ sym (any_found p (first_rules s))

-- as `clap` builds it
pub built_is : (s : Synopsis) → built (rule_for s) ≡ record { top = shape s; subs = [] }
built_is s = ap (λ (rs : List Rule). record { top = record (shape s) { rules = rs }; subs = [] })
    (filled_rules s.operands.now (has_help s))
  where
    options : List Rule
    options = map option_rule s.options.now

    given : List (Bor Text) → List Rule
    given names = where_named names (operand_rule s.operands) ++ options

    filled_each : (i : ℕ) (os : List LongOption) (rest : List Rule)
        → filled_from i (map option_rule os ++ rest) ≡ map whole_option os ++ filled_from i rest
    filled_each i [] rest = refl
    filled_each i (o ∷ os) rest = ap (λ rs. whole_option o ∷ rs) (filled_each i os rest)

    filled_options : (i : ℕ) (b : Bool) → filled_from i (cond (not b) options (options ++ help_rule ∷ []))
        ≡ map whole_option s.options.now ++ where_helped b whole_help
    filled_options i true = filled_each i s.options.now (help_rule ∷ [])
    filled_options i false = ap (filled_from i) (sym (append-nil options)) ∙ filled_each i s.options.now []

    filled_rules : (names : List (Bor Text)) (b : Bool)
        → filled_from 1 (cond (not b) (given names) (given names ++ help_rule ∷ []))
        ≡ where_named names (whole_operand s) ++ (map whole_option s.options.now ++ where_helped b whole_help)
    filled_rules [] b = filled_options 1 b
    filled_rules (name ∷ names) true = ap (λ rs. whole_operand s ∷ rs) (filled_options 2 true)
    filled_rules (name ∷ names) false = ap (λ rs. whole_operand s ∷ rs) (filled_options 2 false)

-- it is one of which `clap` says all
pub plain_rule : (s : Synopsis) → is_simple_and_free (rule_for s) ≡ true
plain_rule s =
    ap₂ (λ x b. (x && (is_ready b.top && list_all is_ready_leaf b.subs)) && is_free_app b) buildable (built_is s)
    ∙ ap₂ (λ x y. (x && true) && (y && true)) (ap₂ (λ x y. x && not y) simple early)
    (all_pass s (λ a. a.is_free) refl (λ o. refl) refl)
  where
    simple : list_all (λ a. a.is_simple) (rules s) ≡ true
    simple = all_pass s (λ a. a.is_simple) refl (λ o. refl) refl

    buildable : is_buildable (rule_for s) ≡ true
    buildable = ap (λ b. b && true)
        (list_all-append (λ a. a.is_simple) (operand_rules s) (map option_rule s.options.now)
        ∙ ap₂ (λ a b. a && b) (all_named (λ a. a.is_simple) s.operands.now (operand_rule s.operands) refl)
        (all_options (λ a. a.is_simple) option_rule (λ o. refl) s.options.now))

    is_early : Rule → Bool
    is_early = is_early_multiple (count_by (λ a. is_some a.index) (rules s))

    early : list_any is_early (rules s) ≡ false
    early = any_operand s is_early (λ o. refl) refl ∙ go s.operands.now
      where
        go : (names : List (Bor Text)) → list_any is_early (where_named names (whole_operand s)) ≡ false
        go [] = refl
        go (name ∷ names) = refl

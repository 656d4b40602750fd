-- One word from a state in which what was given is good: the words go on, ask for help or fail exactly as `clap` does.
use Rattle.std.proofs.Common.{◌≡◌, ◌∙◌, ℕ, Bool, cond, true, false, not, codes, refl, sym, ap, ap₂, subst, List, [], ◌∷◌, ◌++◌, ◌&&◌, ◌||◌, map, Option, Some, None, is_some, true≢false, nat_lt}
use Rattle.std.specs.Prelude.{option_map}
use Rattle.std.specs.Borrow.{Bor}
use Rattle.std.specs.List.{find, list_any}
use Rattle.std.specs.Option.{option_map_or, option_or}
use Rattle.std.specs.Str.{bytes_eq}
use Rattle.std.proofs.Math.Bool.{and-false, or-false, or-true}
use Rattle.std.proofs.lemmas.Bool.{and_parts, not-true}
use Rattle.std.proofs.lemmas.List.Folds.{find-append}
use Rattle.std.proofs.lemmas.Option.{none-some, same_Some}
use Rattle.std.proofs.lemmas.Slice.Eq.{bytes_eq-Decides}
use Rattle.clap.specs.Lexer.{long_of, short_of}
use Rattle.clap.specs.Kinds.{or_else}
use Rattle.clap.specs.Faults.{use_fault}
use Rattle.clap.specs.Walk.{Held, Row, Rule, Walk, after_step, arg_by_index, idle, is_pending, option, option_word, plain_word, pushed, settled, settled_rows, to_positional, used, used_by_id, value, walked}
use Rattle.clap.specs.Walk.{next as goes_on}
use Rattle.clap.specs.declared.error.kind.ErrorKind.TheVariants as kind
use Rattle.option_words.specs.Forms.{Given, Reading, Said, Text, AsksHelp, Fails, GoesOn, given_to, is_taken, operand, operand_of, short_flag, with_letter, with_long, with_option, with_text, with_word}
use Rattle.option_words.specs.Rule.{AllFit}
use Rattle.option_words.specs.Words.{flag_for, kind_of, table_of}
use Rattle.option_words.specs.declared.synopsis.LongOption.{LongOption}
use Rattle.option_words.specs.declared.synopsis.Synopsis.{Synopsis}
use Rattle.option_words.proofs.Mistakes.{IsMistake, is_mistake, neither, next_mistake}
use Rattle.option_words.proofs.Rules.{IsOption, IsSlot, Named, Slot, by_place, differs, flag_named, has_help, has_operand, help, named_by, named_of, operand_known, operand_slot, option_known, option_named, option_slot, rules, single, slot_for, unknown, whole_operand, word_named}
use Rattle.option_words.proofs.Rules.{option as names_option}
use Rattle.option_words.proofs.Rows.{AllTaken, fits, rows_for, taken_more, use_fails, use_of, use_passes, used_first}
use Rattle.option_words.proofs.Walks.{FailsFrom, LongWord, Pending, ReadsAs, at, awaiting, bad_help, bad_long, behind, bundle, doomed, doomed_over, fails_next, fails_now, fault_at, held, help_letter, helps_now, letter_of, long_word_of, looks_bad, looks_helped, no_letter, operand_fault, other_letter, pending_fault, reads_as, refused_at, rest_fault, value_fault}

-- ---- states

-- nothing is awaited, and what is pending, if anything, is good; or an option awaits its text
pub data Stage : Type 0 where
  rests : Pending → Bool → Stage
  awaits : LongOption → Stage

abbrev pub said_at : Stage → Given → Said
said_at (rests pending over) given = record { given = given; awaits = None; is_over = over }
said_at (awaits o) given = record { given = given; awaits = Some (flag_for o); is_over = false }

abbrev pub walk_at : Stage → List Row → Bool → Walk
walk_at (rests pending over) rows told = at rows pending idle told over
walk_at (awaits o) rows told = at rows (Some (o.name.now, [])) (awaiting (Some o.name.now)) told false

-- the operand was told
abbrev pub is_told : Given → Bool
is_told given = is_some (given_to operand given)

-- and with one more text
told_more : (id text : Text) (given : Given)
    → is_told (given ++ (id, text) ∷ []) ≡ (is_told given || bytes_eq id operand)
told_more id text given =
    ap (λ o. is_some (option_map (λ (g : Text × Text). g.1) o)) (find-append named given ((id, text) ∷ []))
    ∙ go (find named given) (bytes_eq id operand)
  where
    named : Text × Text → Bool
    named g = bytes_eq g.0 operand

    go : (o : Option (Text × Text)) (b : Bool)
        → is_some (option_map (λ (g : Text × Text). g.1) (option_or o (cond b (Some (id, text)) None)))
        ≡ (is_some (option_map (λ (g : Text × Text). g.1) o) || b)
    go None true = refl
    go None false = refl
    go (Some g) b = refl

-- a word where there are no names for an operand, or where it was told
no_place : (told : Bool) (names : List (Bor Text)) (word : Text) → (not told && has_operand names) ≡ false
    → (not told && list_any (λ n. bytes_eq n word) (map (λ n. n.now) names)) ≡ false
no_place true names word e = refl
no_place false [] word e = refl
no_place false (name ∷ names) word e = absurd (true≢false e)

module _ (s : Synopsis) where
  -- the rows are what was given
  pub record IsGiven (rows : List Row) (given : Given) (told : Bool) : Type 0 where
    pub is : rows ≡ rows_for given
    pub taken : AllTaken s given
    pub tells : is_told given ≡ told

  abbrev pub Stands : Stage → List Row → Given → Bool → Type 0
  Stands (rests pending over) rows given told =
      (pending_fault s (held rows pending) ≡ []) × IsGiven (settled_rows (rules s) pending rows) given told
  Stands (awaits o) rows given told = IsOption s o × IsGiven rows given told

  -- a word leads to such a state
  pub record Leads (w : Walk) (word : Text) (said : Said) : Type 0 where
    pub stage : Stage
    pub rows : List Row
    pub given : Given
    pub told : Bool
    pub is : said ≡ said_at stage given
    pub stands : Stands stage rows given told
    pub passes : refused_at s w word ≡ []
    pub next : behind s w word ≡ walk_at stage rows told

  -- or to a request for help, or to none: then `clap` refuses in the end, whatever comes
  abbrev pub Steps : Walk → Text → Reading → Type 0
  Steps w word (GoesOn said) = Leads w word said
  Steps w word AsksHelp = (words : List Text) → rest_fault s w (word ∷ words) ≡ kind.DisplayHelp ∷ []
  Steps w word Fails = (words : List Text) → FailsFrom s w (word ∷ words)

  -- ---- a text for an argument

  abbrev with_first : Bool → Slot → Given → Text → Bool → Reading
  with_first b x given text over =
      cond b (GoesOn (record { given = given ++ (x.id, text) ∷ []; awaits = None; is_over = over })) Fails

  settles : (x : Slot) → IsSlot s x → (rows : List Row) (texts : List Text)
      → pending_fault s (held rows (Some (x.id, texts))) ≡ use_of x texts rows
  settles x known rows texts = ap (λ o. option_map_or (λ a. use_fault false a texts rows) o []) known.found

  settled_as : (x : Slot) → IsSlot s x → (rows : List Row) (texts : List Text)
      → settled_rows (rules s) (Some (x.id, texts)) rows ≡ used (single x) texts rows
  settled_as x known rows texts = ap (λ o. used_by_id o texts rows) known.found

  pub unfinished : (o : LongOption) → IsOption s o → (rows : List Row)
      → IsMistake (pending_fault s (held rows (Some (o.name.now, []))))
  unfinished o known rows = ap is_mistake (settles (slot_for o) (option_slot s o known) rows [])

  still_told : (o : LongOption) (text : Text) (given : Given) (told : Bool) → IsOption s o → is_told given ≡ told
      → is_told (given ++ (o.name.now, text) ∷ []) ≡ told
  still_told o text given told known tells = told_more o.name.now text given
      ∙ ap₂ (λ a b. a || b) tells (differs o.name.now operand known.other) ∙ or-false told

  -- the word is pending as the text
  text_pends : (w : Walk) (word : Text) (x : Slot) → IsSlot s x → (rows : List Row) (given : Given)
      (told over : Bool) → rows ≡ rows_for given → AllTaken s given → is_told (given ++ (x.id, word) ∷ []) ≡ told
      → refused_at s w word ≡ [] → behind s w word ≡ at rows (Some (x.id, word ∷ [])) idle told over
      → Steps w word (with_first (fits x given word) x given word over)
  text_pends w word x known rows given told over is taken tells passes next = go (fits x given word) refl
    where
      go : (b : Bool) → fits x given word ≡ b → Steps w word (with_first b x given word over)
      go false e = λ words.
          let bad = ap is_mistake (settles x known rows (word ∷ []) ∙ ap (use_of x (word ∷ [])) is)
          ∙ use_fails x word given known.fits e in
          fails_next s w (at rows (Some (x.id, word ∷ [])) idle told over) word words passes next
          (doomed s rows (Some (x.id, word ∷ [])) told over bad words)
      go true e =
          let well = use_passes x word given known.fits e in
          record {
            stage = rests (Some (x.id, word ∷ [])) over;
            rows = rows;
            given = given ++ (x.id, word) ∷ [];
            told = told;
            is = refl;
            stands = (
              settles x known rows (word ∷ []) ∙ (ap (use_of x (word ∷ [])) is ∙ well.none),
              record {
                is = settled_as x known rows (word ∷ [])
                    ∙ (ap (used (single x) (word ∷ [])) is ∙ used_first x word given well.first);
                taken = taken_more s x given word known taken well.taken;
                tells = tells;
              },
            );
            passes = passes;
            next = next;
          }

  -- ---- a word in the operand's place

  abbrev with_operand : Given → Bool → Text → Reading
  with_operand given over word =
      with_text (record { given = given; awaits = None; is_over = over }) (operand_of (table_of s)) word

  to_operand : (rows : List Row) (pending : Pending) (over : Bool) (given : Given) (told : Bool) (w : Walk)
      (word : Text) → Stands (rests pending over) rows given told
      → refused_at s w word ≡ fault_at s told (held rows pending, value)
      → behind s w word ≡ to_positional (rules s) (arg_by_index (rules s) (cond told 2 1)) word
      (at rows pending idle told over) (held rows pending) → Steps w word (with_operand given over word)
  to_operand rows pending over given told w word st turn next = go (not told && has_operand s.operands.now) refl
    where
      h : Held
      h = held rows pending

      x : Slot
      x = operand_slot s

      placed : Bool → Option Rule → Walk
      placed t o = to_positional (rules s) o word (at rows pending idle t over) h

      pends : (t : Bool) → t ≡ false → placed t (Some (whole_operand s))
          ≡ at (settled_rows (rules s) pending rows) (Some (operand, word ∷ [])) idle true over
      pends t e = ap (λ t. placed t (Some (whole_operand s))) e ∙ ap₂ (λ b c. record {
        held = pushed operand word (cond b h (settled (rules s) h));
        waiting = idle;
        position = 2;
        is_trailing = c;
        stopped = None;
      }) (and-false (is_pending (whole_operand s) pending)) (or-false over)

      refused : (b : Bool) → (not told && has_operand s.operands.now) ≡ b → refused_at s w word ≡ operand_fault s b h
      refused b e = turn ∙ value_fault s told h ∙ ap (λ b. operand_fault s b h) e

      go : (b : Bool) → (not told && has_operand s.operands.now) ≡ b → Steps w word (with_operand given over word)
      go false e = subst (λ b. Steps w word (with_first b x given word over))
          (sym (ap (λ b. not b && is_taken (kind_of x.kind) word) st.1.tells ∙ no_place told s.operands.now word e))
          (λ words. fails_now s w word words (ap is_mistake (refused false e)))
      go true e =
          let parts = and_parts (not told) (has_operand s.operands.now) e in
          text_pends w word x (operand_known s parts.1) (settled_rows (rules s) pending rows) given true over
          st.1.is st.1.taken (told_more operand word given ∙ or-true (is_told given)) (refused true e ∙ st.0)
          (next ∙ ap (placed told) (by_place s told ∙ ap (λ b. cond b (Some (whole_operand s)) None) e)
          ∙ pends told (not-true told parts.0))

  -- ---- a long option where nothing is awaited

  abbrev with_named : Said → Named → Option Text → Reading
  with_named u (names_option o) v = with_option u (flag_for o) v
  with_named u help None = AsksHelp
  with_named u help (Some v) = Fails
  with_named u unknown v = Fails

  with_long_is : (u : Said) (p : Text × Option Text)
      → with_long (table_of s) u p ≡ with_named u (named_of s p.0) p.1
  with_long_is u p =
      ap (λ o. option_map_or (λ f. with_option u f p.1) o (cond asks AsksHelp Fails)) (flag_named s p.0)
      ∙ go (option_named s p.0) (has_help s) (bytes_eq (codes "help") p.0) p.1
    where
      asks : Bool
      asks = has_help s && (bytes_eq (codes "help") p.0 && not (is_some p.1))

      go : (o : Option LongOption) (a b : Bool) (v : Option Text)
          → option_map_or (λ f. with_option u f v) (option_map flag_for o)
          (cond (a && (b && not (is_some v))) AsksHelp Fails) ≡ with_named u (named_by o (a && b)) v
      go (Some o) a b v = refl
      go None true true None = refl
      go None true true (Some v) = refl
      go None true false v = refl
      go None false b v = refl

  attached : (rows : List Row) (pending : Pending) (given : Given) (told : Bool) (word : Text) (o : LongOption)
      (v : Text) (short : Option Text) → IsOption s o → Stands (rests pending false) rows given told
      → ReadsAs s rows pending None told word false (Some (names_option o, Some v)) short
      → Steps (at rows pending idle told false) word (with_first (fits (slot_for o) given v) (slot_for o) given v false)
  attached rows pending given told word o v short known st r = go (fits x given v) refl
    where
      x : Slot
      x = slot_for o

      w : Walk
      w = at rows pending idle told false

      h : Held
      h = held rows pending

      after : List Row
      after = settled_rows (rules s) pending rows

      go : (b : Bool) → fits x given v ≡ b → Steps w word (with_first b x given v false)
      go false e = λ words.
          let bad = ap (λ r. is_mistake (use_of x (v ∷ []) r)) st.1.is ∙ use_fails x v given known.fits e in
          fails_now s w word words (ap is_mistake r.turn
          ∙ looks_bad s None told word h false (Some (names_option o, Some v)) short
          (next_mistake (pending_fault s h) (use_of x (v ∷ []) after) st.0 bad))
      go true e =
          let well = use_passes x v given known.fits e in
          let passes : use_of x (v ∷ []) after ≡ [] = ap (use_of x (v ∷ [])) st.1.is ∙ well.none in
          record {
            stage = rests None false;
            rows = used (single x) (v ∷ []) after;
            given = given ++ (o.name.now, v) ∷ [];
            told = told;
            is = refl;
            stands = (
              refl,
              record {
                is = ap (used (single x) (v ∷ [])) st.1.is ∙ used_first x v given well.first;
                taken = taken_more s x given v (option_slot s o known) st.1.taken well.taken;
                tells = still_told o v given told known st.1.tells;
              },
            );
            passes = r.turn ∙ neither (or_else (pending_fault s h) (use_of x (v ∷ []) after)) []
                (neither (pending_fault s h) (use_of x (v ∷ []) after) st.0 passes) refl;
            next = r.next;
          }

  -- ---- a word where nothing is awaited

  abbrev with_other_by : Given → Text → Option ℕ → Reading
  with_other_by given word letter = option_map_or (with_letter (table_of s)) letter (with_operand given false word)

  rest_by : (rows : List Row) (pending : Pending) (given : Given) (told : Bool) (word : Text)
      → Stands (rests pending false) rows given told → (dashes : Bool) (long : LongWord) (short : Option Text)
      → ((o : LongOption) (v : Option Text) → long ≡ Some (names_option o, v) → IsOption s o)
      → ReadsAs s rows pending None told word dashes long short → Steps (at rows pending idle told false) word
      (cond dashes (GoesOn (said_at (rests pending true) given))
      (option_map_or (λ p. with_named (said_at (rests pending false) given) p.0 p.1) long
      (with_other_by given word (letter_of short))))
  rest_by rows pending given told word st true long short known r = record {
    stage = rests pending true;
    rows = rows;
    given = given;
    told = told;
    is = refl;
    stands = st;
    passes = r.turn;
    next = r.next;
  }
  rest_by rows pending given told word st false None short known r = elim (bundle s idle word short rows pending) [
    | no_letter none same met ↦ subst to_be (sym none) (to_operand rows pending false given told w word st
        (r.turn ∙ ap₂ (λ k m. or_else k (fault_at s told m)) same met)
        (r.next ∙ ap (λ m. after_step (rules s) word w m.0 m.1) met))
    | help_letter c is asks rest fault ↦ subst to_be (sym is) (subst lettered (sym asks)
        (λ words. helps_now s w word words (r.turn ∙ looks_helped s None told word h false None short
        (fault ∙ ap (λ k. or_else (or_else k (kind.DisplayHelp ∷ [])) rest) st.0))))
    | other_letter c is other fault ↦ subst to_be (sym is) (subst lettered (sym other) (λ words.
        fails_now s w word words (ap is_mistake r.turn ∙ looks_bad s None told word h false None short fault)))
  ]
    where
      h : Held
      h = held rows pending

      w : Walk
      w = at rows pending idle told false

      to_be : Option ℕ → Type 0
      to_be letter = Steps w word (with_other_by given word letter)

      lettered : Bool → Type 0
      lettered asks = Steps w word (cond asks AsksHelp Fails)
  rest_by rows pending given told word st false (Some (unknown, v)) short known r =
      λ words. fails_now s (at rows pending idle told false) word words (ap is_mistake r.turn)
  rest_by rows pending given told word st false (Some (help, None)) short known r =
      λ words. helps_now s (at rows pending idle told false) word words
      (r.turn ∙ looks_helped s None told word (held rows pending) false (Some (help, None)) short
      (ap (λ k. or_else k (kind.DisplayHelp ∷ [])) st.0))
  rest_by rows pending given told word st false (Some (help, Some v)) short known r =
      λ words. fails_now s (at rows pending idle told false) word words (ap is_mistake r.turn)
  rest_by rows pending given told word st false (Some (names_option o, None)) short known r = record {
    stage = awaits o;
    rows = settled_rows (rules s) pending rows;
    given = given;
    told = told;
    is = refl;
    stands = (known o None refl, st.1);
    passes = r.turn ∙ neither (pending_fault s (held rows pending)) [] st.0 refl;
    next = r.next;
  }
  rest_by rows pending given told word st false (Some (names_option o, Some v)) short known r =
      attached rows pending given told word o v short (known o (Some v) refl) st r

  -- ---- the word behind an option

  abbrev pended : LongOption → Pending
  pended o = Some (o.name.now, [])

  abbrev awaited : List Row → LongOption → Bool → Walk
  awaited rows o told = at rows (pended o) (awaiting (Some o.name.now)) told false

  -- it is the option's text
  plain_is : (o : LongOption) → IsOption s o → (rows : List Row) (word : Text)
      → plain_word (rules s) (option o.name.now) word (held rows (pended o))
      ≡ (held rows (Some (o.name.now, word ∷ [])), goes_on idle)
  plain_is o known rows word =
      ap (λ a. let met = option_word a o.name.now word (held rows (pended o)) in (met.0, goes_on met.1))
      (option_slot s o known).found
      ∙ ap (λ b. (
        held rows (Some (o.name.now, word ∷ [])),
        goes_on (cond (nat_lt (cond b 1 0) 1) (option o.name.now) idle),
      )) ((bytes_eq-Decides o.name.now o.name.now).1 refl)

  awaits_by : (rows : List Row) (given : Given) (told : Bool) (word : Text) (o : LongOption)
      → Stands (awaits o) rows given told → (dashes : Bool) (long : LongWord) (short : Option Text)
      → ReadsAs s rows (pended o) (Some o.name.now) told word dashes long short → Steps (awaited rows o told) word
      (cond (dashes || (is_some long || is_some (letter_of short))) Fails
      (with_first (fits (slot_for o) given word) (slot_for o) given word false))
  awaits_by rows given told word o st true long short r = λ words.
      fails_next s (awaited rows o told) (at rows (pended o) (awaiting (Some o.name.now)) told true) word words
      r.turn r.next (doomed_over s rows (pended o) (awaiting (Some o.name.now)) told (unfinished o st.0 rows) words)
  awaits_by rows given told word o st false (Some p) short r = λ words.
      fails_now s (awaited rows o told) word words (ap is_mistake r.turn
      ∙ looks_bad s (Some o.name.now) told word (held rows (pended o)) false (Some p) short
      (bad_long s p.0 p.1 (held rows (pended o)) (unfinished o st.0 rows)))
  awaits_by rows given told word o st false None short r =
      elim (bundle s (option o.name.now) word short rows (pended o)) [
        | no_letter none same met ↦
            subst to_be (sym none) (text_pends w word x (option_slot s o st.0) rows given told false
            st.1.is st.1.taken (still_told o word given told st.0 st.1.tells)
            (r.turn ∙ ap₂ (λ k m. or_else k (fault_at s told m)) same (met ∙ plain_is o st.0 rows word))
            (r.next ∙ ap (λ m. after_step (rules s) word w m.0 m.1) (met ∙ plain_is o st.0 rows word)))
        | help_letter c is asks rest fault ↦
            subst to_be (sym is) (λ words. fails_now s w word words (ap is_mistake r.turn
            ∙ looks_bad s (Some o.name.now) told word h false None short
            (ap is_mistake fault ∙ bad_help s h rest (unfinished o st.0 rows))))
        | other_letter c is other fault ↦ subst to_be (sym is) (λ words. fails_now s w word words (ap is_mistake r.turn
            ∙ looks_bad s (Some o.name.now) told word h false None short fault))
      ]
    where
      x : Slot
      x = slot_for o

      h : Held
      h = held rows (pended o)

      w : Walk
      w = awaited rows o told

      to_be : Option ℕ → Type 0
      to_be letter = Steps w word (cond (is_some letter) Fails (with_first (fits x given word) x given word false))

  -- ---- any word

  abbrev named_in : Option (Text × Option Text) → LongWord
  named_in = option_map (λ p. (named_of s p.0, p.1))

  some_long : (l : Option (Text × Option Text)) → is_some (named_in l) ≡ is_some l
  some_long None = refl
  some_long (Some p) = refl

  long_by : (u : Said) (l : Option (Text × Option Text)) (other : Reading)
      → option_map_or (with_long (table_of s) u) l other ≡ option_map_or (λ p. with_named u p.0 p.1) (named_in l) other
  long_by u None other = refl
  long_by u (Some p) other = with_long_is u p

  -- an option that the word names is one of the table's
  option_in : AllFit s.options.now → (l : Option (Text × Option Text))
      → ((p : Text × Option Text) → l ≡ Some p → p.0 ≡ operand → ⊥)
      → (o : LongOption) (v : Option Text) → named_in l ≡ Some (names_option o, v) → IsOption s o
  option_in fit None other o v is = absurd (none-some (names_option o, v) is)
  option_in fit (Some p) other o v is =
      go (option_named s p.0) (has_help s && bytes_eq (codes "help") p.0) refl
      (ap (λ q. q.0) (same_Some (named_of s p.0, p.1) (names_option o, v) is))
    where
      go : (found : Option LongOption) (b : Bool) → option_named s p.0 ≡ found → named_by found b ≡ names_option o
          → IsOption s o
      go None true found same = absurd (cc)
      go None false found same = absurd (cc)
      go (Some a) b found same =
          let first : a ≡ o = cc in
          option_known s p.0 o fit (other p refl) (found ∙ ap (λ a. Some a) first)

  pub step : AllFit s.options.now → (stage : Stage) (rows : List Row) (given : Given) (told : Bool) (word : Text)
      → Stands stage rows given told
      → Steps (walk_at stage rows told) word (with_word (table_of s) (said_at stage given) word)
  unfolding with_word walked
  step fit (rests pending true) rows given told word st =
      to_operand rows pending true given told (at rows pending idle told true) word st refl refl
  step fit (rests pending false) rows given told word st =
      subst (λ r. Steps (at rows pending idle told false) word
      (cond (bytes_eq word (codes "--")) (GoesOn (said_at (rests pending true) given)) r))
      (sym (long_by (said_at (rests pending false) given) (long_of word) (with_other_by given word (short_flag word))))
      (rest_by rows pending given told word st (bytes_eq word (codes "--")) (long_word_of s word) (short_of word)
      (option_in fit (long_of word) (word_named word)) (reads_as s rows pending None told word))
  step fit (awaits o) rows given told word st =
      subst (λ b. Steps (awaited rows o told) word
      (cond (bytes_eq word (codes "--") || (b || is_some (short_flag word))) Fails
      (with_text (said_at (awaits o) given) (flag_for o) word)))
      (some_long (long_of word))
      (awaits_by rows given told word o st (bytes_eq word (codes "--")) (long_word_of s word) (short_of word)
      (reads_as s rows (pended o) (Some o.name.now) told word))

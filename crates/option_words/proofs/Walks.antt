-- Where `clap` stands between two words, what one word makes of that, and states from which on it refuses whatever
-- comes.
use Rattle.std.proofs.Common.{◌≡◌, ◌∙◌, ℕ, Bool, cond, true, false, not, codes, refl, ap, ap₂, List, [], ◌∷◌, ◌&&◌, length, Option, Some, None}
use Rattle.std.specs.Prelude.{drop, encode_utf8, option_and_then, option_map, slice_get, ◌==◌}
use Rattle.std.specs.List.{fold}
use Rattle.std.specs.Option.{option_map_or}
use Rattle.std.specs.Str.{bytes_eq, chars}
use Rattle.std.proofs.Math.Bool.{and-false}
use Rattle.clap.specs.Lexer.{long_of, short_of}
use Rattle.clap.specs.Kinds.{Kinds, or_else}
use Rattle.clap.specs.Faults.{bundle_fault, bundle_step_fault, check_fault, flag_word_fault, flags_fault, long_fault, other_fault, positional_fault, settle_fault, short_fault, step_fault, turn_fault, walk_fault, word_fault}
use Rattle.clap.specs.Walk.{Held, Row, Rule, Step, Waiting, Walk, after_flag, after_step, bundle_met, bundle_step, is_pending, long_or_other, plain, finished, idle, long_met, option, plain_word, short_or_plain, subcommand_met, subcommand_or_other, trailing, value, walked, word_met}
use Rattle.clap.specs.declared.error.kind.ErrorKind.TheVariants as kind
use Rattle.option_words.specs.Forms.{Text}
use Rattle.option_words.specs.declared.synopsis.Synopsis.{Synopsis}
use Rattle.option_words.proofs.Mistakes.{IsMistake, is_mistake, first_mistake, in_turn}
use Rattle.option_words.proofs.Rules.{Named, by_place, has_help, has_operand, help, long_named, named_of, rule_named, rules, shape, short_named, unknown, whole_help, whole_operand}
use Rattle.option_words.proofs.Rules.{option as names_option}

-- ---- states

abbrev pub Pending : Type 0
Pending = Option (Text × List Text)

abbrev pub held : List Row → Pending → Held
held rows pending = record { rows = rows; pending = pending; skip = 0 }

-- between two words, where the operand was told or not, and the options are over or not
abbrev pub at : List Row → Pending → Waiting → Bool → Bool → Walk
at rows pending waiting told over = record {
  held = held rows pending;
  waiting = waiting;
  position = cond told 2 1;
  is_trailing = over;
  stopped = None;
}

abbrev pub awaiting : Option Text → Waiting
awaiting None = idle
awaiting (Some id) = option id

-- a long option, by what its name is the name of, with the text behind a `=`
abbrev pub LongWord : Type 0
LongWord = Option (Named × Option Text)

abbrev pub letter_of : Option Text → Option ℕ
letter_of short = option_and_then (λ flags. slice_get (chars flags) 0) short

-- the command has no subcommand
none_met : (awaits : Option Text) (word : Text) → subcommand_met [] (awaiting awaits) word ≡ None
none_met None word = refl
none_met (Some id) word = refl

module _ (s : Synopsis) where
  -- ---- what is refused

  -- at one word, and where `clap` stands behind it
  abbrev pub refused_at : Walk → Text → Kinds
  refused_at w word = turn_fault (shape s) [] w word

  abbrev pub behind : Walk → Text → Walk
  behind w word = walked (rules s) [] w word

  -- where what is pending is used
  abbrev pub pending_fault : Held → Kinds
  pending_fault h = settle_fault (rules s) false h

  -- at what a word comes to
  abbrev pub fault_at : Bool → Held × Step → Kinds
  fault_at told met = step_fault (shape s) (cond told 2 1) met.0 met.1

  abbrev pub end_fault : Walk → Kinds
  end_fault w = or_else (pending_fault w.held) (check_fault (shape s) (finished (rules s) w.held) false)

  abbrev pub rest_fault : Walk → List Text → Kinds
  rest_fault w words = or_else (walk_fault (shape s) [] w words) (end_fault (fold behind w words))

  -- it refuses in the end
  abbrev pub FailsFrom : Walk → List Text → Type 0
  FailsFrom w words = IsMistake (rest_fault w words)

  rest_is : (w : Walk) (word : Text) (words : List Text)
      → rest_fault w (word ∷ words) ≡ or_else (refused_at w word) (rest_fault (behind w word) words)
  unfolding walk_fault
  rest_is w word words = in_turn (refused_at w word) (walk_fault (shape s) [] (behind w word) words)
      (end_fault (fold behind w (word ∷ words)))

  pub fails_now : (w : Walk) (word : Text) (words : List Text) → IsMistake (refused_at w word)
      → FailsFrom w (word ∷ words)
  fails_now w word words fails =
      ap is_mistake (rest_is w word words) ∙ first_mistake (refused_at w word) (rest_fault (behind w word) words) fails

  pub passes_now : (w next : Walk) (word : Text) (words : List Text) → refused_at w word ≡ [] → behind w word ≡ next
      → rest_fault w (word ∷ words) ≡ rest_fault next words
  passes_now w next word words passes is =
      rest_is w word words ∙ ap₂ (λ k v. or_else k (rest_fault v words)) passes is

  pub fails_next : (w next : Walk) (word : Text) (words : List Text) → refused_at w word ≡ [] → behind w word ≡ next
      → FailsFrom next words → FailsFrom w (word ∷ words)
  fails_next w next word words passes is fails = ap is_mistake (passes_now w next word words passes is) ∙ fails

  -- it answers with help
  pub helps_now : (w : Walk) (word : Text) (words : List Text) → refused_at w word ≡ kind.DisplayHelp ∷ []
      → rest_fault w (word ∷ words) ≡ kind.DisplayHelp ∷ []
  helps_now w word words helps =
      rest_is w word words ∙ ap (λ k. or_else k (rest_fault (behind w word) words)) helps

  -- ---- one word, by what it looks like: `--`, a long option, or a bundle of short flags

  abbrev pub long_word_of : Text → LongWord
  long_word_of word = option_map (λ p. (named_of s p.0, p.1)) (long_of word)

  abbrev pub look_fault : Held → Bool → LongWord → Option Text → Kinds
  look_fault h true long short = []
  look_fault h false (Some p) short = long_fault (rules s) false (rule_named p.0) p.1 h
  look_fault h false None short = option_map_or (λ flags. bundle_fault (rules s) false flags h) short []

  abbrev pub look_met : Option Text → Bool → Text → Held → Bool → LongWord → Option Text → Held × Step
  look_met awaits told word h true long short = (h, trailing (cond told 2 1))
  look_met awaits told word h false (Some p) short =
      let met = long_met (rules s) (rule_named p.0) p.1 h in
      after_flag (rules s) (awaiting awaits) word met.0 met.1
  look_met awaits told word h false None short = short_or_plain (rules s) (awaiting awaits) word short h

  abbrev pub turn_by : Option Text → Bool → Text → Held → Bool → LongWord → Option Text → Kinds
  turn_by awaits told word h dashes long short =
      or_else (look_fault h dashes long short) (fault_at told (look_met awaits told word h dashes long short))

  abbrev pub next_by : List Row → Pending → Option Text → Bool → Text → Bool → LongWord → Option Text → Walk
  next_by rows pending awaits told word dashes long short =
      let met = look_met awaits told word (held rows pending) dashes long short in
      after_step (rules s) word (at rows pending (awaiting awaits) told false) met.0 met.1

  -- `clap` reads the word as one that looks so
  pub record ReadsAs (rows : List Row) (pending : Pending) (awaits : Option Text) (told : Bool) (word : Text)
      (dashes : Bool) (long : LongWord) (short : Option Text) : Type 0 where
    pub turn : refused_at (at rows pending (awaiting awaits) told false) word
        ≡ turn_by awaits told word (held rows pending) dashes long short
    pub next : behind (at rows pending (awaiting awaits) told false) word
        ≡ next_by rows pending awaits told word dashes long short

  pub reads_as : (rows : List Row) (pending : Pending) (awaits : Option Text) (told : Bool) (word : Text)
      → ReadsAs rows pending awaits told word (bytes_eq word (codes "--")) (long_word_of word) (short_of word)
  unfolding walked
  reads_as rows pending awaits told word = record {
    turn = ap₂ (λ k m. or_else k (fault_at told m)) fault met;
    next = ap (λ m. after_step (rules s) word (at rows pending (awaiting awaits) told false) m.0 m.1) met;
  }
    where
      h : Held
      h = held rows pending

      fault_by : (b : Bool) (l : Option (Text × Option Text)) → cond b [] (flag_word_fault (rules s) false l word h)
          ≡ look_fault h b (option_map (λ p. (named_of s p.0, p.1)) l) (short_of word)
      fault_by true l = refl
      fault_by false None = refl
      fault_by false (Some p) = ap (λ a. long_fault (rules s) false a p.1 h) (long_named s p.0)

      met_by : (b : Bool) (l : Option (Text × Option Text))
          → cond b (h, trailing (cond told 2 1)) (long_or_other (rules s) (awaiting awaits) word l h)
          ≡ look_met awaits told word h b (option_map (λ p. (named_of s p.0, p.1)) l) (short_of word)
      met_by true l = refl
      met_by false None = refl
      met_by false (Some p) = ap (λ a. let met = long_met (rules s) a p.1 h in
          after_flag (rules s) (awaiting awaits) word met.0 met.1) (long_named s p.0)

      fault : word_fault (shape s) [] false (awaiting awaits) word h
          ≡ look_fault h (bytes_eq word (codes "--")) (long_word_of word) (short_of word)
      fault = ap (λ o. other_fault (shape s) o word h) (none_met awaits word)
          ∙ fault_by (bytes_eq word (codes "--")) (long_of word)

      met : word_met (rules s) [] false (awaiting awaits) (cond told 2 1) word h
          ≡ look_met awaits told word h (bytes_eq word (codes "--")) (long_word_of word) (short_of word)
      met = ap (λ o. subcommand_or_other (rules s) o (awaiting awaits) (cond told 2 1) word h) (none_met awaits word)
          ∙ met_by (bytes_eq word (codes "--")) (long_of word)

  -- a word that is refused at once, whatever it comes to
  pub looks_bad : (awaits : Option Text) (told : Bool) (word : Text) (h : Held)
      (dashes : Bool) (long : LongWord) (short : Option Text)
      → IsMistake (look_fault h dashes long short) → IsMistake (turn_by awaits told word h dashes long short)
  looks_bad awaits told word h dashes long short fails =
      let met = look_met awaits told word h dashes long short in
      first_mistake (look_fault h dashes long short) (fault_at told met) fails

  -- and one that asks for help
  pub looks_helped : (awaits : Option Text) (told : Bool) (word : Text) (h : Held)
      (dashes : Bool) (long : LongWord) (short : Option Text) → look_fault h dashes long short ≡ kind.DisplayHelp ∷ []
      → turn_by awaits told word h dashes long short ≡ kind.DisplayHelp ∷ []
  looks_helped awaits told word h dashes long short helps =
      ap (λ k. or_else k (fault_at told (look_met awaits told word h dashes long short))) helps

  -- ---- a bundle of short flags

  -- what it comes to by its first letter: a word that is no option; a request for help; or a mistake
  pub data Bundle (waiting : Waiting) (word : Text) (short : Option Text) (h : Held) : Type 0 where
    no_letter : letter_of short ≡ None → look_fault h false None short ≡ []
        → short_or_plain (rules s) waiting word short h ≡ plain_word (rules s) waiting word h
        → Bundle waiting word short h
    help_letter : (c : ℕ) → letter_of short ≡ Some c → (has_help s && 104 == c) ≡ true → (rest : Kinds)
        → look_fault h false None short ≡ or_else (or_else (pending_fault h) (kind.DisplayHelp ∷ [])) rest
        → Bundle waiting word short h
    other_letter : (c : ℕ) → letter_of short ≡ Some c → (has_help s && 104 == c) ≡ false
        → IsMistake (look_fault h false None short) → Bundle waiting word short h

  pub bundle : (waiting : Waiting) (word : Text) (short : Option Text) (rows : List Row) (pending : Pending)
      → Bundle waiting word short (held rows pending)
  unfolding flags_fault bundle_met chars
  bundle waiting word None rows pending = no_letter refl refl refl
  bundle waiting word (Some []) rows pending = no_letter refl refl refl
  bundle waiting word (Some (x ∷ xs)) rows pending = go (slice_get (chars flags) 0) refl refl refl
    where
      h : Held
      h = held rows pending

      flags : Text
      flags = x ∷ xs

      met_at : Option ℕ → Held × Step
      met_at o =
          let met = bundle_step (rules s) o flags 0 plain h (bundle_met (rules s) (length xs)) in
          after_flag (rules s) waiting word met.0 met.1

      fault_by : ℕ → Option Rule → Kinds
      fault_by c rule = short_fault (rules s) false rule (drop (length (encode_utf8 c)) flags) h
          (flags_fault (rules s) false (length xs) (drop (length (encode_utf8 c)) flags) 0)

      lettered : (c : ℕ) (b : Bool) → (has_help s && 104 == c) ≡ b → letter_of (Some flags) ≡ Some c
          → look_fault h false None (Some flags) ≡ fault_by c (cond b (Some whole_help) None)
          → Bundle waiting word (Some flags) h
      lettered c true e is fault = help_letter c is e _ fault
      lettered c false e is fault = other_letter c is e (ap is_mistake fault)

      go : (o : Option ℕ) → letter_of (Some flags) ≡ o
          → look_fault h false None (Some flags)
          ≡ bundle_step_fault (rules s) false o flags 0 h (flags_fault (rules s) false (length xs))
          → short_or_plain (rules s) waiting word (Some flags) h ≡ met_at o → Bundle waiting word (Some flags) h
      go None is fault met = no_letter is fault met
      go (Some c) is fault met =
          lettered c (has_help s && 104 == c) refl is (fault ∙ ap (fault_by c) (short_named s c))

  -- ---- a word in the operand's place

  abbrev pub operand_fault : Bool → Held → Kinds
  operand_fault true h = pending_fault h
  operand_fault false h = kind.UnknownArgument ∷ []

  pub value_fault : (told : Bool) (h : Held)
      → fault_at told (h, value) ≡ operand_fault (not told && has_operand s.operands.now) h
  value_fault told h =
      ap fault_in (by_place s told) ∙ go (not told && has_operand s.operands.now)
    where
      fault_in : Option Rule → Kinds
      fault_in o = option_map_or (λ a. positional_fault (rules s) false a h) o (kind.UnknownArgument ∷ [])

      go : (b : Bool) → fault_in (cond b (Some (whole_operand s)) None) ≡ operand_fault b h
      go true = ap (λ b. cond b [] (pending_fault h)) (and-false (is_pending (whole_operand s) h.pending))
      go false = refl

  -- ---- states from which on it refuses

  -- what is pending is no text that its argument takes: then the word in the operand's place is refused
  abbrev IsBad : Held → Type 0
  IsBad h = IsMistake (pending_fault h)

  bad_value : (told : Bool) (h : Held) → IsBad h → IsMistake (fault_at told (h, value))
  bad_value told h bad = ap is_mistake (value_fault told h) ∙ go (not told && has_operand s.operands.now)
    where
      go : (b : Bool) → IsMistake (operand_fault b h)
      go true = bad
      go false = refl

  -- and so are a long option and a request for help
  pub bad_long : (n : Named) (v : Option Text) (h : Held) → IsBad h
      → IsMistake (long_fault (rules s) false (rule_named n) v h)
  bad_long unknown v h bad = refl
  bad_long help None h bad = first_mistake (pending_fault h) (kind.DisplayHelp ∷ []) bad
  bad_long help (Some v) h bad = refl
  bad_long (names_option o) None h bad = bad
  bad_long (names_option o) (Some v) h bad = first_mistake (pending_fault h) _ bad

  pub bad_help : (h : Held) (rest : Kinds) → IsBad h
      → IsMistake (or_else (or_else (pending_fault h) (kind.DisplayHelp ∷ [])) rest)
  bad_help h rest bad = first_mistake (or_else (pending_fault h) (kind.DisplayHelp ∷ [])) rest
      (first_mistake (pending_fault h) (kind.DisplayHelp ∷ []) bad)

  -- and the end
  bad_end : (w : Walk) → IsBad w.held → FailsFrom w []
  unfolding walk_fault
  bad_end w bad = first_mistake (pending_fault w.held) (check_fault (shape s) (finished (rules s) w.held) false) bad

  pub doomed_over : (rows : List Row) (pending : Pending) (waiting : Waiting) (told : Bool) → IsBad (held rows pending)
      → (words : List Text) → FailsFrom (at rows pending waiting told true) words
  doomed_over rows pending waiting told bad [] = bad_end (at rows pending waiting told true) bad
  doomed_over rows pending waiting told bad (word ∷ words) =
      fails_now (at rows pending waiting told true) word words (bad_value told (held rows pending) bad)

  -- the same before `--`
  pub doomed : (rows : List Row) (pending : Pending) (told over : Bool) → IsBad (held rows pending)
      → (words : List Text) → FailsFrom (at rows pending idle told over) words
  doomed rows pending told true bad words = doomed_over rows pending idle told bad words
  doomed rows pending told false bad [] = bad_end (at rows pending idle told false) bad
  doomed rows pending told false bad (word ∷ words) =
      go (bytes_eq word (codes "--")) (long_word_of word) (short_of word) (reads_as rows pending None told word)
    where
      w : Walk
      w = at rows pending idle told false

      h : Held
      h = held rows pending

      go : (dashes : Bool) (long : LongWord) (short : Option Text)
          → ReadsAs rows pending None told word dashes long short → FailsFrom w (word ∷ words)
      go true long short r =
          fails_next w (at rows pending idle told true) word words r.turn r.next
          (doomed_over rows pending idle told bad words)
      go false (Some p) short r = fails_now w word words
          (ap is_mistake r.turn ∙ looks_bad None told word h false (Some p) short (bad_long p.0 p.1 h bad))
      go false None short r = elim (bundle idle word short rows pending) [
        | no_letter none same met ↦ fails_now w word words
            (ap is_mistake (r.turn ∙ ap₂ (λ k m. or_else k (fault_at told m)) same met) ∙ bad_value told h bad)
        | help_letter c is asks rest fault ↦ fails_now w word words (ap is_mistake r.turn
            ∙ looks_bad None told word h false None short (ap is_mistake fault ∙ bad_help h rest bad))
        | other_letter c is other fault ↦ fails_now w word words
            (ap is_mistake r.turn ∙ looks_bad None told word h false None short fault)
      ]

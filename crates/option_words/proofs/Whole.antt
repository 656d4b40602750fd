-- All the words: what they say, by what `clap` refuses and by the rows that it leaves.
use Rattle.std.proofs.Common.{◌≡◌, ◌∙◌, Bool, cond, true, false, not, refl, sym, ap, ap₂, subst, List, [], ◌∷◌, ◌||◌, ◌&&◌, map, Option, Some, None, arith, inl, inr, is_some, length, option_map, true≢false}
use Rattle.std.specs.Borrow.{Bor}
use Rattle.std.specs.List.{find, fold, list_all, list_any}
use Rattle.std.specs.Option.{option_map_or}
use Rattle.std.specs.Str.{bytes_eq}
use Rattle.std.proofs.Math.Bool.{or-false, or-true}
use Rattle.std.proofs.lemmas.Bool.{eqb-true}
use Rattle.clap.proofs.WalkLemmas.{both, first_value-rows}
use Rattle.clap.specs.Facts.{explicit_source}
use Rattle.clap.specs.Kinds.{IsAmong, Kinds, or_else}
use Rattle.clap.specs.Faults.{built_fault, check_fault, default_fault, defaults_fault, entered_fault, fault_of, given_default_fault, is_simple_and_free, level_fault, walk_fault}
use Rattle.clap.specs.Matches.{first_value}
use Rattle.clap.specs.Walk.{Held, Row, Rule, Walk, default_rows, finished, first_of, has_row, idle, is_empty, nothing_held, reading_by, rows_after, rows_of, settled_rows, stop_after, with_default}
use Rattle.clap.specs.Simple.{App, entered, is_simple, matches_of, names_of}
use Rattle.clap.specs.Takes.{is_given}
use Rattle.clap.specs.declared.error.kind.ErrorKind.{ErrorKind}
use Rattle.clap.specs.declared.error.kind.ErrorKind.TheVariants as kind
use Rattle.clap.specs.declared.parser.matches.Found.{Found}
use Rattle.option_words.specs.Forms.{Given, Meaning, Reading, Text, Texts, WantsHelp, AsksHelp, Fails, Gives, GoesOn, at_end, given_to, go_on, is_taken_by, is_there, meaning_of, operand, with_word, with_words}
use Rattle.option_words.specs.Rule.{AllFit, rule_for, where_named}
use Rattle.option_words.specs.Words.{table_of}
use Rattle.option_words.specs.declared.synopsis.Synopsis.{Synopsis}
use Rattle.option_words.proofs.Mistakes.{first_mistake, is_help, is_mistake, mistake_kind, neither, next_mistake, no_mistake}
use Rattle.option_words.proofs.Rules.{all_pass, any_operand, built_is, has_operand, plain_rule, rules, shape, whole_operand}
use Rattle.option_words.proofs.Rows.{first_of-rows, given_taken, row_for, row_found, rows_for}
use Rattle.option_words.proofs.Walks.{FailsFrom, Pending, at, behind, held, passes_now, pending_fault, rest_fault}
use Rattle.option_words.proofs.Steps.{Stage, Stands, Steps, awaits, is_told, rests, said_at, step, unfinished, walk_at}

-- ---- no argument has a default

abbrev lacks : Rule → Bool
lacks a = is_empty a.defaults

-- so none adds a row
no_more : (rows : List Row) (c : List Rule) → list_all lacks c ≡ true → fold with_default rows c ≡ rows
no_more rows [] none = refl
no_more rows (a ∷ c) none =
    let parts = both (lacks a) (list_all lacks c) none in
    ap (λ r. fold with_default r c) (by a.defaults parts.0 ∙ either (has_row a.id rows)) ∙ no_more rows c parts.1
  where
    by : (defaults : List Text) → is_empty defaults ≡ true
        → cond (has_row a.id rows) rows (default_rows a.id (reading_by a) defaults rows)
        ≡ cond (has_row a.id rows) rows rows
    by [] e = refl
    by (d ∷ ds) e =
        let bad : length (d ∷ ds) ≡ 0 = eqb-true (length (d ∷ ds)) 0 e in
        absurd (omega arith)

    either : (b : Bool) → cond b rows rows ≡ rows
    either true = refl
    either false = refl

-- or is refused
no_default : (rows : List Row) (a : Rule) → lacks a ≡ true → default_fault rows a ≡ []
no_default rows a none = ap (λ b. cond b [] (given_default_fault a a.defaults))
    (ap (λ b. has_row a.id rows || b) none ∙ or-true (has_row a.id rows))

no_defaults : (rows : List Row) (c : List Rule) → list_all lacks c ≡ true → defaults_fault rows c ≡ []
unfolding defaults_fault
no_defaults rows [] none = refl
no_defaults rows (a ∷ c) none =
    let parts = both (lacks a) (list_all lacks c) none in
    neither (default_fault rows a) (defaults_fault (with_default rows a) c)
    (no_default rows a parts.0) (no_defaults (with_default rows a) c parts.1)

module _ (s : Synopsis) where
  none_defaults : list_all lacks (rules s) ≡ true
  none_defaults = all_pass s lacks refl (λ o. refl) refl

  finished_is : (rows : List Row) (pending : Pending)
      → finished (rules s) (held rows pending) ≡ settled_rows (rules s) pending rows
  finished_is rows pending = no_more (settled_rows (rules s) pending rows) (rules s) none_defaults

  -- ---- the end of the words: the operand is wanted where there are names for it

  abbrev wants : Bool → Kinds
  wants missing = cond missing (kind.MissingRequiredArgument ∷ []) []

  abbrev lack : Rule → List Row → Bool
  lack a rows = a.required && not (is_given a.id rows)

  check_is : (rows : List Row)
      → check_fault (shape s) rows false ≡ wants (has_operand s.operands.now && not (is_given operand rows))
  check_is rows = ap wants (any_operand s (λ a. lack a rows) (λ o. refl) refl ∙ go s.operands.now)
    where
      go : (names : List (Bor Text)) → list_any (λ a. lack a rows) (where_named names (whole_operand s))
          ≡ (has_operand names && not (is_given operand rows))
      go [] = refl
      go (name ∷ names) = or-false (not (is_given operand rows))

  given_is : (given : Given) → is_given operand (rows_for given) ≡ is_told given
  given_is given = ap is_row (row_found operand given) ∙ go (find (λ (g : Text × Text). bytes_eq g.0 operand) given)
    where
      is_row : Option Row → Bool
      is_row o = option_map_or (λ r. explicit_source r.source) o false

      go : (o : Option (Text × Text))
          → is_row (option_map row_for o) ≡ is_some (option_map (λ (g : Text × Text). g.1) o)
      go None = refl
      go (Some g) = refl

  there_is : (said : Option Text) (names : List (Bor Text))
      → (has_operand names && not (is_some said)) ≡ not (is_there (map (λ name. name.now) names) said)
  there_is said [] = refl
  there_is said (name ∷ names) = refl

  -- what the words say, where they are all read
  pub record IsRead (w : Walk) (words : List Text) (texts : Texts) : Type 0 where
    pub none : rest_fault s w words ≡ []
    pub rows : (name : Text) → first_of name (finished (rules s) (fold (behind s) w words).held) ≡ texts name
    pub taken : (name text : Text) → texts name ≡ Some text → is_taken_by (table_of s) name text ≡ true

  abbrev Ends : Walk → List Text → Option Meaning → Type 0
  Ends w words None = FailsFrom s w words
  Ends w words (Some WantsHelp) = rest_fault s w words ≡ kind.DisplayHelp ∷ []
  Ends w words (Some (Gives texts)) = IsRead w words texts

  abbrev ends_at : Reading → Option Meaning
  ends_at r = at_end (table_of s) r

  abbrev with_all : Reading → List Text → Option Meaning
  with_all r words = ends_at (go_on r (λ u. with_words (table_of s) u words))

  ends : (stage : Stage) (rows : List Row) (given : Given) (told : Bool) → Stands s stage rows given told
      → Ends (walk_at stage rows told) [] (ends_at (GoesOn (said_at stage given)))
  unfolding walk_fault
  ends (awaits o) rows given told st =
      let h = held rows (Some (o.name.now, [])) in
      first_mistake (pending_fault s h) (check_fault (shape s) (finished (rules s) h) false) (unfinished s o st.0 rows)
  ends (rests pending over) rows given told st = go (is_there (table_of s).operands said) refl
    where
      h : Held
      h = held rows pending

      said : Option Text
      said = given_to operand given

      last : finished (rules s) h ≡ rows_for given
      last = finished_is rows pending ∙ st.1.is

      checks : Kinds
      checks = check_fault (shape s) (finished (rules s) h) false

      checked : (b : Bool) → is_there (table_of s).operands said ≡ b → checks ≡ wants (not b)
      checked b e = ap (λ r. check_fault (shape s) r false) last ∙ check_is (rows_for given)
          ∙ ap (λ b. wants (has_operand s.operands.now && not b)) (given_is given)
          ∙ ap wants (there_is said s.operands.now ∙ ap not e)

      go : (b : Bool) → is_there (table_of s).operands said ≡ b
          → Ends (at rows pending idle told over) [] (cond b (Some (Gives (λ name. given_to name given))) None)
      go true e = record {
        none = neither (pending_fault s h) checks st.0 (checked true e);
        rows = λ name. ap (first_of name) last ∙ first_of-rows name given;
        taken = λ name text is. given_taken s name text given st.1.taken is;
      }
      go false e = next_mistake (pending_fault s h) checks st.0 (ap is_mistake (checked false e))

  -- ---- all the words

  ends_back : (w next : Walk) (word : Text) (words : List Text) (o : Option Meaning)
      → rest_fault s w (word ∷ words) ≡ rest_fault s next words → behind s w word ≡ next
      → Ends next words o → Ends w (word ∷ words) o
  ends_back w next word words None same is e = ap is_mistake same ∙ e
  ends_back w next word words (Some WantsHelp) same is e = same ∙ e
  ends_back w next word words (Some (Gives texts)) same is e = record {
    none = same ∙ e.none;
    rows = λ name. ap (λ v. first_of name (finished (rules s) (fold (behind s) v words).held)) is ∙ e.rows name;
    taken = e.taken;
  }

  abbrev Runs : List Text → Type 0
  Runs words = (stage : Stage) (rows : List Row) (given : Given) (told : Bool) → Stands s stage rows given told
      → Ends (walk_at stage rows told) words (with_all (GoesOn (said_at stage given)) words)

  runs : AllFit s.options.now → (words : List Text) → Runs words
  unfolding with_words
  runs fit [] stage rows given told st = ends stage rows given told st
  runs fit (word ∷ words) stage rows given told st =
      go (with_word (table_of s) (said_at stage given) word) (step s fit stage rows given told word st) (runs fit words)
    where
      w : Walk
      w = walk_at stage rows told

      go : (r : Reading) → Steps s w word r → Runs words → Ends w (word ∷ words) (with_all r words)
      go Fails fails rest = fails words
      go AsksHelp helps rest = helps words
      go (GoesOn said) leads rest =
          let next = walk_at leads.stage leads.rows leads.told in
          subst (λ u. Ends w (word ∷ words) (with_all (GoesOn u) words)) (sym leads.is)
          (ends_back w next word words (with_all (GoesOn (said_at leads.stage leads.given)) words)
          (passes_now s w next word words leads.passes leads.next) leads.next
          (rest leads.stage leads.rows leads.given leads.told leads.stands))

  -- ---- the same, of `clap`'s own words

  abbrev start : Walk
  start = at [] None idle false false

  all : AllFit s.options.now → (words : List Text) → Ends start words (meaning_of (table_of s) words)
  unfolding meaning_of
  all fit words = runs fit words (rests None false) [] [] false (refl, record { is = refl; taken = refl; tells = refl })

  abbrev top : App
  top = record { top = shape s; subs = [] }

  never_entered : (stop : Option (Text × List Text))
      → (is_some (entered top stop) ≡ false) × (entered_fault top stop ≡ [])
  never_entered None = (refl, refl)
  never_entered (Some p) = (refl, refl)

  fault_is : (words : List Text) → fault_of (rule_for s) words ≡ rest_fault s start words
  fault_is words =
      let entering = never_entered (stop_after (rules s) [] words) in
      let last = (fold (behind s) start words).held in
      ap (λ b. built_fault b nothing_held words) (built_is s)
      ∙ ap₂ (λ b k. level_fault (shape s) [] nothing_held words b k) entering.0 entering.1
      ∙ ap (λ k. or_else (walk_fault (shape s) [] start words)
      (or_else (pending_fault s last) (or_else k (check_fault (shape s) (finished (rules s) last) false))))
      (no_defaults (settled_rows (rules s) last.pending last.rows) (rules s) none_defaults)

  -- what `clap` refuses is help where the words ask for that, and else they are no form
  pub record Refused (words : List Text) (k : ErrorKind) : Type 0 where
    pub asks : is_help k ≡ true → meaning_of (table_of s) words ≡ Some WantsHelp
    pub none : is_help k ≡ false → meaning_of (table_of s) words ≡ None

  refused : AllFit s.options.now → (words : List Text) (k : ErrorKind) → IsAmong k (fault_of (rule_for s) words)
      → Refused words k
  refused fit words k among = go (meaning_of (table_of s) words) refl (all fit words)
    where
      known : IsAmong k (rest_fault s start words)
      known = subst (IsAmong k) (fault_is words) among

      go : (o : Option Meaning) → meaning_of (table_of s) words ≡ o → Ends start words o → Refused words k
      go None is e = record {
        asks = λ help. absurd (true≢false (sym help ∙ mistake_kind (rest_fault s start words) k e known));
        none = λ _. is;
      }
      go (Some WantsHelp) is e = elim (subst (IsAmong k) e known) [
        | inl same ↦ record { asks = λ _. is; none = λ other. absurd (true≢false (sym (ap is_help same) ∙ other)) }
        | inr more ↦ absurd more
      ]
      go (Some (Gives texts)) is e = absurd (subst (IsAmong k) e.none known)

  -- what it takes are texts, and its rows tell just these
  pub record Taken (words : List Text) (found : Found) : Type 0 where
    pub gives : meaning_of (table_of s) words ≡ Some (Gives (first_value found))
    pub taken : (name text : Text) → first_value found name ≡ Some text → is_taken_by (table_of s) name text ≡ true

  taken : AllFit s.options.now → (words : List Text) (found : Found) → fault_of (rule_for s) words ≡ []
      → rows_of found ≡ matches_of (rule_for s) words → Taken words found
  taken fit words found none rows = go (meaning_of (table_of s) words) refl (all fit words)
    where
      nothing : rest_fault s start words ≡ []
      nothing = sym (fault_is words) ∙ none

      some_kind : kind.DisplayHelp ∷ [] ≡ [] → ⊥
      some_kind e = cc

      left : rows_of found ≡ finished (rules s) (fold (behind s) start words).held
      left = rows ∙ ap (λ b. rows_after b.top.rules (names_of b) words) (built_is s)

      go : (o : Option Meaning) → meaning_of (table_of s) words ≡ o → Ends start words o → Taken words found
      go None is e = absurd (no_mistake (rest_fault s start words) e nothing)
      go (Some WantsHelp) is e = absurd (some_kind (sym e ∙ nothing))
      go (Some (Gives texts)) is e =
          let same : (name : Text) → first_value found name ≡ texts name = λ name.
          first_value-rows found name ∙ ap (first_of name) left ∙ e.rows name in
          record {
            gives = is ∙ (λ i. Some (Gives (λ name. sym (same name) i)));
            taken = λ name text has. e.taken name text (sym (same name) ∙ has);
          }

  -- by the clauses of `clap`'s parse
  pub known_taken : {B : Type 0} → AllFit s.options.now → (words : List Text) (found : Found) (app : App)
      → app ≡ rule_for s → (is_simple_and_free app ≡ true → fault_of app words ≡ [])
      → (is_simple app ≡ true → (rows_of found ≡ matches_of app words) × B) → Taken words found
  known_taken fit words found app is passes rows =
      let plain = plain_rule s in
      let simple = both (is_simple (rule_for s)) _ plain in
      taken fit words found (sym (ap (λ a. fault_of a words) is) ∙ passes (ap is_simple_and_free is ∙ plain))
      ((rows (ap is_simple is ∙ simple.0)).0 ∙ ap (λ a. matches_of a words) is)

  pub known_refused : AllFit s.options.now → (words : List Text) (k : ErrorKind) (app : App) → app ≡ rule_for s
      → IsAmong k (fault_of app words) → Refused words k
  known_refused fit words k app is among = refused fit words k (subst (λ a. IsAmong k (fault_of a words)) is among)

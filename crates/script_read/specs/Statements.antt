-- What a statement and a first word of the code say, as the definition has them.
use Rattle.std.specs.Prelude.{ℕ, ◌+◌, ◌-◌, ◌*◌, ◌/◌, ◌%◌, if◌then◌else◌, List, ◌++◌, length, codes, get_or, slice_get, unwrap_or, Option, None}
use Rattle.std.specs.List.{list_any}
use Rattle.lock_model.specs.Counts.{is_empty}
use Rattle.lock_model.specs.Text.{mode_letter}
use Rattle.lock_model.specs.Script.Canonical.{kind_word}
use Rattle.lock_model.specs.Script.Lines.{words_of}
use Rattle.lock_model.specs.Script.Statements as script
use Rattle.script_read.specs.declared.statement.Operation.{Operation}
use Rattle.script_read.specs.declared.statement.Operation.TheVariants.{Take, Release, Try, Set, Add, Get, Prio, Show, Wait, WakeOne, WakeAll}
use Rattle.script_read.specs.declared.statement.Statement as statements
use Rattle.script_read.specs.declared.statement.Statement.TheVariants as statement
use Rattle.script_read.specs.declared.statement.TheConstants.{VERBS, VERB_AT}
use Rattle.script_read.specs.declared.statement.Verb as verbs
use Rattle.script_read.specs.declared.statement.Verb.TheVariants as verb

abbrev pub meant_operation : Operation → script.Operation
meant_operation (Take kind mode lock) = script.Take kind mode lock.now
meant_operation (Release kind mode lock) = script.Release kind mode lock.now
meant_operation (Try kind mode lock) = script.Try kind mode lock.now
meant_operation (Set lock key value) = script.Set lock.now key.now value.now
meant_operation (Add lock key amount) = script.Add lock.now key.now amount.now
meant_operation (Get lock key) = script.Get lock.now key.now
meant_operation (Prio prio) = script.Prio prio.now
meant_operation Show = script.Show
meant_operation (Wait cond chan) = script.Wait cond chan.now
meant_operation (WakeOne cond chan) = script.WakeOne cond chan.now
meant_operation (WakeAll cond chan) = script.WakeAll cond chan.now

abbrev pub meant : statements.Statement → script.Statement
meant (statement.Lock kind name class) = script.Declares kind name.now class.now
meant (statement.Chan cond name lock) = script.DeclaresChan cond name.now lock.now
meant (statement.Thread name prio) = script.Begins name.now prio.now
meant statement.End = script.Ends
meant (statement.Schedule names) = script.Schedules (words_of names.now)
meant statement.Done = script.IsDone
meant (statement.Operation o) = script.Operates (meant_operation o)
meant statement.EndTry = script.EndsTry

-- the form that the definition's table has
abbrev pub form : verbs.Verb → script.Form
form (verb.Declare kind) = script.WithTwo (script.Declares kind)
form (verb.DeclareChan cond) = script.WithTwo (script.DeclaresChan cond)
form verb.Thread = script.WithTwo script.Begins
form verb.End = script.Alone script.Ends
form verb.Schedule = script.WithSome script.Schedules
form verb.Done = script.Alone script.IsDone
form (verb.Take kind mode) = script.WithOne (λ lock. script.Operates (script.Take kind mode lock))
form (verb.Release kind mode) =
    script.WithOne (λ lock. script.Operates (script.Release kind mode lock))
form (verb.Try kind mode) = script.WithOne (λ lock. script.Operates (script.Try kind mode lock))
form verb.EndTry = script.Alone script.EndsTry
form verb.Set = script.WithThree (λ lock key value. script.Operates (script.Set lock key value))
form verb.Add = script.WithThree (λ lock key amount. script.Operates (script.Add lock key amount))
form verb.Get = script.WithTwo (λ lock key. script.Operates (script.Get lock key))
form verb.Prio = script.WithOne (λ prio. script.Operates (script.Prio prio))
form verb.Show = script.Alone (script.Operates script.Show)
form (verb.Wait cond) = script.WithOne (λ chan. script.Operates (script.Wait cond chan))
form (verb.WakeOne cond) = script.WithOne (λ chan. script.Operates (script.WakeOne cond chan))
form (verb.WakeAll cond) = script.WithOne (λ chan. script.Operates (script.WakeAll cond chan))

-- the first word that says it
abbrev pub word : verbs.Verb → List ℕ
word (verb.Declare kind) = kind_word kind
word (verb.DeclareChan cond) = if cond then codes "cond" else codes "chan"
word verb.Thread = codes "thread"
word verb.End = codes "end"
word verb.Schedule = codes "schedule"
word verb.Done = codes "done"
word (verb.Take kind mode) = mode_letter kind mode ++ codes "lock"
word (verb.Release kind mode) = mode_letter kind mode ++ codes "unlock"
word (verb.Try kind mode) = codes "try" ++ mode_letter kind mode ++ codes "lock"
word verb.EndTry = codes "endtry"
word verb.Set = codes "set"
word verb.Add = codes "add"
word verb.Get = codes "get"
word verb.Prio = codes "prio"
word verb.Show = codes "show"
word (verb.Wait cond) = if cond then codes "wait" else codes "msleep"
word (verb.WakeOne cond) = if cond then codes "signal" else codes "wakeup_one"
word (verb.WakeAll cond) = if cond then codes "broadcast" else codes "wakeup"

-- a first word, with what it says
abbrev pub row : verbs.Verb → List ℕ × script.Form
row v = (word v, form v)

-- what a form says with these words behind it; none of them may be empty
unfoldable pub said_by_words : script.Form → List (List ℕ) → Option script.Statement
said_by_words f words = if list_any is_empty words then None else script.said f words

-- a byte of a word, or 0 behind its end
abbrev pub byte_at : List ℕ → ℕ → ℕ
byte_at word i = unwrap_or (slice_get word i) 0

-- the place of a first word in a table, by its length, its first byte and its middle one
abbrev pub place : List ℕ → ℕ
place word =
    (5 * (length word % 16) + byte_at word 0 + 8 * byte_at word ((length word - 1) / 2)) % 128

-- the one verb whose first word it may be
abbrev pub verb_at : List ℕ → Option verbs.Verb
verb_at word = slice_get VERBS (get_or VERB_AT (place word) 0)

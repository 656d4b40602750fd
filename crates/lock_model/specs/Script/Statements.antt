-- What a line says, by its first word and the number of words behind it.
use Rattle.std.specs.Prelude.{ℕ, Bool, true, false, if◌then◌else◌, List, [], ◌∷◌, codes, option_and_then, Option, Some, None}
use Rattle.std.specs.List.{list_any}
use Rattle.std.specs.Map.{lookup}
use Rattle.lock_model.specs.Counts.{is_empty}
use Rattle.lock_model.specs.Script.Lines.{words_of, is_same}
use Rattle.lock_model.specs.declared.plan.Kind.{Kind}
use Rattle.lock_model.specs.declared.plan.Kind.TheVariants.{Mtx, Rw, Sx}
use Rattle.lock_model.specs.declared.plan.Mode.{Mode}
use Rattle.lock_model.specs.declared.plan.Mode.TheVariants.{Excl, Shared}

-- an operation, in words
pub data Operation : Type 0 where
  -- a lock, of the kind and in the mode that the first word says
  Take : Kind → Mode → List ℕ → Operation
  Release : Kind → Mode → List ℕ → Operation
  Try : Kind → Mode → List ℕ → Operation
  -- a lock, a key and a value
  Set : List ℕ → List ℕ → List ℕ → Operation
  -- a lock, a key and an amount
  Add : List ℕ → List ℕ → List ℕ → Operation
  -- a lock and a key
  Get : List ℕ → List ℕ → Operation
  -- a priority
  Prio : List ℕ → Operation
  Show : Operation
  -- a condition variable, or a channel, as the first word says
  Wait : Bool → List ℕ → Operation
  WakeOne : Bool → List ℕ → Operation
  WakeAll : Bool → List ℕ → Operation

pub data Statement : Type 0 where
  -- a lock's name and its class
  Declares : Kind → List ℕ → List ℕ → Statement
  -- the name of a condition variable, or of a channel, and its lock
  DeclaresChan : Bool → List ℕ → List ℕ → Statement
  -- a thread's name and its priority
  Begins : List ℕ → List ℕ → Statement
  Ends : Statement
  -- one thread or more
  Schedules : List (List ℕ) → Statement
  IsDone : Statement
  Operates : Operation → Statement
  -- the end of a try's block, an operation too
  EndsTry : Statement

-- what a first word says, by the words that have to stand behind it
pub data Form : Type 0 where
  Alone : Statement → Form
  WithOne : (List ℕ → Statement) → Form
  WithTwo : (List ℕ → List ℕ → Statement) → Form
  WithThree : (List ℕ → List ℕ → List ℕ → Statement) → Form
  -- one word or more
  WithSome : (List (List ℕ) → Statement) → Form

-- the first words
abbrev pub forms : List (List ℕ × Form)
forms =
    (codes "mutex", WithTwo (Declares Mtx))
    ∷ (codes "rw", WithTwo (Declares Rw))
    ∷ (codes "sx", WithTwo (Declares Sx))
    ∷ (codes "cond", WithTwo (DeclaresChan true))
    ∷ (codes "chan", WithTwo (DeclaresChan false))
    ∷ (codes "thread", WithTwo Begins)
    ∷ (codes "end", Alone Ends)
    ∷ (codes "schedule", WithSome Schedules)
    ∷ (codes "done", Alone IsDone)
    ∷ (codes "lock", WithOne (λ lock. Operates (Take Mtx Excl lock)))
    ∷ (codes "unlock", WithOne (λ lock. Operates (Release Mtx Excl lock)))
    ∷ (codes "rlock", WithOne (λ lock. Operates (Take Rw Shared lock)))
    ∷ (codes "wlock", WithOne (λ lock. Operates (Take Rw Excl lock)))
    ∷ (codes "runlock", WithOne (λ lock. Operates (Release Rw Shared lock)))
    ∷ (codes "wunlock", WithOne (λ lock. Operates (Release Rw Excl lock)))
    ∷ (codes "slock", WithOne (λ lock. Operates (Take Sx Shared lock)))
    ∷ (codes "xlock", WithOne (λ lock. Operates (Take Sx Excl lock)))
    ∷ (codes "sunlock", WithOne (λ lock. Operates (Release Sx Shared lock)))
    ∷ (codes "xunlock", WithOne (λ lock. Operates (Release Sx Excl lock)))
    ∷ (codes "trylock", WithOne (λ lock. Operates (Try Mtx Excl lock)))
    ∷ (codes "tryrlock", WithOne (λ lock. Operates (Try Rw Shared lock)))
    ∷ (codes "trywlock", WithOne (λ lock. Operates (Try Rw Excl lock)))
    ∷ (codes "tryslock", WithOne (λ lock. Operates (Try Sx Shared lock)))
    ∷ (codes "tryxlock", WithOne (λ lock. Operates (Try Sx Excl lock)))
    ∷ (codes "endtry", Alone EndsTry)
    ∷ (codes "set", WithThree (λ lock key value. Operates (Set lock key value)))
    ∷ (codes "add", WithThree (λ lock key amount. Operates (Add lock key amount)))
    ∷ (codes "get", WithTwo (λ lock key. Operates (Get lock key)))
    ∷ (codes "prio", WithOne (λ prio. Operates (Prio prio)))
    ∷ (codes "show", Alone (Operates Show))
    ∷ (codes "wait", WithOne (λ chan. Operates (Wait true chan)))
    ∷ (codes "signal", WithOne (λ chan. Operates (WakeOne true chan)))
    ∷ (codes "broadcast", WithOne (λ chan. Operates (WakeAll true chan)))
    ∷ (codes "msleep", WithOne (λ chan. Operates (Wait false chan)))
    ∷ (codes "wakeup_one", WithOne (λ chan. Operates (WakeOne false chan)))
    ∷ (codes "wakeup", WithOne (λ chan. Operates (WakeAll false chan)))
    ∷ []

abbrev pub form_of : List ℕ → Option Form
form_of word = lookup (is_same word) forms

-- what a form says with these words behind it
abbrev pub said : Form → List (List ℕ) → Option Statement
said (Alone s) [] = Some s
said (Alone s) (a ∷ more) = None
said (WithOne f) [] = None
said (WithOne f) (a ∷ []) = Some (f a)
said (WithOne f) (a ∷ b ∷ more) = None
said (WithTwo f) [] = None
said (WithTwo f) (a ∷ []) = None
said (WithTwo f) (a ∷ b ∷ []) = Some (f a b)
said (WithTwo f) (a ∷ b ∷ c ∷ more) = None
said (WithThree f) [] = None
said (WithThree f) (a ∷ []) = None
said (WithThree f) (a ∷ b ∷ []) = None
said (WithThree f) (a ∷ b ∷ c ∷ []) = Some (f a b c)
said (WithThree f) (a ∷ b ∷ c ∷ d ∷ more) = None
said (WithSome f) [] = None
said (WithSome f) (a ∷ more) = Some (f (a ∷ more))

abbrev pub said_by : List (List ℕ) → Option Statement
said_by [] = None
said_by (word ∷ words) = option_and_then (λ form. said form words) (form_of word)

-- what a line says; no word may be empty
abbrev pub statement_of : List ℕ → Option Statement
statement_of line = if list_any is_empty (words_of line) then None else said_by (words_of line)

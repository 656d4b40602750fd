-- What a statement and a first word of the code say, as the definition has them.
use Rattle.std.specs.Prelude.{ℕ, if◌then◌else◌, List, codes, option_copied}
use Rattle.tick_sleep.specs.Statements as script
use Rattle.tick_sleep.specs.declared.statement.Statement as statements
use Rattle.tick_sleep.specs.declared.statement.Statement.TheVariants as statement
use Rattle.tick_sleep.specs.declared.statement.Verb as verbs
use Rattle.tick_sleep.specs.declared.statement.Verb.TheVariants as verb

abbrev pub meant : statements.Statement → script.Statement
meant (statement.Sleeper name prio) = script.Declares name.now prio.now
meant (statement.Sleep sig name key ticks) =
    script.Sleeps sig name.now key.now (option_copied ticks)
meant (statement.WakeOne key) = script.WakesOne key.now
meant (statement.WakeAll key) = script.WakesAll key.now
meant (statement.Signal name) = script.Signals name.now
meant (statement.Tick ticks) = script.Ticks ticks.now
meant statement.Done = script.IsDone

-- the form that the definition's table has
abbrev pub form : verbs.Verb → script.Form
form verb.Sleeper = script.WithTwo script.Declares
form (verb.Sleep sig) = script.WithTwoOrThree (script.Sleeps sig)
form verb.WakeOne = script.WithOne script.WakesOne
form verb.WakeAll = script.WithOne script.WakesAll
form verb.Signal = script.WithOne script.Signals
form verb.Tick = script.WithOne script.Ticks
form verb.Done = script.Alone script.IsDone

-- the first word that says it
abbrev pub word : verbs.Verb → List ℕ
word verb.Sleeper = codes "sleeper"
word (verb.Sleep sig) = if sig then codes "sleepsig" else codes "sleep"
word verb.WakeOne = codes "wakeone"
word verb.WakeAll = codes "wakeup"
word verb.Signal = codes "signal"
word verb.Tick = codes "tick"
word verb.Done = codes "done"

-- a first word, with what it says
abbrev pub row : verbs.Verb → List ℕ × script.Form
row v = (word v, form v)

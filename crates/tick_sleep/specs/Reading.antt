-- Words of this crate's contracts on reading: what a statement and a source answer.
use Rattle.std.specs.Prelude.{◌≡◌, ℕ, List, Option, Some, Result, Ok, Err}
use Rattle.lock_model.specs.Tests.{first_fault}
use Rattle.script_read.specs.declared.fault.ReadError.{ReadError}
use Rattle.script_read.specs.declared.fault.ReadError.TheVariants.{Script, Memory}
use Rattle.tick_sleep.specs.Script.{Reading, Reads, Faulty, IsFaulty}
use Rattle.tick_sleep.specs.Learning.{Known}
use Rattle.tick_sleep.specs.Faults.{statement_stages}
use Rattle.tick_sleep.specs.Statements.{Statement}
use Rattle.tick_sleep.specs.declared.plan.TickPlan.{TickPlan}

-- Why reading the bytes answers an error: `Script` tells the first faulty line and its code, and `Memory` says nothing
-- of the bytes.
abbrev pub Refuses : List ℕ → ReadError → Type 0
Refuses bytes (Script fault) = IsFaulty bytes fault.line fault.code
Refuses bytes (Memory e) = Unit {0}

-- the answer is what reading comes to, save for want of memory
abbrev pub Tells : Reading → Result TickPlan ReadError → Type 0
Tells reading (Ok plan) = reading ≡ Reads plan
Tells reading (Err (Script fault)) = reading ≡ Faulty fault.line fault.code
Tells reading (Err (Memory e)) = Unit {0}

-- the fault of a statement, by its place and by what it names
abbrev pub statement_fault : Known → Statement → Option ℕ
statement_fault k s = first_fault (statement_stages k (Some s))
